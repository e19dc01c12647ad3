use Rattle.std.proofs.Common.{◌≡◌, ℕ, [], length}
use Rattle.tta_lower.specs.Tables.{row_of}
use Rattle.tta_lower.proofs.parts.no_spans.Given as goal

abbrev pub invariant-loop : goal.invariant-loop
invariant-loop l = record {
  size : length l.table.items ≡ l.counter;
  none : (o : ℕ) → row_of l.table.items o ≡ [];
}
