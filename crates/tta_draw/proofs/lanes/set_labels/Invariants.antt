use Rattle.std.proofs.Common.{◌≡◌, ◌<◌, ◌==◌, ℕ, length, take, false}
use Rattle.std.specs.Prelude.{◌||◌, slice_index_or}
use Rattle.std.specs.List.{list_any}
use Rattle.tta_draw.proofs.lanes.set_labels.Given as goal

abbrev pub invariant-loop-span : goal.invariant-loop-span
invariant-loop-span l = record {
  size : length l.labels.items ≡ length l.initial.labels.items;
  set : (row : ℕ) → row < length l.initial.labels.items
      → slice_index_or l.labels.items row false ≡ (slice_index_or l.initial.labels.items row false || list_any (λ s. s.to == row) (take l.span-index l.spans));
}
