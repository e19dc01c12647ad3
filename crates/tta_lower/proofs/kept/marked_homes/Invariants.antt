use Rattle.std.proofs.Common.{◌≡◌, ◌++◌, ◌-◌, length, filter}
use Rattle.tta_lower.specs.Tables.{marked}
use Rattle.tta_lower.specs.Lower.{numbers}
use Rattle.tta_lower.proofs.kept.marked_homes.Given as goal

abbrev pub invariant-loop-k : goal.invariant-loop-k
invariant-loop-k l =
    l.kept.items ++ filter (marked l.marks) (numbers l.k (length l.marks - l.k)) ≡ filter (marked l.marks) (numbers 0 (length l.marks))
