use Rattle.std.proofs.Common.{◌≡◌, ◌≤◌, ◌==◌, false, not, length, filter, take}
use Rattle.std.specs.Option.{option_map_or}
use Rattle.tta_loadelim.proofs.thinning.without.Given as goal

abbrev pub invariant-loop-s : goal.invariant-loop-s
invariant-loop-s l = record {
  kept : l.out.items ≡ filter (λ w. not (option_map_or (λ v. v == w) l.slot false)) (take l.s-index l.slots);
  few : length l.out.items ≤ l.s-index;
}
