use Rattle.std.proofs.Common.{◌≡◌, ◌++◌, drop}
use Rattle.std.specs.List.{flat_map, enumerate_from}
use Rattle.tta_draw.specs.Targets.{arrow_at, arrows_of}
use Rattle.tta_draw.proofs.Knowing.{KnowsAbove}
use Rattle.tta_draw.proofs.targets.push_arrows.Given as goal

abbrev pub invariant-loop-row : goal.invariant-loop-row
invariant-loop-row l = record {
  arrows : l.arrows.items ++ flat_map (λ i. arrow_at l.m l.words i.0 i.1) (enumerate_from l.row (drop l.row l.words)) ≡ l.initial.arrows.items ++ arrows_of l.m l.words;
  knows : KnowsAbove l.m l.words l.row l.known.items;
}
