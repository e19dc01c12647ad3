use Rattle.std.proofs.Common.{◌≡◌, ◌++◌, drop}
use Rattle.std.specs.List.{flat_map, enumerate_from}
use Rattle.tta_stages.specs.Cited.{stated}
use Rattle.tta_stages.specs.ListText.{placed_at}
use Rattle.tta_stages.proofs.text.placed.push_blocks.Given as goal

abbrev pub invariant-loop-k : goal.invariant-loop-k
invariant-loop-k g l =
    let U = stated (λ v. (goal.OpUnit-dyn g v).unit_meaning v.1) l.units in
    l.out.items ++ flat_map (λ x. placed_at U l.of.m.now l.of.p.now l.of.parts.now l.words l.starts x.0 x.1) (enumerate_from l.k (drop l.k l.placed)) ≡ l.initial.out.items ++ flat_map (λ x. placed_at U l.of.m.now l.of.p.now l.of.parts.now l.words l.starts x.0 x.1) (enumerate_from 0 l.placed)
