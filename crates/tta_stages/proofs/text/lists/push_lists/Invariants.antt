use Rattle.std.proofs.Common.{◌≡◌, ◌++◌, drop}
use Rattle.std.specs.List.{flat_map, enumerate_from}
use Rattle.tta_stages.specs.Cited.{stated}
use Rattle.tta_stages.specs.ListText.{block_lists_text}
use Rattle.tta_stages.proofs.text.lists.push_lists.Given as goal

abbrev pub invariant-loop-k : goal.invariant-loop-k
invariant-loop-k g l =
    let U = stated (λ v. (goal.OpUnit-dyn g v).unit_meaning v.1) l.units in
    l.out.items ++ flat_map (λ x. block_lists_text U l.of.m.now l.of.p.now l.of.parts.now x.0 l.trails x.1) (enumerate_from l.k (drop l.k l.lists)) ≡ l.initial.out.items ++ flat_map (λ x. block_lists_text U l.of.m.now l.of.p.now l.of.parts.now x.0 l.trails x.1) (enumerate_from 0 l.lists)
