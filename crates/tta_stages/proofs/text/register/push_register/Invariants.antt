use Rattle.std.proofs.Common.{◌≡◌, ◌++◌, drop}
use Rattle.std.specs.List.{flat_map, enumerate_from}
use Rattle.tta_stages.specs.Cited.{stated}
use Rattle.tta_stages.specs.RegisterText.{code_text}
use Rattle.tta_stages.proofs.text.register.push_register.Given as goal

abbrev pub invariant-loop-k : goal.invariant-loop-k
invariant-loop-k g l =
    let U = stated (λ v. (goal.OpUnit-dyn g v).unit_meaning v.1) l.units in
    l.out.items ++ flat_map (λ x. code_text U l.on.m.now l.on.homes.now l.ranges.p.now l.ranges.starts.now l.ranges.placed.now l.blocks x.0 x.1) (enumerate_from l.k (drop l.k l.parts)) ≡ l.initial.out.items ++ flat_map (λ x. code_text U l.on.m.now l.on.homes.now l.ranges.p.now l.ranges.starts.now l.ranges.placed.now l.blocks x.0 x.1) (enumerate_from 0 l.parts)
