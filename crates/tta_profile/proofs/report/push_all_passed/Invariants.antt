use Rattle.std.proofs.Common.{◌≡◌, ◌++◌, drop}
use Rattle.std.specs.List.{flat_map, enumerate_from}
use Rattle.tta_profile.specs.Report.{passed_text}
use Rattle.tta_profile.proofs.report.push_all_passed.Given as goal

abbrev pub invariant-loop-bus : goal.invariant-loop-bus
invariant-loop-bus l =
    l.out.items ++ flat_map (λ o. passed_text l.profiled.m.now l.profiled.counts.now l.address o.0 o.1) (enumerate_from l.bus (drop l.bus l.slots)) ≡ l.initial.out.items ++ flat_map (λ o. passed_text l.profiled.m.now l.profiled.counts.now l.address o.0 o.1) (enumerate_from 0 l.slots)
