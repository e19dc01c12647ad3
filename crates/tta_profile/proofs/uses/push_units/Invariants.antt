use Rattle.std.proofs.Common.{◌≡◌, ◌++◌, drop}
use Rattle.std.specs.List.{flat_map, enumerate_from}
use Rattle.tta_profile.specs.Report.{unit_text}
use Rattle.tta_profile.proofs.uses.push_units.Given as goal

abbrev pub invariant-loop-unit : goal.invariant-loop-unit
invariant-loop-unit l =
    l.out.items ++ flat_map (λ q. unit_text l.profiled.counts.now l.profiled.words.now l.profiled.whole q.0 q.1) (enumerate_from l.unit (drop l.unit l.units)) ≡ l.initial.out.items ++ flat_map (λ q. unit_text l.profiled.counts.now l.profiled.words.now l.profiled.whole q.0 q.1) (enumerate_from 0 l.units)
