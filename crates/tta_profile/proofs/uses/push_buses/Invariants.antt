use Rattle.std.proofs.Common.{◌≡◌, ◌++◌, drop}
use Rattle.std.specs.List.{flat_map, enumerate_from}
use Rattle.tta_profile.specs.Report.{bus_text}
use Rattle.tta_profile.proofs.uses.push_buses.Given as goal

abbrev pub invariant-loop-bus : goal.invariant-loop-bus
invariant-loop-bus l =
    l.out.items ++ flat_map (λ b. bus_text l.profiled.counts.now l.profiled.words.now l.profiled.whole b.0 b.1) (enumerate_from l.bus (drop l.bus l.buses)) ≡ l.initial.out.items ++ flat_map (λ b. bus_text l.profiled.counts.now l.profiled.words.now l.profiled.whole b.0 b.1) (enumerate_from 0 l.buses)
