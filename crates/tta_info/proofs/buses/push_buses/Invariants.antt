use Rattle.std.proofs.Common.{◌≡◌, ◌++◌, drop}
use Rattle.std.specs.List.{flat_map, enumerate_from}
use Rattle.tta_info.specs.Buses.{bus_at_text}
use Rattle.tta_info.proofs.buses.push_buses.Given as goal

abbrev pub invariant-loop-bus : goal.invariant-loop-bus
invariant-loop-bus l =
    l.out.items ++ flat_map (λ f. bus_at_text l.m f.0 f.1) (enumerate_from l.bus (drop l.bus l.fields)) ≡ l.initial.out.items ++ flat_map (λ f. bus_at_text l.m f.0 f.1) (enumerate_from 0 l.fields)
