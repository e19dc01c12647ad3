use Rattle.std.proofs.Common.{◌≡◌, ◌++◌, drop}
use Rattle.std.specs.List.{flat_map, enumerate_from}
use Rattle.tta_draw.specs.Cited.{stated}
use Rattle.tta_draw.specs.MachinePicture.{bus_text, buses_text}
use Rattle.tta_draw.proofs.machine_picture.push_buses.Given as goal

abbrev pub invariant-loop-bus : goal.invariant-loop-bus
invariant-loop-bus g l =
    let U = stated (λ v. (goal.OpUnit-dyn g v).unit_meaning v.1) l.set in
    l.out.items ++ flat_map (λ b. bus_text U l.m b.0 b.1) (enumerate_from l.bus (drop l.bus l.buses)) ≡ l.initial.out.items ++ buses_text U l.m l.buses
