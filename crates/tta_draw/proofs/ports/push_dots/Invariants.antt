use Rattle.std.proofs.Common.{◌≡◌, ◌++◌, [], if◌then◌else◌}
use Rattle.std.specs.List.{flat_map}
use Rattle.tta_draw.specs.Cited.{has_bit, numbers}
use Rattle.tta_draw.specs.Svg.{dot_text}
use Rattle.tta_draw.specs.MachinePlaces.{bus_y}
use Rattle.tta_draw.proofs.ports.push_dots.Given as goal

abbrev pub invariant-loop-bus : goal.invariant-loop-bus
invariant-loop-bus l = l.out.items ≡ l.initial.out.items ++ flat_map (λ bus. if has_bit l.buses bus then dot_text l.class l.x (bus_y bus) else []) (numbers l.bus)
