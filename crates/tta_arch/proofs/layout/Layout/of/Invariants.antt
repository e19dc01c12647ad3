use Rattle.std.proofs.Common.{◌≡◌, ◌+◌, ◌*◌, ◌≤◌, map, sum_by}
use Rattle.tta_arch.specs.Fields.{numbers, bus_width}
use Rattle.tta_arch.specs.Layout.{fields_of}
use Rattle.tta_arch.proofs.layout.Layout.of.Given as goal

abbrev pub invariant-loop-bus : goal.invariant-loop-bus
invariant-loop-bus l = record {
  buses : l.buses.items ≡ map (fields_of l.m) (numbers l.bus);
  width : l.width ≡ l.template_width + sum_by (bus_width l.m) (numbers l.bus);
  small : l.width ≤ 64 + 448 * l.bus;
}
