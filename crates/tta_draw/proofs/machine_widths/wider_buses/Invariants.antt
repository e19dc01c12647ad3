use Rattle.std.proofs.Common.{◌≡◌, ◌≤◌, drop}
use Rattle.tta_draw.specs.MachineWidths.{wider_buses}
use Rattle.tta_draw.proofs.machine_widths.wider_buses.Given as goal

abbrev pub invariant-loop-b : goal.invariant-loop-b
invariant-loop-b l = record {
  rest : wider_buses l.widest (drop l.b-index l.buses) ≡ wider_buses l.width l.buses;
  few : l.widest ≤ 7008;
}
