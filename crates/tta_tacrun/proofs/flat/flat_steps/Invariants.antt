use Rattle.std.proofs.Common.{◌≡◌, map, take, true}
use Rattle.std.specs.List.{list_all}
use Rattle.tta_tacrun.specs.Flat.{has_cells, said}
use Rattle.tta_tacrun.specs.Run.{silent_part}
use Rattle.tta_tacrun.proofs.flat.flat_steps.Given as goal

abbrev pub invariant-loop-step : goal.invariant-loop-step
invariant-loop-step l = record {
  said : map (said l.size) l.flat.items ≡ map silent_part (take l.step-index l.steps);
  within : list_all (has_cells l.size) l.flat.items ≡ true;
}
