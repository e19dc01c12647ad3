use Rattle.std.proofs.Common.{map, take}
use Rattle.std.specs.List.{filter_map}
use Rattle.tta_sim.specs.Results.{shown_by}
use Rattle.tta_sim.specs.Lines.{write_brought}
use Rattle.tta_sim.specs.Flat.{write_said}
use Rattle.tta_sim.specs.InPlace.{AreWritten}
use Rattle.tta_sim.proofs.in_place.write_in_place.Given as goal

abbrev pub invariant-loop-w : goal.invariant-loop-w
invariant-loop-w l = AreWritten l.fn.places (filter_map (write_brought l.fn.places (shown_by l.results)) (take l.w-index (map write_said l.moves))) l.places
