use Rattle.std.proofs.Common.{◌≡◌, drop}
use Rattle.tta_sim.specs.Cited.{first_some}
use Rattle.tta_sim.specs.Results.{shown_by}
use Rattle.tta_sim.specs.Lines.{control_brought}
use Rattle.tta_sim.specs.Flat.{control_said}
use Rattle.tta_sim.proofs.control_moves.acting_said.Given as goal

abbrev pub invariant-loop-t : goal.invariant-loop-t
invariant-loop-t l =
    let brought = control_brought l.places (shown_by l.results) in
    first_some (λ t. brought (control_said t)) l.moves ≡ first_some (λ t. brought (control_said t)) (drop l.t-index l.moves)
