use Rattle.std.proofs.Common.{◌≡◌, drop}
use Rattle.tta_sim.specs.Cited.{first_some}
use Rattle.tta_sim.specs.Results.{shown_by}
use Rattle.tta_sim.specs.Lines.{control_brought}
use Rattle.tta_sim.proofs.control_moves.acting_by.Given as goal

abbrev pub invariant-loop-t : goal.invariant-loop-t
invariant-loop-t l =
    let controls = control_brought l.places (shown_by l.results) in
    first_some controls l.moves ≡ first_some controls (drop l.t-index l.moves)
