use Rattle.std.proofs.Common.{◌≡◌, Bool, drop}
use Rattle.std.specs.List.{list_all}
use Rattle.tta_sim.specs.declared.decoded.DecodedControl.{DecodedControl}
use Rattle.tta_sim.specs.Results.{shown_by}
use Rattle.tta_sim.specs.Known.{is_known}
use Rattle.tta_sim.proofs.known.are_controls_known.Given as goal

abbrev pub invariant-loop-t : goal.invariant-loop-t
invariant-loop-t l =
    let known : DecodedControl → Bool = λ t. is_known l.places (shown_by l.results) t.reading in
    list_all known l.moves ≡ list_all known (drop l.t-index l.moves)
