use Rattle.std.proofs.Common.{◌≡◌, Bool, drop}
use Rattle.std.specs.List.{list_all}
use Rattle.tta_sim.specs.declared.decoded.DecodedWrite.{DecodedWrite}
use Rattle.tta_sim.specs.Results.{shown_by}
use Rattle.tta_sim.specs.Known.{is_known}
use Rattle.tta_sim.proofs.known.are_writes_known.Given as goal

abbrev pub invariant-loop-w : goal.invariant-loop-w
invariant-loop-w l =
    let known : DecodedWrite → Bool = λ w. is_known l.places (shown_by l.results) w.reading in
    list_all known l.moves ≡ list_all known (drop l.w-index l.moves)
