use Rattle.std.proofs.Common.{◌≡◌, Bool, drop}
use Rattle.std.specs.List.{list_all}
use Rattle.tta_sim.specs.declared.decoded.DecodedStart.{DecodedStart}
use Rattle.tta_sim.specs.Results.{shown_by}
use Rattle.tta_sim.specs.Known.{is_start_known}
use Rattle.tta_sim.proofs.known.are_starts_known.Given as goal

abbrev pub invariant-loop-s : goal.invariant-loop-s
invariant-loop-s l =
    let known : DecodedStart → Bool = is_start_known l.places (shown_by l.results) in
    list_all known l.moves ≡ list_all known (drop l.s-index l.moves)
