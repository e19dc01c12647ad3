use Rattle.std.proofs.Common.{◌≡◌, drop}
use Rattle.std.specs.List.{list_any}
use Rattle.tta_sim.specs.Results.{shown_by}
use Rattle.tta_sim.specs.Lines.{is_unread}
use Rattle.tta_sim.proofs.control_moves.any_unset.Given as goal

abbrev pub invariant-loop-t : goal.invariant-loop-t
invariant-loop-t l =
    let unread = is_unread l.places (shown_by l.results) in
    list_any (λ t. unread t.reading) l.moves ≡ list_any (λ t. unread t.reading) (drop l.t-index l.moves)
