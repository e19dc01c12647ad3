use Rattle.std.proofs.Common.{◌≡◌, drop}
use Rattle.std.specs.List.{list_any}
use Rattle.tta_sim.specs.Results.{shown_by}
use Rattle.tta_sim.specs.Unset.{lacks_word}
use Rattle.tta_sim.proofs.unset.controls_lack.Given as goal

abbrev pub invariant-loop-t : goal.invariant-loop-t
invariant-loop-t l =
    let lacks = lacks_word l.what l.places (shown_by l.results) in
    list_any (λ t. lacks t.reading) l.line.controls ≡ list_any (λ t. lacks t.reading) (drop l.t-index l.t-items)
