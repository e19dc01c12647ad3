use Rattle.std.proofs.Common.{◌≡◌, drop}
use Rattle.std.specs.List.{list_any}
use Rattle.tta_sim.specs.Results.{shown_by}
use Rattle.tta_sim.specs.Unset.{lacks_word}
use Rattle.tta_sim.proofs.unset.writes_lack.Given as goal

abbrev pub invariant-loop-w : goal.invariant-loop-w
invariant-loop-w l =
    let lacks = lacks_word l.what l.places (shown_by l.results) in
    list_any (λ w. lacks w.reading) l.line.writes ≡ list_any (λ w. lacks w.reading) (drop l.w-index l.w-items)
