use Rattle.std.proofs.Common.{◌≡◌, drop}
use Rattle.std.specs.List.{list_any}
use Rattle.tta_sim.specs.Results.{shown_by}
use Rattle.tta_sim.specs.Unset.{lacks_word}
use Rattle.tta_sim.proofs.unset.starts_lack.Given as goal

abbrev pub invariant-loop-s : goal.invariant-loop-s
invariant-loop-s l =
    let lacks = lacks_word l.what l.places (shown_by l.results) in
    list_any (λ s. lacks s.reading) l.line.starts ≡ list_any (λ s. lacks s.reading) (drop l.s-index l.s-items)
