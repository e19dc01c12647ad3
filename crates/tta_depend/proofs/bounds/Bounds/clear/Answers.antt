use Rattle.std.proofs.Common.{ap, ◌∙◌, refl}
use Rattle.tta_depend.specs.Cited.{Machine}
use Rattle.tta_depend.proofs.Keeping.{none_placed}
use Rattle.tta_depend.proofs.bounds.Bounds.clear.Goals as goal

pub returns : goal.returns
returns c = none_placed c.args.m.now _ c.next_round-round.ensures.empty refl refl (c.from-self-inside.ensures ∙ ap (λ (v : Machine). v.control.delay) c.m.view_is)
