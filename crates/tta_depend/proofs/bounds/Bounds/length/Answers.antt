use Rattle.std.proofs.Common.{sym, ap, ◌∙◌}
use Rattle.std.specs.Prelude.{max}
use Rattle.tta_depend.specs.Stands.{Kept}
use Rattle.tta_depend.proofs.Keeping.{length_kept}
use Rattle.tta_depend.proofs.bounds.Bounds.length.Goals as goal

pub returns-in-None : goal.returns-in-None
returns-in-None c = λ m placed s. length_kept m c.args.self.now placed c.max.result s (sym (ap (λ (b : Kept). b.control) c.self.view_is) ∙ c.in-None.is) (c.max.ensures ∙ ap (λ (b : Kept). max b.end 1) c.self.view_is)
