use Rattle.std.proofs.Common.{ap, ◌∙◌, refl}
use Rattle.tta_depend.specs.Cited.{Machine}
use Rattle.tta_depend.specs.Rows.{unused, row_at, current}
use Rattle.tta_depend.proofs.Change.{replicate_at}
use Rattle.tta_depend.proofs.Keeping.{none_placed}
use Rattle.tta_depend.proofs.bounds.Bounds.new.Goals as goal

pub returns : goal.returns
returns c = none_placed c.args.m.now _
    (λ k. ap (λ l. row_at 0 l k) c.in_ok-rows.ensures ∙ ap (current 0) (replicate_at 673 k unused))
    refl refl (c.from.ensures ∙ ap (λ (v : Machine). v.control.delay) c.m.view_is)
