use Rattle.std.proofs.Common.{refl, ap, ◌∙◌}
use Rattle.tta_input.proofs.Cuts.{stripped}
use Rattle.tta_input.proofs.lines.without_return.Goals as goal

pub returns : goal.returns
returns c =
    ap (λ left. left.now) c.unwrap_or.ensures
    ∙ stripped c.args.line.now c.strip_suffix.result c.strip_suffix.ensures.cases c.args.line refl
