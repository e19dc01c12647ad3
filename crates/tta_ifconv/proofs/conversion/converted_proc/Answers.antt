use Rattle.std.proofs.Common.{length, subst}
use Rattle.tta_ifconv.specs.Tables.{AreConverted, AreLines}
use Rattle.tta_ifconv.proofs.Tabling.{converted_by}
use Rattle.tta_ifconv.proofs.conversion.converted_proc.Goals as goal

pub returns : goal.returns
returns c =
    let old = c.as_slice-old.ensures in
    converted_by c.args.q.now _ _ c.requires.lines (subst (λ steps. AreConverted steps (length steps) c.in_ok-steps.steps) old c.in_ok-steps.ensures)
    (subst (λ lines. AreLines c.args.q.now.steps lines (length c.args.q.now.steps) c.in_ok-lines.lines) c.as_slice.ensures
    (subst (λ steps. AreLines steps c.as_slice.result.now (length steps) c.in_ok-lines.lines) old c.in_ok-lines.ensures))
