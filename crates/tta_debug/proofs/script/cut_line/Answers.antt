use Rattle.std.proofs.Common.{arith, sym, ◌∙◌}
use Rattle.std.proofs.lemmas.Grind.{common_steps}
use Rattle.tta_debug.proofs.ScriptLines.{lines_of-last, lines_of-ended}
use Rattle.tta_debug.specs.Scripts.{lines_of}
use Rattle.tta_debug.proofs.script.cut_line.Goals as goal

pub returns-then-end-bytes-clause-cut : goal.returns-then-end-bytes-clause-cut
unfolding lines_of
returns-then-end-bytes-clause-cut c =
    lines_of-last c.args.bytes.now (grind (arith)) (sym c.line_len-end.ensures.len ∙ c.if-end-bytes.true)

pub returns-clause-cut : goal.returns-clause-cut
returns-clause-cut c =
    let cut = lines_of-ended c.args.bytes.now c.line_len-end.result (sym c.line_len-end.ensures.len) (grind (arith, common_steps)) in
    grind (arith, common_steps, cut)
