use Rattle.std.proofs.Common.{◌∙◌, subst}
use Rattle.tta_report.specs.Lines.{lines_text}
use Rattle.tta_report.proofs.Puts.{HasPut, put_more, put_part, part_is_put}
use Rattle.tta_report.proofs.Words.{line_at}
use Rattle.tta_report.proofs.put.put_lines.Goals as goal

pub returns-in_err-put_line-clause-grows : goal.returns-in_err-put_line-clause-grows
returns-in_err-put_line-clause-grows g c =
    let lines = c.args.lines.now in
    let has = subst (HasPut (g.S.Sink.output c.args.sink.now).taken (g.S.Sink.output c.lines.sink).taken (lines_text lines))
    (line_at lines _ c.lines.line-index c.lines-test.true) c.lines.invariant.put in
    let part = c.in_err-put_line.ensures.grows in
    part_is_put _ _ _ _ c.from_residual.ensures.0 (put_part _ _ _ _ _ _ part.0 has part.1)

pub lines-preserved : goal.lines-preserved
lines-preserved g c =
    let lines = c.args.lines.now in
    let has = subst (HasPut (g.S.Sink.output c.args.sink.now).taken (g.S.Sink.output c.lines.sink).taken (lines_text lines))
    (line_at lines _ c.lines.line-index c.lines-test.true) c.lines.invariant.put in
    record {
      put = put_more _ _ _ _ _ _ has c.in_ok-put_line.ensures.grows;
      faults = c.in_ok-put_line.ensures.cause ∙ c.lines.invariant.faults;
    }
