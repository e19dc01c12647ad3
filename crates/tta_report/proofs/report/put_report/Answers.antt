use Rattle.std.proofs.Common.{◌++◌, sym, subst}
use Rattle.tta_ports.specs.Sink.{PutsBytes}
use Rattle.tta_report.specs.Lines.{line_text, lines_text, memory_lines}
use Rattle.tta_report.proofs.Puts.{puts_first, puts_both, is_err_of}
use Rattle.tta_report.proofs.Reports.{report_text}
use Rattle.tta_report.proofs.report.put_report.Goals as goal

pub returns-in_err-put_line-clause-grows : goal.returns-in_err-put_line-clause-grows
returns-in_err-put_line-clause-grows g c =
    puts_first (line_text c.args.outcome.now) _ _ _ c.put_line.result c.from_residual.result
    (is_err_of c.in_err-put_line.was) c.from_residual.ensures.0 c.put_line.ensures.grows

pub returns-in_err-put_memory-clause-grows : goal.returns-in_err-put_memory-clause-grows
returns-in_err-put_memory-clause-grows g c =
    let old = (g.S.Sink.output c.args.sink.now).taken in
    let mid = (g.S.Sink.output c.put_line.new.sink).taken in
    let new = (g.S.Sink.output c.put_memory.new.sink).taken in
    let first = line_text c.args.outcome.now in
    let second = lines_text (memory_lines 0 c.args.words.now) in
    let third = line_text c.args.count.now in
    let both = puts_first second third mid new c.put_memory.result c.from_residual-in_err-put_memory.result
    (is_err_of c.in_err-put_memory.was) c.from_residual-in_err-put_memory.ensures.0 c.put_memory.ensures.grows in
    subst (λ w. PutsBytes w old new c.from_residual-in_err-put_memory.result)
    (sym (report_text c.args.outcome.now c.args.words.now c.args.count.now))
    (puts_both first (second ++ third) old mid new c.from_residual-in_err-put_memory.result c.in_ok-put_line.ensures.grows both)

pub returns-clause-grows : goal.returns-clause-grows
returns-clause-grows g c =
    let old = (g.S.Sink.output c.args.sink.now).taken in
    let mid = (g.S.Sink.output c.put_line.new.sink).taken in
    let late = (g.S.Sink.output c.put_memory.new.sink).taken in
    let new = (g.S.Sink.output c.put_line-2.new.sink).taken in
    let first = line_text c.args.outcome.now in
    let second = lines_text (memory_lines 0 c.args.words.now) in
    let third = line_text c.args.count.now in
    subst (λ w. PutsBytes w old new c.put_line-2.result)
    (sym (report_text c.args.outcome.now c.args.words.now c.args.count.now))
    (puts_both first (second ++ third) old mid new c.put_line-2.result c.in_ok-put_line.ensures.grows
    (puts_both second third mid late new c.put_line-2.result c.in_ok-put_memory.ensures.grows c.put_line-2.ensures.grows))
