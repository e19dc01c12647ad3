use Rattle.std.proofs.Common.{◌++◌, sym, subst}
use Rattle.tta_ports.specs.Sink.{PutsBytes}
use Rattle.tta_report.specs.declared.line.Line.TheVariants as line
use Rattle.tta_report.specs.Lines.{line_text, lines_text, word_lines}
use Rattle.tta_report.proofs.Puts.{puts_first, puts_both, is_err_of}
use Rattle.tta_report.proofs.Reports.{core_text}
use Rattle.tta_report.proofs.cores.put_core.Goals as goal

pub returns-in_err-put_line-clause-grows : goal.returns-in_err-put_line-clause-grows
returns-in_err-put_line-clause-grows g c =
    puts_first (line_text (line.Core c.args.core)) _ _ _ c.put_line.result c.from_residual.result
    (is_err_of c.in_err-put_line.was) c.from_residual.ensures.0 c.put_line.ensures.grows

pub returns-in_err-put_words-clause-grows : goal.returns-in_err-put_words-clause-grows
returns-in_err-put_words-clause-grows g c =
    let old = (g.S.Sink.output c.args.sink.now).taken in
    let mid = (g.S.Sink.output c.put_line.new.sink).taken in
    let new = (g.S.Sink.output c.put_words.new.sink).taken in
    let first = line_text (line.Core c.args.core) in
    let second = lines_text (word_lines c.args.words.now) in
    let third = line_text c.args.last.now in
    let both = puts_first second third mid new c.put_words.result c.from_residual-in_err-put_words.result
    (is_err_of c.in_err-put_words.was) c.from_residual-in_err-put_words.ensures.0 c.put_words.ensures.grows in
    subst (λ w. PutsBytes w old new c.from_residual-in_err-put_words.result)
    (sym (core_text c.args.core c.args.words.now c.args.last.now))
    (puts_both first (second ++ third) old mid new c.from_residual-in_err-put_words.result c.in_ok-put_line.ensures.grows both)

pub returns-clause-grows : goal.returns-clause-grows
returns-clause-grows g c =
    let old = (g.S.Sink.output c.args.sink.now).taken in
    let mid = (g.S.Sink.output c.put_line.new.sink).taken in
    let late = (g.S.Sink.output c.put_words.new.sink).taken in
    let new = (g.S.Sink.output c.put_line-2.new.sink).taken in
    let first = line_text (line.Core c.args.core) in
    let second = lines_text (word_lines c.args.words.now) in
    let third = line_text c.args.last.now in
    subst (λ w. PutsBytes w old new c.put_line-2.result)
    (sym (core_text c.args.core c.args.words.now c.args.last.now))
    (puts_both first (second ++ third) old mid new c.put_line-2.result c.in_ok-put_line.ensures.grows
    (puts_both second third mid late new c.put_line-2.result c.in_ok-put_words.ensures.grows c.put_line-2.ensures.grows))
