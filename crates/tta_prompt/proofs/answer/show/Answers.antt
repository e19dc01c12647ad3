use Rattle.std.proofs.Common.{sym, subst, option_map}
use Rattle.std.specs.Prelude.{Err}
use Rattle.tta_prompt.specs.Cited.{Stands}
use Rattle.tta_prompt.specs.declared.error.PromptError.TheVariants.{SinkFailed}
use Rattle.tta_prompt.specs.Prompted.{shown}
use Rattle.tta_prompt.specs.Endings.{AnswersLine}
use Rattle.tta_prompt.proofs.Shown.{shown_cut}
use Rattle.tta_prompt.proofs.answer.show.Goals as goal

pub returns-in-Err-put_shown : goal.returns-in-Err-put_shown
returns-in-Err-put_shown g c = λ d f.
    let input = c.args.basis.now.input.now in
    let session = c.args.session.now in
    let old = g.S.Sink.output c.args.sink.now in
    let new = g.S.Sink.output c.put_shown.new.sink in
    let stands = subst (λ h. Stands h d.state) (sym c.sim.ensures) f.stands in
    subst (λ text. AnswersLine input d (shown d text) session old new (Err SinkFailed)) (c.in-Ok.ensures d.state stands)
    (shown_cut input d (option_map (λ v. v.items) c.in-Ok.text) session old new c.in-Err-put_shown.field-0 f c.in-Err-put_shown.ensures)
