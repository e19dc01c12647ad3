use Rattle.std.proofs.Common.{subst, inl}
use Rattle.std.specs.Prelude.{Err}
use Rattle.tta_inspect.specs.Cited.{stated, Prompts}
use Rattle.tta_inspect.proofs.prompting.session_to_status.Goals as goal

pub returns-in-Ok : goal.returns-in-Ok
returns-in-Ok g c = λ d f. (c.run_prompt.new.session, c.in-Ok.ensures.ends d f)

pub returns-in-Err-NoMemory : goal.returns-in-Err-NoMemory
returns-in-Err-NoMemory g c = λ d f.
    let on = c.args.basis.now in
    let U = stated (λ v. (goal.OpUnit-dyn g v).unit_meaning v.1) on.units.now in
    let session = c.run_prompt.new.session in
    let came = g.L.Lines.come c.args.lines.now in
    let comes = g.L.Lines.come c.run_prompt.new.lines in
    let old = g.S.Sink.output c.args.sink.now in
    let new = g.S.Sink.output c.run_prompt.new.sink in
    inl (
      session,
      subst (λ e. Prompts U on.m.now on.code.now on.input.now d session came comes old new (Err e)) c.in-Err-NoMemory.field-0-is (c.in-Err-NoMemory.ensures.ends d f),
    )
