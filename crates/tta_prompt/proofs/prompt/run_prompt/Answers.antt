use Rattle.std.proofs.Common.{rules, ◌≡◌, ◌<◌, ◌+◌, ◌-◌, ℕ, Bool, List, [], ◌∷◌, length, subst, arith}
use Rattle.std.specs.Prelude.{Ok, Err, Result}
use Rattle.tta_prompt.specs.Cited.{stated, Units, Machine, Output, LineError, Come, Comes, IfLine, with_lines, Debugged}
use Rattle.tta_code.specs.declared.code.Code.{Code}
use Rattle.tta_prompt.specs.declared.error.PromptError.{PromptError}
use Rattle.tta_prompt.specs.Prompted.{prompt_line, prompted}
use Rattle.tta_prompt.specs.Endings.{AnswersLine}
use Rattle.tta_prompt.proofs.Sessions.{kept_more, quits, breaks_off}
use Rattle.tta_prompt.proofs.prompt.run_prompt.Given as given
use Rattle.tta_prompt.proofs.prompt.run_prompt.Goals.{After-answer_line-answer}
use Rattle.tta_prompt.proofs.prompt.run_prompt.Goals as goal

-- ---- a line

module _ (g : given.Over) (c : After-answer_line-answer g) where
  abbrev U : Units
  U = stated (λ v. (goal.OpUnit-dyn g v).unit_meaning v.1) c.args.basis.now.units.now

  abbrev m : Machine
  m = c.args.basis.now.m.now

  abbrev code : Code
  code = c.args.basis.now.code.now

  abbrev input : List ℕ
  input = c.args.basis.now.input.now

  -- what had come when the session began, before the line, and with it
  abbrev before : Come
  before = g.L.Lines.come c.args.lines.now

  abbrev mid : Come
  mid = g.L.Lines.come c.lines.lines

  abbrev after : Come
  after = g.L.Lines.come c.next_line.new.self

  -- the output when the session began, before the answer, and after it
  abbrev old : Output
  old = g.S.Sink.output c.args.sink.now

  abbrev now : Output
  now = g.S.Sink.output c.lines.sink

  abbrev new : Output
  new = g.S.Sink.output c.answer_line-answer.new.sink

  -- the line
  abbrev line : List ℕ
  line = c.in-Ok-Some.line.items

  come : after ≡ with_lines (line ∷ []) mid
  come = (subst (λ r. Comes c.lines.left mid after (Ok r)) c.in-Ok-Some.field-0-is c.in-Ok-Some.ensures.comes).1

  -- what is under the debugger when lines were answered
  abbrev at : (d : Debugged) (lines : List (List ℕ)) → Debugged
  at d lines = (prompted U m code lines d).1

  -- what the answer to the line says, by the answer
  answers : (d : Debugged) (lines : List (List ℕ)) (r : Result Bool PromptError)
      → AnswersLine input (at d lines) (prompt_line U m code c.as_slice.result.now (at d lines)) c.answer_line-answer.new.session now new r
      → AnswersLine input (at d lines) (prompt_line U m code line (at d lines)) c.answer_line-answer.new.session now new r
  answers d lines r = subst (λ l. AnswersLine input (at d lines) (prompt_line U m code l (at d lines)) c.answer_line-answer.new.session now new r) c.as_slice.ensures.value

-- ---- the session

pub returns-in-Ok-false-clause-ends : goal.returns-in-Ok-false-clause-ends
returns-in-Ok-false-clause-ends g c = λ d f.
    let at = (goal.at.returns-in-Ok-false-clause-ends g c).After-answer_line-answer in
    let kept = c.lines.invariant.kept d f in
    quits (U g at) (m g at) (code g at) (input g at) d c.lines.session c.answer_line-answer.new.session (before g at) (mid g at) (after g at)
    (old g at) (now g at) (new g at) c.lines.left kept (line g at) (come g at) c.in-Ok-false.field-0 c.in-Ok-false.field-0-test
    (answers g at d kept.lines (Ok c.in-Ok-false.field-0) (c.in-Ok-false.ensures.answers _ kept.answered.follows))

pub returns-in-Err-clause-ends : goal.returns-in-Err-clause-ends
returns-in-Err-clause-ends g c = λ d f.
    let at = (goal.at.returns-in-Err-clause-ends g c).After-answer_line-answer in
    let kept = c.lines.invariant.kept d f in
    breaks_off (U g at) (m g at) (code g at) (input g at) d c.lines.session c.answer_line-answer.new.session (before g at) (mid g at) (after g at)
    (old g at) (now g at) (new g at) c.lines.left kept (line g at) (come g at) c.in-Err.error
    (answers g at d kept.lines (Err c.in-Err.error) (c.in-Err.ensures.answers _ kept.answered.follows))

pub lines-preserved : goal.lines-preserved
lines-preserved g c =
    let at = (goal.at.lines-preserved g c).After-answer_line-answer in
    let few = c.lines.invariant.few in
    let short = c.lines.invariant.short in
    let counted = c.answer_line-answer.ensures.counted in
    let some : 0 < c.lines.left = subst (λ r. IfLine {E = LineError} (Ok r) (λ line. 0 < c.lines.left)) c.in-Ok-Some.field-0-is c.in-Ok-Some.ensures.some in
    let less : c.saturating_sub-left.result ≡ c.lines.left - (length (line g at) + 1) = search rules in
    record {
      loaded = c.answer_line-answer.ensures.loaded;
      few = omega (arith, less);
      short = omega (arith, less);
      kept = λ d f.
          let kept = c.lines.invariant.kept d f in
          kept_more (U g at) (m g at) (code g at) (input g at) d c.lines.session c.answer_line-answer.new.session (before g at) (mid g at) (after g at)
          (old g at) (now g at) (new g at) c.lines.left kept (line g at) (come g at) c.in-Ok-true.field-0 c.in-Ok-true.field-0-test c.saturating_sub-left.result less
          (answers g at d kept.lines (Ok c.in-Ok-true.field-0) (c.in-Ok-true.ensures.answers _ kept.answered.follows));
    }
