use Rattle.std.proofs.Common.{ℕ, true, List, refl, ◌∙◌, subst, arith}
use Rattle.std.specs.Prelude.{Ok, Result}
use Rattle.std.proofs.lemmas.Grind.{common_steps}
use Rattle.tta_debug.specs.Cited.{stated, Units, Machine, Code, Output}
use Rattle.tta_debug.specs.Debugged.{Debugged, Done, command, session}
use Rattle.tta_debug.specs.Sessions.{Follows}
use Rattle.tta_debug.specs.Scripts.{TakesLine, lines_of, script_says}
use Rattle.tta_debug.proofs.Folding.{taken_first, taken_on, taken_bye, taken_cut, taken_last, script_cut, no_lines, replied_first, replied_on, replied_stopped, script_stopped}
use Rattle.tta_debug.proofs.script.run_script.Given as given
use Rattle.tta_debug.proofs.script.run_script.Goals.{After-take_line}
use Rattle.tta_debug.proofs.script.run_script.Goals as goal

-- ---- a line

module _ (g : given.Over) (c : After-take_line g) where
  abbrev U : Units
  U = stated (λ v. (goal.OpUnit-dyn g v).unit_meaning v.1) c.args.basis.now.units.now

  abbrev m : Machine
  m = c.args.basis.now.m.now

  abbrev code : Code
  code = c.args.basis.now.code.now

  abbrev input : List ℕ
  input = c.args.basis.now.input.now

  -- the output when the lines began
  abbrev old : Output
  old = g.S.Sink.output c.args.sink.now

  -- before the line
  abbrev mid : Output
  mid = g.S.Sink.output c.lines.sink

  -- and after it
  abbrev new : Output
  new = g.S.Sink.output c.take_line.new.sink

  -- what the line does
  abbrev said : Debugged → Result Done ℕ
  said now = command U m code c.cut_line-cut.result.line.now now

-- ---- the lines

pub lines-init : goal.lines-init
lines-init g c =
    let few = c.requires.few in
    let short = c.requires.short in
    record {
      loaded = c.requires.loaded;
      few = omega arith;
      short = c.requires.short;
      faults = refl;
      taken = λ d f. taken_first _ _ _ _ _ d _ _ f;
      replied = λ d f. replied_first _ _ _ _ _ d _ _ f;
    }

pub returns-in_err-goes-clause-replies : goal.returns-in_err-goes-clause-replies
returns-in_err-goes-clause-replies g c = λ d f.
    let at = (goal.at.returns-in_err-goes-clause-replies g c).After-take_line in
    let taken = c.lines.invariant.taken d f in
    script_cut (input g at) (session (U g at) (m g at) (code g at) (lines_of c.args.script.now) d) c.take_line.new.session (old g at) (new g at) c.from_residual.result c.from_residual.ensures.0
    (taken_cut (U g at) (m g at) (code g at) (input g at) _ _ _ _ d c.lines.session c.take_line.new.session (old g at) (mid g at) (new g at) c.cut_line-cut.ensures.cut taken
    (c.in_err-goes.ensures.told taken.now taken.follows))

pub returns-in_err-goes-clause-stopped : goal.returns-in_err-goes-clause-stopped
returns-in_err-goes-clause-stopped g c = λ d f.
    let at = (goal.at.returns-in_err-goes-clause-stopped g c).After-take_line in
    let replied = c.lines.invariant.replied d f in
    script_stopped (input g at) (script_says (U g at) (m g at) (code g at) (lines_of c.args.script.now) d) c.take_line.new.session (old g at) (new g at) c.from_residual.result c.from_residual.ensures.0
    (replied_stopped (U g at) (m g at) (code g at) (input g at) _ _ _ _ d c.lines.session c.take_line.new.session (old g at) (mid g at) (new g at) c.cut_line-cut.ensures.cut replied
    (c.in_err-goes.ensures.stopped replied.now replied.follows))

pub returns-then-not-goes-clause-replies : goal.returns-then-not-goes-clause-replies
returns-then-not-goes-clause-replies g c = λ d f.
    let at = (goal.at.returns-then-not-goes-clause-replies g c).After-take_line in
    let taken = c.lines.invariant.taken d f in
    taken_bye (U g at) (m g at) (code g at) (input g at) _ _ _ _ d c.lines.session c.take_line.new.session (old g at) (mid g at) (new g at) c.cut_line-cut.ensures.cut taken
    (subst (λ b. TakesLine (input g at) taken.now (said g at taken.now) c.take_line.new.session (mid g at) (new g at) (Ok b)) c.if-not-goes.true (c.in_ok-goes.ensures.told taken.now taken.follows))

pub lines-preserved : goal.lines-preserved
lines-preserved g c =
    let at = (goal.at.lines-preserved g c).After-take_line in
    let few = c.lines.invariant.few in
    let short = c.lines.invariant.short in
    let counted = c.take_line.ensures.counted in
    let less = c.cut_line-cut.ensures.less in
    let goes_on : (now : Debugged) → Follows (input g at) c.lines.session now
    → TakesLine (input g at) now (said g at now) c.take_line.new.session (mid g at) (new g at) (Ok true) =
    λ now follows. subst (λ b. TakesLine (input g at) now (said g at now) c.take_line.new.session (mid g at) (new g at) (Ok b)) c.if-not-goes.false (c.in_ok-goes.ensures.told now follows) in
    record {
      loaded = c.take_line.ensures.loaded;
      few = omega arith;
      short = omega arith;
      faults = c.in_ok-goes.ensures.cause ∙ c.lines.invariant.faults;
      taken = λ d f.
          let taken = c.lines.invariant.taken d f in
          taken_on (U g at) (m g at) (code g at) (input g at) _ _ _ _ d c.lines.session c.take_line.new.session (old g at) (mid g at) (new g at) c.cut_line-cut.ensures.cut taken
          (goes_on taken.now taken.follows);
      replied = λ d f.
          let replied = c.lines.invariant.replied d f in
          replied_on (U g at) (m g at) (code g at) (input g at) _ _ _ _ d c.lines.session c.take_line.new.session (old g at) (mid g at) (new g at) c.cut_line-cut.ensures.cut replied
          (goes_on replied.now replied.follows);
    }

pub returns-clause-replies : goal.returns-clause-replies
returns-clause-replies g c = λ d f.
    let none = c.lines-test.false in
    taken_last _ _ _ _ _ _ d c.lines.session _ _ (no_lines _ (grind (arith, common_steps))) (c.lines.invariant.taken d f)
