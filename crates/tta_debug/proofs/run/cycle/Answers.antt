use Rattle.std.proofs.Common.{slice_get, refl, sym, ap, ◌∙◌, true≢false, subst}
use Rattle.tta_debug.specs.Cited.{stated, next}
use Rattle.tta_debug.specs.Debugged.{is_running}
use Rattle.tta_debug.specs.Sessions.{Follows, Cycles}
use Rattle.tta_debug.proofs.Cycling.{made_by, on_by, cut_by, over_by}
use Rattle.tta_debug.proofs.run.cycle.Goals.{in-Ok, in-Err}
use Rattle.tta_debug.proofs.run.cycle.Goals as goal

pub returns-in-Halted-clause-cycles : goal.returns-in-Halted-clause-cycles
returns-in-Halted-clause-cycles g c = λ d follows.
    let U = stated (λ v. (goal.OpUnit-dyn g v).unit_meaning v.1) c.args.basis.now.units.now in
    let f = subst (λ h. Follows c.args.basis.now.input.now h d) (sym c.session.view_is) follows in
    let fed = ap (λ l. slice_get l 0) f.rest ∙ sym c.next_of.ensures in
    let halted = c.in-Halted.ensures.answer d.state f.stands fed in (
      over_by U c.args.basis.now.m.now c.args.basis.now.code.now c.args.basis.now.input.now _ d (c.in-Halted.ensures.next d.state f.stands fed) f.rest f.stops 0 0
          (λ runs. absurd (true≢false (sym runs ∙ ap is_running halted))),
      record { taken = refl; faults = refl },
    )

pub returns-in-Fault-clause-cycles : goal.returns-in-Fault-clause-cycles
returns-in-Fault-clause-cycles g c = λ d follows.
    let U = stated (λ v. (goal.OpUnit-dyn g v).unit_meaning v.1) c.args.basis.now.units.now in
    let f = subst (λ h. Follows c.args.basis.now.input.now h d) (sym c.session.view_is) follows in
    let fed = ap (λ l. slice_get l 0) f.rest ∙ sym c.next_of.ensures in (
      over_by U c.args.basis.now.m.now c.args.basis.now.code.now c.args.basis.now.input.now _ d (c.in-Fault.ensures.next d.state f.stands fed) f.rest f.stops _ _
          (λ runs. c.in-Fault.ensures.answer d.state f.stands fed),
      record { taken = refl; faults = refl },
    )

pub returns-after-put_word-clause-cycles : goal.returns-after-put_word-clause-cycles
returns-after-put_word-clause-cycles g c = λ d follows.
    let U = stated (λ v. (goal.OpUnit-dyn g v).unit_meaning v.1) c.args.basis.now.units.now in
    let step = next U c.args.basis.now.m.now c.args.basis.now.code.now in
    let input = c.args.basis.now.input.now in
    let f = subst (λ h. Follows input h d) (sym c.session.view_is) follows in
    let fed = ap (λ l. slice_get l 0) f.rest ∙ sym c.next_of.ensures in
    let answer = c.in-Ran.ensures.answer d.state f.stands fed in
    let old = g.S.Sink.output c.args.sink.now in
    let new = g.S.Sink.output c.put_word.new.sink in
    let made = made_by U c.args.basis.now.m.now c.args.basis.now.code.now input _ d c.in-Ran.took _ _ answer.0 (c.in-Ran.ensures.next d.state f.stands fed) answer.1.2 f.rest
    c.count_taken-session-inside.ensures f.stops f.stands.cycle c.in-Ran.ensures.counted in
    elim c.match-put_word.branch [
      | in-Ok w ↦ subst (Cycles input step d _ old new) (sym w.result-is) (on_by input step d _ c.in-Ran.word old new made answer.1.1 w.in-Ok.ensures.puts)
      | in-Err w ↦ subst (Cycles input step d _ old new) (sym w.result-is) (cut_by input step d _ c.in-Ran.word old new made answer.1.1 w.in-Err.ensures.puts)
    ]
