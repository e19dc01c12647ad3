use Rattle.std.proofs.Common.{ℕ, List, sym, subst}
use Rattle.tta_tool.specs.Cited.{stated, Debugged, Follows}
use Rattle.tta_sim.specs.Held.{Held}
use Rattle.tta_debug.specs.Debugged.{session as replies_of}
use Rattle.tta_debug.specs.Scripts.{lines_of}
use Rattle.tta_load.specs.declared.status.Status.TheVariants as status
use Rattle.tta_tool.specs.Debug.{EndsAs, SessionEnds}
use Rattle.tta_tool.proofs.Debuggings.{script_done}
use Rattle.tta_tool.proofs.debugging.script_to_status.Goals as goal

pub returns-in-Ok : goal.returns-in-Ok
returns-in-Ok g c = λ d follows.
    let U = stated (λ v. (goal.OpUnit-dyn g v).unit_meaning v.1) c.args.units.now in
    let sink = g.S.Sink in
    let old = sink.output c.args.sink.now in
    let new = sink.output c.run_script.new.sink in
    let words = c.as_slice-words.result.now in
    let replied : List ℕ → List ℕ × Debugged = λ script. replies_of U c.args.machine.now c.args.code.now (lines_of script) d in
    let done = c.in-Ok.ensures.replies d (subst (λ ws. Follows ws c.args.session.now d) (sym c.as_slice-words.ensures.value) follows) in
    let Ends : Held → Type 0 = λ h. EndsAs h.outcome c.status_of.result in
    subst (λ script. SessionEnds (replied script) old new c.status_of.result) c.as_slice-lines.ensures.value
    (script_done words (replied c.as_slice-lines.result.now) c.run_script.new.session old new c.status_of.result
    done.0 (record { taken = done.1.taken; faults = done.1.faults }) (subst Ends c.sim.ensures c.status_of.ensures))

pub returns-in-Err : goal.returns-in-Err
returns-in-Err g c = λ d follows.
    let U = stated (λ v. (goal.OpUnit-dyn g v).unit_meaning v.1) c.args.units.now in
    let sink = g.S.Sink in
    let old = sink.output c.args.sink.now in
    let new = sink.output c.run_script.new.sink in
    let replied : List ℕ → List ℕ × Debugged = λ script. replies_of U c.args.machine.now c.args.code.now (lines_of script) d in
    let cut = c.in-Err.ensures.replies d (subst (λ ws. Follows ws c.args.session.now d) (sym c.as_slice-words.ensures.value) follows) in
    subst (λ script. SessionEnds (replied script) old new status.WriteFault) c.as_slice-lines.ensures.value
    (record { count = cut.count; taken = cut.taken; rose = cut.rose })
