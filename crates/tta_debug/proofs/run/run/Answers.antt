use Rattle.std.proofs.Common.{◌&&◌, ap, ◌∙◌, subst}
use Rattle.tta_debug.specs.Cited.{stated, reply_text, next}
use Rattle.tta_debug.specs.declared.told.Told.TheVariants.{More}
use Rattle.tta_debug.specs.Debugged.{is_at_stop, cycles, stopped, say}
use Rattle.tta_debug.specs.Sessions.{SaysLine}
use Rattle.tta_debug.proofs.Saying.{said_after, stopped_first}
use Rattle.tta_debug.proofs.run.run.Goals as goal

pub returns-in-Ok-clause-does : goal.returns-in-Ok-clause-does
returns-in-Ok-clause-does g c = λ d f.
    let step = next (stated (λ v. (goal.OpUnit-dyn g v).unit_meaning v.1) c.args.basis.now.units.now) c.args.basis.now.m.now c.args.basis.now.code.now in
    let w = cycles step (λ e. c.args.to_stop && is_at_stop e) c.args.count d in
    let old = g.S.Sink.output c.args.sink.now in
    let mid = g.S.Sink.output c.run_cycles.new.sink in
    let new = g.S.Sink.output c.say.new.sink in
    let went = c.in-Ok.ensures.runs d f in
    let line = c.stopped_at.ensures w.last.state went.1.stands ∙ ap (λ b. stopped b w.last.state) went.0 in
    said_after c.args.basis.now.input.now w.says (stopped w.waits w.last.state) w.last More c.run_cycles.new.session old mid new c.say.result went.1 went.2
    (subst (λ r. SaysLine (reply_text r) More mid new c.say.result) line c.say.ensures)

pub returns-in-Err-clause-does : goal.returns-in-Err-clause-does
returns-in-Err-clause-does g c = λ d f.
    let step = next (stated (λ v. (goal.OpUnit-dyn g v).unit_meaning v.1) c.args.basis.now.units.now) c.args.basis.now.m.now c.args.basis.now.code.now in
    let w = cycles step (λ e. c.args.to_stop && is_at_stop e) c.args.count d in
    stopped_first c.args.basis.now.input.now w.says (say (stopped w.waits w.last.state) w.last) c.run_cycles.new.session _ _ (c.in-Err.ensures.runs d f)
