use Rattle.std.proofs.Common.{None, map, length-append, arith}
use Rattle.std.proofs.lemmas.Result.{err_from_is_err_and}
use Rattle.tta_asm.specs.Cited.{stated}
use Rattle.tta_asm.specs.declared.forms.SlotForm.{SlotForm}
use Rattle.tta_asm.specs.Assembly.{moves_of}
use Rattle.tta_asm.specs.Seen.{slot_seen}
use Rattle.tta_asm.proofs.SlotWalks.{slot_read, slot_refused}
use Rattle.tta_asm.proofs.instruction.moves_of.Goals as goal

pub loop-bus-preserved : goal.loop-bus-preserved
loop-bus-preserved g c =
    let U = stated (λ v. (goal.OpUnit-dyn g v).unit_meaning v.1) c.args.target.now.units.now in
    let none : SlotForm = record { line = 0; action = None } in
    record {
      count = let was = c.loop-bus.invariant.count in rw c.in_ok-push.ensures.ok (rw length-append (omega arith));
      read = slot_read U c.args.target.now.machine.now c.args.labels.now c.args.slots.now c.loop-bus.bus none c.loop-bus.moves c.push.new.self c.in_ok-action.action
          (moves_of U c.args.target.now.machine.now c.args.labels.now 0 (map slot_seen c.args.slots.now))
          c.loop-bus-test.true c.in_ok-action.ensures c.in_ok-push.ensures.ok c.loop-bus.invariant.read;
    }

pub returns-in_err-action-clause-answer : goal.returns-in_err-action-clause-answer
returns-in_err-action-clause-answer g c =
    let U = stated (λ v. (goal.OpUnit-dyn g v).unit_meaning v.1) c.args.target.now.units.now in
    let none : SlotForm = record { line = 0; action = None } in
    let error = err_from_is_err_and c.from_residual.result c.from_residual.ensures.1 in
    rw (error.1, error.2) (slot_refused U c.args.target.now.machine.now c.args.labels.now c.args.slots.now c.loop-bus.bus none c.loop-bus.moves c.in_err-action.field-0.0
    (moves_of U c.args.target.now.machine.now c.args.labels.now 0 (map slot_seen c.args.slots.now))
    c.loop-bus-test.true c.in_err-action.ensures c.loop-bus.invariant.read)
