use Rattle.std.proofs.Common.{refl, ap, subst, ◌∙◌}
use Rattle.std.proofs.lemmas.Result.{err_from_is_err_and}
use Rattle.tta_code.specs.Cited.{Machine, IsMachine}
use Rattle.tta_code.proofs.Walk.{walk_start, walk_empty, walk_move, walk_stop, walk_end, few_before, tells_legal, illegal_from_some}
use Rattle.tta_code.proofs.legality.legal.Goals as goal
use Rattle.tta_code.proofs.legality.legal.Goals.{in-Some+in_ok-check_move, in_default}

pub loop-bus-init : goal.loop-bus-init
loop-bus-init c =
    walk_start c.args.m.now c.args.i.now _ c.as_slice.result.now _ c.taken-taken.ensures (c.as_slice.ensures ∙ ap (λ (m : Machine). m.templates) c.m.view_is) c.as_slice-moves.ensures

pub check_move-requires-clause-few : goal.check_move-requires-clause-few
check_move-requires-clause-few c =
    few_before c.args.m.now c.args.i.now c.loop-bus.bus c.as_slice-moves.result.now (subst (λ (m : Machine). IsMachine m) c.m.view_is c.m.invariant)
    c.requires.instruction c.as_slice-moves.ensures c.loop-bus-test.true

pub returns-in_err-check_move-clause-err : goal.returns-in_err-check_move-clause-err
returns-in_err-check_move-clause-err c =
    let p = err_from_is_err_and c.from_residual.result c.from_residual.ensures.1 in
    rw p.1
    (illegal_from_some c.args.m.now c.args.i.now
    (walk_stop c.args.m.now c.args.i.now _ c.loop-bus.bus _ _ c.in-Some.v c.in_err-check_move.field-0.0 c.loop-bus-test.true c.in-Some.is refl c.in_err-check_move.ensures c.loop-bus.invariant))

pub returns-in_err-check_move-clause-first : goal.returns-in_err-check_move-clause-first
returns-in_err-check_move-clause-first c =
    let p = err_from_is_err_and c.from_residual.result c.from_residual.ensures.1 in
    rw (p.1, p.2)
    (walk_stop c.args.m.now c.args.i.now _ c.loop-bus.bus _ _ c.in-Some.v c.in_err-check_move.field-0.0 c.loop-bus-test.true c.in-Some.is refl c.in_err-check_move.ensures c.loop-bus.invariant)

pub loop-bus-preserved : goal.loop-bus-preserved
loop-bus-preserved c =
    elim c.match-slot.branch [
      | in-Some+in_ok-check_move w ↦
          walk_move c.args.m.now c.args.i.now _ c.loop-bus.bus _ _ w.in-Some.v c.loop-bus-test.true w.in-Some.is refl w.in_ok-check_move.ensures c.loop-bus.invariant
      | in_default w ↦ walk_empty c.args.m.now c.args.i.now _ c.loop-bus.bus _ c.loop-bus-test.true w.in_default.is c.loop-bus.invariant
    ]

pub returns-clause-ok : goal.returns-clause-ok
returns-clause-ok c =
    (tells_legal c.args.m.now c.args.i.now c.requires.instruction).0
    (walk_end c.args.m.now c.args.i.now _ c.loop-bus.bus _ c.loop-bus-test.false c.loop-bus.invariant)

pub returns-clause-first : goal.returns-clause-first
returns-clause-first c = walk_end c.args.m.now c.args.i.now _ c.loop-bus.bus _ c.loop-bus-test.false c.loop-bus.invariant
