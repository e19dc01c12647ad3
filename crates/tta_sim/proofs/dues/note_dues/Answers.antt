use Rattle.std.proofs.Common.{sym, ◌∙◌, arith}
use Rattle.tta_sim.specs.Cited.{stated}
use Rattle.tta_sim.specs.Results.{shown_by}
use Rattle.tta_sim.specs.Lines.{cannot_start, operand_in, start_brought}
use Rattle.tta_sim.specs.Dues.{shown_from}
use Rattle.tta_sim.proofs.Lists.{any_left}
use Rattle.tta_sim.proofs.Shown.{both-more, length-both}
use Rattle.tta_sim.proofs.dues.note_dues.Goals as goal

pub note_due-requires-clause-room : goal.note_due-requires-clause-room
note_due-requires-clause-room g c =
    let U = stated (λ v. (goal.OpUnit-dyn g v).unit_meaning v.1) c.args.units.now in
    let store = c.args.store.now in
    let brought = start_brought store.places (shown_by c.args.results.now) (operand_in store.places c.args.writes.now) in
    let few = length-both (shown_from U 0 store) brought c.args.moves.now c.loop-s.s-index c.loop-s.dues c.loop-s-test.true c.loop-s.invariant.dues in
    omega (arith, few, c.requires.few, c.loop-s-test.true)

pub loop-s-preserved : goal.loop-s-preserved
loop-s-preserved g c =
    let U = stated (λ v. (goal.OpUnit-dyn g v).unit_meaning v.1) c.args.units.now in
    let store = c.args.store.now in
    let operand = operand_in store.places c.args.writes.now in
    let cannot = cannot_start store.places c.args.results.now operand in
    let brought = start_brought store.places (shown_by c.args.results.now) operand in
    record {
      left = any_left cannot c.args.moves.now c.loop-s.s-index _ _ c.loop-s-test.true c.loop-s.invariant.left (sym c.note_due.ensures.stopped ∙ c.if-note_due.false);
      dues = both-more (shown_from U 0 store) brought c.args.moves.now c.loop-s.s-index _ c.loop-s.dues _ c.loop-s-test.true c.loop-s.invariant.dues
          (c.note_due.ensures.dues c.if-note_due.false);
    }
