use Rattle.std.proofs.Common.{arith}
use Rattle.tta_sim.specs.Results.{shown_by}
use Rattle.tta_sim.specs.Lines.{cannot_start, operand_in, start_brought}
use Rattle.tta_sim.proofs.Lists.{any_more, filter_map-more, length-so_far}
use Rattle.tta_sim.proofs.lines.note_starts.Goals as goal

pub note_start-by_this-requires-clause-room : goal.note_start-by_this-requires-clause-room
note_start-by_this-requires-clause-room c =
    let operand = operand_in c.args.places.now c.args.writes.now in
    let brought = start_brought c.args.places.now (shown_by c.args.results.now) operand in
    let few = length-so_far brought c.args.moves.now c.loop-s.s-index c.loop-s.starts c.loop-s-test.true c.loop-s.invariant.starts in
    omega (arith, few, c.requires.few, c.loop-s-test.true)

pub loop-s-preserved : goal.loop-s-preserved
loop-s-preserved c =
    let operand = operand_in c.args.places.now c.args.writes.now in
    let cannot = cannot_start c.args.places.now c.args.results.now operand in
    let brought = start_brought c.args.places.now (shown_by c.args.results.now) operand in
    record {
      stopped = any_more cannot c.args.moves.now c.loop-s.s-index _ c.loop-s.stopped _ _ c.loop-s-test.true c.loop-s.invariant.stopped c.note_start-by_this.ensures.stopped c.either-stopped.ensures;
      starts = filter_map-more brought c.args.moves.now c.loop-s.s-index _ c.loop-s.starts _ c.loop-s-test.true c.loop-s.invariant.starts c.note_start-by_this.ensures.starts;
    }
