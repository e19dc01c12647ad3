use Rattle.std.proofs.Common.{sym, ◌∙◌, arith}
use Rattle.tta_sim.specs.Results.{shown_by}
use Rattle.tta_sim.specs.Lines.{is_unread, write_brought}
use Rattle.tta_sim.proofs.Lists.{any_left, filter_map-more, length-so_far}
use Rattle.tta_sim.proofs.lines.note_writes.Goals as goal

pub note_write-requires-clause-room : goal.note_write-requires-clause-room
note_write-requires-clause-room c =
    let brought = write_brought c.args.places.now (shown_by c.args.results.now) in
    let few = length-so_far brought c.args.moves.now c.loop-w.w-index c.loop-w.writes c.loop-w-test.true c.loop-w.invariant.writes in
    omega (arith, few, c.requires.few, c.loop-w-test.true)

pub loop-w-preserved : goal.loop-w-preserved
loop-w-preserved c =
    let unread = is_unread c.args.places.now (shown_by c.args.results.now) in
    let brought = write_brought c.args.places.now (shown_by c.args.results.now) in
    record {
      read = any_left (λ w. unread w.reading) c.args.moves.now c.loop-w.w-index _ _ c.loop-w-test.true c.loop-w.invariant.read (sym c.note_write.ensures.unset ∙ c.if-note_write.false);
      writes = filter_map-more brought c.args.moves.now c.loop-w.w-index _ c.loop-w.writes _ c.loop-w-test.true c.loop-w.invariant.writes c.note_write.ensures.writes;
    }
