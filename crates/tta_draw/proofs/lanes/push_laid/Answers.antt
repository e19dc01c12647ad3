use Rattle.std.proofs.Common.{◌∙◌}
use Rattle.std.proofs.lemmas.List.{get_or_default}
use Rattle.tta_draw.proofs.FreeLanes.{lane-taken, lane-is, spans-more}
use Rattle.tta_draw.proofs.lanes.push_laid.Goals as goal

pub loop-span-preserved : goal.loop-span-preserved
loop-span-preserved c =
    let was = c.loop-span.invariant in
    let pushed = c.in_ok-push.ensures.items in
    record {
      rest = spans-more c.args.lanes c.loop-span.laid.items _ _ c.args.spans.now c.loop-span.span-index _ _ c.loop-span-test.true
          (get_or_default c.args.spans.now c.loop-span.span-index _ _ c.loop-span-test.true)
          (lane-is c.args.lanes _ _ _ _ _ c.first_lane-lane.ensures.is (c.from.ensures ∙ c.top_row.ensures) c.requires.lanes was.free) pushed was.rest;
      free = lane-taken _ _ _ _ _ _ pushed c.bottom_row.ensures c.first_lane-lane.ensures.within c.take_lane.ensures.taken was.free;
    }
