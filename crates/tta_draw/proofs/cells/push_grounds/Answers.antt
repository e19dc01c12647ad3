use Rattle.std.proofs.Common.{[], if◌then◌else◌}
use Rattle.std.specs.Prelude.{codes}
use Rattle.tta_draw.specs.Svg.{box_text}
use Rattle.tta_draw.specs.CodePlaces.{slot_frame}
use Rattle.tta_draw.specs.DelaySlots.{is_delay_slot}
use Rattle.tta_draw.proofs.cells.push_grounds.Goals as goal
use Rattle.tta_list.proofs.Lists.{number_more}

pub loop-row-preserved : goal.loop-row-preserved
loop-row-preserved c =
    number_more (λ row. if is_delay_slot c.args.m.now c.args.words.now row then box_text (codes "slot") (slot_frame c.args.m.now c.args.sizes row) else []) _ _ _ c.loop-row.row
    c.in_ok-push_ground.ensures c.loop-row.invariant
