use Rattle.std.proofs.Common.{◌+◌}
use Rattle.tta_stages.specs.Cited.{stated}
use Rattle.tta_stages.specs.ListText.{row_at}
use Rattle.tta_stages.proofs.text.placed.push_rows.Goals as goal
use Rattle.tta_list.proofs.Lists.{number_more}

pub loop-cycle-preserved : goal.loop-cycle-preserved
loop-cycle-preserved g c =
    let U = stated (λ v. (goal.OpUnit-dyn g v).unit_meaning v.1) c.args.units.now in
    number_more (λ k. row_at U c.args.m.now c.args.words.now (c.args.start + k)) _ _ _ c.loop-cycle.cycle c.in_ok-push_row_at.ensures c.loop-cycle.invariant
