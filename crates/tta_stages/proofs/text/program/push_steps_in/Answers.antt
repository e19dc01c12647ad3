use Rattle.std.proofs.Common.{◌+◌}
use Rattle.tta_stages.specs.Cited.{stated}
use Rattle.tta_stages.specs.ProgramText.{step_at_text}
use Rattle.tta_stages.proofs.text.program.push_steps_in.Goals as goal
use Rattle.tta_list.proofs.Lists.{number_more}

pub loop-i-preserved : goal.loop-i-preserved
loop-i-preserved g c =
    let U = stated (λ v. (goal.OpUnit-dyn g v).unit_meaning v.1) c.args.units.now in
    number_more (λ i. step_at_text U c.args.main c.args.q.now (c.args.b.first + i)) _ _ _ c.loop-i.i c.in_ok-push_step_at.ensures c.loop-i.invariant
