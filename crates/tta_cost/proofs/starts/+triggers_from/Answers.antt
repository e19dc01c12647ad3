use Rattle.std.proofs.Common.{ℕ, ◌∙◌, ap}
use Rattle.tta_arch.specs.declared.ends.Dest.TheVariants as dest
use Rattle.tta_cost.specs.Cited.{UnitOp, arrivals}
use Rattle.tta_cost.specs.Chains.{first_cost}
use Rattle.tta_cost.proofs.Chains.{first_more}
use Rattle.tta_cost.proofs.starts.+triggers_from.Goals as goal

pub returns-in-len1-up : goal.returns-in-len1-up
returns-in-len1-up t c =
    let T = c.args.on.now.applied.now in let m = c.args.on.now.m.now in
    (c.arrivals.ensures ∙ ap (first_cost T m (arrivals m (dest.Trigger c.args.unit c.args.op))) c.triggers_from-more.ensures)
    ∙ first_more T m {A = UnitOp} (λ (op : ℕ). arrivals m (dest.Trigger c.args.unit op)) c.args.op c.args.ops.now c.args.other
    c.in-len1-up.len_at_least
