use Rattle.std.proofs.Common.{◌+◌, Bool, sym, ap, ◌∙◌}
use Rattle.std.specs.Prelude.{if◌then◌else◌}
use Rattle.tta_reorder.proofs.Settled.{settled_begin, settled_next}
use Rattle.tta_reorder.proofs.agree.settled.Goals as goal
use Rattle.tta_reorder.proofs.agree.settled.Goals.{then-may_wait, else-may_wait}

pub loop-n-init : goal.loop-n-init
loop-n-init c = settled_begin c.args.m.now c.args.items.now

pub loop-n-preserved : goal.loop-n-preserved
loop-n-preserved c = elim c.if-may_wait.branch [
  | then-may_wait w ↦ settled_next c.args.m.now c.args.items.now c.loop-n.count c.if-may_wait.count c.loop-n.n _ c.loop-n-test.true (w.count-is ∙ ap (λ (b : Bool). if b then c.loop-n.n + 1 else c.loop-n.count) (sym w.if-may_wait.true ∙ c.may_wait.ensures)) c.loop-n.invariant
  | else-may_wait w ↦ settled_next c.args.m.now c.args.items.now c.loop-n.count c.if-may_wait.count c.loop-n.n _ c.loop-n-test.true (w.count-is ∙ ap (λ (b : Bool). if b then c.loop-n.n + 1 else c.loop-n.count) (sym w.if-may_wait.false ∙ c.may_wait.ensures)) c.loop-n.invariant
]
