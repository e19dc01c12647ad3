use Rattle.std.proofs.Common.{ℕ, [], ◌∷◌, ◌++◌, ap, ◌∙◌, slice_index_or}
use Rattle.tta_cost.specs.Cited.{stated}
use Rattle.tta_cost.specs.Operations.{operation_depth}
use Rattle.tta_cost.proofs.Listed.{made_more}
use Rattle.tta_cost.proofs.operations.operation_depths.Goals as goal

pub loop-op-preserved : goal.loop-op-preserved
loop-op-preserved g c =
    made_more (λ op. operation_depth (slice_index_or (stated (λ v. (goal.OpUnit-dyn g v).unit_meaning v.1) c.args.units.now).names op []))
    _ _ c.loop-op.op c.loop-op.invariant
    (c.in_ok-push.ensures.items ∙ ap (λ (n : ℕ). c.loop-op.depths.items ++ n ∷ [])
    (c.operation_depth.ensures ∙ ap operation_depth (c.as_bytes.ensures.value ∙ c.name.ensures.value)))
