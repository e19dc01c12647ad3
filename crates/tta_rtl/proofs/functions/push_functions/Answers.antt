use Rattle.std.proofs.Common.{arith}
use Rattle.tta_rtl.specs.Cited.{stated}
use Rattle.tta_rtl.specs.Functions.{offered_text}
use Rattle.tta_rtl.proofs.Texts.{number_more}
use Rattle.tta_rtl.proofs.functions.push_functions.Goals as goal

pub loop-op-preserved : goal.loop-op-preserved
loop-op-preserved g c =
    number_more (offered_text (stated (λ v. (goal.OpUnit-dyn g v).unit_meaning v.1) c.args.units.now) c.args.m.now) _ _ _ 0 c.loop-op.op
    c.loop-op.op (omega arith) c.loop-op.invariant c.in_ok-push_offered.ensures
