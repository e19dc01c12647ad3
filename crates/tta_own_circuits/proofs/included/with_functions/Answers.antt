use Rattle.std.proofs.Common.{arith}
use Rattle.tta_own_circuits.proofs.Inclusions.{ended}
use Rattle.tta_own_circuits.proofs.included.with_functions.Goals as goal

pub returns : goal.returns
returns g c =
    ended _ _ _ c.loop-k.out.items _ c.as_slice.result.now c.loop-k.line.items c.args.text.now c.loop-k.k
    (omega (arith, c.loop-k-test.false)) c.as_slice.ensures.value c.in_ok-push_text.ensures c.loop-k.invariant
