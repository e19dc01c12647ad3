use Rattle.std.proofs.Common.{arith}
use Rattle.tta_cost.proofs.Shorts.{short_of}
use Rattle.tta_cost.proofs.fields.short.Goals as goal

pub returns-then-is_signed : goal.returns-then-is_signed
returns-then-is_signed c =
    short_of c.args.on.now.applied.now c.args.on.now.m.now c.rules.ensures c.args.bus c.is_signed.result _ c.is_signed.ensures
    (grind arith)

pub returns-else-is_signed : goal.returns-else-is_signed
returns-else-is_signed c =
    short_of c.args.on.now.applied.now c.args.on.now.m.now c.rules.ensures c.args.bus c.is_signed.result _ c.is_signed.ensures
    (grind arith)
