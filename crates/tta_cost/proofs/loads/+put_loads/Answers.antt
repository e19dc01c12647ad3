use Rattle.std.proofs.Common.{refl}
use Rattle.tta_cost.specs.Cited.{load_registers}
use Rattle.tta_cost.proofs.RowSteps.{lists_of}
use Rattle.tta_cost.proofs.loads.+put_loads.Goals as goal

pub returns-in-len1-up : goal.returns-in-len1-up
returns-in-len1-up t c =
    lists_of c.args.of.now.on.now.applied.now c.args.of.now.on.now.m.now (load_registers c.args.unit) c.args.op c.args.ops.now _ _ _ _ _
    c.in-len1-up.len_at_least refl c.put_load.ensures c.put_loads.ensures
