use Rattle.tta_asm.proofs.ListedOps.{table_listed}
use Rattle.tta_asm.proofs.assembling.assemble.Goals as goal

-- the table of what the set of units states is one of what it lists
pub invariant_of-target-clause-table_of : goal.invariant_of-target-clause-table_of
invariant_of-target-clause-table_of g c =
    table_listed (λ v. (goal.OpUnit-dyn g v).unit_meaning v.1) c.args.units.now c.args.m.now c.in_ok-table.table c.in_ok-table.ensures
