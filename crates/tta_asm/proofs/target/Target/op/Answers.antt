use Rattle.std.proofs.Common.{◌∙◌}
use Rattle.tta_asm.proofs.ListedOps.{op_in_table}
use Rattle.tta_asm.proofs.target.Target.op.Goals as goal

-- what the table gives is what the set of units states
pub returns : goal.returns
returns g c =
    let t = c.args.self.now in
    let named = op_in_table (λ v. (goal.OpUnit-dyn g v).unit_meaning v.1) t.units.now t.machine.now t.table.now t.table_of in
    c.op.ensures ∙ named c.args.unit c.args.name.now
