use Rattle.std.proofs.Common.{sym, ◌∙◌}
use Rattle.tta_asm.proofs.NameLists.{found_name}
use Rattle.tta_asm.proofs.naming.add_first.Goals as goal

-- the name is there already
pub returns-then-is_some : goal.returns-then-is_some
returns-then-is_some g c =
    found_name c.args.names.now c.args.name.now c.args.place c.get.result c.get.ensures (sym c.is_some.ensures ∙ c.if-is_some.true)
