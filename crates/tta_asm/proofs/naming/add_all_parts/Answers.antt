use Rattle.tta_asm.proofs.MachineNames.{all_named}
use Rattle.tta_asm.proofs.NameLists.{four_lists}
use Rattle.tta_asm.proofs.naming.add_all_parts.Goals as goal

pub returns : goal.returns
returns c =
    all_named c.args.m.now c.args.names.now c.add_parts-4.new.names c.files_of.result.now c.imms_of.result.now c.units_of.result.now
    c.templates_of.result.now c.files_of.ensures.all c.imms_of.ensures.all c.units_of.ensures.all c.templates_of.ensures.all
    (four_lists c.args.names.now c.add_parts.new.names c.add_parts-2.new.names c.add_parts-3.new.names c.add_parts-4.new.names _ _ _ _
    c.in_ok-add_parts.ensures c.in_ok-add_parts-2.ensures c.in_ok-add_parts-3.ensures c.in_ok-add_parts-4.ensures)
