use Rattle.tta_image.proofs.LayoutLemmas.{instruction_from}
use Rattle.tta_image.proofs.write.push_instruction.Goals as goal

pub returns : goal.returns
returns c = record {
  ok = instruction_from c.args.m.now c.args.codes.now.layout.now c.args.i.now c.buses_of-taken.result c.value_of.result c.template_code.result _ _ _ _ c.as_slice.ensures
      c.requires.layout c.buses_of-taken.ensures c.value_of.ensures c.template_code.ensures c.in_ok-push_number.ensures.ok c.in_ok-push_slots.ensures.ok;
}
