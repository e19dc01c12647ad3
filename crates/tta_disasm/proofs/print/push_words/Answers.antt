use Rattle.tta_disasm.specs.Cited.{stated}
use Rattle.tta_disasm.specs.Canonical.{instruction_text}
use Rattle.tta_disasm.proofs.SlotTexts.{text_more}
use Rattle.tta_disasm.proofs.print.push_words.Goals as goal

pub loop-i-preserved : goal.loop-i-preserved
loop-i-preserved g c =
    let U = stated (λ v. (goal.OpUnit-dyn g v).unit_meaning v.1) c.args.units.now in
    text_more (instruction_text U c.args.m.now) c.args.words.now c.loop-i.i-index c.i-item.result c.i-item.result c.args.out.now.items c.loop-i.out.items
    c.push_instruction.new.out.items c.loop-i-test.true c.i-item.is c.in_ok-push_instruction.ensures c.loop-i.invariant
