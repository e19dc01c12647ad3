use Rattle.std.proofs.Common.{arith, sym}
use Rattle.std.proofs.lemmas.Grind.{common_steps}
use Rattle.tta_input.specs.Input.{input_of}
use Rattle.tta_input.proofs.Filled.{taken, refused_other, refused_full, ended, started}
use Rattle.tta_input.proofs.read.read_input.Goals as goal
use Rattle.tta_input.proofs.read.read_input.Goals.{in_default-word_of-via-in-Some-word_of+else-len-space, in_default-word_of-via-in_default-word_of}

pub loop-line-init : goal.loop-line-init
unfolding input_of
loop-line-init c =
    let start = started c.args.words c.new-lines.result in
    grind (arith, common_steps, start)

pub loop-line-preserved : goal.loop-line-preserved
loop-line-preserved c =
    let words = c.loop-line.memory.items in
    let turn = taken words c.args.words c.in-Some.line.now c.next_line.new.self c.in-Some-word_of.word in
    grind (arith, common_steps, turn)

pub returns-in_default-word_of-clause-refused : goal.returns-in_default-word_of-clause-refused
returns-in_default-word_of-clause-refused c =
    let words = c.loop-line.memory.items in
    let other = refused_other words c.args.words c.in-Some.line.now c.next_line.new.self in
    let full = refused_full words c.args.words c.in-Some.line.now c.next_line.new.self in
    elim c.in_default-word_of.branch [
      | in_default-word_of-via-in-Some-word_of+else-len-space w ↦ grind (arith, common_steps, full)
      | in_default-word_of-via-in_default-word_of w ↦ let refused = other (sym w.in_default-word_of.ensures) in grind (arith, common_steps, refused)
    ]

pub returns-clause-read : goal.returns-clause-read
returns-clause-read c =
    let end = ended c.loop-line.memory.items c.args.words in
    grind (arith, common_steps, end)
