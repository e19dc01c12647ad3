use Rattle.std.proofs.Common.{Some, Ok, Err, refl, sym, ap, ◌∙◌}
use Rattle.tta_input.proofs.Digits.{read_as}
use Rattle.tta_input.proofs.read.word_of.Goals as goal

pub returns-in-Ok : goal.returns-in-Ok
returns-in-Ok c =
    ap Some c.from_be_bytes.ensures
    ∙ sym (read_as c.args.line.now c.decode_to_slice.new.out (Ok c.in-Ok.field-0) _ refl c.in-Ok.ensures.value)

pub returns-in-Err : goal.returns-in-Err
returns-in-Err c =
    sym (read_as c.args.line.now c.decode_to_slice.new.out (Err c.in-Err.field-0) _ refl c.in-Err.ensures.value)
