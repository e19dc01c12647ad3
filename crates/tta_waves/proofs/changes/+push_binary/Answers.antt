use Rattle.std.proofs.Common.{◌-◌, ◌/◌, ◌++◌, sym, ap, ◌∙◌, arith}
use Rattle.std.proofs.lemmas.List.{append_assoc}
use Rattle.tta_waves.specs.Dump.{binary_of, bit_text}
use Rattle.tta_waves.proofs.Binary.{more_bits}
use Rattle.tta_waves.proofs.changes.+push_binary.Goals as goal

pub returns : goal.returns
returns n c =
    let some = c.if-bits-eq0.false in
    let above = c.if-word-lt2.false in
    let old = c.args.out.now.items in
    c.in_ok-push_bit-2.ensures ∙ ap (λ l. l ++ bit_text c.args.word) c.in_ok-push_binary.ensures
    ∙ append_assoc old (binary_of (c.args.bits - 1) (c.args.word / 2)) (bit_text c.args.word)
    ∙ ap (λ l. old ++ l) (sym (more_bits c.args.bits c.args.word (omega arith) (omega arith)))
