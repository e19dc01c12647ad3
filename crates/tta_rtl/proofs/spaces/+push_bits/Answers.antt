use Rattle.std.proofs.Common.{ℕ, ◌+◌, ◌-◌, Bool, List, ◌++◌, sym, ap, ◌∙◌, arith}
use Rattle.tta_list.proofs.Lists.{then_more}
use Rattle.tta_list.proofs.Results.{onward}
use Rattle.tta_rtl.specs.Memories.{digit, digits}
use Rattle.tta_rtl.proofs.Digits.{digits_more}
use Rattle.tta_rtl.proofs.spaces.+push_bits.Goals as goal

pub returns : goal.returns
returns t c =
    let bytes = c.args.bytes.now in
    let old = c.args.out.now.items in
    let rest = digits bytes (c.args.at + 1) (c.args.width - 1) in
    onward c.push_bits.result (λ last.
    then_more old c.push_bit.new.out.items c.push_bits.new.out.items (digit c.bit_at.result) rest c.in_ok-push_bit.ensures last
    ∙ ap (λ (b : Bool). old ++ (digit b ++ rest)) c.bit_at.ensures
    ∙ ap (λ (l : List ℕ). old ++ l) (sym (digits_more bytes c.args.at c.args.width (omega (arith, c.if-width-eq0.false))))) c.push_bits.ensures
