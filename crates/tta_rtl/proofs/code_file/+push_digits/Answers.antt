use Rattle.std.proofs.Common.{ℕ, ◌+◌, ◌-◌, ◌/◌, List, [], ◌∷◌, ◌++◌, ap, ◌∙◌}
use Rattle.tta_list.proofs.Lists.{then_more}
use Rattle.tta_list.proofs.Results.{onward}
use Rattle.tta_rtl.specs.Cited.{bits_in, field}
use Rattle.tta_rtl.specs.CodeFile.{hex_text}
use Rattle.tta_rtl.proofs.CodeFiles.{hex_more}
use Rattle.tta_rtl.proofs.code_file.+push_digits.Goals as goal

pub returns : goal.returns
returns t c =
    let bytes = c.args.bytes.now in
    let old = c.args.out.now.items in
    let first = c.first_bits-first in
    let n : ℕ = c.args.width - first.result in
    let rest = hex_text ((n + 3) / 4) (field (c.args.at + first.result) n (bits_in bytes)) in
    let all = hex_more bytes c.args.at c.args.width first.result c.number_at.result first.ensures.some first.ensures.few first.ensures.within
    first.ensures.rest c.requires.inside c.number_at.ensures.small c.number_at.ensures.value in
    onward c.push_digits.result (λ last.
    then_more old c.push.new.self.items c.push_digits.new.out.items (c.hex_digit.result ∷ []) rest c.in_ok-push.ensures.items last
    ∙ ap (λ (x : ℕ). old ++ (x ∷ rest)) c.hex_digit.ensures ∙ ap (λ (l : List ℕ). old ++ l) all) c.push_digits.ensures
