use Rattle.std.proofs.Common.{ℕ, ◌-◌, List, ◌++◌, sym, ap, ◌∙◌, arith}
use Rattle.std.specs.Prelude.{codes}
use Rattle.tta_list.proofs.Lists.{then_more}
use Rattle.tta_list.proofs.Results.{onward}
use Rattle.tta_rtl.specs.CodeFile.{hex_text}
use Rattle.tta_rtl.proofs.CodeFiles.{zero_more}
use Rattle.tta_rtl.proofs.code_file.+push_zeros.Goals as goal

pub returns : goal.returns
returns t c =
    let old = c.args.out.now.items in
    onward c.push_zeros.result (λ last.
    then_more old c.push_text.new.out.items c.push_zeros.new.out.items (codes "0") (hex_text (c.args.digits - 1) 0) c.in_ok-push_text.ensures last
    ∙ ap (λ (l : List ℕ). old ++ l) (sym (zero_more c.args.digits (omega (arith, c.if-digits-eq0.false))))) c.push_zeros.ensures
