use Rattle.std.proofs.Common.{List, ℕ, ◌++◌, sym, ap, ◌∙◌}
use Rattle.tta_list.proofs.Results.{onward}
use Rattle.tta_rtl.proofs.RegisterTexts.{imm_lines}
use Rattle.tta_rtl.proofs.longs.push_imm.Goals as goal

pub returns : goal.returns
returns c =
    onward c.push_imm_lines.result (λ last.
    last ∙ ap (λ (t : List ℕ). c.args.out.now.items ++ t) (sym (imm_lines c.args.on.now.m.now c.args.declares c.args.unit c.args.size)))
    c.push_imm_lines.ensures
