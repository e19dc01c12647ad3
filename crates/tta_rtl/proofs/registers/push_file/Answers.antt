use Rattle.std.proofs.Common.{List, ℕ, ◌++◌, sym, ap, ◌∙◌}
use Rattle.tta_list.proofs.Results.{onward}
use Rattle.tta_rtl.proofs.RegisterTexts.{file_lines}
use Rattle.tta_rtl.proofs.registers.push_file.Goals as goal

pub returns : goal.returns
returns c =
    onward c.push_file_lines.result (λ last.
    last ∙ ap (λ (t : List ℕ). c.args.out.now.items ++ t) (sym (file_lines c.args.on.now.m.now c.args.declares c.args.file c.args.size)))
    c.push_file_lines.ensures
