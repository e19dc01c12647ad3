use Rattle.std.proofs.Common.{List, ℕ, ◌++◌, sym, ap, ◌∙◌}
use Rattle.tta_list.proofs.Results.{onward}
use Rattle.tta_rtl.proofs.RegisterTexts.{underway_lines}
use Rattle.tta_rtl.proofs.states.push_underways.Goals as goal

pub returns : goal.returns
returns c =
    onward c.push_underway_lines.result (λ last.
    last ∙ ap (λ (t : List ℕ). c.args.out.now.items ++ t) (sym (underway_lines c.args.on.now.m.now c.args.declares)))
    c.push_underway_lines.ensures
