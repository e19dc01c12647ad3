use Rattle.std.proofs.Common.{List, ℕ, true, ◌++◌, ap, ◌∙◌}
use Rattle.std.specs.Prelude.{codes}
use Rattle.tta_list.proofs.Results.{onward}
use Rattle.tta_rtl.specs.Cited.{Layout, reading}
use Rattle.tta_rtl.specs.Texts.{register_line}
use Rattle.tta_rtl.proofs.states.push_word.Goals as goal

pub returns : goal.returns
unfolding reading
returns c =
    let line : ℕ → List ℕ = λ width. register_line c.args.declares width true (codes "n_word") (codes "code(n_next_pc)") in
    onward c.push_state.result (λ last.
    last ∙ ap (λ (width : ℕ). c.args.out.now.items ++ line width) (ap (λ (l : Layout). l.width) c.args.on.now.layout_is)) c.push_state.ensures
