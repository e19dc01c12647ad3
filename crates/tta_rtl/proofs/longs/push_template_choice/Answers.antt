use Rattle.std.proofs.Common.{◌++◌}
use Rattle.std.specs.Prelude.{codes}
use Rattle.tta_list.proofs.Lists.{then_more}
use Rattle.tta_list.proofs.Results.{onward}
use Rattle.tta_rtl.specs.Cited.{text_of}
use Rattle.tta_rtl.specs.Kept.{has_template, template_choice}
use Rattle.tta_rtl.specs.Texts.{choice_start}
use Rattle.tta_rtl.proofs.longs.push_template_choice.Goals as goal

pub returns : goal.returns
unfolding template_choice choice_start
returns c =
    let test = text_of c.args.on.now.m.now (has_template c.args.on.now.m.now c.args.template) in
    onward c.push_text-2.result (λ last.
    then_more _ _ _ (codes "(") (test ++ codes ")?(n_long):") c.in_ok-push_text.ensures
    (then_more _ _ _ test (codes ")?(n_long):") c.in_ok-push_has_template.ensures last)) c.push_text-2.ensures
