use Rattle.std.proofs.Common.{◌++◌}
use Rattle.std.specs.Prelude.{codes}
use Rattle.tta_list.proofs.Lists.{then_more}
use Rattle.tta_list.proofs.Results.{onward}
use Rattle.tta_rtl.specs.Cited.{constant, case_end}
use Rattle.tta_rtl.proofs.spaces.end_code.Goals as goal

pub returns : goal.returns
unfolding case_end
returns c =
    let zero = constant c.args.width 0 in
    let end = codes ";\nendcase\nendfunction\n" in
    onward c.push_text-4.result (λ last.
    then_more _ _ _ (codes "default: ") (codes "code" ++ (codes " = " ++ (zero ++ end))) c.in_ok-push_text.ensures
    (then_more _ _ _ (codes "code") (codes " = " ++ (zero ++ end)) c.in_ok-push_text-2.ensures
    (then_more _ _ _ (codes " = ") (zero ++ end) c.in_ok-push_text-3.ensures
    (then_more _ _ _ zero end c.in_ok-push_constant.ensures last)))) c.push_text-4.ensures
