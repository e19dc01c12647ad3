use Rattle.std.proofs.Common.{◌++◌}
use Rattle.std.specs.Prelude.{codes}
use Rattle.tta_list.proofs.Lists.{then_more}
use Rattle.tta_list.proofs.Results.{onward}
use Rattle.tta_own_circuits.specs.Texts.{made_text}
use Rattle.tta_own_circuits.proofs.text.push_made.Goals as goal

pub returns : goal.returns
unfolding made_text
returns c =
    let name = c.args.name.now in
    let before = c.args.text.before.now in
    let word = c.args.text.word.now in
    let end = codes ";\nend\nendfunction\n" in
    onward c.push_text-6.result (λ last.
    then_more _ _ _ before (codes "own_" ++ (name ++ (codes " = " ++ (word ++ end)))) c.in_ok-push_text.ensures
    (then_more _ _ _ (codes "own_") (name ++ (codes " = " ++ (word ++ end))) c.in_ok-push_text-2.ensures
    (then_more _ _ _ name (codes " = " ++ (word ++ end)) c.in_ok-push_text-3.ensures
    (then_more _ _ _ (codes " = ") (word ++ end) c.in_ok-push_text-4.ensures
    (then_more _ _ _ word end c.in_ok-push_text-5.ensures last))))) c.push_text-6.ensures
