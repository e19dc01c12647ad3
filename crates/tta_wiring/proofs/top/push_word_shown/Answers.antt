use Rattle.std.proofs.Common.{◌++◌}
use Rattle.std.specs.Prelude.{codes}
use Rattle.tta_list.proofs.Lists.{then_more}
use Rattle.tta_list.proofs.Results.{onward}
use Rattle.tta_verilog.specs.Expressions.{between}
use Rattle.tta_wiring.specs.Queues.{numbered}
use Rattle.tta_wiring.specs.Top.{word_shown}
use Rattle.tta_wiring.proofs.top.push_word_shown.Goals as goal

pub returns : goal.returns
unfolding word_shown
returns c =
    let core = c.args.core in
    let valid = numbered (codes "assign out_valid_") core in
    let test = between (codes "&&") (numbered (codes "valid_") core) (numbered (codes "rooms_") core) in
    let second = numbered (codes ";\nassign out_data_") core in
    let word = numbered (codes " = word_") core in
    let r4 = word ++ codes ";\n" in
    let r3 = second ++ r4 in
    let r2 = test ++ r3 in
    let r1 = codes " = " ++ r2 in
    onward c.push_text-2.result (λ last.
    then_more _ _ _ valid r1 c.in_ok-push_numbered.ensures
    (then_more _ _ _ (codes " = ") r2 c.in_ok-push_text.ensures
    (then_more _ _ _ test r3 c.in_ok-push_both.ensures
    (then_more _ _ _ second r4 c.in_ok-push_numbered-2.ensures
    (then_more _ _ _ word (codes ";\n") c.in_ok-push_numbered-3.ensures last))))) c.push_text-2.ensures
