use Rattle.std.proofs.Common.{◌++◌}
use Rattle.std.specs.Prelude.{codes}
use Rattle.tta_list.proofs.Lists.{then_more}
use Rattle.tta_list.proofs.Results.{onward}
use Rattle.tta_rtl.specs.Functions.{function_head, called_text, own_text}
use Rattle.tta_rtl.proofs.functions.push_own.Goals as goal

pub returns : goal.returns
unfolding own_text
returns c =
    let name = c.args.name.now in
    let op = c.args.id.0 in
    onward c.push_called.result (λ last.
    then_more _ _ _ (codes "`include \"") (name ++ (codes ".v\"\n" ++ (function_head op name ++ called_text op name))) c.in_ok-push_text.ensures
    (then_more _ _ _ name (codes ".v\"\n" ++ (function_head op name ++ called_text op name)) c.in_ok-push_text-2.ensures
    (then_more _ _ _ (codes ".v\"\n") (function_head op name ++ called_text op name) c.in_ok-push_text-3.ensures
    (then_more _ _ _ (function_head op name) (called_text op name) c.in_ok-start_function.ensures last)))) c.push_called.ensures
