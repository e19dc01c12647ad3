use Rattle.std.proofs.Common.{◌++◌}
use Rattle.std.specs.Prelude.{codes}
use Rattle.tta_list.proofs.Lists.{then_more}
use Rattle.tta_list.proofs.Results.{onward}
use Rattle.tta_own_circuits.specs.Texts.{head_text}
use Rattle.tta_own_circuits.proofs.text.push_head.Goals as goal

pub returns : goal.returns
unfolding head_text
returns c =
    let name = c.args.name.now in
    let function = codes "\nfunction [31:0] own_" in
    let inputs = codes ";\ninput [31:0] a;\ninput [31:0] b;\n" in
    onward c.push_text-5.result (λ last.
    then_more _ _ _ (codes "// ") (name ++ (function ++ (name ++ inputs))) c.in_ok-push_text.ensures
    (then_more _ _ _ name (function ++ (name ++ inputs)) c.in_ok-push_text-2.ensures
    (then_more _ _ _ function (name ++ inputs) c.in_ok-push_text-3.ensures
    (then_more _ _ _ name inputs c.in_ok-push_text-4.ensures last)))) c.push_text-5.ensures
