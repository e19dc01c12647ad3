use Rattle.std.proofs.Common.{◌++◌}
use Rattle.std.specs.Prelude.{codes}
use Rattle.tta_list.proofs.Lists.{then_more}
use Rattle.tta_list.proofs.Results.{onward}
use Rattle.tta_trap_rtl.specs.Cited.{text_of, trap_in_ready}
use Rattle.tta_trap_rtl.specs.Module.{input_lines}
use Rattle.tta_trap_rtl.proofs.pins.push_input_lines.Goals as goal

pub returns : goal.returns
unfolding input_lines
returns c =
    let shown = text_of c.args.m.now trap_in_ready in
    let rest = codes ";\n" in
    onward c.push_text-2.result (λ last.
    then_more _ _ _ (codes "assign in_ready = ") (shown ++ rest) c.in_ok-push_text.ensures
    (then_more _ _ _ shown rest c.in_ok-push_in_ready.ensures last)) c.push_text-2.ensures
