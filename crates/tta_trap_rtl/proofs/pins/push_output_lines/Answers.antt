use Rattle.std.proofs.Common.{◌++◌}
use Rattle.std.specs.Prelude.{codes}
use Rattle.tta_list.proofs.Lists.{then_more}
use Rattle.tta_list.proofs.Results.{onward}
use Rattle.tta_trap_rtl.specs.Cited.{text_of, trap_out_valid}
use Rattle.tta_trap_rtl.specs.Module.{output_lines}
use Rattle.tta_trap_rtl.proofs.pins.push_output_lines.Goals as goal

pub returns : goal.returns
unfolding output_lines
returns c =
    let shown = text_of c.args.m.now trap_out_valid in
    let rest = codes ";\nassign out_data = n_put;\n" in
    onward c.push_text-2.result (λ last.
    then_more _ _ _ (codes "assign out_valid = ") (shown ++ rest) c.in_ok-push_text.ensures
    (then_more _ _ _ shown rest c.in_ok-push_out_valid.ensures last)) c.push_text-2.ensures
