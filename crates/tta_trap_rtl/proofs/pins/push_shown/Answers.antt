use Rattle.std.proofs.Common.{[], ◌++◌}
use Rattle.std.specs.Prelude.{codes}
use Rattle.std.specs.Bool.{if◌then◌else◌}
use Rattle.tta_list.proofs.Lists.{then_more}
use Rattle.tta_list.proofs.Results.{onward}
use Rattle.tta_trap_rtl.specs.Module.{input_lines, output_lines}
use Rattle.tta_trap_rtl.proofs.pins.push_shown.Goals as goal

pub returns : goal.returns
returns c =
    let first = codes "assign halted = n_halted;\nassign cycle = n_goes;\nassign pc = n_pc;\nassign fault = n_fault;\n" in
    let gives = if c.args.gives then output_lines c.args.m.now else [] in
    let takes = if c.args.takes then input_lines c.args.m.now else [] in
    onward c.push_text-2.result (λ last.
    then_more _ _ _ first (gives ++ (takes ++ codes "endmodule\n")) c.in_ok-push_text.ensures
    (then_more _ _ _ gives (takes ++ codes "endmodule\n") c.in_ok-push_output.ensures
    (then_more _ _ _ takes (codes "endmodule\n") c.in_ok-push_input.ensures last))) c.push_text-2.ensures
