use Rattle.std.proofs.Common.{[], ◌++◌}
use Rattle.std.specs.Prelude.{codes}
use Rattle.tta_list.proofs.Lists.{then_more}
use Rattle.tta_list.proofs.Results.{onward}
use Rattle.std.specs.Bool.{if◌then◌else◌}
use Rattle.tta_rtl.proofs.pins.push_shown.Goals as goal

pub returns : goal.returns
returns c =
    let output = codes "assign out_valid = (!(reset))&&((!(n_halted))&&(n_gives));\nassign out_data = n_put;\n" in
    let gives = if c.args.gives then output else [] in
    let takes = if c.args.takes then codes "assign in_ready = (!(reset))&&((!(n_halted))&&(n_asks));\n" else [] in
    onward c.push_text-2.result (λ last.
    then_more _ _ _ (codes "assign halted = n_halted;\nassign cycle = n_goes;\nassign pc = n_pc;\n") (gives ++ (takes ++ codes "endmodule\n"))
    c.in_ok-push_text.ensures
    (then_more _ _ _ gives (takes ++ codes "endmodule\n") c.in_ok-push_if.ensures
    (then_more _ _ _ takes (codes "endmodule\n") c.in_ok-push_if-2.ensures last))) c.push_text-2.ensures
