use Rattle.std.proofs.Common.{◌++◌}
use Rattle.std.specs.List.{flat_map, enumerate_from}
use Rattle.tta_list.proofs.Lists.{then_more}
use Rattle.tta_list.proofs.Results.{onward}
use Rattle.tta_rtl.proofs.Modules.{kept_names}
use Rattle.tta_boxed_rtl.specs.Cited.{fixed, registers_text, underways}
use Rattle.tta_boxed_rtl.specs.Left.{told_by}
use Rattle.tta_boxed_rtl.specs.Texts.{unit_lines}
use Rattle.tta_boxed_rtl.proofs.registers.push_plain.Goals as goal

pub returns : goal.returns
returns c =
    let m = c.args.at.now.on.now.m.now in
    let d = c.args.declares in
    let units = flat_map (unit_lines m (told_by c.args.at.now.leaves.now) d) (enumerate_from 0 m.units) in
    let states = registers_text m d (underways m ++ fixed) in
    onward c.push_states.result (λ last.
    then_more _ _ _ (registers_text m d (kept_names m)) (units ++ states) c.in_ok-push_kept.ensures
    (then_more _ _ _ units states c.in_ok-push_units.ensures last)) c.push_states.ensures
