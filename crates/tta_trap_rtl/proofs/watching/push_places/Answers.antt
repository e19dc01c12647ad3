use Rattle.std.proofs.Common.{◌++◌, length}
use Rattle.std.specs.List.{flat_map, enumerate_from}
use Rattle.tta_list.proofs.Lists.{then_more}
use Rattle.tta_list.proofs.Results.{onward}
use Rattle.tta_trap_rtl.specs.Cited.{numbers, KeptRa, HasWord}
use Rattle.tta_trap_rtl.specs.Texts.{lines_of_file, lines_of_imm, lines_of_unit, watch_line}
use Rattle.tta_trap_rtl.proofs.watching.push_places.Goals as goal

pub returns : goal.returns
returns c =
    let m = c.args.on.now.m.now in
    let d = c.args.declares in
    let files = flat_map (lines_of_file m d) (enumerate_from 0 m.files) in
    let imms = flat_map (lines_of_imm m d) (enumerate_from 0 m.imms) in
    let units = flat_map (lines_of_unit m d) (numbers (length m.units)) in
    let last_line = watch_line m d (HasWord KeptRa) in
    onward c.push_register.result (λ last.
    then_more _ _ _ files (imms ++ (units ++ last_line)) c.in_ok-push_files.ensures
    (then_more _ _ _ imms (units ++ last_line) c.in_ok-push_imms.ensures
    (then_more _ _ _ units last_line c.in_ok-push_units.ensures last))) c.push_register.ensures
