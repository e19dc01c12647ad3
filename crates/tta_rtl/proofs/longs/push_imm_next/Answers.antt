use Rattle.std.proofs.Common.{List, ℕ, ◌++◌, sym, ap, ◌∙◌}
use Rattle.std.specs.List.{flat_map, enumerate_from}
use Rattle.tta_list.proofs.Lists.{then_more}
use Rattle.tta_list.proofs.Results.{onward}
use Rattle.tta_rtl.specs.Cited.{KeptImm, place_name}
use Rattle.tta_rtl.specs.Kept.{long_choice}
use Rattle.tta_rtl.proofs.RegisterTexts.{imm_next}
use Rattle.tta_rtl.proofs.longs.push_imm_next.Goals as goal

pub returns : goal.returns
returns c =
    let m = c.args.on.now.m.now in
    let unit = c.args.unit in
    let index = c.args.index in
    let name = place_name m (KeptImm unit index) in
    let brings = flat_map (long_choice m unit index) (enumerate_from 0 m.templates) in
    onward c.push_immediate.result (λ last.
    then_more _ _ _ brings name c.in_ok-push_all_longs.ensures last
    ∙ ap (λ (t : List ℕ). c.args.out.now.items ++ t) (sym (imm_next m unit index))) c.push_immediate.ensures
