use Rattle.std.proofs.Common.{List, ℕ, ◌++◌, sym, ap, ◌∙◌}
use Rattle.std.specs.List.{flat_map, enumerate_from}
use Rattle.tta_list.proofs.Lists.{then_more}
use Rattle.tta_list.proofs.Results.{onward}
use Rattle.tta_rtl.specs.Cited.{unit_registers}
use Rattle.tta_rtl.specs.Kept.{underways, fixed}
use Rattle.tta_rtl.specs.Texts.{registers_text}
use Rattle.tta_rtl.proofs.Modules.{kept_names, registers_parts}
use Rattle.tta_rtl.proofs.whole.push_registers.Goals as goal

pub returns : goal.returns
returns c =
    let m = c.args.on.now.m.now in
    let d = c.args.declares in
    let old = c.args.out.now.items in
    let kept = registers_text m d (kept_names m) in
    let units = registers_text m d (flat_map (unit_registers m) (enumerate_from 0 m.units)) in
    let states = registers_text m d (underways m ++ fixed) in
    onward c.push_states.result (λ last.
    then_more _ _ _ kept (units ++ states) c.in_ok-push_kept.ensures
    (then_more _ _ _ units states c.in_ok-push_pipes.ensures last)
    ∙ ap (λ (t : List ℕ). old ++ t) (sym (registers_parts m d))) c.push_states.ensures
