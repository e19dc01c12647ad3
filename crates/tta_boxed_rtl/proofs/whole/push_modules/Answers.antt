use Rattle.std.proofs.Common.{◌++◌, ℕ, List, ap, ◌∙◌}
use Rattle.std.specs.List.{flat_map}
use Rattle.tta_list.proofs.Lists.{then_more}
use Rattle.tta_list.proofs.Results.{onward}
use Rattle.tta_rtl.specs.Cited.{stated}
use Rattle.tta_rtl.specs.Memories.{words_in}
use Rattle.tta_boxed_rtl.specs.Cited.{UnitOp, boxed}
use Rattle.tta_boxed_rtl.specs.Left.{lefts, told_by}
use Rattle.tta_boxed_rtl.specs.Beside.{divider_of}
use Rattle.tta_boxed_rtl.specs.Parts.{circuit_by}
use Rattle.tta_boxed_rtl.specs.Module.{module_text}
use Rattle.tta_boxed_rtl.proofs.whole.push_modules.Goals as goal

pub returns : goal.returns
returns g c =
    let of = c.args.of.now in
    let core = of.core.now in
    let m = core.on.now.m.now in
    let leaves = told_by of.leaves.now in
    let u = stated (λ v. (goal.OpUnit-dyn g v).unit_meaning v.1) core.units.now in
    let circuit = boxed m leaves (circuit_by of.faults m core.words (words_in m core.body.now core.words) core.first.now) in
    let text = module_text u m core.rom of.faults leaves circuit in
    let dividers : List (ℕ × (ℕ × UnitOp)) → List ℕ = flat_map (divider_of u m) in
    onward c.push_dividers.result (λ last.
    then_more _ _ _ text (dividers (lefts of.left.now)) c.in_ok-push_module.ensures last
    ∙ ap (λ (ls : List (ℕ × (ℕ × UnitOp))). c.args.out.now.items ++ (text ++ dividers ls)) of.left_is) c.push_dividers.ensures
