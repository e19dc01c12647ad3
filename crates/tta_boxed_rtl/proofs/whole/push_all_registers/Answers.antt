use Rattle.std.proofs.Common.{◌++◌, ℕ, List, ap, ◌∙◌}
use Rattle.std.specs.List.{flat_map}
use Rattle.tta_list.proofs.Results.{onward}
use Rattle.tta_boxed_rtl.specs.Cited.{UnitOp}
use Rattle.tta_boxed_rtl.specs.Left.{told_by}
use Rattle.tta_boxed_rtl.specs.Texts.{left_lines, plain_lines, telling_lines}
use Rattle.tta_boxed_rtl.proofs.whole.push_all_registers.Goals as goal

pub returns : goal.returns
returns g c =
    let of = c.args.of.now in
    let m = of.core.now.on.now.m.now in
    let leaves = told_by of.leaves.now in
    let d = c.args.declares in
    let lines : List (ℕ × (ℕ × UnitOp)) → List ℕ = flat_map (left_lines m leaves d) in
    onward c.push_registers.result (λ last. last ∙ ap (λ (ls : List (ℕ × (ℕ × UnitOp))). c.args.out.now.items
    ++ (plain_lines m leaves d ++ (telling_lines m of.faults d ++ lines ls))) of.left_is) c.push_registers.ensures
