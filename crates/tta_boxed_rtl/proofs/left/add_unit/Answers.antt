use Rattle.std.proofs.Common.{◌≡◌, ◌++◌, ℕ, List, OnOk, map, subst, sym}
use Rattle.std.specs.Prelude.{filter}
use Rattle.tta_boxed_rtl.specs.Cited.{UnitOp, is_left}
use Rattle.tta_boxed_rtl.specs.Left.{lefts, told_by}
use Rattle.tta_boxed_rtl.proofs.left.add_unit.Goals as goal

pub returns : goal.returns
returns c =
    let m = c.args.at.now.on.now.m.now in
    let leaves = told_by c.args.at.now.leaves.now in
    subst (λ (os : List (ℕ × UnitOp)). OnOk c.add_ops.result (lefts c.add_ops.new.found.items
    ≡ lefts c.args.found.now.items ++ map (λ o. (c.args.unit, o)) (filter (λ o. is_left m leaves o.1) os)))
    (sym c.ops_at.ensures.all) c.add_ops.ensures
