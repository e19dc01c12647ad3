use Rattle.std.proofs.Common.{◌≡◌, ◌++◌, ℕ, List, OnOk, map, subst, sym}
use Rattle.std.specs.Prelude.{filter}
use Rattle.tta_hardware.specs.Chains.{first_of}
use Rattle.tta_boxed_rtl.specs.Cited.{UnitOp, Signal, Boxes, Due, IsFrom, Shows, text_of, is_left}
use Rattle.tta_boxed_rtl.specs.Left.{told_by}
use Rattle.tta_boxed_rtl.proofs.comings.push_shown.Goals as goal

pub returns : goal.returns
returns c =
    let m = c.args.at.now.on.now.m.now in
    let leaves = told_by c.args.at.now.leaves.now in
    let unit = c.args.unit in
    subst (λ (os : List (ℕ × UnitOp)). OnOk c.push_shown_from.result (c.push_shown_from.new.out.items
    ≡ c.args.out.now.items ++ text_of m (first_of (map (λ o. (Signal (Boxes (IsFrom unit o.0 1)), Signal (Boxes (Shows unit o.0))))
    (filter (λ o. is_left m leaves o.1) os)) (Signal (Due unit 1)))))
    (sym c.ops_at.ensures.all) c.push_shown_from.ensures
