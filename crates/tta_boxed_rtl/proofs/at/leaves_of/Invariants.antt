use Rattle.std.proofs.Common.{◌≡◌, map, take}
use Rattle.tta_rtl.specs.Cited.{stated}
use Rattle.tta_boxed_rtl.specs.Left.{may_be_left}
use Rattle.tta_boxed_rtl.proofs.at.leaves_of.Given as goal

-- what is told so far
abbrev pub invariant-loop-op : goal.invariant-loop-op
invariant-loop-op g l =
    let u = stated (λ v. (goal.OpUnit-dyn g v).unit_meaning v.1) l.units in
    l.leaves.items ≡ map may_be_left (take l.op u.names)
