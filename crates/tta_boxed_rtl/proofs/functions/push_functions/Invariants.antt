use Rattle.std.proofs.Common.{◌≡◌, ◌++◌}
use Rattle.std.specs.List.{flat_map}
use Rattle.tta_rtl.specs.Cited.{stated, numbers}
use Rattle.tta_boxed_rtl.specs.Left.{made_function, told_by}
use Rattle.tta_boxed_rtl.proofs.functions.push_functions.Given as goal

-- the functions so far
abbrev pub invariant-loop-op : goal.invariant-loop-op
invariant-loop-op g l =
    let u = stated (λ v. (goal.OpUnit-dyn g v).unit_meaning v.1) l.units in
    l.out.items ≡ l.initial.out.items ++ flat_map (made_function u l.at.on.now.m.now (told_by l.at.leaves.now)) (numbers l.op)
