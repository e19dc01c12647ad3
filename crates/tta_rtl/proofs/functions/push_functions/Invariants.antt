use Rattle.std.proofs.Common.{◌≡◌, ◌++◌}
use Rattle.std.specs.List.{flat_map}
use Rattle.tta_rtl.specs.Cited.{stated, numbers}
use Rattle.tta_rtl.specs.Functions.{offered_text}
use Rattle.tta_rtl.proofs.functions.push_functions.Given as goal

-- the functions so far
abbrev pub invariant-loop-op : goal.invariant-loop-op
invariant-loop-op g l =
    l.out.items ≡ l.initial.out.items
    ++ flat_map (offered_text (stated (λ v. (goal.OpUnit-dyn g v).unit_meaning v.1) l.units) l.m) (numbers l.op)
