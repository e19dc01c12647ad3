use Rattle.std.proofs.Common.{◌≡◌, ◌-◌}
use Rattle.std.specs.List.{list_any}
use Rattle.tta_lower.specs.LoweringInput.{first_by}
use Rattle.tta_lower.specs.Layout.{vars_of}
use Rattle.tta_lower.specs.Lower.{numbers}
use Rattle.tta_lower.proofs.parts.is_any_live.Given as goal

abbrev pub invariant-loop-x : goal.invariant-loop-x
invariant-loop-x l =
    list_any (first_by l.p l.live l.owner) (numbers 0 (vars_of l.p l.owner))
    ≡ list_any (first_by l.p l.live l.owner) (numbers l.x (vars_of l.p l.owner - l.x))
