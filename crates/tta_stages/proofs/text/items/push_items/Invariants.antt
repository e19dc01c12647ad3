use Rattle.std.proofs.Common.{◌≡◌, ◌++◌, take}
use Rattle.std.specs.List.{flat_map}
use Rattle.tta_stages.specs.Cited.{stated}
use Rattle.tta_stages.specs.ListText.{item_line}
use Rattle.tta_stages.proofs.text.items.push_items.Given as goal

abbrev pub invariant-loop-x : goal.invariant-loop-x
invariant-loop-x g l =
    let U = stated (λ v. (goal.OpUnit-dyn g v).unit_meaning v.1) l.units in
    l.out.items ≡ l.initial.out.items ++ flat_map (item_line U l.m) (take l.x-index l.items)
