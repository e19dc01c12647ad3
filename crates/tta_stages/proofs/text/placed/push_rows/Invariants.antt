use Rattle.std.proofs.Common.{◌≡◌, ◌++◌, ◌+◌}
use Rattle.std.specs.List.{flat_map}
use Rattle.tta_stages.specs.Cited.{stated, numbers}
use Rattle.tta_stages.specs.ListText.{row_at}
use Rattle.tta_stages.proofs.text.placed.push_rows.Given as goal

abbrev pub invariant-loop-cycle : goal.invariant-loop-cycle
invariant-loop-cycle g l =
    let U = stated (λ v. (goal.OpUnit-dyn g v).unit_meaning v.1) l.units in
    l.out.items ≡ l.initial.out.items ++ flat_map (λ c. row_at U l.m l.words (l.start + c)) (numbers l.cycle)
