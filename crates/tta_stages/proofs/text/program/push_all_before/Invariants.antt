use Rattle.std.proofs.Common.{◌≡◌, ◌++◌}
use Rattle.std.specs.List.{flat_map}
use Rattle.tta_stages.specs.Cited.{numbers, live_before}
use Rattle.tta_stages.specs.Words.{var_if}
use Rattle.tta_stages.proofs.text.program.push_all_before.Given as goal

abbrev pub invariant-loop-x : goal.invariant-loop-x
invariant-loop-x l =
    l.out.items ≡ l.initial.out.items ++ flat_map (λ x. var_if (live_before l.live l.owner l.step x) x) (numbers l.x)
