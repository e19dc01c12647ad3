use Rattle.std.proofs.Common.{◌≡◌, ◌++◌, take}
use Rattle.std.specs.List.{flat_map}
use Rattle.std.specs.Prelude.{codes}
use Rattle.tta_stages.specs.Words.{home_text}
use Rattle.tta_stages.proofs.text.register.push_homes.Given as goal

abbrev pub invariant-loop-k : goal.invariant-loop-k
invariant-loop-k l =
    l.out.items ≡ l.initial.out.items ++ flat_map (λ k. codes " " ++ home_text l.on.m.now l.on.homes.now k) (take l.k-index l.live)
