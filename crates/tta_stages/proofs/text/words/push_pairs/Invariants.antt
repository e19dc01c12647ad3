use Rattle.std.proofs.Common.{◌≡◌, ◌++◌, take}
use Rattle.std.specs.List.{flat_map}
use Rattle.std.specs.Prelude.{codes}
use Rattle.tta_stages.specs.Words.{pair_text}
use Rattle.tta_stages.proofs.text.words.push_pairs.Given as goal

abbrev pub invariant-loop-register : goal.invariant-loop-register
invariant-loop-register l =
    l.out.items ≡ l.initial.out.items ++ flat_map (λ r. codes " " ++ pair_text l.m r) (take l.register-index l.all)
