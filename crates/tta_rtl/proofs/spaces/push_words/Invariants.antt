use Rattle.std.proofs.Common.{◌≡◌, ◌++◌, drop}
use Rattle.std.specs.List.{flat_map, enumerate_from}
use Rattle.tta_rtl.specs.Cited.{first_line}
use Rattle.tta_rtl.proofs.spaces.push_words.Given as goal

-- what stands so far and the rest of the words are all of them
abbrev pub invariant-loop-k : goal.invariant-loop-k
invariant-loop-k l =
    l.out.items ++ flat_map (λ o. first_line l.name 32 o.0 o.1) (enumerate_from l.k (drop l.k l.words))
    ≡ l.initial.out.items ++ flat_map (λ o. first_line l.name 32 o.0 o.1) (enumerate_from 0 l.words)
