use Rattle.std.proofs.Common.{◌≡◌, ◌++◌, ◌*◌}
use Rattle.std.specs.Prelude.{codes}
use Rattle.std.specs.List.{flat_map}
use Rattle.tta_rtl.specs.Cited.{numbers, bits_in, field, case_line}
use Rattle.tta_rtl.proofs.spaces.push_code_words.Given as goal

-- the words so far
abbrev pub invariant-loop-k : goal.invariant-loop-k
invariant-loop-k l =
    l.out.items ≡ l.initial.out.items
    ++ flat_map (λ k. case_line (codes "code") l.width k (field (k * l.width) l.width (bits_in l.bytes))) (numbers l.k)
