use Rattle.std.proofs.Common.{◌≡◌, ◌++◌, ◌*◌}
use Rattle.std.specs.List.{flat_map}
use Rattle.tta_rtl.specs.Cited.{numbers, bits_in, field}
use Rattle.tta_rtl.specs.CodeFile.{hex_line}
use Rattle.tta_rtl.proofs.code_file.push_lines.Given as goal

-- the lines so far
abbrev pub invariant-loop-k : goal.invariant-loop-k
invariant-loop-k l =
    l.out.items ≡ l.initial.out.items ++ flat_map (λ k. hex_line l.width (field (k * l.width) l.width (bits_in l.bytes))) (numbers l.k)
