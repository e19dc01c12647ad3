use Rattle.std.proofs.Common.{◌≡◌, ◌++◌, replicate}
use Rattle.std.specs.List.{flat_map}
use Rattle.tta_rtl.specs.CodeFile.{hex_line}
use Rattle.tta_rtl.proofs.code_file.push_zero_lines.Given as goal

-- the lines so far
abbrev pub invariant-loop : goal.invariant-loop
invariant-loop l = l.out.items ≡ l.initial.out.items ++ flat_map (hex_line l.width) (replicate l.counter 0)
