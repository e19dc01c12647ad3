use Rattle.std.proofs.Common.{◌≡◌, ◌++◌}
use Rattle.std.specs.List.{flat_map, range_with_len}
use Rattle.tta_trap_rtl.specs.Texts.{imm_line}
use Rattle.tta_trap_rtl.proofs.watching.push_imm_lines.Given as goal

-- the registers so far
abbrev pub invariant-loop-index : goal.invariant-loop-index
invariant-loop-index l = l.out.items ≡ l.initial.out.items ++ flat_map (imm_line l.on.m.now l.declares l.unit) (range_with_len 0 l.index)
