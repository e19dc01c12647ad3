use Rattle.std.proofs.Common.{◌≡◌, ◌++◌}
use Rattle.std.specs.List.{flat_map, range_with_len}
use Rattle.tta_rtl.specs.Kept.{underway_line}
use Rattle.tta_rtl.proofs.states.push_underway_lines.Given as goal

-- the registers so far
abbrev pub invariant-loop-before : goal.invariant-loop-before
invariant-loop-before l = l.out.items ≡ l.initial.out.items ++ flat_map (underway_line l.on.m.now l.declares) (range_with_len 1 l.before)
