use Rattle.std.proofs.Common.{◌≡◌, ◌++◌, take}
use Rattle.std.specs.List.{flat_map}
use Rattle.tta_block_profile.specs.Report.{block_line}
use Rattle.tta_block_profile.proofs.report.push_lines.Given as goal

abbrev pub invariant-loop-s : goal.invariant-loop-s
invariant-loop-s l =
    l.out.items
    ≡ l.initial.out.items
    ++ flat_map (λ s. block_line l.profiled.counts.now l.profiled.whole l.blocks.program.now l.blocks.parts.now l.blocks.starts.now l.blocks.placed.now s.block) (take l.s-index l.order)
