use Rattle.std.proofs.Common.{map, drop, ◌++◌}
use Rattle.tta_asm.specs.Parts.{by_place}
use Rattle.tta_asm.specs.Table.{NameTheSame, part_at}
use Rattle.tta_asm.proofs.naming.add_parts.Given as goal

abbrev pub invariant-loop-place : goal.invariant-loop-place
invariant-loop-place g l = record {
  same : NameTheSame (l.names ++ by_place (part_at l.kind) l.place (map g.T.Named.name_of (drop l.place l.parts)))
      (l.initial.names ++ by_place (part_at l.kind) 0 (map g.T.Named.name_of l.parts));
}
