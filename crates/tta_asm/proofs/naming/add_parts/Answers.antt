use Rattle.std.proofs.Common.{arith}
use Rattle.tta_asm.specs.Table.{part_at}
use Rattle.tta_asm.proofs.NameLists.{names_more}
use Rattle.tta_asm.proofs.naming.add_parts.Goals as goal

pub loop-place-preserved : goal.loop-place-preserved
loop-place-preserved g c = record {
  same = names_more (part_at c.args.kind) g.T.Named.name_of c.args.parts.now c.loop-place.place c.index-parts-place.result c.name.result.now c.at.result
      c.add_first.new.names c.loop-place.names _ (omega arith) c.index-parts-place.is c.name.ensures c.at.ensures c.in_ok-add_first.ensures
      c.loop-place.invariant.same;
}
