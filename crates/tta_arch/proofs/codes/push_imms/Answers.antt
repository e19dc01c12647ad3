use Rattle.std.proofs.Common.{map}
use Rattle.tta_arch.specs.Fields.{numbers}
use Rattle.tta_arch.specs.declared.ends.Source.TheVariants as source
use Rattle.tta_arch.proofs.CodeLists.{pieces_more}
use Rattle.tta_arch.proofs.codes.push_imms.Goals as goal

pub loop-unit-preserved : goal.loop-unit-preserved
loop-unit-preserved c =
    pieces_more (λ u. map (source.Imm u.0) (numbers u.1.size)) _ _ _ c.args.imms.now c.loop-unit.unit c.index-imms-unit.result c.loop-unit-test.true c.index-imms-unit.is c.in_ok-push_imm.ensures.ok c.loop-unit.invariant
