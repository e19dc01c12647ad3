use Rattle.tta_flow.specs.Steps.{is_var}
use Rattle.tta_flow.proofs.GrowthLemmas.{each_none, each_more, each_all}
use Rattle.tta_flow.proofs.reads.add_all.Goals as goal

pub loop-operand-init : goal.loop-operand-init
loop-operand-init c = each_none is_var c.args.operands.now _

pub loop-operand-preserved : goal.loop-operand-preserved
loop-operand-preserved c =
    each_more is_var c.args.operands.now c.loop-operand.operand-index _ _ _ _ c.loop-operand-test.true c.loop-operand.invariant c.add_var.ensures

pub returns : goal.returns
returns c = each_all is_var c.args.operands.now c.loop-operand.operand-index _ _ c.loop-operand-test.false c.loop-operand.invariant
