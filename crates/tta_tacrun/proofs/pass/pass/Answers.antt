use Rattle.tta_tacrun.proofs.Passed.{passing_more}
use Rattle.tta_tacrun.proofs.pass.pass.Goals as goal

pub loop-i-preserved : goal.loop-i-preserved
loop-i-preserved c =
    passing_more c.args.variables.now.items c.loop-i.variables.items c.args.caller c.args.callee c.loop-i.i c.args.args.now _
    c.index.result.now c.index_mut-in-loop-i.result.now c.set.new.self c.value_of-word.result
    c.loop-i.invariant c.requires.caller c.requires.callee c.requires.other
    c.loop-i-test.true c.requires.fit c.index.ensures c.index_mut-in-loop-i.ensures.value c.value_of-word.ensures c.set.ensures
