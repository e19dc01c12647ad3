use Rattle.std.proofs.Common.{◌∙◌}
use Rattle.tta_tac.specs.Cited.{texts}
use Rattle.tta_tac.proofs.params.sees_twice.Goals as goal
use Rattle.tta_tac.proofs.Twice.{is_twice_none, is_twice_step}

pub loop-word-init : goal.loop-word-init
loop-word-init c = rw c.requires (is_twice_none (Unit {0}) (texts c.args.words.now))

pub loop-word-preserved : goal.loop-word-preserved
loop-word-preserved c =
    is_twice_step c.loop-word.seen c.add.new.self tt c.args.words.now c.loop-word.word-index _ c.loop-word-test.true
    c.in_ok-add.ensures.ok (cc)
    ∙ c.loop-word.invariant
