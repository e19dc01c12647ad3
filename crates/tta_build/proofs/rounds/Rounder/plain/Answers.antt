use Rattle.tta_optim.proofs.Passing.{passed_is}
use Rattle.tta_build.proofs.rounds.Rounder.plain.Goals as goal

pub returns-clause-round : goal.returns-clause-round
returns-clause-round c = record { ordered = tt; bound = tt; passed = c.in_ok-passed.ensures }

pub returns-clause-last : goal.returns-clause-last
returns-clause-last c = passed_is c.args.on.now.joined.machine.now c.args.list.now c.in_ok-passed.passed c.in_ok-passed.ensures
