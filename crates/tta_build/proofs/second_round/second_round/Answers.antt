use Rattle.std.proofs.Common.{Option, subst}
use Rattle.std.specs.Prelude.{IfSome}
use Rattle.tta_build.specs.declared.trail.Round.{Round}
use Rattle.tta_build.specs.Derivation.{IsRound}
use Rattle.tta_build.proofs.second_round.second_round.Goals as goal

pub round_fit-requires : goal.round_fit-requires
round_fit-requires c = record {
  list = c.requires.list;
  round = subst (λ (o : Option Round). IfSome o (λ r. IsRound c.args.on.now.joined.machine.now c.args.list.now r)) c.in-Some.is c.in_ok-round.ensures;
}
