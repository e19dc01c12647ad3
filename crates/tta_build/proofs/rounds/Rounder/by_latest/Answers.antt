use Rattle.std.proofs.Common.{Option, subst}
use Rattle.std.specs.Prelude.{IfSome}
use Rattle.tta_build.specs.Cited.{BlockList, IsEquivalent}
use Rattle.tta_build.proofs.rounds.Rounder.by_latest.Goals as goal

pub in_order-requires : goal.in_order-requires
in_order-requires c =
    let stands = subst (λ (o : Option BlockList). IfSome o (λ r. IsEquivalent c.args.on.now.joined.machine.now c.args.list.now r)) c.in-Some.is c.in_ok-other.ensures in
    record { list = stands.spare.list c.requires.list }

pub returns-in_ok-round-in-Some : goal.returns-in_ok-round-in-Some
returns-in_ok-round-in-Some c =
    let stands = subst (λ (o : Option BlockList). IfSome o (λ r. IsEquivalent c.args.on.now.joined.machine.now c.args.list.now r)) c.in-Some.is c.in_ok-other.ensures in
    c.in_ok-round-in-Some.ensures c.args.list.now stands
