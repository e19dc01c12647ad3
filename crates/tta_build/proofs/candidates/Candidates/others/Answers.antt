use Rattle.std.proofs.Common.{Option, subst}
use Rattle.std.specs.Prelude.{IfSome}
use Rattle.tta_build.specs.Cited.{BlockList, IsEquivalent}
use Rattle.tta_build.proofs.Trails.{no_trails}
use Rattle.tta_build.proofs.candidates.Candidates.others.Goals as goal

pub of_served-requires : goal.of_served-requires
of_served-requires c =
    let stands = subst (λ (o : Option BlockList). IfSome o (λ r. IsEquivalent c.args.on.now.joined.machine.now c.args.b.now r)) c.in-Some.is c.in_ok-served.ensures in
    record { list = stands.spare.list c.requires.list }

pub returns-in_ok-of_served-in-Some : goal.returns-in_ok-of_served-in-Some
returns-in_ok-of_served-in-Some c =
    let m = c.args.on.now.joined.machine.now in
    let stands = subst (λ (o : Option BlockList). IfSome o (λ r. IsEquivalent m c.args.b.now r)) c.in-Some.is c.in_ok-served.ensures in
    c.in_ok-of_served-in-Some.ensures c.args.b.now stands (no_trails m c.args.b.now c.new-lists.result.items c.new-lists.ensures.items)

pub returns-in_ok-of_own-in-None : goal.returns-in_ok-of_own-in-None
returns-in_ok-of_own-in-None c =
    c.in_ok-of_own-in-None.ensures (no_trails c.args.on.now.joined.machine.now c.args.b.now c.new-lists.result.items c.new-lists.ensures.items)
