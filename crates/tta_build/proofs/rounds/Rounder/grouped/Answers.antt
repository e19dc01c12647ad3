use Rattle.std.proofs.Common.{Option, sym, subst}
use Rattle.std.specs.Prelude.{IfSome}
use Rattle.std.proofs.lemmas.Result.{IfOk-at_ok}
use Rattle.tta_build.specs.Cited.{BlockList, IsEquivalent}
use Rattle.tta_build.proofs.rounds.Rounder.grouped.Goals as goal

pub on_units-requires : goal.on_units-requires
on_units-requires c =
    let m = c.args.on.now.joined.machine.now in
    let both = c.in_ok-list.ensures in
    let some = IfOk-at_ok (λ (o : Option BlockList). IfSome o (λ r. IsEquivalent m c.args.list r)) both.other c.bound_by-bound.ensures in
    let stands = subst (λ (o : Option BlockList). IfSome o (λ r. IsEquivalent m c.args.list r)) c.in-Some.is some in
    record { stands = subst (λ (l : BlockList). IsEquivalent m l c.in-Some.bound) (sym both.first) stands; list = stands.spare.list c.requires.list }
