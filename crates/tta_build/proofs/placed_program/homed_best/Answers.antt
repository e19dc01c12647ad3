use Rattle.std.proofs.Common.{◌≡◌, Option, sym, subst}
use Rattle.std.specs.Prelude.{IfSome}
use Rattle.std.proofs.lemmas.Result.{IfOk-at_ok}
use Rattle.tta_build.specs.Cited.{stated, Homes}
use Rattle.tta_build.specs.declared.register.RegisterOrder.TheVariants.{Least}
use Rattle.tta_build.specs.declared.placed_program.Homed.{Homed}
use Rattle.tta_build.specs.RegisterOrder.{AreHomesBy}
use Rattle.tta_build.specs.Value.{IsListedWith, IsHomedBest}
use Rattle.tta_build.proofs.Compiling.{in_turn, of_two}
use Rattle.tta_build.proofs.placed_program.homed_best.Goals as goal

pub returns-in-None-clause-best : goal.returns-in-None-clause-best
returns-in-None-clause-best g c =
    let U = stated (λ v. (goal.OpUnit-dyn g v).unit_meaning v.1) c.args.units.now in
    let m = c.args.on.now.joined.machine.now in
    let choice = c.args.on.now.choice.now in
    let p = c.args.p.now in
    let known = c.args.known.now in
    subst (IsHomedBest U m choice p known) (sym c.in_ok-first-2.ensures.first)
    (in_turn U m choice p c.rules.ensures c.requires.over c.args.on.now.choice_of c.rules-2.ensures c.requires.offered known c.requires.known
    c.in_ok-turns.turns c.in_ok-first.first c.in_ok-turns.ensures c.in_ok-first.ensures.homes c.in_ok-first.ensures.listed)

pub returns-in_ok-first-in-Some-clause-best : goal.returns-in_ok-first-in-Some-clause-best
returns-in_ok-first-in-Some-clause-best g c =
    let U = stated (λ v. (goal.OpUnit-dyn g v).unit_meaning v.1) c.args.units.now in
    let m = c.args.on.now.joined.machine.now in
    let choice = c.args.on.now.choice.now in
    let p = c.args.p.now in
    let known = c.args.known.now in
    let one = c.in_ok-first-2.ensures in
    let two = c.in_ok-first-in-Some.ensures in
    let turns = in_turn U m choice p c.rules.ensures c.requires.over c.args.on.now.choice_of c.rules-2.ensures c.requires.offered known c.requires.known
    c.in_ok-turns.turns c.in_ok-first.first c.in_ok-turns.ensures c.in_ok-first.ensures.homes c.in_ok-first.ensures.listed in
    let best = subst (IsHomedBest U m choice p known) (sym two.first) (subst (IsHomedBest U m choice p known) (sym one.first) turns) in
    let some = IfOk-at_ok (λ (o : Option Homes). IfSome o (λ h. AreHomesBy Least p choice h)) one.other c.other_homes-least.ensures in
    let least = subst (λ (o : Option Homes). IfSome o (λ h. AreHomesBy Least p choice h)) c.in-Some.is some in
    of_two U m choice p c.rules.ensures c.requires.over c.args.on.now.choice_of c.rules-2.ensures c.requires.offered known c.requires.known
    c.in-Some.least c.in_ok-first-in-Some.first c.in_ok-first-in-Some.other c.shorter.result best least
    (IfOk-at_ok (λ (r : Homed). r.homes ≡ c.in-Some.least) two.other c.homed_with-other.ensures.homes)
    (IfOk-at_ok (λ (r : Homed). IsListedWith c.in-Some.least U m choice p known r.listed) two.other c.homed_with-other.ensures.listed)
    c.shorter.ensures
