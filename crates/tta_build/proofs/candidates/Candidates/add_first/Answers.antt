use Rattle.std.proofs.Common.{Option, subst}
use Rattle.std.specs.Prelude.{IfSome}
use Rattle.tta_list.proofs.Results.{onward}
use Rattle.tta_build.specs.declared.candidates.Bound.{Bound}
use Rattle.tta_build.specs.Placing.{IsBound}
use Rattle.tta_build.proofs.candidates.Candidates.add_first.Goals as goal

pub returns-in-Some : goal.returns-in-Some
returns-in-Some c =
    let m = c.args.on.now.joined.machine.now in
    let b = c.args.b.now in
    onward c.add_bound.result
    (λ adds is all. adds (subst (λ (o : Option Bound). IfSome o (λ x. IsBound m b x)) c.in-Some.is is) all) c.add_bound.ensures
