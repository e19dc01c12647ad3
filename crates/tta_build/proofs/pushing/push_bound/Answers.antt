use Rattle.std.proofs.Common.{Option, subst}
use Rattle.std.specs.Prelude.{IfSome, unwrap_or}
use Rattle.tta_build.specs.declared.candidates.Bound.{Bound}
use Rattle.tta_build.specs.Placing.{IsBound}
use Rattle.tta_build.proofs.pushing.push_bound.Goals as goal

pub returns-in_ok-push_choices-in-Some : goal.returns-in_ok-push_choices-in-Some
returns-in_ok-push_choices-in-Some c m b served bound all =
    let is = subst (λ (o : Option Bound). IfSome o (λ x. IsBound m (unwrap_or c.args.served b) x)) c.in-Some.is bound in
    c.in_ok-push_choices-in-Some.ensures m b (record { served = served; bound = is.stands }) is.choices all

pub returns-in-None : goal.returns-in-None
returns-in-None c m b served bound all = all
