use Rattle.std.proofs.Common.{◌≡◌, List, ℕ, [], IfOk, refl, subst}
use Rattle.tta_cost.proofs.Told.{told}
use Rattle.tta_cost.proofs.text.tell_machine.Goals as goal

pub returns : goal.returns
returns g c =
    λ memory full. subst (λ (r : List ℕ). IfOk c.tell.result (λ v. v.items ≡ r)) (told c.args.m.now [] memory 0 refl full _) c.tell.ensures
