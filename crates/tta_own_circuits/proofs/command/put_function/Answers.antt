use Rattle.tta_load.proofs.Endings.{text_ends}
use Rattle.tta_own_circuits.proofs.command.put_function.Goals as goal

pub returns : goal.returns
returns g c = text_ends _ _ _ _ (λ v. v.items) c.function_text.result _ c.function_text.ensures c.put_made.ensures
