use Rattle.std.proofs.Common.{ℕ, ◌+◌, Option, ap, sym, ◌∙◌}
use Rattle.tta_image.specs.Cited.{GuardRef, Guard, is_same_guard}
use Rattle.tta_image.specs.Fields.{guard_number}
use Rattle.tta_arch.proofs.CodeLists.{place_or_len}
use Rattle.tta_image.proofs.fields.guard_code.Goals as goal

pub returns : goal.returns
returns c =
    ap (λ (n : ℕ). 1 + n)
    (place_or_len (λ (g : Guard). is_same_guard g.on c.in-Some.on) c.as_slice-guards.result.now c.args.fields.now.guards _ _ c.as_slice-guards.ensures c.place_of_guard.ensures c.unwrap_or.ensures)
    ∙ ap (λ (o : Option GuardRef). guard_number c.args.fields.now o) (sym c.in-Some.is)
