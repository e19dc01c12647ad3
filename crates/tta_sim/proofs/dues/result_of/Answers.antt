use Rattle.std.proofs.Common.{◌≡◌, ℕ, Option, Some, None, refl, sym, ap, ◌∙◌}
use Rattle.std.specs.Prelude.{if◌then◌else◌}
use Rattle.std.specs.Option.{option_map_or, unwrap_or}
use Rattle.tta_sim.specs.Cited.{stated, Start, has_result, operand_word, result_word}
use Rattle.tta_sim.specs.Dues.{due_with}
use Rattle.tta_sim.proofs.dues.result_of.Goals as goal

operand_is : (o : Option ℕ) → unwrap_or o 0 ≡ option_map_or (λ a. a) o 0
operand_is None = refl
operand_is (Some a) = refl

pub returns-in-Set : goal.returns-in-Set
returns-in-Set g c =
    let U = stated (λ v. (goal.OpUnit-dyn g v).unit_meaning v.1) c.args.units.now in
    let t = c.args.start.now in
    let id = c.in-Set.op.0 in
    let is = ap (λ s. s.does.op) (sym c.start.view_is) ∙ c.in-Set.is in
    let word = c.apply.ensures.value
    ∙ ap (λ a. U.value id a c.start.inside.word) (c.unwrap_or.ensures ∙ operand_is c.start.inside.operand)
    ∙ ap (λ (s : Start). U.value id (operand_word s) s.word) c.start.view_is in
    ap (λ w. Some (due_with t w)) word
    ∙ sym (ap (λ op. if has_result op then Some (due_with t (result_word U c.args.memory.now c.args.frame.now c.args.next t op)) else None) is)
