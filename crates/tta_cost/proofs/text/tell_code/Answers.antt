use Rattle.std.proofs.Common.{◌≡◌, List, ℕ, IfOk, ◌∙◌, sym, subst}
use Rattle.std.proofs.lemmas.List.{length-map}
use Rattle.tta_cost.specs.Cited.{code_words}
use Rattle.tta_hardware.specs.Fields.{word_of}
use Rattle.tta_cost.proofs.Told.{told}
use Rattle.tta_cost.proofs.text.tell_code.Goals as goal

pub returns : goal.returns
returns g c =
    let m = c.args.m.now in let code = c.args.whole.now.code in
    λ memory full. subst (λ (r : List ℕ). IfOk c.tell.result (λ v. v.items ≡ r))
    (told m (code_words m code) memory c.word_count.result (length-map code.words (word_of m) ∙ sym c.word_count.ensures) full _) c.tell.ensures
