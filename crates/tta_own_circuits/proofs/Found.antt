-- The circuit of a text that a unit hands in.
use Rattle.std.proofs.Common.{◌≡◌, ℕ, List, ◌++◌, refl, ap, ◌∙◌}
use Rattle.std.specs.Prelude.{Option, Some, None, IsSomeAnd}
use Rattle.tta_own_circuits.specs.Cited.{Worked, before_word}
use Rattle.tta_own_circuits.specs.Texts.{AreAlike, head_text, made_text, function_of}
use Rattle.tta_own_circuits.specs.declared.unit.CircuitText.{CircuitText}

-- without a text there is no circuit
pub none_too : (o : Option Worked) → AreAlike None o → o ≡ None
none_too None alike = refl
none_too (Some w) alike = absurd alike

-- what is put of a text is the function by its circuit
pub function_is : (o : Option Worked) (t : CircuitText) (name out : List ℕ) → AreAlike (Some t) o
    → out ≡ head_text name ++ made_text name t.before.now t.word.now → IsSomeAnd o (λ w. out ≡ function_of name w)
function_is None t name out alike is = absurd alike
function_is (Some w) t name out alike is =
    is ∙ ap (λ before. head_text name ++ made_text name before t.word.now) alike.before
    ∙ ap (λ word. head_text name ++ made_text name (before_word w) word) alike.word
