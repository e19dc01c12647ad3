-- The function of an operation whose unit hands in its circuit.
use Rattle.std.specs.Prelude.{◌≡◌, List, ℕ, ◌++◌, codes, Option, Some, None, ⊤}
use Rattle.tta_own_circuits.specs.Cited.{Worked, before_word, expression, port_names}
use Rattle.tta_own_circuits.specs.declared.unit.CircuitText.{CircuitText}

-- a text is that of a circuit: the lines before its word, and the word
pub record IsTextOf (t : CircuitText) (w : Worked) : Type 0 where
  pub before : t.before.now ≡ before_word w
  pub word : t.word.now ≡ expression port_names w.word

-- there is a text exactly where there is a circuit, and it is that of the circuit
abbrev pub AreAlike : Option CircuitText → Option Worked → Type 0
AreAlike (Some t) (Some w) = IsTextOf t w
AreAlike None None = ⊤
AreAlike (Some t) None = ⊥
AreAlike None (Some w) = ⊥

-- the lines of a function before what it makes of its two words; it is called by the name of its operation
unfoldable pub head_text : (name : List ℕ) → List ℕ
head_text name = codes "// " ++ (name ++ (codes "\nfunction [31:0] own_" ++ (name ++ codes ";\ninput [31:0] a;\ninput [31:0] b;\n")))

-- what it makes of them: the lines before a word, and the word
unfoldable pub made_text : (name before word : List ℕ) → List ℕ
made_text name before word =
    before ++ (codes "own_" ++ (name ++ (codes " = " ++ (word ++ codes ";\nend\nendfunction\n"))))

-- the function of an operation by its name and its circuit, as `rtl` includes it from the file NAME.v
abbrev pub function_of : (name : List ℕ) → Worked → List ℕ
function_of name w = head_text name ++ made_text name (before_word w) (expression port_names w.word)
