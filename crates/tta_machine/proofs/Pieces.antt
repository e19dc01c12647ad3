-- Long forms, by the places of their words.
use Rattle.std.proofs.Common.{◌≡◌, ◌≤◌, ℕ, ◌-◌, ◌==◌, false, List, [], ◌∷◌, length, take, drop, get_or, refl, sym, arith}
use Rattle.std.specs.Prelude.{Option, Some, None, map, codes}
use Rattle.std.proofs.lemmas.Bool.{true≢false}
use Rattle.std.proofs.lemmas.List.{take_rest}
use Rattle.tta_machine.specs.Cited.{Name, Word, Lexeme, plain, is_mark, name_of, value_of, only_if}
use Rattle.tta_parse.specs.Steps.{◌>>?◌}
use Rattle.tta_machine.specs.Forms.{FileForm, file_form, file_sockets, template_form, keyed_value, names_alone}

-- what stands after the end of a line
abbrev pub no_word : Word
no_word = record { kind = Name; text = record { ref_ptr = (0, 0); now = [] } }

-- the word at a place of a line
abbrev pub word_at : List Word → ℕ → Lexeme
word_at ws k = plain (get_or ws k no_word)

-- what is left of a line after its first words, as the code cuts it
abbrev pub words_from : ℕ → List Word → List Word
words_from k ws = take (length ws - k) (drop k ws)

-- steps that all come to nothing come to nothing together
none_by : {A B : Type 0} (o : Option A) (f : A → Option B) → ((x : A) → f x ≡ None) → (o >>? f) ≡ None
none_by None f none = refl
none_by (Some x) f none = none x

-- numbers without the words of sockets
no_sockets : (n k1 w k2 s k3 r k4 t : Lexeme) → let none : Option FileForm = None in
    (name_of n >>? λ name. keyed_value (codes "width") k1 w >>? λ w. keyed_value (codes "size") k2 s >>? λ s.
    keyed_value (codes "read") k3 r >>? λ r. keyed_value (codes "write") k4 t >>? λ t. none) ≡ none
no_sockets n k1 w k2 s k3 r k4 t =
    none_by (name_of n) _ λ name. none_by (keyed_value (codes "width") k1 w) _ λ w. none_by (keyed_value (codes "size") k2 s) _ λ s.
    none_by (keyed_value (codes "read") k3 r) _ λ r. none_by (keyed_value (codes "write") k4 t) _ λ t. refl

-- the form of a file
pub file_form_of : (ws : List Word) → 9 ≤ length ws
    → file_form (map plain ws)
    ≡ (name_of (word_at ws 0) >>? λ name.
    keyed_value (codes "width") (word_at ws 1) (word_at ws 2) >>? λ w. keyed_value (codes "size") (word_at ws 3) (word_at ws 4) >>? λ s.
    keyed_value (codes "read") (word_at ws 5) (word_at ws 6) >>? λ r. keyed_value (codes "write") (word_at ws 7) (word_at ws 8) >>? λ t.
    file_sockets name w s r t (map plain (words_from 9 ws)))
unfolding file_form
file_form_of (a ∷ b ∷ c ∷ d ∷ e ∷ f ∷ g ∷ h ∷ i ∷ ws) _ = rw (take_rest (a ∷ b ∷ c ∷ d ∷ e ∷ f ∷ g ∷ h ∷ i ∷ ws) 9) (by ws) where
  by : (ws : List Word) → file_form (map plain (a ∷ b ∷ c ∷ d ∷ e ∷ f ∷ g ∷ h ∷ i ∷ ws))
      ≡ (name_of (plain a) >>? λ name. keyed_value (codes "width") (plain b) (plain c) >>? λ w. keyed_value (codes "size") (plain d) (plain e) >>? λ s.
      keyed_value (codes "read") (plain f) (plain g) >>? λ r. keyed_value (codes "write") (plain h) (plain i) >>? λ t.
      file_sockets name w s r t (map plain ws))
  by (j ∷ k ∷ l ∷ m ∷ []) = refl
  by (j ∷ k ∷ l ∷ m ∷ n ∷ ws) = sym (no_sockets (plain a) (plain b) (plain c) (plain d) (plain e) (plain f) (plain g) (plain h) (plain i))
  by (j ∷ k ∷ l ∷ []) = sym (no_sockets (plain a) (plain b) (plain c) (plain d) (plain e) (plain f) (plain g) (plain h) (plain i))
  by (j ∷ k ∷ []) = sym (no_sockets (plain a) (plain b) (plain c) (plain d) (plain e) (plain f) (plain g) (plain h) (plain i))
  by (j ∷ []) = sym (no_sockets (plain a) (plain b) (plain c) (plain d) (plain e) (plain f) (plain g) (plain h) (plain i))
  by [] = sym (no_sockets (plain a) (plain b) (plain c) (plain d) (plain e) (plain f) (plain g) (plain h) (plain i))
file_form_of ws least = absurd (omega (arith, least))

-- the form of a template
pub template_form_of : (ws : List Word) → (length (words_from 4 ws) == 0) ≡ false
    → template_form (map plain ws)
    ≡ only_if (is_mark (codes ".") (word_at ws 2)) (
    name_of (word_at ws 0) >>? λ name. name_of (word_at ws 1) >>? λ imm. value_of (word_at ws 3) >>? λ index.
    names_alone (map plain (words_from 4 ws)) >>? λ all. Some (record { name = name; imm = imm; index = index; buses = all }))
unfolding template_form
template_form_of (a ∷ b ∷ c ∷ d ∷ e ∷ ws) some = rw (take_rest (a ∷ b ∷ c ∷ d ∷ e ∷ ws) 4) refl
template_form_of (a ∷ b ∷ c ∷ d ∷ []) some = absurd (true≢false some)
template_form_of (a ∷ b ∷ c ∷ []) some = absurd (true≢false some)
template_form_of (a ∷ b ∷ []) some = absurd (true≢false some)
template_form_of (a ∷ []) some = absurd (true≢false some)
template_form_of [] some = absurd (true≢false some)
