-- Texts with functions in the place of lines, byte by byte.
use Rattle.std.proofs.Common.{◌≡◌, ℕ, zero, suc, ◌<◌, ◌-◌, ◌≤◌, ◌==◌, Bool, false, List, [], ◌∷◌, ◌++◌, length, drop, append_assoc, sym, ap, ◌∙◌, arith}
use Rattle.std.specs.Prelude.{if◌then◌else◌, Option, option_map}
use Rattle.std.specs.Str.{bytes_eq}
use Rattle.std.proofs.lemmas.Bool.{eqb-true, false_from_ne_true}
use Rattle.std.proofs.lemmas.List.{drop_all}
use Rattle.tta_own_circuits.specs.Cited.{Worked}
use Rattle.tta_own_circuits.specs.Texts.{function_of}
use Rattle.tta_own_circuits.specs.Included.{include_line, function_at, line_text, with_functions}

module _ (called : ℕ → List ℕ) (circuit : ℕ → Option Worked) where
  -- a line that does not include the file of the last operation includes what it does without it
  pub passed_by : (below : ℕ) (line : List ℕ) → 0 < below → bytes_eq line (include_line (called (below - 1))) ≡ false
      → function_at called circuit (below - 1) line ≡ function_at called circuit below line
  passed_by zero line some is = absurd (omega (arith, some))
  passed_by (suc i) line some is =
      let last : suc i - 1 ≡ i = omega arith in
      let no : bytes_eq line (include_line (called i)) ≡ false =
      ap (λ (j : ℕ). bytes_eq line (include_line (called j))) (sym last) ∙ is in
      ap (λ (j : ℕ). function_at called circuit j line) last
      ∙ ap (λ (b : Bool). if b then option_map (function_of (called i)) (circuit i) else function_at called circuit i line) (sym no)

  module _ (size : ℕ) where
    -- the end of a line
    pub newline : (old new line shown cleared : List ℕ) (byte : ℕ) → byte ≡ 10 → shown ≡ line → cleared ≡ []
        → new ≡ old ++ line_text called circuit size shown → (rest : List ℕ)
        → new ++ with_functions called circuit size cleared rest ≡ old ++ with_functions called circuit size line (byte ∷ rest)
    unfolding with_functions
    newline old new line shown cleared byte is same empty put rest =
        ap (λ (t : List ℕ). t ++ with_functions called circuit size cleared rest) put
        ∙ append_assoc old (line_text called circuit size shown) (with_functions called circuit size cleared rest)
        ∙ ap (λ (t : List ℕ). old ++ (line_text called circuit size shown ++ with_functions called circuit size t rest)) empty
        ∙ ap (λ (t : List ℕ). old ++ (line_text called circuit size t ++ with_functions called circuit size [] rest)) same
        ∙ ap (λ (b : ℕ). old ++ with_functions called circuit size line (b ∷ rest)) (sym is)

    -- a byte more of a line
    pub more_of_line : (old line longer : List ℕ) (byte : ℕ) → (byte ≡ 10 → ⊥) → longer ≡ line ++ byte ∷ [] → (rest : List ℕ)
        → old ++ with_functions called circuit size longer rest ≡ old ++ with_functions called circuit size line (byte ∷ rest)
    unfolding with_functions
    more_of_line old line longer byte is_not same rest =
        let no : (byte == 10) ≡ false = false_from_ne_true (byte == 10) (λ is. is_not (eqb-true byte 10 is)) in
        ap (λ (t : List ℕ). old ++ with_functions called circuit size t rest) same
        ∙ ap (λ (b : Bool). old ++ (if b then line_text called circuit size line ++ with_functions called circuit size [] rest
        else with_functions called circuit size (line ++ byte ∷ []) rest)) (sym no)

    -- the end of a text
    pub ended : (out final shown line text : List ℕ) (k : ℕ) → length text ≤ k → shown ≡ line → final ≡ out ++ shown
        → out ++ with_functions called circuit size line (drop k text) ≡ with_functions called circuit size [] text
        → final ≡ with_functions called circuit size [] text
    unfolding with_functions
    ended out final shown line text k past same put whole =
        put ∙ ap (λ (t : List ℕ). out ++ t) same
        ∙ ap (λ (t : List ℕ). out ++ with_functions called circuit size line t) (sym (drop_all k text past)) ∙ whole
