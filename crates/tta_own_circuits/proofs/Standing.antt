-- What stands in the place of the lines of a text.
use Rattle.std.proofs.Common.{◌≡◌, ℕ, zero, suc, ◌<◌, ◌≤◌, ◌==◌, Bool, true, false, not, List, [], ◌∷◌, ◌++◌, append_assoc, refl, sym, ap, ◌∙◌, arith}
use Rattle.std.specs.Prelude.{if◌then◌else◌, codes, Option, option_map}
use Rattle.std.specs.List.{list_all}
use Rattle.std.specs.Str.{bytes_eq}
use Rattle.std.proofs.lemmas.Bool.{and_parts, eqb-true, eqb-false, false_from_ne_true}
use Rattle.std.proofs.lemmas.List.{append-nil, append_cancel_left, append_cancel_right}
use Rattle.std.proofs.lemmas.Slice.Eq.{bytes_eq-Decides}
use Rattle.tta_list.proofs.Lists.{and_both, same_bytes}
use Rattle.tta_own_circuits.specs.Cited.{AreDifferent, Worked, called_text, function_head, own_text}
use Rattle.tta_own_circuits.specs.Texts.{function_of}
use Rattle.tta_own_circuits.specs.Included.{include_line, function_at, line_text, or_line, with_functions}
use Rattle.tta_own_circuits.specs.Laws.{IsOneLine, OwnStand, OthersStay, FunctionsStand}

-- lines that include the files of two operations differ where their names do
names_alike : (a b : List ℕ) → include_line a ≡ include_line b → a ≡ b
unfolding include_line
names_alike a b same =
    append_cancel_right a b (codes ".v\"") (append_cancel_left (codes "`include \"") (a ++ codes ".v\"") (b ++ codes ".v\"") same)

-- a test whose opposite holds
unset : (b : Bool) → not b ≡ true → b ≡ false
unset true is = sym is
unset false is = refl

one_include : (name : List ℕ) → IsOneLine name → IsOneLine (include_line name)
unfolding include_line
one_include name one =
    and_both (λ c. not (c == 10)) (codes "`include \"") (name ++ codes ".v\"") refl (and_both (λ c. not (c == 10)) name (codes ".v\"") one refl)

-- the lines of an operation of one's own begin with that which includes its file
begins : (op : ℕ) (name rest : List ℕ)
    → own_text op name ++ rest ≡ include_line name ++ 10 ∷ (function_head op name ++ (called_text op name ++ rest))
unfolding own_text include_line
begins op name rest =
    let head = function_head op name in
    let called = called_text op name in
    ap (λ (t : List ℕ). codes "`include \"" ++ t)
    (append_assoc name (codes ".v\"\n" ++ (head ++ called)) rest
    ∙ ap (λ (t : List ℕ). name ++ (codes ".v\"\n" ++ t)) (append_assoc head called rest)
    ∙ sym (append_assoc name (codes ".v\"") (10 ∷ (head ++ (called ++ rest)))))

module _ (size : ℕ) (called : ℕ → List ℕ) (circuit : ℕ → Option Worked) where
  -- the line of an operation finds the function of its own circuit
  found_at : AreDifferent size called → (i below : ℕ) → below ≤ size → i < below
      → function_at called circuit below (include_line (called i)) ≡ option_map (function_of (called i)) (circuit i)
  found_at different i zero few inside = absurd (omega (arith, inside))
  found_at different i (suc j) few inside =
      elim (i == j) as (λ c. i == j ≡ c → function_at called circuit (suc j) (include_line (called i)) ≡ option_map (function_of (called i)) (circuit i)) [
        | true ↦ λ h.
            let is : i ≡ j = eqb-true i j h in
            let same : bytes_eq (include_line (called i)) (include_line (called j)) ≡ true =
            ap (λ k. bytes_eq (include_line (called i)) (include_line (called k))) (sym is) ∙ same_bytes (include_line (called i)) in
            ap (λ (b : Bool). if b then option_map (function_of (called j)) (circuit j) else function_at called circuit j (include_line (called i))) same
            ∙ ap (λ k. option_map (function_of (called k)) (circuit k)) (sym is)
        | false ↦ λ h.
            let less : i < j = omega (arith, inside, eqb-false i j h) in
            let no : bytes_eq (include_line (called i)) (include_line (called j)) ≡ false =
            false_from_ne_true (bytes_eq (include_line (called i)) (include_line (called j)))
            (λ same. different i j less (omega (arith, few))
            (names_alike (called i) (called j) ((bytes_eq-Decides (include_line (called i)) (include_line (called j))).0 same))) in
            ap (λ (b : Bool). if b then option_map (function_of (called j)) (circuit j) else function_at called circuit j (include_line (called i))) no
            ∙ found_at different i j (omega (arith, few)) less
      ] refl

  -- a line becomes what stands in its place
  scan : (line more rest : List ℕ) → IsOneLine more
      → with_functions called circuit size line (more ++ 10 ∷ rest)
      ≡ line_text called circuit size (line ++ more) ++ with_functions called circuit size [] rest
  unfolding with_functions
  scan line [] rest one =
      ap (λ (l : List ℕ). line_text called circuit size l ++ with_functions called circuit size [] rest) (sym (append-nil line))
  scan line (c ∷ more) rest one =
      let parts = and_parts (not (c == 10)) (list_all (λ d. not (d == 10)) more) one in
      ap (λ (b : Bool). if b then line_text called circuit size line ++ with_functions called circuit size [] (more ++ 10 ∷ rest)
      else with_functions called circuit size (line ++ c ∷ []) (more ++ 10 ∷ rest)) (unset (c == 10) parts.0)
      ∙ scan (line ++ c ∷ []) more rest parts.1
      ∙ ap (λ (l : List ℕ). line_text called circuit size l ++ with_functions called circuit size [] rest) (append_assoc line (c ∷ []) more)

  own_stand : AreDifferent size called → OwnStand size called circuit
  own_stand different i op w rest inside one is =
      let name = called i in
      let more = function_head op name ++ (called_text op name ++ rest) in
      let within : size ≤ size = omega arith in
      ap (with_functions called circuit size []) (begins op name rest)
      ∙ scan [] (include_line name) more (one_include name one)
      ∙ ap (λ (o : Option (List ℕ)). or_line o (include_line name) ++ with_functions called circuit size [] more)
      (found_at different i size within inside ∙ ap (option_map (function_of name)) is)

  others_stay : OthersStay size called circuit
  others_stay line rest one none =
      scan [] line rest one
      ∙ ap (λ (o : Option (List ℕ)). or_line o line ++ with_functions called circuit size [] rest) none
      ∙ append_assoc line (codes "\n") (with_functions called circuit size [] rest)

pub functions_stand : FunctionsStand
functions_stand size called circuit different = (own_stand size called circuit different, others_stay size called circuit)
