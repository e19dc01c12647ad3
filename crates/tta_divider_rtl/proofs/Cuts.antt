-- Where stages end.
use Rattle.std.proofs.Common.{◌≡◌, ℕ, zero, suc, ◌<◌, ◌+◌, ◌-◌, ◌*◌, ◌==◌, Bool, true, false, List, [], ◌++◌, append_assoc, refl, sym, ap, ◌∙◌, arith}
use Rattle.std.specs.Prelude.{if◌then◌else◌, codes}
use Rattle.std.specs.List.{flat_map}
use Rattle.std.proofs.lemmas.Bool.{eqb-true, false_from_ne_true}
use Rattle.std.proofs.lemmas.List.{append-nil}
use Rattle.std.proofs.lemmas.Grind.{flat_map-append}
use Rattle.tta_divider_rtl.specs.Cited.{Expr, Signal, expression, range, wire_text, register_text, cut, digit_wires, Part, Rest, Digits, Divisor, Digit, kept, made_by, rest_before, digits_before, divisor_before, stage_cut, stage_wires, stage_registers}
use Rattle.tta_divider_rtl.specs.Texts.{divider_names, part_name}
use Rattle.tta_divider_rtl.specs.Pieces.{rest_at, digits_at, digits_text, declared, where_enabled, takes, behind_declared, behind_taken, behind_text}

-- behind a digit stands its own
not_first : (n : ℕ) → (n + 5 == 0) ≡ false
not_first n = false_from_ne_true (n + 5 == 0) (λ is. let none : n + 5 ≡ 0 = eqb-true (n + 5) 0 is in omega (arith, none))

rest_later : (stage n : ℕ) → rest_at stage (n + 5) ≡ Signal (Digit stage (n + 3))
rest_later stage n =
    let number : n + 5 - 2 ≡ n + 3 = omega arith in
    ap (λ (b : Bool). if b then rest_before stage else Signal (Digit stage (n + 5 - 2))) (not_first n)
    ∙ ap (λ (k : ℕ). Signal (Digit stage k)) number

digits_later : (stage n : ℕ) → digits_at stage (n + 5) ≡ Digit stage (n + 4)
digits_later stage n =
    let number : n + 5 - 1 ≡ n + 4 = omega arith in
    ap (λ (b : Bool). if b then digits_before stage else Digit stage (n + 5 - 1)) (not_first n) ∙ ap (Digit stage) number

module _ (stage : ℕ) (by : Expr Part ⊥) where
  -- so many digits from a number on end where those end that begin there
  rest_ends : (count first : ℕ)
      → (cut (Digit stage) count first (rest_at stage first) (Signal (digits_at stage first)) by).rest ≡ rest_at stage (first + 5 * count)
  unfolding cut
  rest_ends zero first = let same : first ≡ first + 5 * zero = omega arith in ap (rest_at stage) same
  rest_ends (suc n) first =
      let same : first + 5 + 5 * n ≡ first + 5 * suc n = omega arith in
      ap (λ (e : Expr Part ⊥). (cut (Digit stage) n (first + 5) e (Signal (Digit stage (first + 4))) by).rest)
      (sym (rest_later stage first))
      ∙ ap (λ (p : Part). (cut (Digit stage) n (first + 5) (rest_at stage (first + 5)) (Signal p) by).rest)
      (sym (digits_later stage first))
      ∙ rest_ends n (first + 5) ∙ ap (rest_at stage) same

  digits_ends : (count first : ℕ)
      → (cut (Digit stage) count first (rest_at stage first) (Signal (digits_at stage first)) by).digits
      ≡ Signal (digits_at stage (first + 5 * count))
  unfolding cut
  digits_ends zero first = let same : first ≡ first + 5 * zero = omega arith in ap (λ (k : ℕ). Signal (digits_at stage k)) same
  digits_ends (suc n) first =
      let same : first + 5 + 5 * n ≡ first + 5 * suc n = omega arith in
      ap (λ (e : Expr Part ⊥). (cut (Digit stage) n (first + 5) e (Signal (Digit stage (first + 4))) by).digits)
      (sym (rest_later stage first))
      ∙ ap (λ (p : Part). (cut (Digit stage) n (first + 5) (rest_at stage (first + 5)) (Signal p) by).digits)
      (sym (digits_later stage first))
      ∙ digits_ends n (first + 5) ∙ ap (λ (k : ℕ). Signal (digits_at stage k)) same

pub stage_rest : (stages stage : ℕ) → (stage_cut stages stage).rest ≡ rest_at stage (5 * made_by stages stage)
stage_rest stages stage =
    let same : 0 + 5 * made_by stages stage ≡ 5 * made_by stages stage = omega arith in
    rest_ends stage (Signal (divisor_before stage)) (made_by stages stage) 0 ∙ ap (rest_at stage) same

pub stage_digits : (stages stage : ℕ) → (stage_cut stages stage).digits ≡ Signal (digits_at stage (5 * made_by stages stage))
stage_digits stages stage =
    let same : 0 + 5 * made_by stages stage ≡ 5 * made_by stages stage = omega arith in
    digits_ends stage (Signal (divisor_before stage)) (made_by stages stage) 0 ∙ ap (λ (k : ℕ). Signal (digits_at stage k)) same

-- ---- texts

-- the text of the wires of a digit
abbrev pub digit_text : (stage number : ℕ) → List ℕ
digit_text stage number =
    flat_map (wire_text divider_names)
    (digit_wires (Digit stage) number (rest_at stage number) (Signal (digits_at stage number)) (Signal (divisor_before stage)))

one_less : (n : ℕ) → n ≡ suc n - 1
one_less n = omega arith

-- digits are one digit and then the others
pub digits_more : (stage number count : ℕ) → 0 < count
    → digits_text stage number count ≡ digit_text stage number ++ digits_text stage (number + 5) (count - 1)
unfolding cut
digits_more stage number zero some = absurd (omega (arith, some))
digits_more stage number (suc n) some =
    let by : Expr Part ⊥ = Signal (divisor_before stage) in
    let first = digit_wires (Digit stage) number (rest_at stage number) (Signal (digits_at stage number)) by in
    let text = flat_map (wire_text divider_names) in
    flat_map-append (wire_text divider_names) first
    (cut (Digit stage) n (number + 5) (Signal (Digit stage (number + 3))) (Signal (Digit stage (number + 4))) by).wires
    ∙ ap (λ (e : Expr Part ⊥). text first ++ text (cut (Digit stage) n (number + 5) e (Signal (Digit stage (number + 4))) by).wires)
    (sym (rest_later stage number))
    ∙ ap (λ (p : Part). text first ++ text (cut (Digit stage) n (number + 5) (rest_at stage (number + 5)) (Signal p) by).wires)
    (sym (digits_later stage number))
    ∙ ap (λ (k : ℕ). digit_text stage number ++ digits_text stage (number + 5) k) (one_less n)

-- so it is with stages and with registers
pub stages_more : (stages stage count : ℕ) → 0 < count
    → flat_map (wire_text divider_names) (stage_wires stages stage count)
    ≡ digits_text stage 0 (made_by stages stage) ++ flat_map (wire_text divider_names) (stage_wires stages (stage + 1) (count - 1))
stages_more stages stage zero some = absurd (omega (arith, some))
stages_more stages stage (suc n) some =
    flat_map-append (wire_text divider_names) (stage_cut stages stage).wires (stage_wires stages (stage + 1) n)
    ∙ ap (λ (k : ℕ). digits_text stage 0 (made_by stages stage) ++ flat_map (wire_text divider_names) (stage_wires stages (stage + 1) k))
    (one_less n)

-- a stage without digits has no wires
pub no_digits : (stage number : ℕ) → digits_text stage number 0 ≡ []
unfolding cut
no_digits stage number = refl

-- a text of four pieces
four : (a b c d : List ℕ) → ((a ++ b) ++ c) ++ d ≡ a ++ (b ++ (c ++ d))
four a b c d = append_assoc (a ++ b) c d ∙ append_assoc a b (c ++ d)

-- what is said of a register
declared_is : (name : Part) (next : Expr Part ⊥) → register_text divider_names true (kept name next) ≡ declared (part_name name)
unfolding declared
declared_is name next = four (codes "reg ") (range 32) (part_name name) (codes ";\n")

taken_is : (name : Part) (next : Expr Part ⊥)
    → register_text divider_names false (kept name next) ≡ takes (part_name name) (expression divider_names next)
unfolding takes where_enabled
taken_is name next =
    ap (λ (t : List ℕ). where_enabled ++ t) (four (part_name name) (codes " <= ") (expression divider_names next) (codes ";\n"))

-- three pieces after each other
three : (a b c a' b' c' : List ℕ) → a ≡ a' → b ≡ b' → c ≡ c' → a ++ (b ++ (c ++ [])) ≡ a' ++ (b' ++ c')
three a b c a' b' c' p q r =
    ap (λ (t : List ℕ). a ++ (b ++ t)) (append-nil c) ∙ ap (λ (t : List ℕ). t ++ (b ++ c)) p ∙ ap (λ (t : List ℕ). a' ++ (t ++ c)) q
    ∙ ap (λ (t : List ℕ). a' ++ (b' ++ t)) r

-- what is said of the registers behind a stage
behind_is : (declares : Bool) (stages stage : ℕ)
    → flat_map (register_text divider_names declares) (stage_registers stages stage 1) ≡ behind_text declares stages stage
unfolding behind_declared behind_taken
behind_is true stages stage =
    three _ _ _ _ _ _ (declared_is (Rest (stage + 1)) (stage_cut stages stage).rest)
    (declared_is (Digits (stage + 1)) (stage_cut stages stage).digits)
    (declared_is (Divisor (stage + 1)) (Signal (divisor_before stage)))
behind_is false stages stage =
    three _ _ _ _ _ _
    (taken_is (Rest (stage + 1)) (stage_cut stages stage).rest
    ∙ ap (λ (e : Expr Part ⊥). takes (part_name (Rest (stage + 1))) (expression divider_names e)) (stage_rest stages stage))
    (taken_is (Digits (stage + 1)) (stage_cut stages stage).digits
    ∙ ap (λ (e : Expr Part ⊥). takes (part_name (Digits (stage + 1))) (expression divider_names e)) (stage_digits stages stage))
    (taken_is (Divisor (stage + 1)) (Signal (divisor_before stage)))

pub registers_more : (stages stage count : ℕ) (declares : Bool) → 0 < count
    → flat_map (register_text divider_names declares) (stage_registers stages stage count)
    ≡ behind_text declares stages stage
    ++ flat_map (register_text divider_names declares) (stage_registers stages (stage + 1) (count - 1))
registers_more stages stage zero declares some = absurd (omega (arith, some))
registers_more stages stage (suc n) declares some =
    let text = flat_map (register_text divider_names declares) in
    flat_map-append (register_text divider_names declares) (stage_registers stages stage 1) (stage_registers stages (stage + 1) n)
    ∙ ap (λ (t : List ℕ). t ++ text (stage_registers stages (stage + 1) n)) (behind_is declares stages stage)
    ∙ ap (λ (k : ℕ). behind_text declares stages stage ++ text (stage_registers stages (stage + 1) k)) (one_less n)
