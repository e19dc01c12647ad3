-- Names of the parts of a machine are found again in a name of a signal.
use Rattle.std.proofs.Common.{◌≡◌, ℕ, zero, suc, ◌+◌, ◌<◌, ◌^◌, ◌==◌, Bool, true, false, not, ◌||◌, List, [], ◌∷◌, ◌++◌, length, map, slice_get, Some, refl, ap, ◌∙◌, arith, append_assoc}
use Rattle.std.specs.Prelude.{if◌then◌else◌, decimal}
use Rattle.std.specs.Option.{option_map_or}
use Rattle.std.specs.List.{list_all, list_any, AllByRecursion}
use Rattle.std.specs.Str.{bytes_eq}
use Rattle.std.specs.Str.Parse.{AllDigits, digits_value}
use Rattle.std.specs.Char.{digit_value}
use Rattle.std.proofs.lemmas.Bool.{and_parts, and_from, or_parts, or_right, not-true, not_from_false}
use Rattle.std.proofs.lemmas.Bool.Decides.{nat_tests}
use Rattle.std.proofs.lemmas.Fmt.{decimal_is_IsNumeral}
use Rattle.std.proofs.lemmas.Slice.Eq.{bytes_eq-Decides}
use Rattle.std.proofs.lemmas.Str.Parse.{digit_from_value}
use Rattle.tta_ops.specs.Units.{first_at}
use Rattle.tta_arch.specs.Rules.{IsMachineName, are_different}
use Rattle.tta_verilog.specs.Spelling.{is_word_byte}
use Rattle.tta_verilog.proofs.Words.{cut}

-- ---- lists of names

any_front : {A : Type 0} (p : A → Bool) (xs ys : List A) → list_any p (xs ++ ys) ≡ false → list_any p xs ≡ false
any_front p [] ys h = refl
any_front p (x ∷ xs) ys h =
    let q = or_parts (p x) (list_any p (xs ++ ys)) h in
    ap (λ c. c || list_any p xs) q.0 ∙ any_front p xs ys q.1

-- two lists of names that differ, and so each
pub different_parts : {A : Type 0} (same : A → A → Bool) (xs ys : List A) → are_different same (xs ++ ys) ≡ true
    → (are_different same xs ≡ true) × (are_different same ys ≡ true)
different_parts same [] ys h = (refl, h)
different_parts same (x ∷ xs) ys h =
    let p = and_parts (not (list_any (same x) (xs ++ ys))) (are_different same (xs ++ ys)) h in
    let t = different_parts same xs ys p.1 in (
      and_from (not (list_any (same x) xs)) (are_different same xs)
          (not_from_false (list_any (same x) xs) (any_front (same x) xs ys (not-true (list_any (same x) (xs ++ ys)) p.0))) t.0,
      t.1,
    )

module _ {A : Type 0} (name : A → List ℕ) where
  -- the name at a place
  abbrev pub name_at : List A → ℕ → List ℕ
  name_at xs k = option_map_or name (slice_get xs k) []

  other_name : (n : List ℕ) (xs : List A) (j : ℕ) → j < length xs → list_any (bytes_eq n) (map name xs) ≡ false
      → bytes_eq n (name_at xs j) ≡ false
  other_name n [] j less h = absurd (omega (arith, less))
  other_name n (x ∷ xs) zero less h = (or_parts (bytes_eq n (name x)) (list_any (bytes_eq n) (map name xs)) h).0
  other_name n (x ∷ xs) (suc j) less h =
      other_name n xs j (omega (arith, less)) (or_parts (bytes_eq n (name x)) (list_any (bytes_eq n) (map name xs)) h).1

  -- the place of the name at a place, where names differ
  pub found_at : (xs : List A) (k j : ℕ) → are_different bytes_eq (map name xs) ≡ true → j < length xs
      → first_at (name_at xs j) k (map name xs) ≡ Some (k + j)
  found_at [] k j h less = absurd (omega (arith, less))
  found_at (x ∷ xs) k zero h less =
      ap (λ c. if c then Some k else first_at (name x) (k + 1) (map name xs)) ((bytes_eq-Decides (name x) (name x)).1 refl)
      ∙ ap Some (omega arith)
  found_at (x ∷ xs) k (suc j) h less =
      let p = and_parts (not (list_any (bytes_eq (name x)) (map name xs))) (are_different bytes_eq (map name xs)) h in
      ap (λ c. if c then Some k else first_at (name_at xs j) (k + 1) (map name xs))
      (other_name (name x) xs j (omega (arith, less)) (not-true (list_any (bytes_eq (name x)) (map name xs)) p.0))
      ∙ found_at xs (k + 1) j p.1 (omega (arith, less)) ∙ ap Some (omega arith)

  -- the bytes of a name of a machine
  pub letters_at : (xs : List A) (k : ℕ) → AllByRecursion IsMachineName (map name xs) → list_all is_word_byte (name_at xs k) ≡ true
  letters_at [] k all = refl
  letters_at (x ∷ xs) zero all = (and_parts _ (list_all is_word_byte (name x)) all.0.written).1
  letters_at (x ∷ xs) (suc k) all = letters_at xs k all.1

-- ---- names with a number

abbrev has_mark : List ℕ → Bool
has_mark w = list_any (λ b. b == 95) w

-- what stands before the last `_`, and what behind it
abbrev pub last_cut : List ℕ → List ℕ × List ℕ
last_cut [] = cut [] []
last_cut (b ∷ t) =
    if has_mark t then cut (b ∷ (last_cut t).0) (last_cut t).1 else if b == 95 then cut [] t else cut (b ∷ t) []

marked : (w d : List ℕ) → has_mark (w ++ (95 ∷ d)) ≡ true
marked [] d = refl
marked (b ∷ w) d = or_right (b == 95) (has_mark (w ++ (95 ∷ d))) (marked w d)

cut_is : (w d : List ℕ) → has_mark d ≡ false → last_cut (w ++ (95 ∷ d)) ≡ cut w d
cut_is [] d h = ap (λ c. if c then cut (95 ∷ (last_cut d).0) (last_cut d).1 else cut [] d) h
cut_is (b ∷ w) d h =
    let t : List ℕ = w ++ (95 ∷ d) in
    ap (λ c. if c then cut (b ∷ (last_cut t).0) (last_cut t).1 else if b == 95 then cut [] t else cut (b ∷ t) []) (marked w d)
    ∙ ap (λ (q : List ℕ × List ℕ). cut (b ∷ q.0) q.1) (cut_is w d h)

no_digit : (c : ℕ) → digit_value c < 10 → (c == 95) ≡ false
no_digit c h = let range = digit_from_value c h in grind (arith, nat_tests)

digits_unmarked : (ds : List ℕ) → AllDigits 10 ds → has_mark ds ≡ false
digits_unmarked [] h = refl
digits_unmarked (c ∷ cs) h = ap (λ b. b || has_mark cs) (no_digit c h.0) ∙ digits_unmarked cs h.1

-- what stands before a number, and the number
pub number_cut : (w : List ℕ) (n : ℕ) → n < 2 ^ 64 → last_cut (w ++ (95 ∷ decimal n)) ≡ cut w (decimal n)
number_cut w n small = cut_is w (decimal n) (digits_unmarked (decimal n) (decimal_is_IsNumeral n small).0.1)

-- a name and a number behind it
pub pair_is : (w : List ℕ) (n : ℕ) → n < 2 ^ 64 → last_cut ((w ++ (95 ∷ [])) ++ decimal n) ≡ cut w (decimal n)
pair_is w n small = ap last_cut (append_assoc w (95 ∷ []) (decimal n)) ∙ number_cut w n small

-- a number
pub value_is : (n : ℕ) → n < 2 ^ 64 → digits_value 10 (decimal n) ≡ n
value_is n small = (decimal_is_IsNumeral n small).1
