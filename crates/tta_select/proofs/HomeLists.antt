-- The home registers of files: each keeps whole words, and none stands twice.
use Rattle.std.proofs.Common.{◌≡◌, ◌<◌, ◌≤◌, ◌+◌, ◌-◌, ℕ, suc, Bool, true, false, List, [], ◌∷◌, ◌++◌, Some, refl, sym, ap, subst, arith, ◌∙◌, length, slice_get, get_or, length-append, add-zero}
use Rattle.std.specs.Prelude.{if◌then◌else◌, ◌==◌, ◌&&◌, nat_lt, not}
use Rattle.std.proofs.lemmas.Bool.Decides.{nat_tests}
use Rattle.std.proofs.lemmas.List.{get_or_append_left, get_or-append-add}
use Rattle.std.proofs.lemmas.List.FromFn.{get_or-map-range_with_len, length-map-range_with_len}
use Rattle.tta_select.specs.Cited.{File, Machine, width_of, registers_from, is_home_file, homes_from}
use Rattle.tta_moves.proofs.Places.{either}

-- each pair of a list is so
abbrev pub Each : (P : ℕ × ℕ → Type 0) → List (ℕ × ℕ) → Type 0
Each P xs = (k : ℕ) → k < length xs → P (get_or xs k (0, 0))

-- no pair stands twice
abbrev pub Once : List (ℕ × ℕ) → Type 0
Once xs = (j k : ℕ) → j < length xs → k < length xs → get_or xs j (0, 0) ≡ get_or xs k (0, 0) → j ≡ k

front_of : (xs ys : List (ℕ × ℕ)) (k : ℕ) → k < length xs → get_or (xs ++ ys) k (0, 0) ≡ get_or xs k (0, 0)
front_of xs ys k low = get_or_append_left xs ys (0, 0) k low

back_of : (xs ys : List (ℕ × ℕ)) (k : ℕ) → length xs ≤ k → get_or (xs ++ ys) k (0, 0) ≡ get_or ys (k - length xs) (0, 0)
back_of xs ys k low =
    let same : k ≡ length xs + (k - length xs) = omega (arith, low) in
    ap (λ i. get_or (xs ++ ys) i (0, 0)) same ∙ get_or-append-add xs ys (k - length xs) (0, 0)

order : (k n : ℕ) → {P : Type 0} → (k < n → P) → (n ≤ k → P) → P
order k n a b = either (nat_lt k n) (λ e. a (grind (arith, nat_tests))) (λ e. b (grind (arith, nat_tests)))

pub each_append : (P : ℕ × ℕ → Type 0) (xs ys : List (ℕ × ℕ)) → Each P xs → Each P ys → Each P (xs ++ ys)
each_append P xs ys a b k low =
    let size : length (xs ++ ys) ≡ length xs + length ys = length-append xs ys in
    order k (length xs) (λ l. subst P (sym (front_of xs ys k l)) (a k l))
    (λ l. subst P (sym (back_of xs ys k l)) (b (k - length xs) (omega (arith, size, low, l))))

-- two lists of which no pair stands in both
pub once_append : (xs ys : List (ℕ × ℕ)) (P : ℕ × ℕ → Type 0) → Once xs → Once ys → Each P xs → Each (λ y. P y → ⊥) ys → Once (xs ++ ys)
once_append xs ys P a b px py j k lj lk e =
    let size : length (xs ++ ys) ≡ length xs + length ys = length-append xs ys in
    order j (length xs)
    (λ l. order k (length xs) (λ r. a j k l r (sym (front_of xs ys j l) ∙ e ∙ front_of xs ys k r))
    (λ r. absurd (py (k - length xs) (omega (arith, size, lk, r)) (subst P (sym (front_of xs ys j l) ∙ e ∙ back_of xs ys k r) (px j l)))))
    (λ l. order k (length xs)
    (λ r. absurd (py (j - length xs) (omega (arith, size, lj, l)) (subst P (sym (front_of xs ys k r) ∙ sym e ∙ back_of xs ys j l) (px k r))))
    (λ r.
    let same : j - length xs ≡ k - length xs = b (j - length xs) (k - length xs) (omega (arith, size, lj, l)) (omega (arith, size, lk, r)) (sym (back_of xs ys j l) ∙ e ∙ back_of xs ys k r) in
    omega (arith, same, l, r)))

-- the registers of a file
pub register_at : (file index count k : ℕ) → k < count → get_or (registers_from file index count) k (0, 0) ≡ (file, index + k)
register_at file index count k low = get_or-map-range_with_len (λ i. (file, i)) index count k (index + k) (0, 0) low refl

pub registers_size : (file index count : ℕ) → length (registers_from file index count) ≡ count
registers_size file index count = length-map-range_with_len (λ i. (file, i)) index count

pub registers_each : (P : ℕ × ℕ → Type 0) (file index count : ℕ) → ((i : ℕ) → index ≤ i → P (file, i)) → Each P (registers_from file index count)
registers_each P file index count all k low =
    let inside : k < count = subst (λ n. k < n) (registers_size file index count) low in
    subst P (sym (register_at file index count k inside)) (all (index + k) (omega arith))

pub registers_once : (file index count : ℕ) → Once (registers_from file index count)
registers_once file index count j k lj lk e =
    let a : j < count = subst (λ n. j < n) (registers_size file index count) lj in
    let b : k < count = subst (λ n. k < n) (registers_size file index count) lk in
    let pair : ◌≡◌ {A = ℕ × ℕ} (file, index + j) (file, index + k) = sym (register_at file index count j a) ∙ e ∙ register_at file index count k b in
    let same : index + j ≡ index + k = ap (λ p. p.1) pair in
    omega (arith, same)

module _ (m : Machine) (hub : ℕ) where
  -- a register of another file than the hub, from a number on, that keeps whole words
  abbrev pub Other : ℕ → ℕ × ℕ → Type 0
  Other file p = (file ≤ p.0) × (p.0 ≡ hub → ⊥) × ((width_of m p.0 == 1) ≡ false)

  first_two : (a b d e : Bool) → (a && b && d && e) ≡ true → (a ≡ true) × (b ≡ true)
  first_two true true d e f = (refl, refl)
  first_two true false d e f = absurd cc
  first_two false b d e f = absurd cc

  pub wide : (n : ℕ) → (n == 32) ≡ true → (n == 1) ≡ false
  wide n e = let same : n ≡ 32 = grind (arith, nat_tests) in grind (arith, nat_tests)

  pub width_at : (file : ℕ) (f : File) → slice_get m.files file ≡ Some f → width_of m file ≡ f.width
  width_at file f e = rw e refl

  not_same : (a b : ℕ) → not (a == b) ≡ true → a ≡ b → ⊥
  not_same a b e same = let t : (a == b) ≡ true = grind (arith, nat_tests) in cc

  nothing_each : (P : ℕ × ℕ → Type 0) → Each P []
  nothing_each P k low = absurd (omega (arith, low))

  -- the home registers of one file
  one_file : (file : ℕ) (f : File) → slice_get m.files file ≡ Some f → (t : Bool) → is_home_file m hub file f ≡ t → Each (λ p. Other file p × (p.0 ≡ file)) (if t then registers_from file 0 f.size else [])
  one_file file f there true e =
      let a = first_two _ _ _ _ e in
      let w : (width_of m file == 1) ≡ false = ap (λ n. n == 1) (width_at file f there) ∙ wide f.width a.1 in
      registers_each (λ p. Other file p × (p.0 ≡ file)) file 0 f.size (λ i low. ((omega arith, not_same file hub a.0, w), refl))
  one_file file f there false e = nothing_each (λ p. Other file p × (p.0 ≡ file))

  one_once : (file : ℕ) (f : File) (t : Bool) → Once (if t then registers_from file 0 f.size else [])
  one_once file f true = registers_once file 0 f.size
  one_once file f false = λ j k lj lk e. absurd (omega (arith, lj))

  pub each_weaker : (P Q : ℕ × ℕ → Type 0) (xs : List (ℕ × ℕ)) → ((p : ℕ × ℕ) → P p → Q p) → Each P xs → Each Q xs
  each_weaker P Q xs weaker a k low = weaker (get_or xs k (0, 0)) (a k low)

  -- those of the files from one on
  pub record Files (file : ℕ) (xs : List (ℕ × ℕ)) : Type 0 where
    pub each : Each (Other file) xs
    pub once : Once xs

  pub files_from : (fs : List File) (file : ℕ) → ((i : ℕ) (f : File) → slice_get fs i ≡ Some f → slice_get m.files (file + i) ≡ Some f) → Files file (homes_from m hub file fs)
  files_from [] file there = record { each = nothing_each (Other file); once = λ j k lj lk e. absurd (omega (arith, lj)) }
  files_from (f ∷ fs) file there =
      let first : slice_get m.files file ≡ Some f = ap (λ i. slice_get m.files i) (sym (add-zero file)) ∙ there 0 f refl in
      let ih = files_from fs (file + 1) (λ i g e. let same : file + 1 + i ≡ file + suc i = omega arith in ap (λ j. slice_get m.files j) same ∙ there (suc i) g e) in
      let one = one_file file f first (is_home_file m hub file f) refl in
      let xs = if is_home_file m hub file f then registers_from file 0 f.size else [] in
      record {
        each = each_append (Other file) xs (homes_from m hub (file + 1) fs) (each_weaker (λ p. Other file p × (p.0 ≡ file)) (Other file) xs (λ p a. a.0) one)
            (each_weaker (Other (file + 1)) (Other file) (homes_from m hub (file + 1) fs) (λ p a. let low : file + 1 ≤ p.0 = a.0 in (omega (arith, low), a.1, a.2)) ih.each);
        once = once_append xs (homes_from m hub (file + 1) fs) (λ p. p.0 ≡ file) (one_once file f (is_home_file m hub file f)) ih.once (each_weaker (λ p. Other file p × (p.0 ≡ file)) (λ p. p.0 ≡ file) xs (λ p a. a.1) one)
            (each_weaker (Other (file + 1)) (λ p. p.0 ≡ file → ⊥) (homes_from m hub (file + 1) fs) (λ p a same. let low : file + 1 ≤ p.0 = a.0 in omega (arith, low, same)) ih.each);
      }
