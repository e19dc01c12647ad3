-- The numbers that steps get.
use Rattle.std.proofs.Common.{◌≡◌, ◌≤◌, ◌<◌, ◌+◌, ℕ, zero, suc, Bool, List, Option, Some, None, true, false, refl, sym, ap, ◌∙◌, subst, arith, ◌⊎◌, inl, inr}
use Rattle.std.specs.Prelude.{◌&&◌, not, if◌then◌else◌, slice_get}
use Rattle.std.specs.Option.{option_map_or}
use Rattle.std.proofs.lemmas.Bool.{eqb-true, eq-eqb, cases_lt, not-true}
use Rattle.tta_list.proofs.Tests.{and_left, and_right}
use Rattle.tta_ifconv.specs.Cited.{Step, Copy, If, Src, Rel}
use Rattle.tta_ifconv.specs.Triangles.{is_target, skips, is_copy, is_triangle, is_dropped, place}

-- a test that holds of something that may be missing holds of what is there
pub of_there : {A : Type 0} (o : Option A) (test : A → Bool) → option_map_or test o false ≡ true → (x : A) × (o ≡ Some x) × (test x ≡ true)
of_there None test e = absurd cc
of_there (Some x) test e = (x, refl, e)

-- a branch that goes over the next step
skips_is : (at : ℕ) (step : Step) → skips at step ≡ true → (rel : Rel) × (a : Src) × (b : Src) × (step ≡ If rel a b (at + 2))
skips_is at (If rel a b to) e = (rel, a, b, ap (If rel a b) (eqb-true to (at + 2) e))
skips_is at step e = absurd cc

copy_is : (step : Step) → is_copy step ≡ true → (d : ℕ) × (s : Src) × (step ≡ Copy d s)
copy_is (Copy d s) e = (d, s, refl)
copy_is step e = absurd cc

-- the two steps of a triangle
pub record Triangle (steps : List Step) (i : ℕ) : Type 0 where
  pub rel : Rel
  pub a : Src
  pub b : Src
  pub d : ℕ
  pub s : Src
  pub branch : slice_get steps i ≡ Some (If rel a b (i + 2))
  pub copy : slice_get steps (i + 1) ≡ Some (Copy d s)
  pub free : is_target steps (i + 1) ≡ false

pub triangle_of : (steps : List Step) (i : ℕ) → is_triangle steps i ≡ true → Triangle steps i
triangle_of steps i e =
    let first = option_map_or (skips i) (slice_get steps i) false in
    let second = option_map_or is_copy (slice_get steps (i + 1)) false in
    let both = and_left (first && second) (not (is_target steps (i + 1))) e in
    let x = of_there (slice_get steps i) (skips i) (and_left first second both) in
    let y = of_there (slice_get steps (i + 1)) is_copy (and_right first second both) in
    let branch = skips_is i x.0 x.2 in
    let copy = copy_is y.0 y.2 in
    record {
      rel = branch.0;
      a = branch.1;
      b = branch.2;
      d = copy.0;
      s = copy.1;
      branch = x.1 ∙ ap Some branch.3;
      copy = y.1 ∙ ap Some copy.2;
      free = not-true (is_target steps (i + 1)) (and_right (first && second) (not (is_target steps (i + 1))) e);
    }

-- ---- which steps are dropped

module _ (steps : List Step) where
  -- a step that some step names stays
  pub target_stays : (k : ℕ) → is_target steps k ≡ true → is_dropped steps k ≡ false
  target_stays zero e = refl
  target_stays (suc i) e = by (is_triangle steps i) refl where
    by : (b : Bool) → is_triangle steps i ≡ b → b ≡ false
    by true is =
        let free = (triangle_of steps i is).free in
        let named : is_target steps (i + 1) ≡ true = ap (is_target steps) (omega arith) ∙ e in
        absurd cc
    by false is = refl

  -- a step that is no copy stays
  pub other_stays : (k : ℕ) (step : Step) → slice_get steps k ≡ Some step → is_copy step ≡ false → is_dropped steps k ≡ false
  other_stays zero step there other = refl
  other_stays (suc i) step there other = by (is_triangle steps i) refl where
    by : (b : Bool) → is_triangle steps i ≡ b → b ≡ false
    by true is =
        let t = triangle_of steps i is in
        let here : slice_get steps (i + 1) ≡ Some step = ap (slice_get steps) (omega arith) ∙ there in
        let same : step ≡ Copy t.d t.s = let c = t.copy in cc in
        absurd (let copy : is_copy step ≡ true = ap is_copy same in cc)
    by false is = refl

  -- the step after one with which no triangle begins stays
  pub next_stays : (i : ℕ) → is_triangle steps i ≡ false → is_dropped steps (i + 1) ≡ false
  next_stays i e = ap (is_dropped steps) (let one : i + 1 ≡ suc i = omega arith in one) ∙ e

  -- a step that is no branch under a condition begins no triangle
  pub no_triangle : (i : ℕ) (step : Step) → slice_get steps i ≡ Some step → skips i step ≡ false → is_triangle steps i ≡ false
  no_triangle i step there other = by (is_triangle steps i) refl where
    by : (b : Bool) → is_triangle steps i ≡ b → b ≡ false
    by true is =
        let t = triangle_of steps i is in
        let same : step ≡ If t.rel t.a t.b (i + 2) = let c = t.branch in cc in
        let skip : skips i step ≡ true = ap (skips i) same ∙ eq-eqb (i + 2) (i + 2) refl in
        absurd cc
    by false is = refl

  -- after a step that stays comes the next number
  pub place_next : (i : ℕ) → is_dropped steps i ≡ false → place steps (i + 1) ≡ place steps i + 1
  place_next i stays =
      let one : i + 1 ≡ suc i = omega arith in
      let more : place steps i + 1 ≡ suc (place steps i) = omega arith in
      ap (place steps) one ∙ ap (λ b. if b then place steps i else suc (place steps i)) stays ∙ sym more

  -- after one that is dropped the same
  pub place_same : (i : ℕ) → is_dropped steps i ≡ true → place steps (i + 1) ≡ place steps i
  place_same i drops =
      let one : i + 1 ≡ suc i = omega arith in
      ap (place steps) one ∙ ap (λ b. if b then place steps i else suc (place steps i)) drops

  -- the two steps of a triangle get one number, and the next step the next one
  pub triangle_stays : (i : ℕ) → is_triangle steps i ≡ true → is_dropped steps i ≡ false
  triangle_stays i is = let t = triangle_of steps i is in other_stays i (If t.rel t.a t.b (i + 2)) t.branch refl

  pub triangle_drops : (i : ℕ) → is_triangle steps i ≡ true → is_dropped steps (i + 1) ≡ true
  triangle_drops i is = ap (is_dropped steps) (let one : i + 1 ≡ suc i = omega arith in one) ∙ is

  pub after_triangle : (i : ℕ) → is_triangle steps i ≡ true → is_dropped steps (i + 2) ≡ false
  after_triangle i is =
      let t = triangle_of steps i is in
      let two : i + 2 ≡ (i + 1) + 1 = omega arith in
      ap (is_dropped steps) two ∙ next_stays (i + 1) (no_triangle (i + 1) (Copy t.d t.s) t.copy refl)

  pub place_after : (i : ℕ) → is_triangle steps i ≡ true → place steps (i + 2) ≡ place steps i + 1
  place_after i is =
      let two : i + 2 ≡ (i + 1) + 1 = omega arith in
      ap (place steps) two ∙ place_same (i + 1) (triangle_drops i is) ∙ place_next i (triangle_stays i is)

  -- there are no more numbers than steps
  pub place_least : (i : ℕ) → place steps i ≤ i
  place_least zero = omega arith
  place_least (suc i) = by (place_least i) (is_dropped steps i) where
    by : place steps i ≤ i → (b : Bool) → (if b then place steps i else suc (place steps i)) ≤ suc i
    by below true = omega arith
    by below false = omega arith

  -- ---- the numbers in order

  -- numbers never fall
  pub place_rises : (i j : ℕ) → i ≤ j → place steps i ≤ place steps j
  place_rises i zero le = let same : i ≡ zero = omega arith in subst (λ k. place steps k ≤ zero) (sym same) (omega arith)
  place_rises i (suc j) le = by (place_rises i j) (cases_lt j i) where
    later : place steps i ≤ place steps j → (b : Bool) → place steps i ≤ (if b then place steps j else suc (place steps j))
    later below true = below
    later below false = omega arith

    by : (i ≤ j → place steps i ≤ place steps j) → (j < i) ⊎ (i ≤ j) → place steps i ≤ place steps (suc j)
    by before (inl here) = let same : i ≡ suc j = omega arith in subst (λ k. place steps k ≤ place steps (suc j)) (sym same) (omega arith)
    by before (inr below) = later (before below) (is_dropped steps j)

  -- a step that stays has a smaller number than all after it
  pub place_below : (i j : ℕ) → is_dropped steps i ≡ false → i < j → place steps i < place steps j
  place_below i j stays less =
      let next = place_next i stays in
      let rises = place_rises (i + 1) j (omega arith) in
      omega arith

  -- so two steps that stay have one number only where they are one
  pub place_once : (i j : ℕ) → is_dropped steps i ≡ false → is_dropped steps j ≡ false → place steps i ≡ place steps j → i ≡ j
  place_once i j here there same = elim (cases_lt i j) [
    | inl less ↦ let below = place_below i j here less in absurd (omega arith)
    | inr le ↦ elim (cases_lt j i) [ inl more ↦ let below = place_below j i there more in absurd (omega arith) | inr other ↦ omega arith ]
  ]

  -- a number that is given is that of a step that stays
  pub record Numbered (k n : ℕ) : Type 0 where
    pub at : ℕ
    pub below : at < n
    pub stays : is_dropped steps at ≡ false
    pub number : place steps at ≡ k

  pub numbered : (n k : ℕ) → k < place steps n → Numbered k n
  numbered zero k less = absurd (omega arith)
  numbered (suc n) k less = by (numbered n k) (is_dropped steps n) refl where
    longer : Numbered k n → Numbered k (suc n)
    longer h = record { at = h.at; below = let b = h.below in omega arith; stays = h.stays; number = h.number }

    by : (k < place steps n → Numbered k n) → (b : Bool) → is_dropped steps n ≡ b → Numbered k (suc n)
    by before true drops =
        let one : n + 1 ≡ suc n = omega arith in
        let same = ap (place steps) (sym one) ∙ place_same n drops in
        longer (before (omega arith))
    by before false stays =
        let one : n + 1 ≡ suc n = omega arith in
        let next = ap (place steps) (sym one) ∙ place_next n stays in
        elim (cases_lt k (place steps n)) [
          | inl below ↦ longer (before below)
          | inr not_below ↦ record { at = n; below = omega arith; stays = stays; number = omega arith }
        ]
