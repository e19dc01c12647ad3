-- What the entry block of a procedure sets.
use Rattle.std.proofs.Common.{◌≡◌, ◌≢◌, ◌<◌, ◌≤◌, ◌+◌, ◌&&◌, ◌++◌, [], ℕ, zero, suc, Bool, List, Option, Some, None, true, false, slice_index, nat_lt, refl, sym, ap, ◌∙◌, subst, arith, inl, inr, append_assoc}
use Rattle.std.specs.Prelude.{if◌then◌else◌, is_none}
use Rattle.std.proofs.lemmas.Bool.{and_parts, cases_eq, ltb-true}
use Rattle.tta_lower.specs.Cited.{Units, Program, Running, RStep, Kept, Plain, put_reg, put_slot, found, plain, word, steps_of, Place}
use Rattle.tta_lir.specs.declared.code.Place.TheVariants as places
use Rattle.tta_lir.specs.Meaning as code
use Rattle.tta_lower.specs.Liveness.{LiveBefore, Homes, IsHomes}
use Rattle.tta_lower.specs.Layout.{vars_of, params_of, var_slot, place, place_by, first_value, sets, sets_from}
use Rattle.tta_lower.specs.Relation.{going, Untouched}
use Rattle.tta_lower.proofs.Lookups.{word-same, word-other, found-other}
use Rattle.tta_lower.proofs.Passing.{copy-place}
use Rattle.std.proofs.lemmas.Bool.{cases_lt, lt-ltb, le-ltb, and_from, false≢true}

module _ (u : Units) (p : Program) (home : Homes) (live : ℕ → ℕ → Bool) (homes : IsHomes p home) (owner : ℕ)
    (live_at_entry : (x : ℕ) → live owner x ≡ true → LiveBefore p owner x 0) (at : ℕ) (ra : Option ℕ) (memory input output vars : List ℕ)
    (zeros : (x : ℕ) → params_of p owner ≤ x → slice_index vars x ≡ 0) where
  -- the slots of the parameters hold their words
  abbrev ParamsThere : List (ℕ × Kept) → Type 0
  ParamsThere frame = (x : ℕ) → x < params_of p owner → plain (found (var_slot p owner x) frame) ≡ Some (slice_index vars x)

  -- each live variable before one is set
  abbrev SetBelow : ℕ → List (ℕ × ℕ) → List (ℕ × Kept) → Type 0
  SetBelow x regs frame = (y : ℕ) → y < x → live owner y ≡ true → word regs frame (place p home owner y) ≡ Some (slice_index vars y)

  -- some more variables were set
  pub record SetUp (x n : ℕ) (regs : List (ℕ × ℕ)) (frame : List (ℕ × Kept)) : Type 0 where
    pub regs_new : List (ℕ × ℕ)
    pub frame_new : List (ℕ × Kept)
    pub code : (tail : List RStep) → steps_of u (sets_from p home (live owner) owner x n ++ tail) (going at regs frame ra memory input output Running)
        ≡ steps_of u tail (going at regs_new frame_new ra memory input output Running)
    pub below : SetBelow (x + n) regs_new frame_new
    pub untouched : Untouched p owner frame frame_new

  -- one variable
  record SetOne (x : ℕ) (regs : List (ℕ × ℕ)) (frame : List (ℕ × Kept)) : Type 0 where
    regs_new : List (ℕ × ℕ)
    frame_new : List (ℕ × Kept)
    code : (tail : List RStep) → steps_of u ((if live owner x then sets p home owner x else []) ++ tail) (going at regs frame ra memory input output Running)
        ≡ steps_of u tail (going at regs_new frame_new ra memory input output Running)
    below : SetBelow (x + 1) regs_new frame_new
    params : ParamsThere frame_new
    untouched : Untouched p owner frame frame_new

  -- two live variables are kept apart
  apart-at-entry : (x y : ℕ) → live owner x ≡ true → live owner y ≡ true → x ≢ y → place p home owner x ≢ place p home owner y
  apart-at-entry x y lx ly ne = by (home owner x) refl (home owner y) refl where
    by : (a : Option ℕ) → home owner x ≡ a → (c : Option ℕ) → home owner y ≡ c → place_by p home owner x a ≢ place_by p home owner y c
    by (Some j) hx (Some i) hy e =
        let same : j ≡ i = reg_of e in
        ne (homes.entry owner x y j (live_at_entry x lx) (live_at_entry y ly) hx (hy ∙ ap Some (sym same))) where
          reg_of : {a b : ℕ} → places.Reg a ≡ places.Reg b → a ≡ b
          reg_of e = cc
    by (Some j) hx None hy e = cc
    by None hx (Some i) hy e = cc
    by None hx None hy e =
        let same : var_slot p owner x ≡ var_slot p owner y = slot_of e in
        ne (omega (arith, same)) where
          slot_of : {a b : ℕ} → places.Frame a ≡ places.Frame b → a ≡ b
          slot_of e = cc

  -- one variable more is set
  below-more : (x : ℕ) (regs : List (ℕ × ℕ)) (frame : List (ℕ × Kept)) → SetBelow x regs frame
      → (live owner x ≡ true → word regs frame (place p home owner x) ≡ Some (slice_index vars x)) → SetBelow (x + 1) regs frame
  below-more x regs frame below this y lt alive = elim (cases_eq y x) as (λ c. word regs frame (place p home owner y) ≡ Some (slice_index vars y)) [
    | inl e ↦ subst (λ z. live owner z ≡ true → word regs frame (place p home owner z) ≡ Some (slice_index vars z)) (sym e) this alive
    | inr ne ↦ below y (by-order y x lt ne) alive
  ] where
    by-order : (y x : ℕ) → y < x + 1 → y ≢ x → y < x
    by-order y x lt ne = elim (cases_lt y x) as (λ c. y < x) [
      | inl l ↦ l
      | inr g ↦ absurd (ne (omega (arith, lt, g)))
    ]

  -- the word that a variable has at first is there
  first-set : (x : ℕ) (regs : List (ℕ × ℕ)) (frame : List (ℕ × Kept)) → ParamsThere frame
      → code.operand (going at regs frame ra memory input output Running) (first_value p home owner x) ≡ Some (slice_index vars x)
  first-set x regs frame params = elim (cases_lt x (params_of p owner)) as (λ c. code.operand (going at regs frame ra memory input output Running) (first_value p home owner x) ≡ Some (slice_index vars x)) [
    | inl lt ↦ rw (lt-ltb x (params_of p owner) lt) (params x lt)
    | inr le ↦ rw (le-ltb x (params_of p owner) le) (ap Some (sym (zeros x le)))
  ]

  -- what sets one variable
  set-one : (x : ℕ) (regs : List (ℕ × ℕ)) (frame : List (ℕ × Kept)) → x < vars_of p owner → SetBelow x regs frame → ParamsThere frame → SetOne x regs frame
  set-one x regs frame within below params = by (live owner x) refl (nat_lt x (params_of p owner) && is_none (home owner x)) refl where
    w : ℕ
    w = slice_index vars x

    d : Place
    d = place p home owner x

    params-kept : (nat_lt x (params_of p owner) && is_none (home owner x)) ≡ false → ParamsThere (put_slot (place p home owner x) (slice_index vars x) frame)
    params-kept unset y lt = go (home owner x) refl ∙ params y lt where
      go : (o : Option ℕ) → home owner x ≡ o → plain (found (var_slot p owner y) (put_slot (place_by p home owner x o) (slice_index vars x) frame)) ≡ plain (found (var_slot p owner y) frame)
      go (Some k) is = refl
      go None is = ap plain (found-other (var_slot p owner x) (var_slot p owner y) (Plain (slice_index vars x)) frame
          (λ e. both-ways (lt-ltb x (params_of p owner) (omega (arith, e, lt))) is)) where
            both-ways : nat_lt x (params_of p owner) ≡ true → home owner x ≡ None → ⊥
            both-ways t is = false≢true (sym unset ∙ and_from (nat_lt x (params_of p owner)) (is_none (home owner x)) t (ap is_none is))

    put-untouched : Untouched p owner frame (put_slot (place p home owner x) (slice_index vars x) frame)
    put-untouched slot ne = go (home owner x) where
      go : (o : Option ℕ) → found slot (put_slot (place_by p home owner x o) (slice_index vars x) frame) ≡ found slot frame
      go (Some k) = refl
      go None = found-other (var_slot p owner x) slot (Plain (slice_index vars x)) frame (λ e. ne x within (sym e))

    by : (b : Bool) → live owner x ≡ b → (c : Bool) → (nat_lt x (params_of p owner) && is_none (home owner x)) ≡ c → SetOne x regs frame
    by false dead c is = record {
      regs_new = regs;
      frame_new = frame;
      code = λ tail. rw dead refl;
      below = below-more x regs frame below (λ alive. absurd (false≢true (sym dead ∙ alive)));
      params = params;
      untouched = λ slot ne. refl;
    }
    by true alive true is =
        let parts = and_parts (nat_lt x (params_of p owner)) (is_none (home owner x)) is in
        record {
          regs_new = regs;
          frame_new = frame;
          code = λ tail. rw (alive, is) refl;
          below = below-more x regs frame below (λ t. there (home owner x) parts.1 (params x (ltb-true x (params_of p owner) parts.0)));
          params = params;
          untouched = λ slot ne. refl;
        } where
          there : (o : Option ℕ) → is_none o ≡ true → plain (found (var_slot p owner x) frame) ≡ Some (slice_index vars x) → word regs frame (place_by p home owner x o) ≡ Some (slice_index vars x)
          there None none e = e
          there (Some k) none e = cc
    by true alive false is = record {
      regs_new = put_reg (place p home owner x) (slice_index vars x) regs;
      frame_new = put_slot (place p home owner x) (slice_index vars x) frame;
      code = λ tail. rw (alive, is, copy-place u at regs frame ra memory input output (place p home owner x) (first_value p home owner x) (slice_index vars x) (first-set x regs frame params)) refl;
      below = below-more x _ _
          (λ y lt live_y. word-other (place p home owner x) (place p home owner y) (slice_index vars x) regs frame (apart-at-entry x y alive live_y (λ e. absurd (omega (arith, e, lt)))) ∙ below y lt live_y)
          (λ t. word-same (place p home owner x) (slice_index vars x) regs frame);
      params = params-kept is;
      untouched = put-untouched;
    }

  -- what sets some variables
  pub set-up : (n x : ℕ) (regs : List (ℕ × ℕ)) (frame : List (ℕ × Kept)) → x + n ≤ vars_of p owner → SetBelow x regs frame → ParamsThere frame → SetUp x n regs frame
  set-up zero x regs frame room below params = record {
    regs_new = regs;
    frame_new = frame;
    code = λ tail. refl;
    below = λ y lt. below y (omega (arith, lt));
    untouched = λ slot ne. refl;
  }
  set-up (suc n) x regs frame room below params =
      let one = set-one x regs frame (omega (arith, room)) below params in
      let more = set-up n (x + 1) one.regs_new one.frame_new (omega (arith, room)) one.below one.params in
      record {
        regs_new = more.regs_new;
        frame_new = more.frame_new;
        code = λ tail.
            ap (λ l. steps_of u l (going at regs frame ra memory input output Running))
            (append_assoc (if live owner x then sets p home owner x else []) (sets_from p home (live owner) owner (x + 1) n) tail)
            ∙ one.code (sets_from p home (live owner) owner (x + 1) n ++ tail) ∙ more.code tail;
        below = λ y lt. more.below y (omega (arith, lt));
        untouched = λ slot ne. more.untouched slot ne ∙ one.untouched slot ne;
      }
