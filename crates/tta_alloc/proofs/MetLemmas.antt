-- Variables that are met at a position, some after others.
use Rattle.std.proofs.Common.{◌≡◌, ◌≢◌, ℕ, ◌+◌, ◌*◌, ◌<◌, ◌≤◌, ◌/◌, Bool, true, false, length, get_or, set, Option, Some, None, refl, sym, ◌∙◌, ap, arith, ◌⊎◌, inl, inr}
use Rattle.std.proofs.Common.{get_or-set_same, get_or-set_other}
use Rattle.std.specs.Prelude.{◌==◌, ◌&&◌, ◌||◌, nat_le, nat_lt, is_some}
use Rattle.std.proofs.lemmas.Bool.{cases_eq, eq-eqb, ne_eqb, ltb-true, leb-true, lt-ltb, le-ltb, le-leb, lt-leb}
use Rattle.std.proofs.lemmas.Bool.Decides.{nat_tests}
use Rattle.std.proofs.lemmas.List.{length-set}
use Rattle.std.proofs.Math.Bool.{or-false}
use Rattle.tta_list.proofs.Tests.{and_left, and_right}
use Rattle.tta_alloc.specs.Cited.{has}
use Rattle.tta_alloc.specs.declared.met.Seen.{Seen}
use Rattle.tta_alloc.specs.Meetings.{met, or_met, within, IsSound, Meets}

-- ---- one answer after another

or_met_false : (o : Option ℕ) (at : ℕ) → o ≡ or_met o false at
or_met_false (Some p) at = refl
or_met_false None at = refl

or_met_some : (o : Option ℕ) (b : Bool) (at : ℕ) → is_some o ≡ true → o ≡ or_met o b at
or_met_some (Some p) b at e = refl
or_met_some None b at e = absurd cc

or_met_then : (o : Option ℕ) (s t : Bool) (at : ℕ) → or_met (or_met o s at) t at ≡ or_met o (s || t) at
or_met_then (Some p) s t at = refl
or_met_then None true t at = refl
or_met_then None false t at = refl

-- ---- tests

module _ (at : ℕ) where
  pub meets_none : (t : ℕ → Bool) (m : Seen) → IsSound m → ((x : ℕ) → t x ≡ false) → Meets t at m m
  meets_none t m sound none = record {
    sound = sound;
    size = refl;
    all = λ x small. or_met_false (met m x) at ∙ ap (λ b. or_met (met m x) b at) (sym (none x));
  }

  pub meets_then : (t u : ℕ → Bool) (a b c : Seen) → Meets t at a b → Meets u at b c → Meets (λ x. t x || u x) at a c
  meets_then t u a b c one two = record {
    sound = two.sound;
    size = two.size ∙ one.size;
    all = λ x small.
        two.all x (let s = one.size in omega arith) ∙ ap (λ o. or_met o (u x) at) (one.all x small) ∙ or_met_then (met a x) (t x) (u x) at;
  }

  pub meets_same : (t u : ℕ → Bool) (a b : Seen) → ((x : ℕ) → x < length a.places.items → t x ≡ u x) → Meets t at a b → Meets u at a b
  meets_same t u a b same h = record {
    sound = h.sound;
    size = h.size;
    all = λ x small. h.all x small ∙ ap (λ b. or_met (met a x) b at) (same x small);
  }

  -- all that pass were seen
  pub meets_seen : (t : ℕ → Bool) (m : Seen) → IsSound m → ((x : ℕ) → t x ≡ true → has m.seen x ≡ true) → Meets t at m m
  meets_seen t m sound seen = record { sound = sound; size = refl; all = λ x small. by x small (t x) refl } where
    by : (x : ℕ) → x < length m.places.items → (b : Bool) → t x ≡ b → met m x ≡ or_met (met m x) (t x) at
    by x small true e = or_met_some (met m x) (t x) at (sound.seen x small (seen x e))
    by x small false e = or_met_false (met m x) at ∙ ap (λ b. or_met (met m x) b at) (sym e)

  -- ---- one variable

  pub meets_again : (m : Seen) (x : ℕ) → IsSound m → is_some (met m x) ≡ true → Meets (λ k. x == k) at m m
  meets_again m x sound there = record { sound = sound; size = refl; all = λ k small. by k (cases_eq x k) } where
    by : (k : ℕ) → (x ≡ k) ⊎ (x ≢ k) → met m k ≡ or_met (met m k) (x == k) at
    by k (inl e) = or_met_some (met m k) (x == k) at (ap (λ n. is_some (met m n)) (sym e) ∙ there)
    by k (inr n) = or_met_false (met m k) at ∙ ap (λ b. or_met (met m k) b at) (sym (ne_eqb x k n))

  pub meets_one : (old new : Seen) (x : ℕ) → IsSound old → x < length old.places.items → is_some (met old x) ≡ false
      → new.places.items ≡ set old.places.items x (Some at) → ((k : ℕ) → has new.seen k ≡ (has old.seen k || x == k))
      → length new.seen.words.items ≡ length old.seen.words.items → Meets (λ k. x == k) at old new
  meets_one old new x sound there free is seen room = record {
    sound = record {
      small = let s = size in let b = sound.small in omega arith;
      room = room ∙ sound.room ∙ ap (λ (n : ℕ). n / 64 + 1) (sym size);
      seen = λ k small e. marked k (let s = size in omega arith) e (cases_eq x k);
    };
    size = size;
    all = λ k small. by k (cases_eq x k);
  } where
    size : length new.places.items ≡ length old.places.items
    size = ap length is ∙ length-set old.places.items x (Some at)

    here : met new x ≡ Some at
    here = ap (λ l. get_or l x None) is ∙ get_or-set_same old.places.items x (Some at) None there

    other : (k : ℕ) → x ≢ k → met new k ≡ met old k
    other k n = ap (λ l. get_or l k None) is ∙ get_or-set_other old.places.items x k (Some at) None (λ e. n (sym e))

    first : (o : Option ℕ) → is_some o ≡ false → Some at ≡ or_met o true at
    first None e = refl
    first (Some p) e = absurd cc

    by : (k : ℕ) → (x ≡ k) ⊎ (x ≢ k) → met new k ≡ or_met (met old k) (x == k) at
    by k (inl e) =
        ap (met new) (sym e) ∙ here ∙ first (met old x) free ∙ ap (λ n. or_met (met old n) true at) e
        ∙ ap (λ b. or_met (met old k) b at) (sym (eq-eqb x k e))
    by k (inr n) = other k n ∙ or_met_false (met old k) at ∙ ap (λ b. or_met (met old k) b at) (sym (ne_eqb x k n))

    marked : (k : ℕ) → k < length old.places.items → has new.seen k ≡ true → (x ≡ k) ⊎ (x ≢ k) → is_some (met new k) ≡ true
    marked k small e (inl s) = ap (λ n. is_some (met new n)) (sym s) ∙ ap is_some here
    marked k small e (inr n) =
        ap is_some (other k n)
        ∙ sound.seen k small (sym (or-false (has old.seen k)) ∙ ap (λ b. has old.seen k || b) (sym (ne_eqb x k n)) ∙ sym (seen k) ∙ e)

  -- ---- ranges of variables

  module _ (r : ℕ → Bool) (old new : Seen) (low high : ℕ) where
    -- one variable more
    pub meets_next : (m : Seen) → low ≤ high → Meets (λ x. within low high x && r x) at old m → Meets (λ x. r high && high == x) at m new
        → Meets (λ x. within low (high + 1) x && r x) at old new
    meets_next m order one two =
        meets_same (λ x. (within low high x && r x) || (r high && high == x)) (λ x. within low (high + 1) x && r x) old new
        (λ x small. by x (cases_eq high x)) (meets_then (λ x. within low high x && r x) (λ x. r high && high == x) old m new one two)
      where
        last : (b : Bool) → ((true && false) && b || (b && true)) ≡ ((true && true) && b)
        last true = refl
        last false = refl

        none : (a b : Bool) → (a || (b && false)) ≡ a
        none true b = refl
        none false true = refl
        none false false = refl

        by : (x : ℕ) → (high ≡ x) ⊎ (high ≢ x) → ((within low high x && r x) || (r high && high == x)) ≡ (within low (high + 1) x && r x)
        by x (inl e) =
            let a : nat_le low x ≡ true = le-leb low x (omega arith) in
            let b : nat_lt x high ≡ false = le-ltb x high (omega arith) in
            let c : nat_lt x (high + 1) ≡ true = lt-ltb x (high + 1) (omega arith) in
            rw (a, b, c, eq-eqb high x e, ap r e) (last (r x))
        by x (inr n) =
            let b : nat_lt x (high + 1) ≡ nat_lt x high = grind (arith, nat_tests) in
            rw (b, ne_eqb high x n) (none (within low high x && r x) (r high))

    -- one range more
    pub meets_range : (mid : ℕ) (m : Seen) → low ≤ mid → mid ≤ high → Meets (λ x. within low mid x && r x) at old m
        → Meets (λ x. within mid high x && r x) at m new → Meets (λ x. within low high x && r x) at old new
    meets_range mid m less more one two =
        meets_same (λ x. (within low mid x && r x) || (within mid high x && r x)) (λ x. within low high x && r x) old new
        (λ x small. by x (nat_lt x mid) refl) (meets_then (λ x. within low mid x && r x) (λ x. within mid high x && r x) old m new one two)
      where
        before : (a b : Bool) → (((a && true) && b) || (false && b)) ≡ ((a && true) && b)
        before true true = refl
        before true false = refl
        before false b = refl

        by : (x : ℕ) (b : Bool) → nat_lt x mid ≡ b → ((within low mid x && r x) || (within mid high x && r x)) ≡ (within low high x && r x)
        by x true e =
            let l = ltb-true x mid e in
            let b : nat_le mid x ≡ false = lt-leb mid x (omega arith) in
            let c : nat_lt x high ≡ true = lt-ltb x high (omega arith) in
            rw (e, b, c) (before (nat_le low x) (r x))
        by x false e =
            let l : mid ≤ x = grind (arith, nat_tests) in
            let a : nat_le low x ≡ true = le-leb low x (omega arith) in
            let b : nat_le mid x ≡ true = le-leb mid x (omega arith) in
            rw (e, a, b) refl

  pub meets_empty : (r : ℕ → Bool) (low : ℕ) (m : Seen) → IsSound m → Meets (λ x. within low low x && r x) at m m
  meets_empty r low m sound = meets_none (λ x. within low low x && r x) m sound (λ x. by x (nat_lt x low) refl) where
    none : (a b : Bool) → ((a && false) && b) ≡ false
    none true b = refl
    none false b = refl

    by : (x : ℕ) (b : Bool) → nat_lt x low ≡ b → ((nat_le low x && nat_lt x low) && r x) ≡ false
    by x true e = let l = ltb-true x low e in let a : nat_le low x ≡ false = lt-leb low x (omega arith) in rw a refl
    by x false e = rw e (none (nat_le low x) (r x))

  -- all variables
  pub meets_all : (r : ℕ → Bool) (high : ℕ) (a b : Seen) → length a.places.items ≤ high → Meets (λ x. within 0 high x && r x) at a b → Meets r at a b
  meets_all r high a b past h =
      meets_same (λ x. within 0 high x && r x) r a b
      (λ x small. (let c : nat_lt x high ≡ true = lt-ltb x high (omega arith) in let d : nat_le 0 x ≡ true = le-leb 0 x (omega arith) in rw (c, d) refl)) h

  -- a word that was seen whole
  pub meets_word : (r : ℕ → Bool) (word : ℕ) (m : Seen) → IsSound m → ((k : ℕ) → k / 64 ≡ word → r k ≡ true → has m.seen k ≡ true)
      → Meets (λ x. within (word * 64) (word * 64 + 64) x && r x) at m m
  meets_word r word m sound covers =
      meets_seen (λ x. within (word * 64) (word * 64 + 64) x && r x) m sound
      (λ x e. covers x (here x (and_left (within (word * 64) (word * 64 + 64) x) (r x) e)) (and_right (within (word * 64) (word * 64 + 64) x) (r x) e))
    where
      here : (x : ℕ) → within (word * 64) (word * 64 + 64) x ≡ true → x / 64 ≡ word
      here x e =
          let l = leb-true (word * 64) x (and_left (nat_le (word * 64) x) _ e) in
          let h = ltb-true x (word * 64 + 64) (and_right (nat_le (word * 64) x) _ e) in
          omega arith
