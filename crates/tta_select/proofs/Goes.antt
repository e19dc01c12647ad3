-- Items that are carried out one after another, and what one of them leaves.
use Rattle.std.proofs.Common.{◌≡◌, ℕ, Bool, true, false, List, [], ◌∷◌, ◌++◌, Option, Some, None, refl, sym, subst}
use Rattle.std.specs.Prelude.{if◌then◌else◌, ◌&&◌, ◌||◌, not}
use Rattle.std.proofs.lemmas.Bool.{and_parts}
use Rattle.tta_select.specs.Cited.{Units, GuardRef, Machine, Effect, Written, kept, passes, bring, Start, start_of, lacks_operand, has_unset, has_unset_guard, Item, guard_place, Waits, is_waiting, Held, read_held, effect_of, acts, waits_for, arrives, does, lacks, do_items, has_meaning}

-- ---- items in a row

module _ (u : Units) (m : Machine) (addr : List ℕ) (back : ℕ) where
  -- items that lack nothing lead from a state to another
  pub record Goes (h : Held) (items : List Item) (k : Held) : Type 0 where
    pub meaning : has_meaning u m addr back h items ≡ true
    pub leads : do_items u m addr back h items ≡ k

  pub stays : (h : Held) → Goes h [] h
  stays h = record { meaning = refl; leads = refl }

  pub chain : (xs ys : List Item) (h k l : Held) → Goes h xs k → Goes k ys l → Goes h (xs ++ ys) l
  chain [] ys h k l g f = subst (λ h. Goes h ys l) (sym g.leads) f
  chain (x ∷ xs) ys h k l g f =
      let first : (is_waiting h.exit || not (lacks m h (effect_of addr x))) ≡ true = (and_parts _ _ g.meaning).0 in
      let behind : has_meaning u m addr back (does u m back h (effect_of addr x)) xs ≡ true = (and_parts _ _ g.meaning).1 in
      let ih = chain xs ys (does u m back h (effect_of addr x)) k l (record { meaning = behind; leads = g.leads }) f in
      record { meaning = rw first ih.meaning; leads = ih.leads }

  pub one : (x : Item) (h k : Held) → lacks m h (effect_of addr x) ≡ false → does u m back h (effect_of addr x) ≡ k → Goes h (x ∷ []) k
  one x h k full leads = record { meaning = rw full (at (is_waiting h.exit)); leads = leads } where
    at : (b : Bool) → ((b || true) && true) ≡ true
    at true = refl
    at false = refl

  pub waiting : (e : Effect) (h : Held) → is_waiting h.exit ≡ true → does u m back h e ≡ h
  unfolding does
  waiting e h w = rw w refl

  -- a list that waits stays as it is
  pub waits : (items : List Item) (h : Held) → is_waiting h.exit ≡ true → Goes h items h
  waits [] h w = stays h
  waits (x ∷ xs) h w =
      let ih = waits xs h w in
      let same = sym (waiting (effect_of addr x) h w) in
      record {
        meaning = rw w (subst (λ k. has_meaning u m addr back k xs ≡ true) same ih.meaning);
        leads = subst (λ k. do_items u m addr back k xs ≡ h) same ih.leads;
      }

-- ---- one effect

-- a guard's register is set, and lets its move act or not
abbrev pub Guarded : Written → Option GuardRef → Bool → Type 0
Guarded ws None b = b ≡ true
Guarded ws (Some g) b = (x : ℕ) × (kept ws (guard_place g) ≡ Some x) × (passes g x ≡ b)

-- an effect that brings a word
pub record Brings (ws : Written) (e : Effect) (w : ℕ) : Type 0 where
  pub guard : has_unset_guard (read_held ws) e ≡ false
  pub source : has_unset (read_held ws) (λ s. true) e ≡ false
  pub word : bring (read_held ws) e ≡ Some (e.target, w)

-- an effect that does nothing, though it could
pub record Rests (ws : Written) (e : Effect) : Type 0 where
  pub guard : has_unset_guard (read_held ws) e ≡ false
  pub source : has_unset (read_held ws) (λ s. true) e ≡ false
  pub word : bring (read_held ws) e ≡ None

pub brings : (ws : Written) (e : Effect) (w : ℕ) → Guarded ws e.guard true → read_held ws e.src ≡ Some w → Brings ws e w
brings ws e w active there = on e.guard active where
  on : (g : Option GuardRef) → Guarded ws g true → Brings ws (record e { guard = g }) w
  on None a = record { guard = refl; source = rw there refl; word = rw there refl }
  on (Some g) a = record { guard = rw (a.1) refl; source = rw (a.1, a.2, there) refl; word = rw (a.1, a.2, there) refl }

pub rests : (ws : Written) (e : Effect) → Guarded ws e.guard false → Rests ws e
rests ws e idle = on e.guard idle where
  on : (g : Option GuardRef) → Guarded ws g false → Rests ws (record e { guard = g })
  on None a = absurd cc
  on (Some g) a = record { guard = rw (a.1) refl; source = rw (a.1, a.2) refl; word = rw (a.1, a.2) refl }

module _ (u : Units) (m : Machine) (back : ℕ) where
  pub rests_does : (h : Held) (e : Effect) → Rests h.written e → does u m back h e ≡ h
  unfolding does
  rests_does h e r = on (is_waiting h.exit) where
    on : (b : Bool) → (if b then h else arrives u m back h (bring (read_held h.written) e)) ≡ h
    on true = refl
    on false = rw (r.word) refl

  pub rests_lacks : (h : Held) (e : Effect) → Rests h.written e → lacks m h e ≡ false
  unfolding lacks
  rests_lacks h e r = rw (r.guard, r.source, r.word) refl

  -- a word that starts nothing
  pub brings_does : (h : Held) (e : Effect) (w : ℕ) → is_waiting h.exit ≡ false → Brings h.written e w → start_of m h.written (e.target, w) ≡ None
      → does u m back h e ≡ acts u m back h (e.target, w) []
  unfolding does
  brings_does h e w runs b none = rw (runs, b.word, none) refl

  pub brings_lacks : (h : Held) (e : Effect) (w : ℕ) → Brings h.written e w → start_of m h.written (e.target, w) ≡ None → lacks m h e ≡ false
  unfolding lacks
  brings_lacks h e w b none = rw (b.guard, b.source, b.word, none) refl

  -- a word that starts an operation
  pub starts_does : (h : Held) (e : Effect) (w : ℕ) (s : Start) → is_waiting h.exit ≡ false → Brings h.written e w → start_of m h.written (e.target, w) ≡ Some s
      → does u m back h e ≡ (if waits_for h (s ∷ []) then record h { exit = Waits } else acts u m back h (e.target, w) (s ∷ []))
  unfolding does
  starts_does h e w s runs b is = rw (runs, b.word, is) refl

  pub starts_lacks : (h : Held) (e : Effect) (w : ℕ) (s : Start) → Brings h.written e w → start_of m h.written (e.target, w) ≡ Some s → lacks_operand s ≡ false → lacks m h e ≡ false
  unfolding lacks
  starts_lacks h e w s b is full = rw (b.guard, b.source, b.word, is) full
