-- Numbers of blocks, written one by one.
use Rattle.std.proofs.Common.{◌≡◌, ◌<◌, ◌+◌, ◌==◌, ℕ, Bool, List, Some, true, false, length, slice_get, slice_set, slice_index, refl, sym, ap, ◌∙◌, subst, arith, inl, inr, length-set, get_or-set_same, get_or-set_other, Vec, Global}
use Rattle.std.specs.Prelude.{if◌then◌else◌}
use Rattle.std.proofs.lemmas.Bool.{eq-eqb, eqb-true, cases_eq}
use Rattle.tta_lower.specs.Cited.{Proc, Program}
use Rattle.tta_lower.specs.declared.numbers.Numbers.{Numbers}
use Rattle.tta_lower.specs.Liveness.{Block}
use Rattle.tta_lower.specs.Lower.{Part, Entry, Steps, Returned}
use Rattle.tta_lower.specs.Tables.{StandOnce, HasRoom, HasNumbers, IsWritten, row_of, number_in}

-- a number below the next that is not the latest
below : (j k : ℕ) → (j ≡ k → ⊥) → j < k + 1 → j < k
below j k ne lt = grind arith

module _ (p : Program) (parts : List Part) (old new : Numbers) (k : ℕ) (once : StandOnce parts) (has : HasNumbers p parts old k) where
  -- the part at the latest place
  latest : (j : ℕ) (x y : Part) → j ≡ k → slice_get parts k ≡ Some x → slice_get parts j ≡ Some y → y ≡ x
  latest j x y e here there = same (sym there ∙ ap (slice_get parts) e ∙ here) where
    same : {a b : Part} → Some a ≡ Some b → a ≡ b
    same f = cc

  -- ---- an entry

  module _ (o : ℕ) (here : slice_get parts k ≡ Some (Entry o)) (is : IsWritten (Entry o) k old new) where
    entry-steps : (j : ℕ) (b : Block) (q : Proc) → j < k + 1 → slice_get parts j ≡ Some (Steps b) → slice_get p.procs b.owner ≡ Some q → b.first < length q.steps
        → number_in new.rows.items b.owner b.first ≡ j
    entry-steps j b q lt there of within = elim (cases_eq j k) as (λ c. number_in new.rows.items b.owner b.first ≡ j) [
      | inl e ↦ let other : Steps b ≡ Entry o = latest j (Entry o) (Steps b) e here there in cc
      | inr ne ↦ ap (λ (r : Vec (Vec ℕ Global) Global). number_in r.items b.owner b.first) is.0 ∙ has.steps j b q (below j k ne lt) there of within
    ]

    entry-entries : (j a : ℕ) → j < k + 1 → slice_get parts j ≡ Some (Entry a) → a < length p.procs → slice_index new.entries.items a ≡ j
    entry-entries j a lt there within = elim (cases_eq j k) as (λ c. slice_index new.entries.items a ≡ j) [
      | inl e ↦
          let same : a ≡ o = entry-is (latest j (Entry o) (Entry a) e here there) in
          ap (λ l. slice_index l a) is.1 ∙ ap (λ i. slice_index (slice_set old.entries.items i k) a) (sym same)
          ∙ get_or-set_same old.entries.items a k 0 (omega (arith, within, has.size)) ∙ sym e
      | inr ne ↦
          ap (λ l. slice_index l a) is.1
          ∙ get_or-set_other old.entries.items o a k 0 (λ e. ne (once.entries j k a there (here ∙ ap (λ i. Some (Entry i)) (sym e))))
          ∙ has.entries j a (below j k ne lt) there within
    ] where
      entry-is : {a b : ℕ} → Entry a ≡ Entry b → a ≡ b
      entry-is e = cc

    entry-more : HasNumbers p parts new (k + 1)
    entry-more = record {
      room = subst (λ (r : Vec (Vec ℕ Global) Global). HasRoom p r.items) (sym is.0) has.room;
      size = ap length is.1 ∙ length-set old.entries.items o k ∙ has.size;
      steps = entry-steps;
      entries = entry-entries;
    }

  -- ---- a block of steps

  module _ (b : Block) (here : slice_get parts k ≡ Some (Steps b)) (is : IsWritten (Steps b) k old new) where
    row-size : (o : ℕ) → length (row_of new.rows.items o) ≡ length (row_of old.rows.items o)
    row-size o = ap length (is.2 o) ∙ by (b.owner == o) where
      by : (t : Bool) → length (if t then slice_set (row_of old.rows.items o) b.first k else row_of old.rows.items o) ≡ length (row_of old.rows.items o)
      by true = length-set (row_of old.rows.items o) b.first k
      by false = refl

    own-row : slice_index (row_of new.rows.items b.owner) b.first ≡ slice_index (slice_set (row_of old.rows.items b.owner) b.first k) b.first
    own-row = ap (λ l. slice_index l b.first) (is.2 b.owner ∙ rw (eq-eqb b.owner b.owner refl) refl)

    other-row : (c : Block) → (b.owner ≡ c.owner → b.first ≡ c.first → ⊥) → number_in new.rows.items c.owner c.first ≡ number_in old.rows.items c.owner c.first
    other-row c none = ap (λ l. slice_index l c.first) (is.2 c.owner) ∙ by (b.owner == c.owner) refl where
      by : (t : Bool) → (b.owner == c.owner) ≡ t
          → slice_index (if t then slice_set (row_of old.rows.items c.owner) b.first k else row_of old.rows.items c.owner) c.first ≡ number_in old.rows.items c.owner c.first
      by true e = get_or-set_other (row_of old.rows.items c.owner) b.first c.first k 0 (λ f. none (eqb-true b.owner c.owner e) (sym f))
      by false e = refl

    steps-steps : (j : ℕ) (c : Block) (q : Proc) → j < k + 1 → slice_get parts j ≡ Some (Steps c) → slice_get p.procs c.owner ≡ Some q → c.first < length q.steps
        → number_in new.rows.items c.owner c.first ≡ j
    steps-steps j c q lt there of within = elim (cases_eq j k) as (λ t. number_in new.rows.items c.owner c.first ≡ j) [
      | inl e ↦
          let same : c ≡ b = span-is (latest j (Steps b) (Steps c) e here there) in
          let room = (has.room).each c.owner q of in
          let owner : c.owner ≡ b.owner = ap (λ x. x.owner) same in
          let first : c.first ≡ b.first = ap (λ x. x.first) same in
          let size : length (row_of old.rows.items c.owner) ≡ length (row_of old.rows.items b.owner) = ap (λ o. length (row_of old.rows.items o)) owner in
          ap (λ x. number_in new.rows.items x.owner x.first) same ∙ own-row
          ∙ get_or-set_same (row_of old.rows.items b.owner) b.first k 0 (omega (arith, within, room, size, first)) ∙ sym e
      | inr ne ↦
          other-row c (λ o f. ne (once.steps j k c b there here (sym o) (sym f)))
          ∙ has.steps j c q (below j k ne lt) there of within
    ] where
      span-is : {a b : Block} → Steps a ≡ Steps b → a ≡ b
      span-is e = cc

    steps-entries : (j a : ℕ) → j < k + 1 → slice_get parts j ≡ Some (Entry a) → a < length p.procs → slice_index new.entries.items a ≡ j
    steps-entries j a lt there within = elim (cases_eq j k) as (λ c. slice_index new.entries.items a ≡ j) [
      | inl e ↦ let other : Entry a ≡ Steps b = latest j (Steps b) (Entry a) e here there in cc
      | inr ne ↦ ap (λ (l : Vec ℕ Global). slice_index l.items a) is.0 ∙ has.entries j a (below j k ne lt) there within
    ]

    steps-more : HasNumbers p parts new (k + 1)
    steps-more = record {
      room = record { size = is.1 ∙ (has.room).size; each = λ o q of. row-size o ∙ (has.room).each o q of };
      size = ap (λ (l : Vec ℕ Global). length l.items) is.0 ∙ has.size;
      steps = steps-steps;
      entries = steps-entries;
    }

  -- ---- a return

  module _ (b : Block) (d callee : ℕ) (here : slice_get parts k ≡ Some (Returned b d callee)) where
    return-more : HasNumbers p parts old (k + 1)
    return-more = record {
      room = has.room;
      size = has.size;
      steps = λ j c q lt there of within. elim (cases_eq j k) as (λ t. number_in old.rows.items c.owner c.first ≡ j) [
        | inl e ↦ let other : Steps c ≡ Returned b d callee = latest j (Returned b d callee) (Steps c) e here there in cc
        | inr ne ↦ has.steps j c q (below j k ne lt) there of within
      ];
      entries = λ j a lt there within. elim (cases_eq j k) as (λ t. slice_index old.entries.items a ≡ j) [
        | inl e ↦ let other : Entry a ≡ Returned b d callee = latest j (Returned b d callee) (Entry a) e here there in cc
        | inr ne ↦ has.entries j a (below j k ne lt) there within
      ];
    }

  -- one part more
  pub numbers-more : (x : Part) → slice_get parts k ≡ Some x → IsWritten x k old new → HasNumbers p parts new (k + 1)
  numbers-more (Entry o) here is = entry-more o here is
  numbers-more (Steps b) here is = steps-more b here is
  numbers-more (Returned b d callee) here is = subst (λ n. HasNumbers p parts n (k + 1)) (sym is) (return-more b d callee here)
