-- Counts of one cycle more, and of none more where a run is over.
use Rattle.std.proofs.Common.{◌≡◌, inl, inr, ℕ, nat_lt, zero, suc, ◌+◌, ◌*◌, ◌<◌, ◌≤◌, ◌^◌, ◌==◌, Bool, true, false, ◌&&◌, List, [], ◌∷◌, ◌++◌, filter, length, refl, sym, ap, ◌∙◌, subst, arith}
use Rattle.std.specs.Prelude.{if◌then◌else◌, slice_get, slice_index, replicate}
use Rattle.std.specs.Option.{option_map_or}
use Rattle.std.specs.List.{count_by, list_any}
use Rattle.std.proofs.lemmas.Bool.{cases_eq, cases_lt, eq-eqb, ne_eqb, lt-ltb, le-ltb, ltb-true, ltb-false}
use Rattle.std.proofs.lemmas.List.{length-append, length-replicate}
use Rattle.std.proofs.lemmas.List.Sums.{length-filter}
use Rattle.std.proofs.lemmas.List.Elements.{filter-append}
use Rattle.tta_profile.specs.Cited.{iterate, Machine, Instruction, State, slots_of}
use Rattle.tta_arch.proofs.CodeLists.{numbered_more}
use Rattle.tta_profile.specs.declared.outside.Space.{Space}
use Rattle.tta_profile.specs.declared.outside.Space.TheVariants.{Data, Frame}
use Rattle.tta_profile.specs.Steps.{AreSmall, AreSmallOutside, Adds, AddsOutside, IsOver}
use Rattle.tta_profile.specs.Counts.{states, is_made, slot_at, is_stopped, carries, stops, executed, passed, Counts, AreCounts}
use Rattle.tta_profile.specs.Outside.{AreOutside, is_outside, outside, strays}
use Rattle.tta_list.proofs.Lists.{zeros}

-- a count over one item more at the end
count_last : {X : Type 0} (p : X → Bool) (xs : List X) (x : X) → count_by p (xs ++ x ∷ []) ≡ count_by p xs + (if p x then 1 else 0)
count_last p xs x =
    sym (length-filter p (xs ++ x ∷ [])) ∙ ap length (filter-append p xs (x ∷ [])) ∙ length-append (filter p xs) (filter p (x ∷ []))
    ∙ ap (λ (n : ℕ). n + length (filter p (x ∷ []))) (length-filter p xs) ∙ ap (λ (n : ℕ). count_by p xs + n) (one (p x) refl) where
      one : (b : Bool) → p x ≡ b → length (filter p (x ∷ [])) ≡ (if p x then 1 else 0)
      one true is = rw is refl
      one false is = rw is refl

-- one more at a place of 16 a row, by its row and its number there
pub one_more : (a b address bus now new was : ℕ) (has : ℕ → Bool) → b < 16 → bus < 16
    → new ≡ now + (if (16 * a + b) == (16 * address + bus) && has bus then 1 else 0)
    → now ≡ was + (if a == address && (nat_lt b bus && has b) then 1 else 0)
    → new ≡ was + (if a == address && (nat_lt b (bus + 1) && has b) then 1 else 0)
one_more a b address bus now new was has small small' is was_is = elim (cases_eq a address) [
  | inl row ↦ elim (cases_eq b bus) [
    | inl at ↦
        let here : ((16 * a + b) == (16 * address + bus)) ≡ true = eq-eqb (16 * a + b) (16 * address + bus) (omega (arith, row, at)) in
        let same : (a == address) ≡ true = eq-eqb a address row in
        let not_yet : nat_lt b bus ≡ false = le-ltb b bus (omega (arith, at)) in
        let now_on : nat_lt b (bus + 1) ≡ true = lt-ltb b (bus + 1) (omega (arith, at)) in
        let old : now ≡ was + (if a == address && (false && has b) then 1 else 0) = subst (λ (t : Bool). now ≡ was + (if a == address && (t && has b) then 1 else 0)) not_yet was_is in
        let new' : new ≡ now + (if has b then 1 else 0) =
        subst (λ (n : ℕ). new ≡ now + (if has n then 1 else 0)) (sym at) (subst (λ (t : Bool). new ≡ now + (if t && has bus then 1 else 0)) here is) in
        let none : (a == address && (false && has b)) ≡ false = rw same refl in
        let old' : now ≡ was + 0 = subst (λ (t : Bool). now ≡ was + (if t then 1 else 0)) none old in
        rw (same, now_on) (new' ∙ ap (λ (n : ℕ). n + (if has b then 1 else 0)) (old' ∙ omega arith))
    | inr other ↦
        let there : ((16 * a + b) == (16 * address + bus)) ≡ false = ne_eqb (16 * a + b) (16 * address + bus) (λ e. other (omega (arith, e, row))) in
        let as_before : nat_lt b (bus + 1) ≡ nat_lt b bus = less_more b bus other in
        let new' : new ≡ now + 0 = subst (λ (t : Bool). new ≡ now + (if t && has bus then 1 else 0)) there is in
        rw as_before (new' ∙ omega arith ∙ was_is)
  ]
  | inr other ↦
      let there : ((16 * a + b) == (16 * address + bus)) ≡ false = ne_eqb (16 * a + b) (16 * address + bus) (λ e. other (omega (arith, e, small, small'))) in
      let differs : (a == address) ≡ false = ne_eqb a address other in
      let new' : new ≡ now + 0 = subst (λ (t : Bool). new ≡ now + (if t && has bus then 1 else 0)) there is in
      let old : now ≡ was + 0 = subst (λ (t : Bool). now ≡ was + (if t && (nat_lt b bus && has b) then 1 else 0)) differs was_is in
      rw differs (new' ∙ omega arith ∙ old)
] where
  less_more : (b bus : ℕ) → (b ≡ bus → ⊥) → nat_lt b (bus + 1) ≡ nat_lt b bus
  less_more b bus other = by (nat_lt b bus) refl where
    by : (t : Bool) → nat_lt b bus ≡ t → nat_lt b (bus + 1) ≡ t
    by true is = let less = ltb-true b bus is in lt-ltb b (bus + 1) (omega arith)
    by false is =
        let least = ltb-false b bus is in
        le-ltb b (bus + 1) (elim (cases_lt bus b) [ inl more ↦ omega arith | inr most ↦ absurd (other (omega arith)) ])

module _ (step : State → State) (s : State) where
  -- the state before a cycle
  abbrev pub before : ℕ → State
  before k = iterate k step s

  -- the states before one cycle more
  states_more : (k : ℕ) → states step s (k + 1) ≡ states step s k ++ before k ∷ []
  states_more k = sym (numbered_more before (states step s k) (states step s k ++ before k ∷ []) [] k refl refl)

  -- a count over one cycle more
  pub count_more : (p : State → Bool) (k : ℕ) → count_by p (states step s (k + 1)) ≡ count_by p (states step s k) + (if p (before k) then 1 else 0)
  count_more p k = ap (count_by p) (states_more k) ∙ count_last p (states step s k) (before k)

  -- where a cycle is the last, all later states are the one after it
  pub stays : (k : ℕ) → step (step (before k)) ≡ step (before k) → (j : ℕ) → before (j + suc k) ≡ step (before k)
  stays k over zero = let e : 0 + suc k ≡ suc k = omega arith in ap before e
  stays k over (suc j) =
      let e : suc j + suc k ≡ suc (j + suc k) = omega arith in ap before e ∙ ap step (stays k over j) ∙ over

  -- and a count of what holds of no such cycle stays
  pub count_stays : (p : State → Bool) (k : ℕ) → step (step (before k)) ≡ step (before k) → p (before k) ≡ false → p (step (before k)) ≡ false → (j : ℕ)
      → count_by p (states step s (j + k)) ≡ count_by p (states step s k)
  count_stays p k over here next zero = let e : 0 + k ≡ k = omega arith in ap (λ (n : ℕ). count_by p (states step s n)) e
  count_stays p k over here next (suc zero) =
      let e : suc zero + k ≡ k + 1 = omega arith in
      ap (λ (n : ℕ). count_by p (states step s n)) e ∙ count_more p k ∙ ap (λ (b : Bool). count_by p (states step s k) + (if b then 1 else 0)) here ∙ omega arith
  count_stays p k over here next (suc (suc j)) =
      let e : suc (suc j) + k ≡ (j + suc k) + 1 = omega arith in
      let f : j + suc k ≡ suc j + k = omega arith in
      ap (λ (n : ℕ). count_by p (states step s n)) e ∙ count_more p (j + suc k)
      ∙ ap (λ (b : Bool). count_by p (states step s (j + suc k)) + (if b then 1 else 0)) (ap p (stays k over j) ∙ next)
      ∙ omega arith ∙ ap (λ (n : ℕ). count_by p (states step s n)) f ∙ count_stays p k over here next (suc j)

  -- nor does such a cycle count later, if it is over
  pub over_next : (k : ℕ) → IsOver step (before k) → is_made step (step (before k)) ≡ false
  over_next k over =
      ne_eqb (step (step (before k))).cycle ((step (before k)).cycle + 1)
      (λ e. let same : (step (step (before k))).cycle ≡ (step (before k)).cycle = ap (λ (t : State). t.cycle) over.stays in absurd (omega (arith, e, same)))

  -- there are no more of them than cycles
  pub count_few : (p : State → Bool) (k : ℕ) → count_by p (states step s k) ≤ k
  count_few p zero = omega arith
  count_few p (suc k) =
      let e : suc k ≡ k + 1 = omega arith in
      let rest = count_few p k in
      let more = count_more p k in
      let one = at_most (p (before k)) in
      subst (λ (n : ℕ). count_by p (states step s n) ≤ n) (sym e) (omega (arith, rest, more, one)) where
        at_most : (b : Bool) → (if b then 1 else 0) ≤ 1
        at_most true = omega arith
        at_most false = omega arith

module _ (step : State → State) (words : List Instruction) (s : State) where
  abbrev now : ℕ → State
  now k = iterate k step s

  -- nothing is counted of no cycles
  pub counts_begin : (c : Counts) → c.executed ≡ replicate (length words) 0 → c.passed ≡ replicate (16 * length words) 0 → AreCounts step words s 0 c
  counts_begin c executed passed = record {
    executed = λ a. ap (λ (l : List ℕ). slice_index l a) executed ∙ zeros (length words) a;
    passed = λ a b low. ap (λ (l : List ℕ). slice_index l (16 * a + b)) passed ∙ zeros (16 * length words) (16 * a + b);
    sizes = (ap length executed ∙ length-replicate (length words) 0, ap length passed ∙ length-replicate (16 * length words) 0);
  }

  -- counts of few cycles are small
  pub are_small : (k : ℕ) (c : Counts) → k < 2 ^ 62 → AreCounts step words s k c → AreSmall c
  are_small k c few are = record {
    executed = λ a. let at = are.executed a in let most = count_few step s (carries step a) k in omega (arith, at, most, few);
    passed = λ a b low. let at = are.passed a b low in let most = count_few step s (stops step words a b) k in omega (arith, at, most, few);
  }

  -- with what a cycle adds they are those of one cycle more
  pub counts_on : (k : ℕ) (c c' : Counts) → AreCounts step words s k c → Adds step words (now k) c c'
      → length c'.executed ≡ length c.executed → length c'.passed ≡ length c.passed → AreCounts step words s (k + 1) c'
  counts_on k c c' are adds size room = record {
    executed = λ a. adds.executed a ∙ ap (λ (n : ℕ). n + (if carries step a (now k) then 1 else 0)) (are.executed a) ∙ sym (count_more step s (carries step a) k);
    passed = λ a b low. adds.passed a b low ∙ ap (λ (n : ℕ). n + (if stops step words a b (now k) then 1 else 0)) (are.passed a b low)
        ∙ sym (count_more step s (stops step words a b) k);
    sizes = (size ∙ are.sizes.0, room ∙ are.sizes.1);
  }

  -- where no cycle will be made any more they are those of any number of cycles
  pub counts_over : (k j : ℕ) (c : Counts) → AreCounts step words s k c → IsOver step (now k) → AreCounts step words s (j + k) c
  counts_over k j c are over =
      let next : is_made step (step (now k)) ≡ false = over_next step s k over in
      record {
        executed = λ a. are.executed a
            ∙ sym (count_stays step s (carries step a) k over.stays (ap (λ (b : Bool). b && a == (now k).pc) over.made) (ap (λ (b : Bool). b && a == (step (now k)).pc) next) j);
        passed = λ a b low. are.passed a b low
            ∙ sym (count_stays step s (stops step words a b) k over.stays
            (ap (λ (t : Bool). t && (a == (now k).pc && option_map_or (is_stopped (now k)) (slot_at words a b) false)) over.made)
            (ap (λ (t : Bool). t && (a == (step (now k)).pc && option_map_or (is_stopped (step (now k))) (slot_at words a b) false)) next) j);
        sizes = are.sizes;
      }

module _ (step : State → State) (m : Machine) (words : List Instruction) (s : State) where
  abbrev at : ℕ → State
  at k = iterate k step s

  -- no access outside is counted of no cycles
  pub outside_begin : (c : Counts) → c.outside_data ≡ replicate (length words) 0 → c.outside_frame ≡ replicate (length words) 0 → AreOutside step m words s 0 c
  outside_begin c of_data of_frame = record {
    of_data = λ a. ap (λ (l : List ℕ). slice_index l a) of_data ∙ zeros (length words) a;
    of_frame = λ a. ap (λ (l : List ℕ). slice_index l a) of_frame ∙ zeros (length words) a;
    sizes = (ap length of_data ∙ length-replicate (length words) 0, ap length of_frame ∙ length-replicate (length words) 0);
  }

  -- counts of few cycles are small
  pub are_small_outside : (k : ℕ) (c : Counts) → k < 2 ^ 62 → AreOutside step m words s k c → AreSmallOutside c
  are_small_outside k c few are = record {
    of_data = λ a. let here = are.of_data a in let most = count_few step s (strays step m words Data a) k in omega (arith, here, most, few);
    of_frame = λ a. let here = are.of_frame a in let most = count_few step s (strays step m words Frame a) k in omega (arith, here, most, few);
  }

  -- with what a cycle adds they are those of one cycle more
  pub outside_on : (k : ℕ) (c c' : Counts) → AreOutside step m words s k c → AddsOutside step m words (at k) c c'
      → length c'.outside_data ≡ length c.outside_data → length c'.outside_frame ≡ length c.outside_frame → AreOutside step m words s (k + 1) c'
  outside_on k c c' are adds size_data size_frame = record {
    of_data = λ a. adds.of_data a ∙ ap (λ (n : ℕ). n + (if strays step m words Data a (at k) then 1 else 0)) (are.of_data a)
        ∙ sym (count_more step s (strays step m words Data a) k);
    of_frame = λ a. adds.of_frame a ∙ ap (λ (n : ℕ). n + (if strays step m words Frame a (at k) then 1 else 0)) (are.of_frame a)
        ∙ sym (count_more step s (strays step m words Frame a) k);
    sizes = (size_data ∙ are.sizes.0, size_frame ∙ are.sizes.1);
  }

  -- where no cycle will be made any more they are those of any number of cycles
  strays_stays : (space : Space) (a k j : ℕ) → IsOver step (at k) → outside step m words s (j + k) space a ≡ outside step m words s k space a
  strays_stays space a k j over =
      count_stays step s (strays step m words space a) k over.stays
      (ap (λ (b : Bool). b && (a == (at k).pc && list_any (is_outside m space (step (at k)).written (at k)) (slots_of (slice_get words a)))) over.made)
      (ap (λ (b : Bool). b && (a == (step (at k)).pc && list_any (is_outside m space (step (step (at k))).written (step (at k))) (slots_of (slice_get words a)))) (over_next step s k over))
      j

  pub outside_over : (k j : ℕ) (c : Counts) → AreOutside step m words s k c → IsOver step (at k) → AreOutside step m words s (j + k) c
  outside_over k j c are over = record {
    of_data = λ a. are.of_data a ∙ sym (strays_stays Data a k j over);
    of_frame = λ a. are.of_frame a ∙ sym (strays_stays Frame a k j over);
    sizes = are.sizes;
  }
