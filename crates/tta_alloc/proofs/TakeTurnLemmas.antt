-- The next interval takes its home register in turn.
use Rattle.std.proofs.Common.{◌≡◌, ◌≢◌, ℕ, ◌+◌, ◌<◌, ◌≤◌, true, List, [], ◌∷◌, ◌++◌, Some, sym, ◌∙◌, ap, subst, arith, ◌⊎◌, inl, inr}
use Rattle.std.specs.Prelude.{slice_get, slice_set}
use Rattle.std.proofs.lemmas.List.{length-set}
use Rattle.std.proofs.lemmas.Bool.{cases_eq}
use Rattle.tta_alloc.specs.Cited.{Proc}
use Rattle.tta_alloc.specs.declared.interval.Interval.{Interval}
use Rattle.tta_alloc.specs.declared.home.Home.{Home}
use Rattle.tta_alloc.specs.declared.home.Home.TheVariants.{Reg, Slot}
use Rattle.tta_alloc.specs.Intervals.{IsBefore, TakesPart}
use Rattle.tta_alloc.specs.Law.{KeepsLaw}
use Rattle.tta_alloc.specs.Turns.{Had, IsFreeLongest, in_reg}
use Rattle.tta_alloc.specs.Turning.{IsLeast}
use Rattle.tta_alloc.proofs.TakenLemmas.{same_interval}
use Rattle.tta_alloc.proofs.ListLemmas.{In, in_front, in_last, in_cases}
use Rattle.tta_alloc.proofs.HolderLemmas.{reg_same}
use Rattle.tta_alloc.proofs.TurnLemmas.{Turned, RegOf, IsFreeFrom, never_before, some_at}
use Rattle.tta_alloc.proofs.TurnLemmas as turn
use Rattle.tta_list.proofs.Sets.{set_same, set_other}
use Rattle.tta_list.proofs.Tests.{some_same}

module _ (q : Proc) (homes : ℕ) (first answer : List Home) (done : List Interval) (from : List ℕ) (new : Interval)
    (h : Turned q homes first answer done from)
    (part : TakesPart q new)
    (before : (a : Interval) → In done a → TakesPart q a × IsBefore a new)
    (all : (a : Interval) → TakesPart q a → IsBefore a new → In done a)
    (law : KeepsLaw q homes first) (stays : in_reg first new.var ≡ true) (place : ℕ) (least : IsLeast from place) where
  right : (a : Interval) → TakesPart q a → a.start ≤ a.end
  right = turn.right q homes first answer done from new h part before all

  -- an earlier variable is another
  other : (a : Interval) → In done a → new.var ≢ a.var
  other = turn.other q homes first answer done from new h part before all

  -- since when the chosen one is free
  abbrev since : (f : ℕ) × (slice_get from place ≡ Some f)
  since = turn.since q homes first answer done from new h part before all law stays place least

  is_free : since.0 ≤ new.start
  is_free = turn.is_free q homes first answer done from new h part before all law stays place least

  abbrev now : List Home
  now = slice_set answer new.var (Reg place)

  mine_is : slice_get now new.var ≡ Some (Reg place)
  mine_is = set_same answer new.var (Reg place) (let s = h.size in let v = part.var in omega arith)

  place_is : (k : ℕ) → slice_get now new.var ≡ Some (Reg k) → k ≡ place
  place_is k e = reg_same k place (some_same (sym e ∙ mine_is))

  earlier : (x : ℕ) → new.var ≢ x → slice_get now x ≡ slice_get answer x
  earlier x differ = set_other answer new.var x (Reg place) differ

  -- what had a register before an earlier one, or before the new one
  had_from : (a : Interval) (k : ℕ) (b : Interval) → ((c : Interval) → TakesPart q c → IsBefore c a → new.var ≢ c.var) → Had q now a k b → Had q answer a k b
  had_from a k b differ w = record { part = w.part; before = w.before; home = sym (earlier b.var (differ b w.part w.before)) ∙ w.home }

  had_to : (a : Interval) (k : ℕ) (b : Interval) → ((c : Interval) → TakesPart q c → IsBefore c a → new.var ≢ c.var) → Had q answer a k b → Had q now a k b
  had_to a k b differ w = record { part = w.part; before = w.before; home = earlier b.var (differ b w.part w.before) ∙ w.home }

  -- before an earlier one the new one does not stand
  differs : (a : Interval) → In done a → (c : Interval) → TakesPart q c → IsBefore c a → new.var ≢ c.var
  differs a i c t b e =
      never_before a new (before a i).1 (subst (λ (x : Interval). IsBefore x a) (sym (same_interval q new c e part t)) b)

  differs_new : (c : Interval) → TakesPart q c → IsBefore c new → new.var ≢ c.var
  differs_new c t b = other c (all c t b)

  old_turn : (a : Interval) (k : ℕ) → In done a → IsFreeLongest q homes answer a k → IsFreeLongest q homes now a k
  old_turn a k i t = record {
    ended = λ b w. t.ended b (had_from a k b (differs a i) w);
    lesser = λ j less.
        let c = t.lesser j less in
        (c.0, (had_to a j c.0 (differs a i) c.1.0, λ b w. c.1.1 b (had_from a k b (differs a i) w)));
    greater = λ j more small b w.
        let c = t.greater j more small b (had_from a k b (differs a i) w) in
        (c.0, (had_to a j c.0 (differs a i) c.1.0, c.1.1));
  }

  -- an earlier one that had the chosen register ended before it became free
  gone : (b : Interval) → Had q now new place b → b.end < since.0
  gone b w = h.ended b place since.0 (all b w.part w.before) (had_from new place b differs_new w).home since.1

  had_by : (j : ℕ) (c : Interval) → In done c → slice_get answer c.var ≡ Some (Reg j) → Had q now new j c
  had_by j c i e = record { part = (before c i).0; before = (before c i).1; home = earlier c.var (other c i) ∙ e }

  new_turn : IsFreeLongest q homes now new place
  new_turn = record {
    ended = λ b w. let g = gone b w in let l = is_free in omega arith;
    lesser = lesser;
    greater = greater;
  } where
    lesser : (j : ℕ) → j < place → (c : Interval) × ((Had q now new j c) × ((b : Interval) → Had q now new place b → b.end < c.end))
    lesser j less = by (h.last j at.0 at.1) where
      at : (f : ℕ) × (slice_get from j ≡ Some f)
      at = some_at from j (let t = least.there in omega arith)

      by : IsFreeFrom answer done j at.0
          → (c : Interval) × ((Had q now new j c) × ((b : Interval) → Had q now new place b → b.end < c.end))
      by (inl z) = let l = least.lesser j since.0 at.0 less since.1 at.1 in absurd (omega arith)
      by (inr c) =
          let l = least.lesser j since.0 at.0 less since.1 at.1 in
          let e = c.1.1.1 in
          (c.0, (had_by j c.0 c.1.0 c.1.1.0, λ b w. let g = gone b w in omega arith))

    greater : (j : ℕ) → place < j → j < homes → (b : Interval) → Had q now new place b → (c : Interval) × ((Had q now new j c) × (b.end ≤ c.end))
    greater j more small b w = by (h.last j at.0 at.1) where
      at : (f : ℕ) × (slice_get from j ≡ Some f)
      at = some_at from j (let c = h.count in omega arith)

      by : IsFreeFrom answer done j at.0
          → (c : Interval) × ((Had q now new j c) × (b.end ≤ c.end))
      by (inl z) = let l = least.greater j since.0 at.0 (omega arith) since.1 at.1 in let g = gone b w in absurd (omega arith)
      by (inr c) =
          let l = least.greater j since.0 at.0 (omega arith) since.1 at.1 in
          let g = gone b w in
          let e = c.1.1.1 in
          let past : b.end ≤ c.0.end = omega arith in
          (c.0, (had_by j c.0 c.1.0 c.1.1.0, past))

  pub turned_take : Turned q homes first (slice_set answer new.var (Reg place)) (done ++ new ∷ []) (slice_set from place (new.end + 1))
  turned_take = record {
    count = length-set from place (new.end + 1) ∙ h.count;
    size = length-set answer new.var (Reg place) ∙ h.size;
    shape = λ x home e. shape x home e (cases_eq new.var x);
    regs = λ a i t. regs a t (in_cases done new a i);
    ended = λ b k f i e g. ended b k f e g (in_cases done new b i) (cases_eq place k);
    last = λ k f e. last k f e (cases_eq place k);
    turns = λ a k i e. turns a k e (in_cases done new a i);
  } where
    fits : place < homes
    fits = let c = h.count in let t = least.there in omega arith

    shape : (x : ℕ) (home : Home) → slice_get now x ≡ Some home → (new.var ≡ x) ⊎ (new.var ≢ x)
        → (home ≡ Slot x) ⊎ RegOf homes first (done ++ new ∷ []) x home
    shape x home e (inl same) =
        inr (
          new,
          (
            in_last done new,
            (
              same,
              (
                subst (λ (n : ℕ). in_reg first n ≡ true) same stays,
                (place, (fits, some_same (sym e ∙ ap (slice_get now) (sym same) ∙ mine_is))),
              ),
            ),
          ),
        )
    shape x home e (inr differ) = elim (h.shape x home (sym (earlier x differ) ∙ e)) [
      | inl s ↦ inl s
      | inr a ↦ inr (a.0, (in_front done (new ∷ []) a.0 a.1.0, a.1.1))
    ]

    regs : (a : Interval) → in_reg first a.var ≡ true → (In done a) ⊎ (new ≡ a) → (k : ℕ) × (slice_get now a.var ≡ Some (Reg k))
    regs a t (inl i) = let r = h.regs a i t in (r.0, earlier a.var (other a i) ∙ r.1)
    regs a t (inr n) = (place, subst (λ (x : Interval). slice_get now x.var ≡ Some (Reg place)) n mine_is)

    from_is : slice_get (slice_set from place (new.end + 1)) place ≡ Some (new.end + 1)
    from_is = set_same from place (new.end + 1) least.there

    ended : (b : Interval) (k f : ℕ) → slice_get now b.var ≡ Some (Reg k) → slice_get (slice_set from place (new.end + 1)) k ≡ Some f
        → (In done b) ⊎ (new ≡ b) → (place ≡ k) ⊎ (place ≢ k) → b.end < f
    ended b k f e g (inl i) (inl same) =
        let old = h.ended b place since.0 i (sym (earlier b.var (other b i)) ∙ e ∙ ap (λ (n : ℕ). Some (Reg n)) (sym same)) since.1 in
        let is : new.end + 1 ≡ f = some_same (sym from_is ∙ ap (slice_get (slice_set from place (new.end + 1))) same ∙ g) in
        let l = is_free in let r = right new part in omega arith
    ended b k f e g (inl i) (inr differ) =
        h.ended b k f i (sym (earlier b.var (other b i)) ∙ e) (sym (set_other from place k (new.end + 1) differ) ∙ g)
    ended b k f e g (inr n) (inl same) =
        let is : new.end + 1 ≡ f = some_same (sym from_is ∙ ap (slice_get (slice_set from place (new.end + 1))) same ∙ g) in
        let end = ap (λ (x : Interval). x.end) n in omega arith
    ended b k f e g (inr n) (inr differ) =
        absurd (differ (sym (place_is k (ap (λ (x : Interval). slice_get now x.var) n ∙ e))))

    last : (k f : ℕ) → slice_get (slice_set from place (new.end + 1)) k ≡ Some f → (place ≡ k) ⊎ (place ≢ k)
        → IsFreeFrom now (done ++ new ∷ []) k f
    last k f e (inl same) =
        inr (
          new,
          (
            in_last done new,
            (
              mine_is ∙ ap (λ (n : ℕ). Some (Reg n)) same,
              some_same (sym e ∙ ap (slice_get (slice_set from place (new.end + 1))) (sym same) ∙ from_is),
            ),
          ),
        )
    last k f e (inr differ) = elim (h.last k f (sym (set_other from place k (new.end + 1) differ) ∙ e)) [
      | inl z ↦ inl z
      | inr c ↦ inr (c.0, (in_front done (new ∷ []) c.0 c.1.0, (earlier c.0.var (other c.0 c.1.0) ∙ c.1.1.0, c.1.1.1)))
    ]

    turns : (a : Interval) (k : ℕ) → slice_get now a.var ≡ Some (Reg k) → (In done a) ⊎ (new ≡ a) → IsFreeLongest q homes now a k
    turns a k e (inl i) = old_turn a k i (h.turns a k i (sym (earlier a.var (other a i)) ∙ e))
    turns a k e (inr n) =
        let at : place ≡ k = sym (place_is k (ap (λ (x : Interval). slice_get now x.var) n ∙ e)) in
        subst (λ (x : Interval). IsFreeLongest q homes now x k) n (subst (λ (j : ℕ). IsFreeLongest q homes now new j) at new_turn)
