-- Homes that have the slots of a scan and keep registers apart keep the law.
use Rattle.std.proofs.Common.{◌≡◌, ◌≢◌, ℕ, ◌<◌, ◌≤◌, true, false, List, length, Option, Some, None, refl, sym, ◌∙◌, ap, subst, arith, ◌⊎◌, inl, inr}
use Rattle.std.specs.Prelude.{◌↔◌, slice_get, is_some}
use Rattle.tta_list.proofs.Lists.{some_within}
use Rattle.tta_list.proofs.Tests.{some_same}
use Rattle.tta_alloc.specs.Cited.{Proc}
use Rattle.tta_alloc.specs.declared.interval.Interval.{Interval}
use Rattle.tta_alloc.specs.declared.home.Home.{Home}
use Rattle.tta_alloc.specs.declared.home.Home.TheVariants.{Reg, Slot}
use Rattle.tta_alloc.specs.Intervals.{Counts, IsInterval, IsKept, IsSettled, TakesPart}
use Rattle.tta_alloc.specs.Law.{KeepsLaw}
use Rattle.tta_alloc.specs.Homes.{IsScanOf}
use Rattle.tta_alloc.specs.Turns.{TurnsAllot}
use Rattle.tta_alloc.specs.Allotted.{AreAllottedOf, ScansAllot}
use Rattle.tta_alloc.proofs.TakenLemmas.{at_place}
use Rattle.tta_alloc.proofs.HolderLemmas.{reg_slot}
use Rattle.tta_alloc.proofs.LawLemmas.{scan_keeps}
use Rattle.tta_alloc.proofs.HomeLemmas.{scan_given as scan_size}

-- a scan is itself one
pub scan_allots : (q : Proc) (homes : ℕ) (answer : List Home) → IsScanOf q homes answer → AreAllottedOf q homes answer
scan_allots q homes answer scan = record {
  each = scan_size q homes answer scan;
  law = scan_keeps q homes answer scan;
  first = answer;
  scanned = scan;
  slots = λ x small. (λ e. e, λ e. e);
}

module _ (q : Proc) (homes : ℕ) (first answer : List Home) (scan : IsScanOf q homes first) (size : length answer ≡ q.vars)
    (slots : (x : ℕ) → x < q.vars → (slice_get answer x ≡ Some (Slot x)) ↔ (slice_get first x ≡ Some (Slot x)))
    (range : (x : ℕ) (home : Home) → slice_get answer x ≡ Some home → (home ≡ Slot x) ⊎ ((k : ℕ) × ((k < homes) × (home ≡ Reg k))))
    (regs : (a b : Interval) (k : ℕ) → TakesPart q a → TakesPart q b → slice_get answer a.var ≡ Some (Reg k) → slice_get answer b.var ≡ Some (Reg k)
    → (a ≡ b) ⊎ ((a.end < b.start) ⊎ (b.end < a.start))) where
  law : KeepsLaw q homes first
  law = scan_keeps q homes first scan

  kept : (x : ℕ) → x < q.vars → IsKept q x → slice_get answer x ≡ Some (Slot x)
  kept x small k = (slots x small).1 (law.kept x small k)

  -- one home of two variables is a register
  shared : (x y : ℕ) → x < q.vars → x ≢ y → slice_get answer x ≡ slice_get answer y → (k : ℕ) × (slice_get answer x ≡ Some (Reg k))
  shared x y small other e = by (slice_get answer x) refl where
    by : (o : Option Home) → slice_get answer x ≡ o → (k : ℕ) × (slice_get answer x ≡ Some (Reg k))
    by None f = let t = some_within answer x (let s = size in omega arith) in absurd (no (sym (ap is_some f) ∙ t)) where
      no : false ≡ true → ⊥
      no g = cc
    by (Some home) f = one (range x home f) (range y home (sym e ∙ f)) where
      slot_same : (m n : ℕ) → Slot m ≡ Slot n → m ≡ n
      slot_same m n g = cc

      one : (home ≡ Slot x) ⊎ ((k : ℕ) × ((k < homes) × (home ≡ Reg k))) → (home ≡ Slot y) ⊎ ((k : ℕ) × ((k < homes) × (home ≡ Reg k)))
          → (k : ℕ) × (slice_get answer x ≡ Some (Reg k))
      one (inr r) s = (r.0, f ∙ ap (λ (z : Home). Some z) r.1.1)
      one (inl r) (inl s) = absurd (other (slot_same x y (sym r ∙ s)))
      one (inl r) (inr s) = reg_slot s.0 x (sym s.1.1 ∙ r)

  -- a variable with a register takes part
  takes : (x a b k : ℕ) → x < q.vars → IsInterval q x a b → slice_get answer x ≡ Some (Reg k) → TakesPart q (record { start = a; var = x; end = b })
  takes x a b k small i e = record { var = small; interval = i; free = λ c. reg_slot k x (some_same (sym e ∙ kept x small c)) }

  apart : (x y a b c d at : ℕ) → x < q.vars → y < q.vars → x ≢ y → IsInterval q x a b → IsInterval q y c d
      → a ≤ at → at ≤ b → c ≤ at → at ≤ d → slice_get answer x ≢ slice_get answer y
  apart x y a b c d at sx sy other i j la ha lc hc e =
      let r = shared x y sx other e in
      let hy = sym e ∙ r.1 in
      by (regs (record { start = a; var = x; end = b }) (record { start = c; var = y; end = d }) r.0 (takes x a b r.0 sx i r.1) (takes y c d r.0 sy j hy) r.1 hy)
    where
      mine : Interval
      mine = record { start = a; var = x; end = b }

      yours : Interval
      yours = record { start = c; var = y; end = d }

      by : (mine ≡ yours) ⊎ ((b < c) ⊎ (d < a)) → ⊥
      by (inl s) = other (ap (λ (v : Interval). v.var) s)
      by (inr (inl l)) = omega arith
      by (inr (inr l)) = omega arith

  -- the interval of a variable that counts and has a register
  found : (x at k : ℕ) → x < q.vars → Counts q x at → slice_get answer x ≡ Some (Reg k) → IsSettled q scan.taken x
      → (iv : Interval) × ((IsInterval q x iv.start iv.end) × ((iv.start ≤ at) × (at ≤ iv.end)))
  found x at k small c e (inl s) = reg_slot k x (some_same (sym e ∙ kept x small s))
  found x at k small c e (inr (inl none)) = absurd (none at c)
  found x at k small c e (inr (inr i)) =
      let w = at_place scan.taken i.0 i.1.0 in
      let r = subst (λ (n : ℕ). IsInterval q n i.0.start i.0.end) i.1.1 (scan.are.sound w.0 i.0 w.1).interval in
      (i.0, (r, r.all at c))

  meet : (x y at : ℕ) → x < q.vars → y < q.vars → x ≢ y → Counts q x at → Counts q y at → slice_get answer x ≢ slice_get answer y
  meet x y at sx sy other cx cy e =
      let r = shared x y sx other e in
      let m = found x at r.0 sx cx r.1 (scan.are.each x sx) in
      let n = found y at r.0 sy cy (sym e ∙ r.1) (scan.are.each y sy) in
      apart x y m.0.start m.0.end n.0.start n.0.end at sx sy other m.1.0 n.1.0 m.1.1.0 m.1.1.1 n.1.1.0 n.1.1.1 e

  pub allots : AreAllottedOf q homes answer
  allots = record {
    each = size;
    law = record {
      apart = λ x y a b c d at sx sy other i j la ha lc hc e. apart x y a b c d at sx sy other i j la ha lc hc e;
      slots = λ x a b small i free e. law.slots x a b small i free ((slots x small).0 e);
      meet = λ x y at sx sy other cx cy e. meet x y at sx sy other cx cy e;
      kept = λ x small k. kept x small k;
      range = range;
    };
    first = first;
    scanned = scan;
    slots = slots;
  }

-- ---- programs

pub scans_allot : ScansAllot
scans_allot p homes h is = record {
  count = is.count;
  allotted = λ owner q there. let s = is.scanned owner q there in (s.0, (scan_allots q homes s.0 s.1.0, s.1.1));
}

pub turns_allot : TurnsAllot
turns_allot p homes h is = record {
  count = is.count;
  allotted = λ owner q there. let s = is.turns owner q there in (s.0, (s.1.0.allotted, s.1.1));
}
