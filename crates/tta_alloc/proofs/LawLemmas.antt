-- What every linear scan keeps.
use Rattle.std.proofs.Common.{◌≡◌, ◌≢◌, ℕ, zero, suc, ◌+◌, ◌<◌, ◌≤◌, true, false, List, [], ◌∷◌, ◌++◌, length, Option, Some, None, refl, sym, ◌∙◌, ap, subst, arith, ◌⊎◌, inl, inr, append_assoc}
use Rattle.std.specs.Prelude.{slice_get, is_some}
use Rattle.std.proofs.lemmas.List.{append-nil}
use Rattle.std.proofs.lemmas.Option.{slice_get_within}
use Rattle.tta_list.proofs.Lists.{slice_get-longer, slice_get-back, some_within}
use Rattle.tta_list.proofs.Tests.{some_same}
use Rattle.tta_alloc.specs.declared.interval.Interval.{Interval}
use Rattle.tta_alloc.specs.declared.home.Home.{Home}
use Rattle.tta_alloc.specs.declared.home.Home.TheVariants.{Reg, Slot}
use Rattle.tta_alloc.specs.Scan.{Scan, scan_step, scan_all, slots_from}
use Rattle.tta_alloc.specs.Law.{IsCrowded, KeepsLaw}
use Rattle.tta_alloc.specs.Homes.{IsScanOf}
use Rattle.tta_alloc.specs.Intervals.{Counts, IsInterval, IsKept, IsSettled}
use Rattle.tta_alloc.proofs.HomeLemmas.{step_length, slots_length, scan_given as scan_size}
use Rattle.std.specs.List.{Contains}
use Rattle.tta_alloc.proofs.TakenLemmas.{at_place, same_interval}
use Rattle.tta_alloc.specs.Cited.{Proc}
use Rattle.tta_alloc.proofs.ListLemmas.{In}
use Rattle.tta_alloc.proofs.HolderLemmas.{Kept, reg_slot}
use Rattle.tta_alloc.proofs.TakeLemmas.{kept_step}
use Rattle.tta_flow.proofs.RunLemmas.{two as three}

-- ---- all intervals

module _ (homes vars : ℕ) (taken : List Interval)
    (sane : (a : Interval) → In taken a → (a.start ≤ a.end) × (a.var < vars))
    (rising : (j k : ℕ) (a b : Interval) → j < k → slice_get taken j ≡ Some a → slice_get taken k ≡ Some b → (a.start ≤ b.start) × (a.var ≢ b.var)) where
  once : (a b : Interval) → In taken a → In taken b → a.var ≡ b.var → a ≡ b
  once a b i j e = by (three i.0 j.0) where
    by : (i.0 < j.0) ⊎ ((i.0 ≡ j.0) ⊎ (j.0 < i.0)) → a ≡ b
    by (inl l) = absurd ((rising i.0 j.0 a b l i.1 j.1).1 e)
    by (inr (inl s)) = some_same (sym i.1 ∙ ap (slice_get taken) s ∙ j.1)
    by (inr (inr g)) = absurd ((rising j.0 i.0 b a g j.1 i.1).1 (sym e))

  pub kept_all : (done rest : List Interval) (s : Scan) → done ++ rest ≡ taken → length s.homes ≡ vars → Kept homes done s
      → Kept homes taken (scan_all homes s rest)
  kept_all done [] s all size h = subst (λ (l : List Interval). Kept homes l s) (sym (append-nil done) ∙ all) h
  kept_all done (new ∷ rest) s all size h =
      kept_all (done ++ new ∷ []) rest (scan_step homes s new) (append_assoc done (new ∷ []) rest ∙ all)
      (step_length homes s new ∙ size)
      (kept_step homes done s new h
      (λ a i. let r = rising i.0 (length done + 0) a new (let w = slice_get_within done i.0 a i.1 in omega arith) (there a i).1 at_new in
      ((sane a (there a i)).0, r))
      (λ a b i j e. once a b (there a i) (there b j) e) (sane new (length done + 0, at_new)).0
      (let v = (sane new (length done + 0, at_new)).1 in omega arith))
    where
      there : (a : Interval) → In done a → In taken a
      there a i = (i.0, ap (λ l. slice_get l i.0) (sym all) ∙ slice_get-longer done (new ∷ rest) i.0 a i.1)

      at_new : slice_get taken (length done + 0) ≡ Some new
      at_new = ap (λ l. slice_get l (length done + 0)) (sym all) ∙ slice_get-back done (new ∷ rest) 0

-- ---- every variable in its slot

pub slots_are : (first n x : ℕ) (home : Home) → slice_get (slots_from first n) x ≡ Some home → home ≡ Slot (first + x)
slots_are first zero x home e = absurd cc
slots_are first (suc n) zero home e = let z : first ≡ first + 0 = omega arith in some_same (sym e) ∙ ap (λ (k : ℕ). Slot k) z
slots_are first (suc n) (suc x) home e =
    let z : (first + 1) + x ≡ first + suc x = omega arith in slots_are (first + 1) n x home e ∙ ap (λ (k : ℕ). Slot k) z

pub kept_start : (homes vars : ℕ) → Kept homes [] (record { holders = []; homes = slots_from 0 vars })
kept_start homes vars = record {
  holds = λ k h e. absurd cc;
  regs = λ a k i e. let f = i.1 in absurd cc;
  apart = λ a b k i j e f. let g = i.1 in absurd cc;
  fresh = λ x home e. inl (slots_are 0 vars x home e ∙ ap (λ (k : ℕ). Slot k) (let z : 0 + x ≡ x = omega arith in z));
  few = omega arith;
  count = λ p. omega arith;
  full = λ a i e. let f = i.1 in absurd cc;
}

-- ---- the law

-- what a scan keeps when all intervals are taken
pub scan_kept : (q : Proc) (homes : ℕ) (answer : List Home) (h : IsScanOf q homes answer)
    → Kept homes h.taken (scan_all homes (record { holders = []; homes = slots_from 0 q.vars }) h.taken)
scan_kept q homes answer h =
    kept_all homes q.vars h.taken sane rising [] h.taken (record { holders = []; homes = slots_from 0 q.vars }) refl (slots_length 0 q.vars) (kept_start homes q.vars)
  where
    sane : (a : Interval) → In h.taken a → (a.start ≤ a.end) × (a.var < q.vars)
    sane a i =
        let t = h.are.sound i.0 a i.1 in
        ((t.interval.all a.end t.interval.last).0, t.var)

    rising : (j k : ℕ) (a b : Interval) → j < k → slice_get h.taken j ≡ Some a → slice_get h.taken k ≡ Some b → (a.start ≤ b.start) × (a.var ≢ b.var)
    rising j k a b less e f = by (h.are.rising j k a b less e f) where
      by : (a.start < b.start) ⊎ ((a.start ≡ b.start) × (a.var < b.var)) → (a.start ≤ b.start) × (a.var ≢ b.var)
      by (inl l) = (
        omega arith,
        λ s.
            let same = ap (λ (x : Interval). x.start) (same_interval q a b s (h.are.sound j a e) (h.are.sound k b f)) in absurd (omega arith),
      )
      by (inr s) = let m = s.1 in let n = s.0 in (omega arith, λ t. absurd (omega arith))

-- a home is the variable's slot, or the variable has an interval that takes part and a home register
pub scan_fresh : (q : Proc) (homes : ℕ) (answer : List Home) (h : IsScanOf q homes answer) (x : ℕ) (home : Home) → slice_get answer x ≡ Some home
    → (home ≡ Slot x) ⊎ ((v : Interval) × ((In h.taken v) × ((v.var ≡ x) × ((k : ℕ) × (home ≡ Reg k)))))
scan_fresh q homes answer h x home e = (scan_kept q homes answer h).fresh x home (sym (ap (λ l. slice_get l x) h.is) ∙ e)

pub scan_keeps : (q : Proc) (homes : ℕ) (answer : List Home) → IsScanOf q homes answer → KeepsLaw q homes answer
scan_keeps q homes answer h = record {
  apart = λ x y a b c d at sx sy other i j la ha lc hc e. apart x y a b c d at sx sy other i j la ha lc hc e;
  slots = λ x a b small i free e. slots x a b small i free e;
  meet = λ x y at sx sy other cx cy. meet x y at sx sy other cx cy (h.are.each x sx) (h.are.each y sy);
  kept = λ x small k. is_slot x small k;
  range = λ x home e. range x home e (kept.fresh x home (sym (answer_is x) ∙ e));
} where
  kept : Kept homes h.taken (scan_all homes (record { holders = []; homes = slots_from 0 q.vars }) h.taken)
  kept = scan_kept q homes answer h

  size : length answer ≡ q.vars
  size = scan_size q homes answer h

  answer_is : (x : ℕ) → slice_get answer x ≡ slice_get (scan_all homes (record { holders = []; homes = slots_from 0 q.vars }) h.taken).homes x
  answer_is x = ap (λ l. slice_get l x) h.is

  slots : (x a b : ℕ) → x < q.vars → IsInterval q x a b → (IsKept q x → ⊥) → slice_get answer x ≡ Some (Slot x)
      → (at : ℕ) × ((a ≤ at) × ((at ≤ b) × IsCrowded q homes at))
  slots x a b small i free e =
      let w = h.are.whole (record { start = a; var = x; end = b }) (record { var = small; interval = i; free = free }) in
      let f = kept.full (record { start = a; var = x; end = b }) w (sym (answer_is x) ∙ e) in
      (f.0, (f.1.0, (f.1.1.0, record { taken = h.taken; are = h.are; more = f.1.1.1 })))

  apart : (x y a b c d at : ℕ) → x < q.vars → y < q.vars → x ≢ y → IsInterval q x a b → IsInterval q y c d
      → a ≤ at → at ≤ b → c ≤ at → at ≤ d → slice_get answer x ≢ slice_get answer y
  apart x y a b c d at sx sy other i j la ha lc hc e = by (slice_get answer x) refl where
    by : (o : Option Home) → slice_get answer x ≡ o → ⊥
    by None f = let t = some_within answer x (let s = size in omega arith) in no (sym (ap is_some f) ∙ t) where
      no : false ≡ true → ⊥
      no g = cc
    by (Some home) f = cases (kept.fresh x home (sym (answer_is x) ∙ f)) (kept.fresh y home (sym (answer_is y) ∙ sym e ∙ f)) where
      slot_same : (m n : ℕ) → Slot m ≡ Slot n → m ≡ n
      slot_same m n g = cc

      -- the interval of a variable that has a home register
      its : (v s t : ℕ) (iv : Interval) → In h.taken iv → iv.var ≡ v → IsInterval q v s t → (iv.start ≡ s) × (iv.end ≡ t)
      its v s t iv m n r =
          let u = subst (λ (w : ℕ). IsInterval q w iv.start iv.end) n (h.are.sound m.0 iv m.1).interval in
          let p = (u.all s r.first).0 in let p2 = (r.all iv.start u.first).0 in
          let p3 = (u.all t r.last).1 in let p4 = (r.all iv.end u.last).1 in
          (omega arith, omega arith)

      cases : (home ≡ Slot x) ⊎ ((v : Interval) × ((In h.taken v) × ((v.var ≡ x) × ((k : ℕ) × (home ≡ Reg k)))))
          → (home ≡ Slot y) ⊎ ((v : Interval) × ((In h.taken v) × ((v.var ≡ y) × ((k : ℕ) × (home ≡ Reg k))))) → ⊥
      cases (inl m) (inl n) = other (slot_same x y (sym m ∙ n))
      cases (inl m) (inr n) = reg_slot n.1.1.1.0 x (sym n.1.1.1.1 ∙ m)
      cases (inr m) (inl n) = reg_slot m.1.1.1.0 y (sym m.1.1.1.1 ∙ n)
      cases (inr m) (inr n) =
          let k = m.1.1.1.0 in
          let hx : slice_get (scan_all homes (record { holders = []; homes = slots_from 0 q.vars }) h.taken).homes m.0.var ≡ Some (Reg k) =
          ap (slice_get (scan_all homes (record { holders = []; homes = slots_from 0 q.vars }) h.taken).homes) m.1.1.0
          ∙ sym (answer_is x) ∙ f ∙ ap (λ (z : Home). Some z) m.1.1.1.1 in
          let hy : slice_get (scan_all homes (record { holders = []; homes = slots_from 0 q.vars }) h.taken).homes n.0.var ≡ Some (Reg k) =
          ap (slice_get (scan_all homes (record { holders = []; homes = slots_from 0 q.vars }) h.taken).homes) n.1.1.0
          ∙ sym (answer_is y) ∙ sym e ∙ f ∙ ap (λ (z : Home). Some z) m.1.1.1.1 in
          let px = its x a b m.0 m.1.0 m.1.1.0 i in
          let py = its y c d n.0 n.1.0 n.1.1.0 j in
          meet (kept.apart m.0 n.0 k m.1.0 n.1.0 hx hy) px py
        where
          meet : (m.0 ≡ n.0) ⊎ ((m.0.end < n.0.start) ⊎ (n.0.end < m.0.start)) → (m.0.start ≡ a) × (m.0.end ≡ b)
              → (n.0.start ≡ c) × (n.0.end ≡ d) → ⊥
          meet (inl s) px py = other (sym m.1.1.0 ∙ ap (λ (v : Interval). v.var) s ∙ n.1.1.0)
          meet (inr (inl l)) px py = let p = px.1 in let r = py.0 in absurd (omega arith)
          meet (inr (inr l)) px py = let p = py.1 in let r = px.0 in absurd (omega arith)

  -- a home register that a variable has is there
  range : (x : ℕ) (home : Home) → slice_get answer x ≡ Some home
      → (home ≡ Slot x) ⊎ ((v : Interval) × ((In h.taken v) × ((v.var ≡ x) × ((k : ℕ) × (home ≡ Reg k)))))
      → (home ≡ Slot x) ⊎ ((k : ℕ) × ((k < homes) × (home ≡ Reg k)))
  range x home e (inl s) = inl s
  range x home e (inr v) =
      let k = v.1.1.1.0 in
      let has : slice_get (scan_all homes (record { holders = []; homes = slots_from 0 q.vars }) h.taken).homes v.0.var ≡ Some (Reg k) =
      ap (slice_get (scan_all homes (record { holders = []; homes = slots_from 0 q.vars }) h.taken).homes) v.1.1.0
      ∙ sym (answer_is x) ∙ e ∙ ap (λ (z : Home). Some z) v.1.1.1.1 in
      let r = kept.regs v.0 k v.1.0 has in
      let w = slice_get_within (scan_all homes (record { holders = []; homes = slots_from 0 q.vars }) h.taken).holders k r.0 r.1.0 in
      let few = kept.few in
      inr (k, (omega arith, v.1.1.1.1))

  -- a variable that a call keeps takes no part
  is_slot : (x : ℕ) → x < q.vars → IsKept q x → slice_get answer x ≡ Some (Slot x)
  is_slot x small k = by (slice_get answer x) refl where
    by : (o : Option Home) → slice_get answer x ≡ o → slice_get answer x ≡ Some (Slot x)
    by None f = let t = some_within answer x (let s = size in omega arith) in absurd (no (sym (ap is_some f) ∙ t)) where
      no : false ≡ true → ⊥
      no g = cc
    by (Some home) f = one (kept.fresh x home (sym (answer_is x) ∙ f)) where
      one : (home ≡ Slot x) ⊎ ((v : Interval) × ((In h.taken v) × ((v.var ≡ x) × ((j : ℕ) × (home ≡ Reg j))))) → slice_get answer x ≡ Some (Slot x)
      one (inl s) = f ∙ ap (λ (z : Home). Some z) s
      one (inr v) = absurd ((h.are.sound v.1.0.0 v.0 v.1.0.1).free (subst (IsKept q) (sym v.1.1.0) k))

  slot_differs : (x y : ℕ) → x ≢ y → slice_get answer x ≡ Some (Slot x) → slice_get answer x ≢ slice_get answer y
  slot_differs x y other sx e = by (range y (Slot x) (sym e ∙ sx) (kept.fresh y (Slot x) (sym (answer_is y) ∙ sym e ∙ sx))) where
    same : (m n : ℕ) → Slot m ≡ Slot n → m ≡ n
    same m n g = cc

    by : (Slot x ≡ Slot y) ⊎ ((k : ℕ) × ((k < homes) × (Slot x ≡ Reg k))) → ⊥
    by (inl s) = other (same x y s)
    by (inr r) = reg_slot r.0 x (sym r.1.1)

  meet : (x y at : ℕ) → x < q.vars → y < q.vars → x ≢ y → Counts q x at → Counts q y at → IsSettled q h.taken x → IsSettled q h.taken y
      → slice_get answer x ≢ slice_get answer y
  meet x y at sx sy other cx cy (inl k) t e = slot_differs x y other (is_slot x sx k) e
  meet x y at sx sy other cx cy (inr s) (inl k) e = slot_differs y x (λ n. other (sym n)) (is_slot y sy k) (sym e)
  meet x y at sx sy other cx cy (inr (inl none)) (inr t) e = none at cx
  meet x y at sx sy other cx cy (inr (inr i)) (inr (inl none)) e = none at cy
  meet x y at sx sy other cx cy (inr (inr i)) (inr (inr j)) e =
      let a = its_range x i.0 i.1.0 i.1.1 in
      let b = its_range y j.0 j.1.0 j.1.1 in
      let p = a.all at cx in let r = b.all at cy in
      apart x y i.0.start i.0.end j.0.start j.0.end at sx sy other a b p.0 p.1 r.0 r.1 e
    where
      its_range : (v : ℕ) (iv : Interval) → Contains h.taken iv → iv.var ≡ v → IsInterval q v iv.start iv.end
      its_range v iv c m =
          let w = at_place h.taken iv c in
          subst (λ (n : ℕ). IsInterval q n iv.start iv.end) m (h.are.sound w.0 iv w.1).interval
