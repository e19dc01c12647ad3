-- Home registers that are given in turn, from the first interval to the last.
use Rattle.std.proofs.Common.{◌≡◌, ℕ, zero, suc, ◌+◌, ◌<◌, ◌≤◌, Bool, true, false, List, [], ◌∷◌, ◌++◌, length, get_or, take, Option, Some, refl, sym, ◌∙◌, ap, subst, arith, ◌⊎◌, inl, inr}
use Rattle.std.specs.Prelude.{◌↔◌, slice_get}
use Rattle.std.specs.Option.{option_map_or}
use Rattle.std.proofs.lemmas.List.{take_more}
use Rattle.std.proofs.lemmas.Option.{slice_get_within}
use Rattle.tta_alloc.specs.Cited.{Proc}
use Rattle.tta_alloc.specs.declared.interval.Interval.{Interval}
use Rattle.tta_alloc.specs.declared.home.Home.{Home}
use Rattle.tta_alloc.specs.declared.home.Home.TheVariants.{Reg, Slot}
use Rattle.tta_alloc.specs.declared.turns.Turns.{Turns}
use Rattle.tta_alloc.specs.Intervals.{IsBefore, TakesPart, AreTaken}
use Rattle.tta_alloc.specs.Scan.{slots_from, scan}
use Rattle.tta_alloc.specs.Homes.{IsScanOf}
use Rattle.tta_alloc.specs.Law.{KeepsLaw}
use Rattle.tta_alloc.specs.Turns.{AreInTurnOf, in_reg, is_reg}
use Rattle.tta_alloc.specs.Turning.{Takes}
use Rattle.tta_alloc.proofs.HomeLemmas.{slots_length, scan_given as scan_size}
use Rattle.tta_alloc.proofs.ListLemmas.{In}
use Rattle.tta_alloc.proofs.HolderLemmas.{reg_slot}
use Rattle.tta_alloc.proofs.LawLemmas.{slots_are, scan_keeps, scan_fresh}
use Rattle.tta_alloc.proofs.AllotLemmas.{allots}
use Rattle.tta_alloc.proofs.TurnLemmas.{Turned, never_before, reg_in, turned_rest}
use Rattle.tta_alloc.proofs.TakeTurnLemmas.{turned_take}
use Rattle.tta_flow.proofs.RunLemmas.{two as three}
use Rattle.tta_list.proofs.Tests.{some_same}

-- ---- the intervals before a place

take_at : (xs : List Interval) (i k : ℕ) → k < i → slice_get (take i xs) k ≡ slice_get xs k
take_at xs zero k l = absurd (omega arith)
take_at [] (suc i) k l = refl
take_at (x ∷ xs) (suc i) zero l = refl
take_at (x ∷ xs) (suc i) (suc k) l = take_at xs i k (omega arith)

take_in : (xs : List Interval) (i k : ℕ) (a : Interval) → slice_get (take i xs) k ≡ Some a → k < i
take_in [] zero k a e = absurd cc
take_in [] (suc i) k a e = absurd cc
take_in (x ∷ xs) zero k a e = absurd cc
take_in (x ∷ xs) (suc i) zero a e = omega arith
take_in (x ∷ xs) (suc i) (suc k) a e = let l = take_in xs i k a e in omega arith

read_at : (xs : List Interval) (i : ℕ) (d : Interval) → i < length xs → slice_get xs i ≡ Some (get_or xs i d)
read_at [] i d l = absurd (omega arith)
read_at (x ∷ xs) zero d l = refl
read_at (x ∷ xs) (suc i) d l = read_at xs i d (omega arith)

-- ---- the first

pub turned_none : (q : Proc) (homes : ℕ) (first answer : List Home) (from : List ℕ) → answer ≡ slots_from 0 q.vars → length from ≡ homes
    → ((k f : ℕ) → slice_get from k ≡ Some f → f ≡ 0) → Turned q homes first answer [] from
turned_none q homes first answer from is count zeros = record {
  count = count;
  size = ap length is ∙ slots_length 0 q.vars;
  shape = λ x home e.
      inl (slots_are 0 q.vars x home (sym (ap (λ l. slice_get l x) is) ∙ e) ∙ ap (λ (k : ℕ). Slot k) (let z : 0 + x ≡ x = omega arith in z));
  regs = λ a i e. let f = i.1 in absurd cc;
  ended = λ b k f i e g. let n = i.1 in absurd cc;
  last = λ k f e. inl (zeros k f e);
  turns = λ a k i e. let f = i.1 in absurd cc;
}

-- ---- one more

pub turned_more : (q : Proc) (homes : ℕ) (first : List Home) (taken : List Interval) (i : ℕ) (d : Interval) (read : List Home) (stays : Bool) (old now : Turns)
    → AreTaken q taken → KeepsLaw q homes first → i < length taken → Turned q homes first old.homes.items (take i taken) old.from.items
    → read ≡ first → stays ≡ in_reg read (get_or taken i d).var → (stays ≡ true → Takes (get_or taken i d) old now) → (stays ≡ false → now ≡ old)
    → Turned q homes first now.homes.items (take (i + 1) taken) now.from.items
turned_more q homes first taken i d read stays old now are law there h same is takes rests =
    subst (λ (l : List Interval). Turned q homes first now.homes.items l now.from.items) (sym (take_more taken i d there)) (by stays refl)
  where
    at : slice_get taken i ≡ Some (get_or taken i d)
    at = read_at taken i d there

    part : TakesPart q (get_or taken i d)
    part = are.sound i (get_or taken i d) at

    before : (a : Interval) → In (take i taken) a → TakesPart q a × IsBefore a (get_or taken i d)
    before a w =
        let l = take_in taken i w.0 a w.1 in
        let e = sym (take_at taken i w.0 l) ∙ w.1 in
        (are.sound w.0 a e, are.rising w.0 i a (get_or taken i d) l e at)

    all : (a : Interval) → TakesPart q a → IsBefore a (get_or taken i d) → In (take i taken) a
    all a t b = on (are.whole a t) where
      on : (k : ℕ) × (slice_get taken k ≡ Some a) → In (take i taken) a
      on k = by (three k.0 i) where
        by : (k.0 < i) ⊎ ((k.0 ≡ i) ⊎ (i < k.0)) → In (take i taken) a
        by (inl l) = (k.0, take_at taken i k.0 l ∙ k.1)
        by (inr (inl e)) =
            let same : get_or taken i d ≡ a = some_same (sym at ∙ ap (slice_get taken) (sym e) ∙ k.1) in
            let self = subst (λ (x : Interval). IsBefore a x) same b in absurd (never_before a a self self)
        by (inr (inr g)) = absurd (never_before a (get_or taken i d) b (are.rising i k.0 (get_or taken i d) a g at k.1))

    by : (b : Bool) → stays ≡ b → Turned q homes first now.homes.items (take i taken ++ get_or taken i d ∷ []) now.from.items
    by true e =
        let t = takes e in
        rw (t.homes, t.from) (turned_take q homes first old.homes.items (take i taken) old.from.items (get_or taken i d) h part before all law (sym (ap (λ l. in_reg l (get_or taken i d).var) same) ∙ sym is ∙ e) t.place t.least)
    by false e =
        rw (rests e) (turned_rest q homes first old.homes.items (take i taken) old.from.items (get_or taken i d) h part before all (sym (ap (λ l. in_reg l (get_or taken i d).var) same) ∙ sym is ∙ e))

-- ---- all

pub turned_whole : (q : Proc) (homes : ℕ) (first answer : List Home) (taken : List Interval) (i : ℕ) (from : List ℕ) → AreTaken q taken
    → first ≡ scan homes q.vars taken → length taken ≤ i → Turned q homes first answer (take i taken) from → AreInTurnOf q homes answer
turned_whole q homes first answer taken i from are is past h = record {
  allotted = allots q homes first answer of h.size slots range regs;
  turns = λ a k t e. h.turns a k (done a t) e;
} where
  of : IsScanOf q homes first
  of = record { taken = taken; are = are; is = is }

  in_done : (a : Interval) → In taken a → In (take i taken) a
  in_done a w = (w.0, take_at taken i w.0 (let l = slice_get_within taken w.0 a w.1 in omega arith) ∙ w.1)

  done : (a : Interval) → TakesPart q a → In (take i taken) a
  done a t = in_done a (are.whole a t)

  reg_is_in : (x k : ℕ) → slice_get first x ≡ Some (Reg k) → in_reg first x ≡ true
  reg_is_in x k e = ap (λ (o : Option Home). option_map_or is_reg o false) e

  slot_is_out : {A : Type 0} (x : ℕ) → slice_get first x ≡ Some (Slot x) → in_reg first x ≡ true → A
  slot_is_out x e t = absurd (no (sym (ap (λ (o : Option Home). option_map_or is_reg o false) e) ∙ t)) where
    no : false ≡ true → ⊥
    no g = cc

  range : (x : ℕ) (home : Home) → slice_get answer x ≡ Some home → (home ≡ Slot x) ⊎ ((k : ℕ) × ((k < homes) × (home ≡ Reg k)))
  range x home e = elim (h.shape x home e) [
    | inl s ↦ inl s
    | inr a ↦ inr a.1.1.1.1
  ]

  -- a variable that the scan keeps in a register has one
  stays : (x : ℕ) (home : Home) → slice_get first x ≡ Some home → slice_get answer x ≡ Some (Slot x)
      → (home ≡ Slot x) ⊎ ((v : Interval) × ((In taken v) × ((v.var ≡ x) × ((k : ℕ) × (home ≡ Reg k))))) → slice_get first x ≡ Some (Slot x)
  stays x home e slot (inl s) = e ∙ ap (λ (z : Home). Some z) s
  stays x home e slot (inr v) =
      let its = reg_is_in x v.1.1.1.0 (e ∙ ap (λ (z : Home). Some z) v.1.1.1.1) in
      let r = h.regs v.0 (in_done v.0 v.1.0) (subst (λ (n : ℕ). in_reg first n ≡ true) (sym v.1.1.0) its) in
      reg_slot r.0 x (some_same (sym r.1 ∙ ap (slice_get answer) v.1.1.0 ∙ slot))

  home_there : (xs : List Home) (x : ℕ) → x < length xs → (home : Home) × (slice_get xs x ≡ Some home)
  home_there [] x l = absurd (omega arith)
  home_there (y ∷ xs) zero l = (y, refl)
  home_there (y ∷ xs) (suc x) l = home_there xs x (omega arith)

  slots : (x : ℕ) → x < q.vars → (slice_get answer x ≡ Some (Slot x)) ↔ (slice_get first x ≡ Some (Slot x))
  slots x small = (
    λ e.
        let f = home_there first x (let s = scan_size q homes first of in omega arith) in
        stays x f.0 f.1 e (scan_fresh q homes first of x f.0 f.1),
    λ e.
        let f = home_there answer x (let s = h.size in omega arith) in
        elim (h.shape x f.0 f.1) [
          | inl s ↦ f.1 ∙ ap (λ (z : Home). Some z) s
          | inr a ↦ slot_is_out x e a.1.1.1.0
        ],
  )

  regs : (a b : Interval) (k : ℕ) → TakesPart q a → TakesPart q b → slice_get answer a.var ≡ Some (Reg k) → slice_get answer b.var ≡ Some (Reg k)
      → (a ≡ b) ⊎ ((a.end < b.start) ⊎ (b.end < a.start))
  regs a b k ta tb ea eb = by (are.whole a ta) (are.whole b tb) where
    by : In taken a → In taken b → (a ≡ b) ⊎ ((a.end < b.start) ⊎ (b.end < a.start))
    by m n = on (three m.0 n.0) where
      on : (m.0 < n.0) ⊎ ((m.0 ≡ n.0) ⊎ (n.0 < m.0)) → (a ≡ b) ⊎ ((a.end < b.start) ⊎ (b.end < a.start))
      on (inl l) = inr (inl ((h.turns b k (done b tb) eb).ended a (record { part = ta; before = are.rising m.0 n.0 a b l m.1 n.1; home = ea })))
      on (inr (inl e)) = inl (some_same (sym m.1 ∙ ap (slice_get taken) e ∙ n.1))
      on (inr (inr g)) = inr (inr ((h.turns a k (done a ta) ea).ended b (record { part = tb; before = are.rising n.0 m.0 b a g n.1 m.1; home = eb })))

-- where the scan gives a register there is one
pub some_homes : (q : Proc) (homes : ℕ) (first : List Home) (taken : List Interval) (from : List ℕ) (at : List Home) (x : ℕ) (stays : Bool) → AreTaken q taken
    → first ≡ scan homes q.vars taken → length from ≡ homes → at ≡ first → stays ≡ in_reg at x → stays ≡ true → 0 < length from
some_homes q homes first taken from at x stays are is count read its said = by (reg_in first x (sym (ap (λ l. in_reg l x) read) ∙ sym its ∙ said)) where
  by : (k : ℕ) × (slice_get first x ≡ Some (Reg k)) → 0 < length from
  by k = on ((scan_keeps q homes first (record { taken = taken; are = are; is = is })).range x (Reg k.0) k.1) where
    on : (Reg k.0 ≡ Slot x) ⊎ ((j : ℕ) × ((j < homes) × (Reg k.0 ≡ Reg j))) → 0 < length from
    on (inl s) = reg_slot k.0 x s
    on (inr j) = let l = j.1.0 in omega arith
