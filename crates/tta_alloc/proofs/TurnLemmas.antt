-- Home registers that are given in turn: what holds after some of the intervals, and that one is free for the next.
use Rattle.std.proofs.Common.{◌≡◌, ◌≢◌, ℕ, zero, suc, ◌+◌, ◌<◌, ◌≤◌, true, false, List, [], ◌∷◌, ◌++◌, length, Option, Some, None, refl, sym, ◌∙◌, ap, subst, arith, ◌⊎◌, inl, inr}
use Rattle.std.specs.Prelude.{slice_get}
use Rattle.std.specs.Option.{option_map_or}
use Rattle.std.proofs.lemmas.Bool.{cases_eq}
use Rattle.tta_alloc.specs.Cited.{Proc}
use Rattle.tta_alloc.specs.declared.interval.Interval.{Interval}
use Rattle.tta_alloc.specs.declared.home.Home.{Home}
use Rattle.tta_alloc.specs.declared.home.Home.TheVariants.{Reg, Slot}
use Rattle.tta_alloc.specs.Intervals.{IsBefore, TakesPart}
use Rattle.tta_alloc.specs.Law.{KeepsLaw}
use Rattle.tta_alloc.specs.Turns.{IsFreeLongest, in_reg, is_reg}
use Rattle.tta_alloc.specs.Turning.{IsLeast}
use Rattle.tta_alloc.proofs.TakenLemmas.{same_interval}
use Rattle.tta_alloc.proofs.ListLemmas.{In, in_front, in_cases}
use Rattle.tta_alloc.proofs.HolderLemmas.{reg_slot, reg_same}
use Rattle.tta_alloc.proofs.Pigeons.{no_more}
use Rattle.tta_list.proofs.Tests.{some_same}

-- the home of a variable is a register, by one of some intervals, and so it is by the scan
abbrev pub RegOf : (homes : ℕ) (first : List Home) (done : List Interval) (x : ℕ) (home : Home) → Type 0
RegOf homes first done x home =
    (a : Interval) × ((In done a) × ((a.var ≡ x) × ((in_reg first x ≡ true) × ((k : ℕ) × ((k < homes) × (home ≡ Reg k))))))

-- a home register is free from a position on: past the end of one of some intervals that has it, or from 0 on
abbrev pub IsFreeFrom : (answer : List Home) (done : List Interval) (k f : ℕ) → Type 0
IsFreeFrom answer done k f =
    (f ≡ 0) ⊎ ((c : Interval) × ((In done c) × ((slice_get answer c.var ≡ Some (Reg k)) × (f ≡ c.end + 1))))

-- what is known after some of the intervals that take part, where the scan gave `first`
pub record Turned (q : Proc) (homes : ℕ) (first answer : List Home) (done : List Interval) (from : List ℕ) : Type 0 where
  pub count : length from ≡ homes
  pub size : length answer ≡ q.vars
  pub shape : (x : ℕ) (home : Home) → slice_get answer x ≡ Some home
      → (home ≡ Slot x) ⊎ RegOf homes first done x home
  pub regs : (a : Interval) → In done a → in_reg first a.var ≡ true → (k : ℕ) × (slice_get answer a.var ≡ Some (Reg k))
  pub ended : (b : Interval) (k f : ℕ) → In done b → slice_get answer b.var ≡ Some (Reg k) → slice_get from k ≡ Some f → b.end < f
  pub last : (k f : ℕ) → slice_get from k ≡ Some f → IsFreeFrom answer done k f
  pub turns : (a : Interval) (k : ℕ) → In done a → slice_get answer a.var ≡ Some (Reg k) → IsFreeLongest q homes answer a k

pub never_before : (a b : Interval) → IsBefore a b → IsBefore b a → ⊥
never_before a b (inl e) (inl f) = omega (arith, e, f)
never_before a b (inl e) (inr f) = let o = f.0 in omega (arith, e, o)
never_before a b (inr e) (inl f) = let o = e.0 in omega (arith, f, o)
never_before a b (inr e) (inr f) = let x = e.1 in let y = f.1 in omega (arith, x, y)

pub before_start : (a b : Interval) → IsBefore a b → a.start ≤ b.start
before_start a b (inl l) = omega arith
before_start a b (inr s) = let e = s.0 in omega arith

pub some_at : (xs : List ℕ) (k : ℕ) → k < length xs → (v : ℕ) × (slice_get xs k ≡ Some v)
some_at [] k below = absurd (omega arith)
some_at (x ∷ xs) zero below = (x, refl)
some_at (x ∷ xs) (suc k) below = some_at xs k (omega arith)

-- the register that a home is
pub reg_in : (first : List Home) (x : ℕ) → in_reg first x ≡ true → (k : ℕ) × (slice_get first x ≡ Some (Reg k))
reg_in first x e = by (slice_get first x) refl e where
  by : (o : Option Home) → slice_get first x ≡ o → option_map_or is_reg o false ≡ true → (k : ℕ) × (slice_get first x ≡ Some (Reg k))
  by None f e = absurd cc
  by (Some (Reg k)) f e = (k, f)
  by (Some (Slot y)) f e = absurd cc

-- ---- one interval more

module _ (q : Proc) (homes : ℕ) (first answer : List Home) (done : List Interval) (from : List ℕ) (new : Interval)
    (h : Turned q homes first answer done from)
    (part : TakesPart q new)
    (before : (a : Interval) → In done a → TakesPart q a × IsBefore a new)
    (all : (a : Interval) → TakesPart q a → IsBefore a new → In done a) where
  pub right : (a : Interval) → TakesPart q a → a.start ≤ a.end
  right a t = (t.interval.all a.end t.interval.last).0

  -- an earlier variable is another
  pub other : (a : Interval) → In done a → new.var ≢ a.var
  other a i e =
      let b = before a i in
      let same = same_interval q new a e part b.0 in
      never_before a new b.1 (subst (λ (x : Interval). IsBefore x a) (sym same) (subst (λ (x : Interval). IsBefore a x) same b.1))

  -- it rests: its variable has its slot
  pub turned_rest : in_reg first new.var ≡ false → Turned q homes first answer (done ++ new ∷ []) from
  turned_rest slot = record {
    count = h.count;
    size = h.size;
    shape = λ x home e. elim (h.shape x home e) [
      | inl s ↦ inl s
      | inr a ↦ inr (a.0, (in_front done (new ∷ []) a.0 a.1.0, a.1.1))
    ];
    regs = λ a i t. regs a t (in_cases done new a i);
    ended = λ b k f i e g. ended b k f e g (in_cases done new b i);
    last = λ k f e. elim (h.last k f e) [
      | inl z ↦ inl z
      | inr c ↦ inr (c.0, (in_front done (new ∷ []) c.0 c.1.0, c.1.1))
    ];
    turns = λ a k i e. turns a k e (in_cases done new a i);
  } where
    no_reg : {A : Type 0} (a : Interval) (k : ℕ) → new ≡ a → slice_get answer a.var ≡ Some (Reg k) → A
    no_reg a k n e = by (h.shape a.var (Reg k) e) where
      by : {A : Type 0} → (Reg k ≡ Slot a.var) ⊎ RegOf homes first done a.var (Reg k) → A
      by (inl s) = reg_slot k a.var s
      by (inr b) = absurd (other b.0 b.1.0 (ap (λ (x : Interval). x.var) n ∙ sym b.1.1.0))

    regs : (a : Interval) → in_reg first a.var ≡ true → (In done a) ⊎ (new ≡ a) → (k : ℕ) × (slice_get answer a.var ≡ Some (Reg k))
    regs a t (inl i) = h.regs a i t
    regs a t (inr n) = absurd (no (sym slot ∙ ap (λ (x : Interval). in_reg first x.var) n ∙ t)) where
      no : false ≡ true → ⊥
      no e = cc

    ended : (b : Interval) (k f : ℕ) → slice_get answer b.var ≡ Some (Reg k) → slice_get from k ≡ Some f → (In done b) ⊎ (new ≡ b) → b.end < f
    ended b k f e g (inl i) = h.ended b k f i e g
    ended b k f e g (inr n) = no_reg b k n e

    turns : (a : Interval) (k : ℕ) → slice_get answer a.var ≡ Some (Reg k) → (In done a) ⊎ (new ≡ a) → IsFreeLongest q homes answer a k
    turns a k e (inl i) = h.turns a k i e
    turns a k e (inr n) = no_reg a k n e

  -- it takes a register
  module _ (law : KeepsLaw q homes first) (stays : in_reg first new.var ≡ true) (place : ℕ) (least : IsLeast from place) where
    -- a register is held at the start, by an interval that has another by the scan
    abbrev Stands : (k s : ℕ) → Type 0
    Stands k s =
        (c : Interval) × ((In done c) × ((slice_get answer c.var ≡ Some (Reg k)) × ((new.start ≤ c.end) × (slice_get first c.var ≡ Some (Reg s)))))

    -- one of the registers is free at its start
    not_all : ((k f : ℕ) → slice_get from k ≡ Some f → new.start < f) → ⊥
    not_all late = no_more homes Stands some one_to_one mine.0 (below new.var mine.0 mine.1) free
      where
        mine : (k : ℕ) × (slice_get first new.var ≡ Some (Reg k))
        mine = reg_in first new.var stays

        below : (x k : ℕ) → slice_get first x ≡ Some (Reg k) → k < homes
        below x k e = by (law.range x (Reg k) e) where
          by : (Reg k ≡ Slot x) ⊎ ((j : ℕ) × ((j < homes) × (Reg k ≡ Reg j))) → k < homes
          by (inl s) = reg_slot k x s
          by (inr j) = let same = reg_same k j.0 j.1.1 in let less = j.1.0 in omega arith

        -- two that stand at the start have different registers by the scan
        apart : (a b : Interval) (s : ℕ) → TakesPart q a → TakesPart q b → a.var ≢ b.var → a.start ≤ new.start → new.start ≤ a.end → b.start ≤ new.start → new.start ≤ b.end
            → slice_get first a.var ≡ Some (Reg s) → slice_get first b.var ≡ Some (Reg s) → ⊥
        apart a b s ta tb differ la ha lb hb ea eb =
            law.apart a.var b.var a.start a.end b.start b.end new.start ta.var tb.var differ ta.interval tb.interval la ha lb hb (ea ∙ sym eb)

        some : (k : ℕ) → k < homes → (s : ℕ) × ((s < homes) × Stands k s)
        some k small = by (h.last k at.0 at.1) where
          at : (f : ℕ) × (slice_get from k ≡ Some f)
          at = some_at from k (let c = h.count in omega arith)

          by : IsFreeFrom answer done k at.0
              → (s : ℕ) × ((s < homes) × Stands k s)
          by (inl z) = let l = late k at.0 at.1 in absurd (omega arith)
          by (inr c) = it (h.shape c.0.var (Reg k) c.1.1.0) where
            it : (Reg k ≡ Slot c.0.var) ⊎ RegOf homes first done c.0.var (Reg k)
                → (s : ℕ) × ((s < homes) × Stands k s)
            it (inl s) = reg_slot k c.0.var s
            it (inr b) =
                let s = reg_in first c.0.var b.1.1.1.0 in
                let l = late k at.0 at.1 in
                let e = c.1.1.1 in
                let past : new.start ≤ c.0.end = omega arith in
                (s.0, (below c.0.var s.0 s.1, (c.0, (c.1.0, (c.1.1.0, (past, s.1))))))

        one_to_one : (j k s : ℕ)
            → Stands j s
            → Stands k s → j ≡ k
        one_to_one j k s a b = by (cases_eq a.0.var b.0.var) where
          by : (a.0.var ≡ b.0.var) ⊎ (a.0.var ≢ b.0.var) → j ≡ k
          by (inl same) = reg_same j k (some_same (sym a.1.1.0 ∙ ap (slice_get answer) same ∙ b.1.1.0))
          by (inr differ) =
              let ta = before a.0 a.1.0 in
              let tb = before b.0 b.1.0 in
              absurd (apart a.0 b.0 s ta.0 tb.0 differ (before_start a.0 new ta.1) a.1.1.1.0 (before_start b.0 new tb.1) b.1.1.1.0 a.1.1.1.1 b.1.1.1.1)

        free : (k : ℕ) → Stands k mine.0 → ⊥
        free k c =
            let t = before c.0 c.1.0 in
            let r = right new part in
            apart new c.0 mine.0 part t.0 (other c.0 c.1.0) (omega arith) r (before_start c.0 new t.1) c.1.1.1.0 mine.1 c.1.1.1.1

    -- since when the chosen one is free
    pub since : (f : ℕ) × (slice_get from place ≡ Some f)
    since = some_at from place least.there

    pub is_free : since.0 ≤ new.start
    is_free = by (cases_less since.0 new.start) where
      cases_less : (m n : ℕ) → (m ≤ n) ⊎ (n < m)
      cases_less m n = grind arith

      by : (since.0 ≤ new.start) ⊎ (new.start < since.0) → since.0 ≤ new.start
      by (inl l) = l
      by (inr g) = absurd (not_all (λ k f e. late k f e (sides k place)))
        where
          sides : (k m : ℕ) → (k < m) ⊎ (m ≤ k)
          sides k m = grind arith

          late : (k f : ℕ) → slice_get from k ≡ Some f → (k < place) ⊎ (place ≤ k) → new.start < f
          late k f e (inl less) = let l = least.lesser k since.0 f less since.1 e in omega arith
          late k f e (inr more) = let l = least.greater k since.0 f more since.1 e in omega arith
