-- The homes of the procedures, one by one.
use Rattle.std.proofs.Common.{◌≡◌, ℕ, zero, suc, ◌+◌, ◌<◌, ◌≤◌, Bool, true, false, List, [], ◌∷◌, ◌++◌, length, get_or, Option, Some, None, Vec, Global, refl, sym, ◌∙◌, ap, subst, arith, ◌⊎◌, inl, inr, length-append, if◌then◌else◌}
use Rattle.std.specs.Prelude.{slice_get, slice_set, nat_lt, is_some}
use Rattle.std.specs.Option.{option_map_or}
use Rattle.std.specs.List.{sum_by}
use Rattle.std.proofs.lemmas.Option.{slice_get_within}
use Rattle.std.proofs.lemmas.List.{length-set}
use Rattle.std.proofs.lemmas.List.Sums.{sum_by-cons}
use Rattle.tta_list.proofs.Lists.{slice_get-longer, slice_get-back, some_within}
use Rattle.tta_list.proofs.Tests.{some_same}
use Rattle.tta_alloc.specs.Cited.{Proc, Program, IsProgram, Block, Live, PlaceLists, Reached, IsFlow, Holds, IsLive, is_found, is_listed}
use Rattle.tta_flow.proofs.BlockLemmas.{closed_of}
use Rattle.tta_flow.proofs.Programs.{proc_is, proc_keeps}
use Rattle.tta_alloc.specs.declared.home.Home.{Home}
use Rattle.tta_alloc.specs.declared.home.Home.TheVariants.{Reg, Slot}
use Rattle.tta_alloc.specs.declared.homes.Homes.{Homes}
use Rattle.tta_alloc.specs.declared.interval.Interval.{Interval}
use Rattle.tta_alloc.specs.IsAnalysed.{IsAnalysed}
use Rattle.tta_alloc.specs.Scan.{scan_step, scan_all, scan_start, slots_from, Scan, take_free, take_from, turn_out, first_free, last_from}
use Rattle.tta_alloc.specs.Homes.{count_of, home_of, IsScanOf, IsScan}
use Rattle.tta_alloc.specs.Turns.{AreInTurnOf, AreInTurn}

-- ---- what is known of a procedure

-- no procedure has more steps than the program
steps_few : (procs : List Proc) (k : ℕ) (q : Proc) → slice_get procs k ≡ Some q → length q.steps ≤ sum_by (λ r. length r.steps) procs
steps_few [] k q e = absurd cc
steps_few (r ∷ procs) zero q e =
    let same : r ≡ q = some_same e in
    let n = ap (λ (s : Proc). length s.steps) same in
    let c = sum_by-cons (λ (s : Proc). length s.steps) r procs in omega arith
steps_few (r ∷ procs) (suc k) q e =
    let rest = steps_few procs k q e in
    let c = sum_by-cons (λ (s : Proc). length s.steps) r procs in omega arith

pub known : (inside p : Program) (procs : List Proc) (owner : ℕ) (q : Proc) (blocks : List Block) (live : Live) (t : PlaceLists) (reached : List ℕ)
    → inside ≡ p → IsProgram inside → procs ≡ inside.procs → owner < length procs → q ≡ get_or procs owner q
    → IsFlow p blocks → IsLive p live
    → ((o i : ℕ) → o < length procs → is_listed t o i ≡ true → Holds blocks o i)
    → ((o i : ℕ) → o < length procs → Holds blocks o i → is_listed t o i ≡ true)
    → ((i : ℕ) → is_found reached i ≡ is_listed t owner i) → IsAnalysed q owner reached live
known inside p procs owner q blocks live t reached view rules read below is flow lives sound whole list = record {
  closed = closed_of p q (proc_keeps inside p procs view read owner q below is rules);
  few = let s = steps_few p.procs owner q there in let l = (subst IsProgram view rules).lines in omega arith;
  sound = λ i e. held i (sound owner i below (sym (list i) ∙ e));
  whole = λ i r. list i ∙ whole owner i below (flow.covers owner i q there r);
  before = λ step x small. lives.before owner step x q there small;
} where
  there : slice_get p.procs owner ≡ Some q
  there = proc_is inside p procs view read owner q below is

  held : (i : ℕ) → Holds blocks owner i → Reached q.steps i
  held i h =
      let b = flow.sound h.at h.block h.is in
      let same : b.proc ≡ q = some_same (sym b.is ∙ ap (slice_get p.procs) h.mine ∙ there) in
      subst (λ (r : Proc). Reached r.steps i) same (b.block.reached i h.low h.high)

-- what the same blocks hold
pub held : {blocks read : List Block} {o i : ℕ} {A : Type 0} → read ≡ blocks → (A → Holds read o i) → A → Holds blocks o i
held {o = o} {i = i} e f a = subst (λ (l : List Block). Holds l o i) e (f a)

pub back : {blocks read : List Block} {o i : ℕ} → read ≡ blocks → Holds blocks o i → Holds read o i
back {o = o} {i = i} e h = subst (λ (l : List Block). Holds l o i) (sym e) h

-- ---- each variable has a home

set_length : (homes : List Home) (i : ℕ) (h : Home) → length (slice_set homes i h) ≡ length homes
set_length homes i h = length-set homes i h

turn_length : (s : Scan) (new : Interval) (place : ℕ) (o : Option Interval) → length (option_map_or (take_from s place new) o s).homes ≡ length s.homes
turn_length s new place None = refl
turn_length s new place (Some old) =
    set_length (slice_set s.homes old.var (Slot old.var)) new.var (Reg place) ∙ set_length s.homes old.var (Slot old.var)

pub step_length : (homes : ℕ) (s : Scan) (new : Interval) → length (scan_step homes s new).homes ≡ length s.homes
unfolding scan_step
step_length homes s new = by (nat_lt (first_free s.holders new.start) homes) where
  by : (b : Bool) → length (if b then take_free s (first_free s.holders new.start) new else turn_out s new).homes ≡ length s.homes
  by true = set_length s.homes new.var (Reg (first_free s.holders new.start))
  by false = turn_length s new (last_from s.holders 0 (length s.holders) new) (slice_get s.holders (last_from s.holders 0 (length s.holders) new))

pub scan_length : (homes : ℕ) (s : Scan) (taken : List Interval) → length (scan_all homes s taken).homes ≡ length s.homes
scan_length homes s [] = refl
scan_length homes s (new ∷ taken) = scan_length homes (scan_step homes s new) taken ∙ step_length homes s new

pub slots_length : (first n : ℕ) → length (slots_from first n) ≡ n
slots_length first zero = refl
slots_length first (suc n) = ap suc (slots_length (first + 1) n)

-- ---- the procedures in turn

-- so many procedures have homes, of which something holds
pub record AreGiven (P : Proc → List Home → Type 0) (p : Program) (n : ℕ) (all : List (Vec Home Global)) : Type 0 where
  pub count : length all ≡ n
  pub each : (k : ℕ) (q : Proc) → k < n → slice_get p.procs k ≡ Some q → (v : Vec Home Global) × ((slice_get all k ≡ Some v) × P q v.items)

pub given_none : (P : Proc → List Home → Type 0) (p : Program) → AreGiven P p 0 []
given_none P p = record { count = refl; each = λ k q below e. absurd (omega arith) }

pub given_more : (P : Proc → List Home → Type 0) (p : Program) (n : ℕ) (all new : List (Vec Home Global)) (q : Proc) (v : Vec Home Global)
    → slice_get p.procs n ≡ Some q → AreGiven P p n all → P q v.items → new ≡ all ++ v ∷ [] → AreGiven P p (n + 1) new
given_more P p n all new q v there h is grown = record {
  count = ap length grown ∙ (let e = length-append all (v ∷ []) in let c = h.count in omega arith);
  each = λ k r small e. each k r e (last k small);
} where
  last : (k : ℕ) → k < n + 1 → (k < n) ⊎ (k ≡ n)
  last k small = grind arith

  each : (k : ℕ) (r : Proc) → slice_get p.procs k ≡ Some r → (k < n) ⊎ (k ≡ n)
      → (w : Vec Home Global) × ((slice_get new k ≡ Some w) × P r w.items)
  each k r e (inl less) =
      let w = h.each k r less e in
      (w.0, (ap (λ l. slice_get l k) grown ∙ slice_get-longer all (v ∷ []) k w.0 w.1.0, w.1.1))
  each k r e (inr same) =
      let alike : q ≡ r = some_same (sym there ∙ ap (slice_get p.procs) (sym same) ∙ e) in
      let at : k ≡ length all + 0 = (let c = h.count in omega arith) in (
        v,
        (
          ap (λ l. slice_get l k) grown ∙ ap (slice_get (all ++ v ∷ [])) at ∙ slice_get-back all (v ∷ []) 0,
          subst (λ (s : Proc). P s v.items) alike is,
        ),
      )

pub given_all : (P : Proc → List Home → Type 0) → ((q : Proc) (answer : List Home) → P q answer → length answer ≡ q.vars)
    → (p : Program) (procs : List Proc) (n : ℕ) (h : Homes) → procs ≡ p.procs → length procs ≤ n → AreGiven P p n h.procs.items
    → (owner : ℕ) (q : Proc) → slice_get p.procs owner ≡ Some q
    → (answer : List Home) × (P q answer × ((x : ℕ) → x < q.vars → slice_get answer x ≡ Some (home_of h owner x)))
unfolding home_of
given_all P sized p procs n h are past all owner q is =
    let e = ap (λ l. slice_get l owner) are ∙ is in
    let within = slice_get_within procs owner q e in
    let w = all.each owner q (omega arith) is in
    (w.0.items, (w.1.1, λ x small. home_is owner q x w.0 w.1.0 w.1.1 small))
  where
    home_is : (owner : ℕ) (q : Proc) (x : ℕ) (v : Vec Home Global) → slice_get h.procs.items owner ≡ Some v → P q v.items → x < q.vars
        → slice_get v.items x ≡ Some (option_map_or (λ (l : Vec Home Global). option_map_or (λ (home : Home). home) (slice_get l.items x) (Slot x)) (slice_get h.procs.items owner) (Slot x))
    home_is owner q x v at s small = by (slice_get v.items x) refl where
      length_is : length v.items ≡ q.vars
      length_is = sized q v.items s

      answer : (o : Option Home) → slice_get v.items x ≡ o
          → option_map_or (λ (l : Vec Home Global). option_map_or (λ (home : Home). home) (slice_get l.items x) (Slot x)) (slice_get h.procs.items owner) (Slot x)
          ≡ option_map_or (λ (home : Home). home) o (Slot x)
      answer o e =
          ap (λ (a : Option (Vec Home Global)). option_map_or (λ (l : Vec Home Global). option_map_or (λ (home : Home). home) (slice_get l.items x) (Slot x)) a (Slot x)) at
          ∙ ap (λ (a : Option Home). option_map_or (λ (home : Home). home) a (Slot x)) e

      by : (o : Option Home) → slice_get v.items x ≡ o
          → slice_get v.items x ≡ Some (option_map_or (λ (l : Vec Home Global). option_map_or (λ (home : Home). home) (slice_get l.items x) (Slot x)) (slice_get h.procs.items owner) (Slot x))
      by None e = let n = length_is in let t = some_within v.items x (omega arith) in absurd (no (sym (ap is_some e) ∙ t)) where
        no : false ≡ true → ⊥
        no f = cc
      by (Some home) e = e ∙ ap (λ (y : Home). Some y) (sym (answer (Some home) e))

-- ---- what is kept of a scan and of homes in turn

pub scan_given : (q : Proc) (homes : ℕ) (answer : List Home) → IsScanOf q homes answer → length answer ≡ q.vars
scan_given q homes answer s = ap length s.is ∙ scan_length homes (scan_start q.vars) s.taken ∙ slots_length 0 q.vars

pub scanned_all : (p : Program) (procs : List Proc) (homes n : ℕ) (h : Homes) → h.count ≡ homes → procs ≡ p.procs → length procs ≤ n
    → AreGiven (λ q answer. IsScanOf q homes answer) p n h.procs.items → IsScan p homes h
unfolding count_of
scanned_all p procs homes n h count are past all = record {
  count = count;
  scanned = given_all (λ q answer. IsScanOf q homes answer) (λ q answer. scan_given q homes answer) p procs n h are past all;
}

pub turned_all : (p : Program) (procs : List Proc) (homes n : ℕ) (h : Homes) → h.count ≡ homes → procs ≡ p.procs → length procs ≤ n
    → AreGiven (λ q answer. AreInTurnOf q homes answer) p n h.procs.items → AreInTurn p homes h
unfolding count_of
turned_all p procs homes n h count are past all = record {
  count = count;
  turns = given_all (λ q answer. AreInTurnOf q homes answer) (λ q answer t. t.allotted.each) p procs n h are past all;
}
