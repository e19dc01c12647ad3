-- Rows of live variables that grow, round by round, until each step has what it wants.
use Rattle.std.proofs.Common.{◌≡◌, ◌≢◌, ◌<◌, ◌≤◌, ◌/◌, ◌+◌, ℕ, zero, suc, Bool, true, false, List, [], ◌∷◌, ◌++◌, length, Option, Some, None, refl, sym, ap, ◌∙◌, inl, inr, arith, length-append}
use Rattle.std.specs.Prelude.{◌==◌, ◌||◌, ◌&&◌, not, nat_lt, slice_get, is_some}
use Rattle.std.specs.Option.{option_map_or}
use Rattle.std.proofs.lemmas.Bool.{cases_eq, eq-eqb, ltb-true, ltb-false}
use Rattle.std.proofs.lemmas.Option.{slice_get_within}
use Rattle.std.proofs.Math.Bool.{or-true}
use Rattle.tta_list.proofs.Lists.{some_within}
use Rattle.tta_flow.specs.Cited.{Step}
use Rattle.tta_flow.specs.declared.bits.BitRow.{BitRow}
use Rattle.tta_flow.specs.declared.rows.Work.{Work}
use Rattle.tta_flow.specs.Bits.{has}
use Rattle.tta_flow.specs.Growth.{Sets}
use Rattle.tta_flow.specs.Live.{AreRows}
use Rattle.tta_flow.specs.Paths.{LiveBefore, ReadHere, ReadLater}
use Rattle.tta_flow.specs.Rows.{has_at, leaves, wanted, AreWide, IsSettled, IsWork, Visits, Rounds}
use Rattle.tta_flow.specs.Steps.{follows, reads, assigns}
use Rattle.tta_flow.proofs.Reaching.{test_within}
use Rattle.tta_flow.proofs.RowLemmas.{no, leaves_by}

-- ---- one round

-- the steps from a place on were looked at
pub record RoundsTo (steps : List Step) (vars at : ℕ) (grown : Bool) (new : Work) : Type 0 where
  pub work : IsWork steps vars new
  pub calm : grown ≡ false → (i : ℕ) → at ≤ i → i < length steps → has new.due i ≡ false

pub round_start : (steps : List Step) (vars at : ℕ) (work : Work) → length steps ≤ at → IsWork steps vars work → RoundsTo steps vars at false work
round_start steps vars at work past h = record {
  work = h;
  calm = λ g i low high. absurd (omega arith);
}

pub round_more : (steps : List Step) (vars at : ℕ) (s t : Bool) (b c : Work) → RoundsTo steps vars (at + 1) s b → Visits steps vars at t b c
    → RoundsTo steps vars at (s || t) c
round_more steps vars at s t b c one two = record {
  work = two.work;
  calm = calm s t one two;
} where
  calm : (s t : Bool) → RoundsTo steps vars (at + 1) s b → Visits steps vars at t b c → (s || t) ≡ false → (i : ℕ) → at ≤ i → i < length steps
      → has c.due i ≡ false
  calm true t one two e i low high = no e
  calm false true one two e i low high = no e
  calm false false one two e i low high = by (has c.due i) refl where
    by : (o : Bool) → has c.due i ≡ o → has c.due i ≡ false
    by false f = f
    by true f =
        let v = two.calm refl i f in
        no (sym v.0 ∙ one.calm refl i (after v.1) high)
      where
        after : i ≢ at → at + 1 ≤ i
        after n = elim (cases_eq i at) [
          | inl e ↦ absurd (n e)
          | inr m ↦ grind arith
        ]

-- steps that need not be looked at are passed over
pub round_skip : (steps : List Step) (vars at low : ℕ) (grown : Bool) (b : Work) → ((i : ℕ) → low ≤ i → i < at → has b.due i ≡ false)
    → RoundsTo steps vars at grown b → RoundsTo steps vars low grown b
round_skip steps vars at low grown b none h = record { work = h.work; calm = λ g i l small. by g i l small (nat_lt i at) refl } where
  by : grown ≡ false → (i : ℕ) → low ≤ i → i < length steps → (t : Bool) → nat_lt i at ≡ t → has b.due i ≡ false
  by g i l small true e = none i l (ltb-true i at e)
  by g i l small false e = h.calm g i (ltb-false i at e) small

pub round_all : (steps : List Step) (vars at : ℕ) (grown : Bool) (b : Work) → at ≤ 0 → RoundsTo steps vars at grown b → Rounds steps vars grown b
round_all steps vars at grown b done h = record { work = h.work; calm = λ g i below. h.calm g i (omega arith) below }

-- ---- the rows in the end

-- rows that have only what is live, and where each step has what it wants
pub settled_rows : (steps : List Step) (vars : ℕ) (rows : List BitRow) → ((k x : ℕ) → has_at rows k x ≡ true → LiveBefore steps x k)
    → ((i : ℕ) → i < length steps → IsSettled steps vars rows i) → AreRows steps vars rows
settled_rows steps vars rows sound settled = record {
  sound = λ x k small e. sound k x e;
  whole = λ x k small l. whole x small k l;
} where
  at_step : (i x : ℕ) → x < vars → (s : Step) → slice_get steps i ≡ Some s → wanted rows s i x ≡ true → has_at rows i x ≡ true
  at_step i x small s is w =
      settled i (slice_get_within steps i s is) x small (ap (λ o. option_map_or (λ s. wanted rows s i x) o false) is ∙ w)

  whole : (x : ℕ) → x < vars → (k : ℕ) → LiveBefore steps x k → has_at rows k x ≡ true
  whole x small _ (ReadHere i e) = by (slice_get steps i) refl e where
    by : (o : Option Step) → slice_get steps i ≡ o → option_map_or (λ s. reads s x) o false ≡ true → has_at rows i x ≡ true
    by None is e = absurd cc
    by (Some s) is e =
        at_step i x small s is
        (ap (λ b. (leaves rows s i x && not (assigns s x)) || b) e ∙ or-true (leaves rows s i x && not (assigns s x)))
  whole x small _ (ReadLater i j free e l) = by (slice_get steps i) refl free (whole x small j l) where
    by : (o : Option Step) → slice_get steps i ≡ o → option_map_or (λ s. assigns s x) o false ≡ false → has_at rows j x ≡ true
        → has_at rows i x ≡ true
    by None is f r = let w = test_within (λ s. follows s i j) steps i e in absurd (gone w is) where
      gone : i < length steps → slice_get steps i ≡ None → ⊥
      gone below is = no (sym (some_within steps i below) ∙ ap is_some is)
    by (Some s) is f r =
        at_step i x small s is
        (ap (λ b. b || reads s x)
        (ap (λ b. b && not (assigns s x)) (leaves_by steps rows i j x s is e r) ∙ ap not f))

-- no step has to be looked at
pub found_all : (steps : List Step) (vars : ℕ) (work : Work) → IsWork steps vars work → ((i : ℕ) → i < length steps → has work.due i ≡ false)
    → AreRows steps vars work.rows.items
found_all steps vars work h calm = settled_rows steps vars work.rows.items h.sound (λ i below. elim (h.left i below) [
  | inl e ↦ no (sym e ∙ calm i below)
  | inr s ↦ s
])

-- ---- at the start

pub record IsNew (steps : List Step) (vars n : ℕ) (rows : List BitRow) (due : BitRow) : Type 0 where
  pub count : length rows ≡ n
  pub wide : AreWide rows (vars / 64 + 1)
  pub none : (k x : ℕ) → has_at rows k x ≡ false
  pub flags : length due.words.items ≡ length steps / 64 + 1
  pub marked : (i : ℕ) → i < n → has due i ≡ true

pub new_none : (steps : List Step) (vars : ℕ) (due : BitRow) → length due.words.items ≡ length steps / 64 + 1 → IsNew steps vars 0 [] due
new_none steps vars due flags =
    record { count = refl; wide = λ k row e. absurd cc; none = λ k x. refl; flags = flags; marked = λ i below. absurd (omega arith) }

pub new_more : (steps : List Step) (vars n : ℕ) (rows new : List BitRow) (row due marked : BitRow) → n < length steps
    → ((k : ℕ) → has row k ≡ false) → length row.words.items ≡ vars / 64 + 1 → new ≡ rows ++ row ∷ [] → Sets (λ k. n == k) due marked
    → IsNew steps vars n rows due → IsNew steps vars (n + 1) new marked
new_more steps vars n rows new row due marked below clear room grown sets h = record {
  count = ap length grown ∙ (let e = length-append rows (row ∷ []) in let c = h.count in omega arith);
  wide = λ k r e. wide rows h.wide k r (sym (ap (λ l. slice_get l k) grown) ∙ e);
  none = λ k x. ap (λ l. has_at l k x) grown ∙ none rows h.none k x;
  flags = sets.room ∙ h.flags;
  marked = λ i small. marks i small;
} where
  wide : (rows : List BitRow) → AreWide rows (vars / 64 + 1) → AreWide (rows ++ row ∷ []) (vars / 64 + 1)
  wide [] w zero r e = let same : row ≡ r = cc in ap (λ (b : BitRow). length b.words.items) (sym same) ∙ room
  wide [] w (suc k) r e = absurd cc
  wide (s ∷ rows) w zero r e = w 0 r e
  wide (s ∷ rows) w (suc k) r e = wide rows (λ j t f. w (suc j) t f) k r e

  none : (rows : List BitRow) → ((k x : ℕ) → has_at rows k x ≡ false) → (k x : ℕ) → has_at (rows ++ row ∷ []) k x ≡ false
  none [] f zero x = clear x
  none [] f (suc k) x = refl
  none (s ∷ rows) f zero x = f 0 x
  none (s ∷ rows) f (suc k) x = none rows (λ j y. f (suc j) y) k x

  marks : (i : ℕ) → i < n + 1 → has marked i ≡ true
  marks i small = sets.bits i (let l = h.flags in omega arith) ∙ elim (cases_eq n i) [
    | inl e ↦ ap (λ b. has due i || b) (eq-eqb n i e) ∙ or-true (has due i)
    | inr other ↦ ap (λ b. b || n == i) (h.marked i (earlier other))
  ] where
    earlier : n ≢ i → i < n
    earlier other = elim (cases_eq i n) [
      | inl e ↦ absurd (other (sym e))
      | inr m ↦ grind arith
    ]

pub new_work : (steps : List Step) (vars n : ℕ) (work : Work) → length steps ≡ n → length work.room.words.items ≡ vars / 64 + 1
    → IsNew steps vars n work.rows.items work.due → IsWork steps vars work
new_work steps vars n work all room h = record {
  count = h.count ∙ sym all;
  wide = h.wide;
  room = room;
  flags = h.flags;
  sound = λ i x e. no (sym e ∙ h.none i x);
  left = λ i below. inl (h.marked i (omega arith));
}
