-- The rules of a cycle's moves when one bus more is walked.
use Rattle.std.proofs.Common.{◌≡◌, ◌≢◌, ◌<◌, ◌≤◌, ◌+◌, ℕ, zero, suc, Bool, true, false, not, cond, List, [], ◌∷◌, ◌++◌, length, Option, Some, None, append-nil, refl, sym, ap, ◌∙◌, inl, inr, arith}
use Rattle.std.specs.Prelude.{◌&&◌, ◌||◌, nat_le, nat_lt, count_by, is_none}
use Rattle.std.specs.Option.{option_map_or}
use Rattle.std.specs.List.{list_any}
use Rattle.std.proofs.lemmas.Bool.{and_parts, and_from, leb-true, le-leb, lt-leb, lt-ltb, le-ltb, cases_lt, cases_eq}
use Rattle.std.proofs.lemmas.List.Elements.{filter_map-append}
use Rattle.std.proofs.lemmas.List.Folds.{list_any-append}
use Rattle.std.proofs.lemmas.List.Sums.{sum_by-append, sum_by-cons}
use Rattle.tta_code.specs.Cited.{Machine, has_bit, joins, Ends, Slots, all_slots, all_below, keeps_taken, is_joined, are_apart, same_place}
use Rattle.tta_arch.specs.Legal.{ends_of}

-- ---- Booleans

and_assoc : (a b c : Bool) → ((a && b) && c) ≡ (a && (b && c))
and_assoc true b c = refl
and_assoc false b c = refl

pub and_true : (b : Bool) → (b && true) ≡ b
and_true true = refl
and_true false = refl

-- ---- slots

-- a test of each slot, with one slot more
pub all_slots-more : (test : ℕ → Option Ends → Bool) (bus : ℕ) (slots : Slots) (o : Option Ends)
    → all_slots test bus (slots ++ o ∷ []) ≡ (all_slots test bus slots && test (bus + length slots) o)
all_slots-more test bus [] o = let e : bus ≡ bus + 0 = omega arith in and_true (test bus o) ∙ ap (λ (n : ℕ). test n o) e
all_slots-more test bus (s ∷ slots) o =
    let e : bus + 1 + length slots ≡ bus + suc (length slots) = omega arith in
    ap (λ b. test bus s && b) (all_slots-more test (bus + 1) slots o ∙ ap (λ (n : ℕ). all_slots test (bus + 1) slots && test n o) e)
    ∙ sym (and_assoc (test bus s) (all_slots test (bus + 1) slots) (test (bus + suc (length slots)) o))

-- the moves, with one slot more
pub ends-some : (slots : Slots) (v : Ends) → ends_of (slots ++ Some v ∷ []) ≡ ends_of slots ++ v ∷ []
ends-some slots v = filter_map-append (λ o. o) slots (Some v ∷ [])

pub ends-none : (slots : Slots) → ends_of (slots ++ None ∷ []) ≡ ends_of slots
ends-none slots = filter_map-append (λ o. o) slots (None ∷ []) ∙ append-nil (ends_of slots)

-- ---- counts

pub count-more : (p : Ends → Bool) (vs : List Ends) (v : Ends) → count_by p (vs ++ v ∷ []) ≡ count_by p vs + cond (p v) 1 0
count-more p vs v =
    sum_by-append (λ w. cond (p w) 1 0) vs (v ∷ []) ∙ ap (λ (n : ℕ). count_by p vs + n) (sum_by-cons (λ w. cond (p w) 1 0) v [] ∙ omega arith)

pub count-same : (p : Ends → Bool) (vs : List Ends) (v : Ends) → p v ≡ false → count_by p (vs ++ v ∷ []) ≡ count_by p vs
count-same p vs v fails = count-more p vs v ∙ ap (λ b. count_by p vs + cond b 1 0) fails ∙ omega arith

pub count-one : (p : Ends → Bool) (vs : List Ends) (v : Ends) → p v ≡ true → count_by p (vs ++ v ∷ []) ≡ count_by p vs + 1
count-one p vs v passes = count-more p vs v ∙ ap (λ b. count_by p vs + cond b 1 0) passes

-- room for one more
pub one-le : (n most : ℕ) → nat_le (n + 1) most ≡ nat_lt n most
one-le n most = elim (cases_lt n most) [
  | inl below ↦ le-leb (n + 1) most (omega arith) ∙ sym (lt-ltb n most below)
  | inr past ↦ lt-leb (n + 1) most (omega arith) ∙ sym (le-ltb n most past)
]

-- a count that is small enough was so before
pub count-less : (p : Ends → Bool) (vs : List Ends) (v : Ends) (most : ℕ) → nat_le (count_by p (vs ++ v ∷ [])) most ≡ true → nat_le (count_by p vs) most ≡ true
count-less p vs v most small =
    let h = leb-true (count_by p (vs ++ v ∷ [])) most small in
    le-leb (count_by p vs) most (omega (arith, h, count-more p vs v))

-- ---- a test of all numbers below n

pub all_below-weaker : (p q : ℕ → Bool) (n : ℕ) → ((k : ℕ) → q k ≡ true → p k ≡ true) → all_below q n ≡ true → all_below p n ≡ true
all_below-weaker p q zero weaker all = refl
all_below-weaker p q (suc n) weaker all =
    let parts = and_parts (q n) (all_below q n) all in
    and_from (p n) (all_below p n) (weaker n parts.0) (all_below-weaker p q n weaker parts.1)

pub all_below-same : (p q : ℕ → Bool) (n : ℕ) → ((k : ℕ) → q k ≡ p k) → all_below q n ≡ all_below p n
all_below-same p q zero same = refl
all_below-same p q (suc n) same = ap (λ b. b && all_below q n) (same n) ∙ ap (λ b. p n && b) (all_below-same p q n same)

-- where a test is as before at all numbers but j, and was met at all of them, it is met where it is at j
pub all_below-one : (p q : ℕ → Bool) (n j : ℕ) → ((k : ℕ) → k ≢ j → q k ≡ p k) → all_below p n ≡ true → j < n → all_below q n ≡ q j
all_below-one p q zero j same all below = absurd (omega arith)
all_below-one p q (suc n) j same all below = elim (cases_eq n j) [
  | inl here ↦
      ap (λ b. q n && b) (all_below-other p q n j same parts.1 (omega arith)) ∙ and_true (q n) ∙ ap q here
  | inr other ↦
      ap (λ b. b && all_below q n) (same n other ∙ parts.0) ∙ all_below-one p q n j same parts.1 (omega arith)
] where
  parts : (p n ≡ true) × (all_below p n ≡ true)
  parts = and_parts (p n) (all_below p n) all

  all_below-other : (p' q' : ℕ → Bool) (n' j' : ℕ) → ((k : ℕ) → k ≢ j' → q' k ≡ p' k) → all_below p' n' ≡ true → n' ≤ j' → all_below q' n' ≡ true
  all_below-other p' q' zero j' same' all' past = refl
  all_below-other p' q' (suc n') j' same' all' past =
      let both = and_parts (p' n') (all_below p' n') all' in
      and_from (q' n') (all_below q' n') (same' n' (λ e. omega arith) ∙ both.0) (all_below-other p' q' n' j' same' both.1 (omega arith))

-- ---- moves apart

apart_cons : (a b c d : Bool) → (not (a || (b || false)) && (c && not d)) ≡ ((not a && c) && not (b || d))
apart_cons true b c d = refl
apart_cons false true true true = refl
apart_cons false true true false = refl
apart_cons false true false d = refl
apart_cons false false true true = refl
apart_cons false false true false = refl
apart_cons false false false d = refl

pub apart-more : (vs : List Ends) (v : Ends) → are_apart (vs ++ v ∷ []) ≡ (are_apart vs && not (list_any (λ w. same_place w.dst v.dst) vs))
apart-more [] v = refl
apart-more (w ∷ ws) v =
    ap (λ b. not b && are_apart (ws ++ v ∷ [])) (list_any-append (λ z. same_place w.dst z.dst) ws (v ∷ []))
    ∙ ap (λ b. not (list_any (λ z. same_place w.dst z.dst) ws || (same_place w.dst v.dst || false)) && b) (apart-more ws v)
    ∙ apart_cons (list_any (λ z. same_place w.dst z.dst) ws) (same_place w.dst v.dst) (are_apart ws) (list_any (λ z. same_place z.dst v.dst) ws)

-- ---- buses with one slot more

pub untaken-more : (set : ℕ) (slots : Slots) (o : Option Ends) → keeps_taken set (slots ++ o ∷ []) ≡ (keeps_taken set slots && (is_none o || not (has_bit set (length slots))))
untaken-more set slots o =
    let e : 0 + length slots ≡ length slots = omega arith in
    all_slots-more (λ bus u. is_none u || not (has_bit set bus)) 0 slots o ∙ ap (λ (n : ℕ). keeps_taken set slots && (is_none o || not (has_bit set n))) e

pub joined-more : (m : Machine) (slots : Slots) (o : Option Ends)
    → is_joined m (slots ++ o ∷ []) ≡ (is_joined m slots && option_map_or (λ u. joins m (length slots) u.src u.dst u.guard) o true)
joined-more m slots o =
    let e : 0 + length slots ≡ length slots = omega arith in
    all_slots-more (λ bus u. option_map_or (λ w. joins m bus w.src w.dst w.guard) u true) 0 slots o
    ∙ ap (λ (n : ℕ). is_joined m slots && option_map_or (λ w. joins m n w.src w.dst w.guard) o true) e
