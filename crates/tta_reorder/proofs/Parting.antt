-- The parts that the items of a list use, found on the way down.
use Rattle.std.proofs.Common.{◌≡◌, ℕ, zero, suc, ◌+◌, ◌<◌, ◌≤◌, Bool, true, false, List, [], ◌∷◌, ◌++◌, length, get_or, replicate, Option, Some, None, refl, sym, ap, subst, arith, ◌∙◌}
use Rattle.std.specs.Prelude.{if◌then◌else◌, ◌==◌, nat_lt, slice_get, slice_index, slice_set}
use Rattle.std.specs.Option.{option_map_or}
use Rattle.std.specs.List.{list_all}
use Rattle.std.proofs.lemmas.Bool.{and_parts, and_from}
use Rattle.std.proofs.lemmas.Bool.Decides.{nat_tests}
use Rattle.std.proofs.lemmas.Option.{slice_get_within}
use Rattle.tta_reorder.specs.Cited.{UnitOp, Op, Ldw, Stw, Ldf, Stf, Out, Take, Set, Machine, Target, Reg, Imm, Operand, Trigger, Control, Jumps, Calls, Halts, KeptOperand, KeptPort, has_result, op_at, ItemSource, Item, source_of, target_of_item, place_written, is_at, writes}
use Rattle.tta_moves.proofs.Places.{either}
use Rattle.tta_reorder.specs.Channels.{starts, uses_frame}
use Rattle.tta_reorder.specs.Slots.{constant_of, sure_constant, held_constant, slot_by, slot_at, slot_with, slot_of, held_at, after_target, after_item, AreParts, AreSlots}
use Rattle.tta_list.proofs.Lists.{zeros as index_zero}

-- numbers that are all below 1024 are so at each place, and past the end
pub all_few : (parts : List ℕ) → list_all (λ p. nat_lt p 1024) parts ≡ true → (n : ℕ) → slice_index parts n < 1024
all_few [] all zero = omega arith
all_few [] all (suc n) = omega arith
all_few (p ∷ ps) all zero = let first = (and_parts (nat_lt p 1024) _ all).0 in grind (arith, nat_tests, first)
all_few (p ∷ ps) all (suc n) = all_few ps (and_parts (nat_lt p 1024) _ all).1 n

few_more : (parts : List ℕ) (p : ℕ) → list_all (λ p. nat_lt p 1024) parts ≡ true → p < 1024 → list_all (λ p. nat_lt p 1024) (parts ++ p ∷ []) ≡ true
few_more [] p all lt = let few : nat_lt p 1024 ≡ true = grind (arith, nat_tests, lt) in rw few refl
few_more (q ∷ ps) p all lt =
    let two = and_parts (nat_lt q 1024) _ all in and_from (nat_lt q 1024) _ two.0 (few_more ps p two.1 lt)

index_before : (xs : List ℕ) (v k : ℕ) → k < length xs → slice_index (xs ++ v ∷ []) k ≡ slice_index xs k
index_before [] v k lt = absurd (omega (arith, lt))
index_before (x ∷ xs) v zero lt = refl
index_before (x ∷ xs) v (suc k) lt = index_before xs v k (omega (arith, lt))

index_last : (xs : List ℕ) (v : ℕ) → slice_index (xs ++ v ∷ []) (length xs) ≡ v
index_last [] v = refl
index_last (x ∷ xs) v = index_last xs v

-- ---- operand ports

none_held : (count unit : ℕ) → held_at (replicate count None) unit ≡ None
none_held zero unit = refl
none_held (suc n) zero = refl
none_held (suc n) (suc unit) = none_held n unit

set_held : (held : List (Option ℕ)) (unit : ℕ) (word : Option ℕ) (a : ℕ) → held_at (slice_set held unit word) unit ≡ Some a → word ≡ Some a
set_held [] unit word a e = absurd cc
set_held (o ∷ os) zero word a e = e
set_held (o ∷ os) (suc unit) word a e = set_held os unit word a e

other_held : (held : List (Option ℕ)) (other unit : ℕ) (word : Option ℕ) → (other == unit) ≡ false → held_at (slice_set held other word) unit ≡ held_at held unit
other_held [] other unit word e = refl
other_held (o ∷ os) zero zero word e = absurd cc
other_held (o ∷ os) zero (suc unit) word e = refl
other_held (o ∷ os) (suc other) zero word e = refl
other_held (o ∷ os) (suc other) (suc unit) word e =
    let less : (other == unit) ≡ false = grind (arith, nat_tests, e) in other_held os other unit word less

module _ (m : Machine) (items : List Item) where
  -- what is known of operand ports is so after the first n items
  abbrev pub AreHeld : List (Option ℕ) → (n : ℕ) → Type 0
  AreHeld held n = (unit a : ℕ) → held_at held unit ≡ Some a → held_constant m items unit n ≡ Some a

  abbrev after : (unit n : ℕ) → Item → Option ℕ
  after unit n x = if writes m (KeptOperand unit) x then sure_constant x else held_constant m items unit n

  later_constant : (unit n : ℕ) (x : Item) → slice_get items n ≡ Some x → held_constant m items unit (suc n) ≡ after unit n x
  unfolding held_constant
  later_constant unit n x is = rw is refl

  no_port : (t : Target) (unit other op : ℕ) → t ≡ Trigger other op → is_at (KeptOperand unit) (place_written m t) ≡ false
  no_port t unit other op is = rw is (on (op_at m other op)) where
    by : (b : Bool) → is_at (KeptOperand unit) (if b then Some (KeptPort other) else None) ≡ false
    by true = refl
    by false = refl

    on : (o : Option UnitOp) → is_at (KeptOperand unit) (option_map_or (λ o. if has_result o.op then Some (KeptPort other) else None) o None) ≡ false
    on None = refl
    on (Some o) = by (has_result o.op)

  held_after : (held : List (Option ℕ)) (n : ℕ) (x : Item) (t : Target) → target_of_item x ≡ t → AreHeld held n → (unit a : ℕ) → held_at (after_target held (sure_constant x) t) unit ≡ Some a
      → (if is_at (KeptOperand unit) (place_written m t) then sure_constant x else held_constant m items unit n) ≡ Some a
  held_after held n x (Reg f i) is are unit a e = are unit a e
  held_after held n x (Imm f i) is are unit a e = are unit a e
  held_after held n x (Control Jumps) is are unit a e = are unit a e
  held_after held n x (Control Calls) is are unit a e = are unit a e
  held_after held n x (Control Halts) is are unit a e = are unit a e
  held_after held n x (Trigger other op) is are unit a e = rw (no_port (Trigger other op) unit other op refl) (are unit a e)
  held_after held n x (Operand other) is are unit a e = either (other == unit)
      (λ here.
      let number : other ≡ unit = grind (arith, nat_tests, here) in
      let word : sure_constant x ≡ Some a = set_held held unit (sure_constant x) a (subst (λ j. held_at (slice_set held j (sure_constant x)) unit ≡ Some a) number e) in
      rw here word)
      (λ away. let known = are unit a (sym (other_held held other unit (sure_constant x) away) ∙ e) in rw away known)

  pub held_next : (held : List (Option ℕ)) (n : ℕ) (x : Item) → slice_get items n ≡ Some x → AreHeld held n → AreHeld (after_item held x) (suc n)
  held_next held n x is are unit a e = later_constant unit n x is ∙ held_after held n x (target_of_item x) refl are unit a e

  -- a slot that is known by a list is known
  slot_more : (src : ItemSource) (f g : ℕ → Option ℕ) (t : Target) (a : ℕ) → ((unit a : ℕ) → f unit ≡ Some a → g unit ≡ Some a) → slot_at m src f t ≡ Some a → slot_at m src g t ≡ Some a
  slot_more src f g (Reg file i) a more e = absurd cc
  slot_more src f g (Imm file i) a more e = absurd cc
  slot_more src f g (Operand unit) a more e = absurd cc
  slot_more src f g (Control kind) a more e = absurd cc
  slot_more src f g (Trigger unit op) a more e = on (op_at m unit op) e where
    by : (o : Op) (arity : ℕ) → slot_by (constant_of src) (f unit) arity o ≡ Some a → slot_by (constant_of src) (g unit) arity o ≡ Some a
    by Ldf arity e = e
    by Stf arity e = either (arity == 2)
        (λ two. rw two (more unit a (rw two at e)))
        (λ one. let none = rw one at e in absurd cc)
    by Ldw arity e = absurd cc
    by Stw arity e = absurd cc
    by Out arity e = absurd cc
    by Take arity e = absurd cc
    by (Set id) arity e = absurd cc

    on : (o : Option UnitOp) → option_map_or (λ o. slot_by (constant_of src) (f unit) o.arity o.op) o None ≡ Some a → option_map_or (λ o. slot_by (constant_of src) (g unit) o.arity o.op) o None ≡ Some a
    on None e = absurd cc
    on (Some o) e = by o.op o.arity e

  -- ---- the first n items

  pub record SlotsTo (held : List (Option ℕ)) (slots : List ℕ) (n : ℕ) : Type 0 where
    pub ports : AreHeld held n
    pub count : length slots ≡ n
    pub few : list_all (λ p. nat_lt p 1024) slots ≡ true
    pub each : (k : ℕ) (x : Item) → k < n → slice_get items k ≡ Some x → starts m uses_frame (target_of_item x) ≡ true → slot_of m items k x ≡ Some (slice_index slots k)

  pub slots_begin : (held : List (Option ℕ)) (slots : List ℕ) → held ≡ replicate 32 None → slots ≡ [] → SlotsTo held slots 0
  slots_begin held slots none empty = record {
    ports = λ unit a e. let no = ap (λ l. held_at l unit) none ∙ none_held 32 unit in absurd cc;
    count = ap length empty;
    few = rw empty refl;
    each = λ k x lt. absurd (omega (arith, lt));
  }

  pub slots_next : (held later : List (Option ℕ)) (slots more : List ℕ) (n p : ℕ) (x : Item) → slice_get items n ≡ Some x → p < 1024
      → (starts m uses_frame (target_of_item x) ≡ true → slot_with m x (λ unit. held_at held unit) ≡ Some p)
      → more ≡ slots ++ p ∷ [] → later ≡ after_item held x → SlotsTo held slots n → SlotsTo later more (n + 1)
  slots_next held later slots more n p x is lt slot e f s = record {
    ports = subst (AreHeld later) (sym next) (subst (λ l. AreHeld l (suc n)) (sym f) (held_next held n x is s.ports));
    count = ap length e ∙ longer slots ∙ ap (λ k. k + 1) s.count;
    few = ap (λ l. list_all (λ p. nat_lt p 1024) l) e ∙ few_more slots p s.few lt;
    each = each;
  } where
    next : n + 1 ≡ suc n
    next = omega arith

    longer : (l : List ℕ) → length (l ++ p ∷ []) ≡ length l + 1
    longer [] = refl
    longer (q ∷ l) = let rest = longer l in omega (arith, rest)

    each : (k : ℕ) (z : Item) → k < n + 1 → slice_get items k ≡ Some z → starts m uses_frame (target_of_item z) ≡ true → slot_of m items k z ≡ Some (slice_index more k)
    each k z less there uses = either (nat_lt k n)
        (λ before.
        let lt : k < n = grind (arith, nat_tests, before) in
        let within : k < length slots = let c = s.count in omega (arith, lt, c) in
        s.each k z lt there uses ∙ ap (λ j. Some j) (sym (ap (λ l. slice_index l k) e ∙ index_before slots p k within)))
        (λ last.
        let number : n ≡ k = grind (arith, nat_tests, last, less) in
        let same : x ≡ z = one (sym is ∙ ap (λ j. slice_get items j) number ∙ there) in
        subst (λ j. slot_of m items j z ≡ Some (slice_index more j)) number
        (subst (λ (y : Item). slot_of m items n y ≡ Some (slice_index more n)) same (here (subst (λ (y : Item). starts m uses_frame (target_of_item y) ≡ true) (sym same) uses)))) where
          one : {a b : Item} → Some a ≡ Some b → a ≡ b
          one {a} {b} e = cc

          here : starts m uses_frame (target_of_item x) ≡ true → slot_of m items n x ≡ Some (slice_index more n)
          here uses =
              slot_more (source_of x) (λ unit. held_at held unit) (λ unit. held_constant m items unit n) (target_of_item x) p s.ports (slot uses)
              ∙ ap (λ j. Some j) (sym (ap (λ l. slice_index l n) e ∙ ap (λ j. slice_index (slots ++ p ∷ []) j) (sym s.count) ∙ index_last slots p))

  item_at : (xs : List Item) (n : ℕ) (other : Item) → n < length xs → slice_get xs n ≡ Some (get_or xs n other)
  item_at [] n other lt = absurd (omega (arith, lt))
  item_at (x ∷ xs) zero other lt = refl
  item_at (x ∷ xs) (suc n) other lt = item_at xs n other (omega (arith, lt))

  -- the same of the item at a place
  pub slots_at : (held later : List (Option ℕ)) (shown : List (Option ℕ)) (slots more : List ℕ) (n p : ℕ) (other : Item) → n < length items → shown ≡ held → p < 1024
      → (starts m uses_frame (target_of_item (get_or items n other)) ≡ true → slot_with m (get_or items n other) (λ unit. held_at shown unit) ≡ Some p)
      → more ≡ slots ++ p ∷ [] → later ≡ after_item held (get_or items n other) → SlotsTo held slots n → SlotsTo later more (n + 1)
  slots_at held later shown slots more n p other lt same few slot e f s =
      slots_next held later slots more n p (get_or items n other) (item_at items n other lt) few
      (subst (λ l. starts m uses_frame (target_of_item (get_or items n other)) ≡ true → slot_with m (get_or items n other) (λ unit. held_at l unit) ≡ Some p) same slot) e f s

  pub slots_done : (held : List (Option ℕ)) (slots : List ℕ) (n : ℕ) → SlotsTo held slots n → length items ≤ n → AreSlots m items slots
  slots_done held slots n s le = record {
    divided = λ k x there uses. let within = slice_get_within items k x there in s.each k x (omega (arith, le, within)) there uses;
    few = s.few;
  }

-- the parts of a list are its slots, or all its items use part 0
pub slots_parts : (m : Machine) (items : List Item) (slots : List ℕ) → AreSlots m items slots → AreParts m items slots
slots_parts m items slots s = record { apart = true; divided = s.divided; few = s.few }

all_zero : (count : ℕ) → list_all (λ p. nat_lt p 1024) (replicate count 0) ≡ true
all_zero zero = refl
all_zero (suc count) = all_zero count

pub whole_parts : (m : Machine) (items : List Item) (parts : List ℕ) → parts ≡ replicate (length items) 0 → AreParts m items parts
whole_parts m items parts e = record {
  apart = false;
  divided = λ n x there uses. ap (λ l. slice_index l n) e ∙ index_zero (length items) n;
  few = ap (λ l. list_all (λ p. nat_lt p 1024) l) e ∙ all_zero (length items);
}
