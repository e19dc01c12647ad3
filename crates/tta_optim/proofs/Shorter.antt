-- A list that came from another by leaving out items that only write, and by reading ports in place of other sources.
use Rattle.std.proofs.Common.{◌≡◌, ℕ, ◌+◌, ◌≤◌, Bool, true, false, cond, List, [], ◌∷◌, length, Option, Some, None, refl, sym, ap, subst, arith, ◌∙◌}
use Rattle.std.specs.Prelude.{if◌then◌else◌, ◌==◌, ◌&&◌, ◌||◌, not, nat_le, count_by, option_and_then}
use Rattle.std.specs.Option.{option_map_or}
use Rattle.std.specs.List.{list_all, list_any, filter_map, cons_option}
use Rattle.std.proofs.lemmas.Bool.{and_from, and_parts, or_right, leb-true, le-leb}
use Rattle.std.proofs.lemmas.List.Sums.{sum_by-cons}
use Rattle.std.proofs.lemmas.Bool.Decides.{nat_tests}
use Rattle.tta_optim.specs.Cited.{GuardRef, Machine, Target, Reg, Imm, Operand, Trigger, Control, ItemSource, Port, Address, Item, Move, Long, guard_of, source_of, target_of_item, is_control, controls, joined, has_slot, control_is_last, is_list, is_port_source, shown_in_place_of, port_for, is_redundant, is_dead}
use Rattle.tta_moves.proofs.Places.{either}
use Rattle.tta_optim.specs.Kept.{triggered, trigger_of, is_address, names}
use Rattle.tta_optim.specs.Passes.{with_source, bypassed, bypass_items, share_items, dead_items}
use Rattle.tta_optim.proofs.Alone.{is_quiet}
use Rattle.tta_optim.proofs.Bypassing.{port_is}
use Rattle.tta_optim.proofs.Sharing.{redundant_is}
use Rattle.tta_optim.proofs.DeadWrites.{dead_is, quiet_by}

-- an item that has the guard and the target of another, reads a result port, and has a slot
pub record Turned (m : Machine) (y x : Item) : Type 0 where
  pub guard : guard_of y ≡ guard_of x
  pub target : target_of_item y ≡ target_of_item x
  pub port : is_port_source (source_of y) ≡ true
  pub slot : has_slot m y ≡ true

pub data Shorter (m : Machine) : List Item → List Item → Type 0 where
  ends : Shorter m [] []
  stays : (x : Item) (ys xs : List Item) → Shorter m ys xs → Shorter m (x ∷ ys) (x ∷ xs)
  goes : (x : Item) (ys xs : List Item) → is_quiet (target_of_item x) ≡ true → Shorter m ys xs → Shorter m ys (x ∷ xs)
  turns : (y x : Item) (ys xs : List Item) → Turned m y x → Shorter m ys xs → Shorter m (y ∷ ys) (x ∷ xs)

-- ---- what the passes make is so

pub port_turned : (m : Machine) (before : List Item) (x : Item) (port : ItemSource) → port_for m before x ≡ Some port → Turned m (with_source x port) x
port_turned m before (Long unit index value) port e = absurd cc
port_turned m before (Move guard src dst) port e = record {
  guard = refl;
  target = refl;
  port = port_is m before (Move guard src dst) port e;
  slot = on (shown_in_place_of m before src) e;
} where
  one : (b : Bool) (p : ItemSource) → joined m p dst guard ≡ b → (if b then Some p else None) ≡ Some port → joined m port dst guard ≡ true
  one true p j e = let same : p ≡ port = cc in subst (λ q. joined m q dst guard ≡ true) same j
  one false p j e = absurd cc

  on : (o : Option ItemSource) → option_and_then (λ p. if joined m p dst guard then Some p else None) o ≡ Some port → joined m port dst guard ≡ true
  on None e = absurd cc
  on (Some p) e = one (joined m p dst guard) p refl e

pub bypass_shorter : (m : Machine) (before xs : List Item) → Shorter m (bypass_items m before xs) xs
bypass_shorter m before [] = ends
bypass_shorter m before (x ∷ xs) = on (port_for m before x) refl (bypass_shorter m (bypassed m before x ∷ before) xs) where
  on : (o : Option ItemSource) → port_for m before x ≡ o → Shorter m (bypass_items m (bypassed m before x ∷ before) xs) xs
      → Shorter m (option_map_or (with_source x) o x ∷ bypass_items m (bypassed m before x ∷ before) xs) (x ∷ xs)
  on None e more = stays x _ xs more
  on (Some port) e more = turns (with_source x port) x _ xs (port_turned m before x port e) more

pub share_shorter : (m : Machine) (before xs : List Item) → Shorter m (share_items m before xs) xs
share_shorter m before [] = ends
share_shorter m before (x ∷ xs) =
    either (is_redundant m before x)
    (λ red. rw red (goes x _ xs (let r = redundant_is m before x red in ap (λ (z : Item). is_quiet (target_of_item z)) r.is) (share_shorter m before xs)))
    (λ more. rw more (stays x _ xs (share_shorter m (x ∷ before) xs)))

pub dead_shorter : (m : Machine) (live : List (ℕ × ℕ)) (xs : List Item) → Shorter m (dead_items m live xs) xs
dead_shorter m live [] = ends
dead_shorter m live (x ∷ xs) =
    either (is_dead m live x (dead_items m live xs))
    (λ dead. rw dead (goes x _ xs (let d = dead_is m live x (dead_items m live xs) dead in (quiet_by (target_of_item x) d.0 d.1).0) (dead_shorter m live xs)))
    (λ alive. rw alive (stays x _ xs (dead_shorter m live xs)))

-- ---- what follows

pub shorter_length : {m : Machine} {ys xs : List Item} → Shorter m ys xs → length ys ≤ length xs
shorter_length ends = omega arith
shorter_length (stays x ys xs s) = let r = shorter_length s in omega arith
shorter_length (goes x ys xs q s) = let r = shorter_length s in omega arith
shorter_length (turns y x ys xs t s) = let r = shorter_length s in omega arith

shorter_slots : {m : Machine} {ys xs : List Item} → Shorter m ys xs → list_all (has_slot m) xs ≡ true → list_all (has_slot m) ys ≡ true
shorter_slots ends h = refl
shorter_slots {m} (stays x ys xs s) h =
    let two = and_parts (has_slot m x) (list_all (has_slot m) xs) h in
    and_from (has_slot m x) (list_all (has_slot m) ys) two.0 (shorter_slots s two.1)
shorter_slots {m} (goes x ys xs q s) h = shorter_slots s (and_parts (has_slot m x) (list_all (has_slot m) xs) h).1
shorter_slots {m} (turns y x ys xs t s) h =
    and_from (has_slot m y) (list_all (has_slot m) ys) t.slot (shorter_slots s (and_parts (has_slot m x) (list_all (has_slot m) xs) h).1)

or_map : (a b c d : Bool) → (a ≡ true → b ≡ true) → (c ≡ true → d ≡ true) → (a || c) ≡ true → (b || d) ≡ true
or_map true b c d f g h = rw (f refl) refl
or_map false b c d f g h = or_right b d (g h)

no_more : (b : Bool) (n k : ℕ) → n ≤ k → (b || k == 0) ≡ true → (b || n == 0) ≡ true
no_more true n k le h = refl
no_more false n k le h = let none : k ≡ 0 = grind (arith, nat_tests) in let less : n ≡ 0 = omega arith in rw less refl

shorter_last : {m : Machine} {ys xs : List Item} → Shorter m ys xs → control_is_last xs ≡ true → control_is_last ys ≡ true
shorter_last ends h = refl
shorter_last (stays x ys xs s) h =
    let two = and_parts (not (is_control x) || length xs == 0) (control_is_last xs) h in
    and_from (not (is_control x) || length ys == 0) (control_is_last ys) (no_more (not (is_control x)) (length ys) (length xs) (shorter_length s) two.0) (shorter_last s two.1)
shorter_last (goes x ys xs q s) h = shorter_last s (and_parts (not (is_control x) || length xs == 0) (control_is_last xs) h).1
shorter_last (turns y x ys xs t s) h =
    let two = and_parts (not (is_control x) || length xs == 0) (control_is_last xs) h in
    let kind : is_control y ≡ is_control x = ap (λ (k : Target). controls k) t.target in
    and_from (not (is_control y) || length ys == 0) (control_is_last ys)
    (rw kind (no_more (not (is_control x)) (length ys) (length xs) (shorter_length s) two.0)) (shorter_last s two.1)

pub shorter_list : {m : Machine} {ys xs : List Item} → Shorter m ys xs → is_list m xs ≡ true → is_list m ys ≡ true
shorter_list {m} {ys} {xs} s h =
    let three = and_parts (nat_le (length xs) 16777216 && list_all (has_slot m) xs) (control_is_last xs) h in
    let two = and_parts (nat_le (length xs) 16777216) (list_all (has_slot m) xs) three.0 in
    let few = leb-true (length xs) 16777216 two.0 in
    let less = shorter_length s in
    let some : nat_le (length ys) 16777216 ≡ true = le-leb (length ys) 16777216 (omega arith) in
    and_from (nat_le (length ys) 16777216 && list_all (has_slot m) ys) (control_is_last ys)
    (and_from (nat_le (length ys) 16777216) (list_all (has_slot m) ys) some (shorter_slots s two.1)) (shorter_last s three.1)

quiet_starts : (g : Option GuardRef) (t : Target) → is_quiet t ≡ true → triggered g t ≡ None
quiet_starts g (Reg f i) q = refl
quiet_starts g (Imm f i) q = refl
quiet_starts g (Operand unit) q = refl
quiet_starts g (Trigger unit op) q = absurd cc
quiet_starts g (Control kind) q = absurd cc

pub shorter_triggers : {m : Machine} {ys xs : List Item} → Shorter m ys xs → filter_map trigger_of ys ≡ filter_map trigger_of xs
shorter_triggers ends = refl
shorter_triggers (stays x ys xs s) = ap (λ l. cons_option (trigger_of x) l) (shorter_triggers s)
shorter_triggers (goes x ys xs q s) =
    shorter_triggers s ∙ ap (λ o. cons_option o (filter_map trigger_of xs)) (sym (quiet_starts (guard_of x) (target_of_item x) q))
shorter_triggers (turns y x ys xs t s) =
    let same : trigger_of y ≡ trigger_of x = ap (λ g. triggered g (target_of_item y)) t.guard ∙ ap (λ (k : Target). triggered (guard_of x) k) t.target in
    ap (λ o. cons_option o (filter_map trigger_of ys)) same ∙ ap (λ l. cons_option (trigger_of x) l) (shorter_triggers s)

count_less : (a b c d n k : ℕ) → a ≡ c + n → b ≡ d + k → c ≡ d → n ≤ k → a ≤ b
count_less a b c d n k e f g h = omega arith

pub shorter_targets : {m : Machine} {ys xs : List Item} (p : Target → Bool) → Shorter m ys xs → count_by (λ x. p (target_of_item x)) ys ≤ count_by (λ x. p (target_of_item x)) xs
shorter_targets p ends = omega arith
shorter_targets {m} p (stays x ys xs s) =
    let r = shorter_targets p s in
    let a = sum_by-cons (λ z. cond (p (target_of_item z)) 1 0) x ys in
    let b = sum_by-cons (λ z. cond (p (target_of_item z)) 1 0) x xs in omega arith
shorter_targets {m} p (goes x ys xs q s) =
    let r = shorter_targets p s in
    let b = sum_by-cons (λ z. cond (p (target_of_item z)) 1 0) x xs in omega arith
shorter_targets {m} p (turns y x ys xs t s) =
    let r = shorter_targets p s in
    let a = sum_by-cons (λ z. cond (p (target_of_item z)) 1 0) y ys in
    let b = sum_by-cons (λ z. cond (p (target_of_item z)) 1 0) x xs in
    count_less _ _ _ _ _ _ a b (ap (λ (k : Target). cond (p k) 1 0) t.target) r

port_names : (block : ℕ) (s : ItemSource) → is_port_source s ≡ true → is_address block s ≡ false
port_names block (Port src) e = refl
port_names block (Address b) e = absurd cc

pub shorter_addresses : {m : Machine} {ys xs : List Item} (block : ℕ) → Shorter m ys xs → list_any (names block) ys ≡ true → list_any (names block) xs ≡ true
shorter_addresses block ends h = h
shorter_addresses block (stays x ys xs s) h = or_map (names block x) (names block x) (list_any (names block) ys) (list_any (names block) xs) (λ e. e) (λ e. shorter_addresses block s e) h
shorter_addresses block (goes x ys xs q s) h = or_right (names block x) (list_any (names block) xs) (shorter_addresses block s h)
shorter_addresses block (turns y x ys xs t s) h =
    let none : names block y ≡ false = port_names block (source_of y) t.port in
    or_right (names block x) (list_any (names block) xs) (shorter_addresses block s (rw none at h))
