-- No item is held back past the cycle in which all items before it are over.
use Rattle.std.proofs.Common.{◌≡◌, ℕ, ◌+◌, ◌-◌, ◌≤◌, Bool, true, false, List, [], ◌∷◌, ◌++◌, Option, Some, None, refl, subst, arith}
use Rattle.std.specs.Prelude.{max, ◌&&◌, ◌==◌, nat_le, if◌then◌else◌}
use Rattle.std.specs.Option.{option_map_or}
use Rattle.std.specs.List.{list_all}
use Rattle.std.proofs.lemmas.Bool.{and_parts}
use Rattle.std.proofs.lemmas.Bool.Decides.{nat_tests}
use Rattle.tta_sched.specs.Cited.{GuardRef, UnitOp, Op, Ldw, Stw, Ldf, Stf, Out, Take, Set, Machine, IsMachine, fits_kind, is_from_to, Place, KeptPort, Target, Reg, Imm, Operand, Trigger, Control, Jumps, Calls, Halts, op_at, has_result, Item, PlacedItem, guard_of, source_of, target_of_item, is_control, place_of_source, guard_place, Spot, At, Started, same_spot, Touch, due_after, operand_read, reads_by, written_at, writes_by, from_moment, behind, lasts, over_before, bound, least, end_of}
use Rattle.tta_arch.proofs.Facts.{from_to-least, from_to-greatest}
use Rattle.tta_arch.proofs.Sizes.{unit_fits as unit_op}

-- ---- touches

-- no touch comes later than so many cycles, or none sooner
abbrev no_later : (most : ℕ) → List Touch → Bool
no_later most ts = list_all (λ t. nat_le t.1 most) ts

abbrev no_sooner : (least : ℕ) → List Touch → Bool
no_sooner least ts = list_all (λ t. nat_le least t.1) ts

moment_below : (x : Spot) (moment top q : ℕ) (own : List Touch) → no_sooner q own ≡ true → moment ≤ top + q → from_moment x moment own ≤ top
moment_below x moment top q [] soon le = omega arith
moment_below x moment top q (o ∷ own) soon le =
    let two = and_parts (nat_le q o.1) (no_sooner q own) soon in
    let ih = moment_below x moment top q own two.1 le in
    let h : q ≤ o.1 = let t = two.0 in grind (arith, nat_tests) in
    on (same_spot x o.0) h ih where
      on : (b : Bool) → q ≤ o.1 → from_moment x moment own ≤ top → max (if b then moment - o.1 else 0) (from_moment x moment own) ≤ top
      on true h ih = omega arith
      on false h ih = omega arith

behind_below : (gap cycle top p q : ℕ) (es own : List Touch) → no_later p es ≡ true → no_sooner q own ≡ true → cycle + p + gap ≤ top + q → behind gap cycle es own ≤ top
behind_below gap cycle top p q [] own late soon le = omega arith
behind_below gap cycle top p q (e ∷ es) own late soon le =
    let two = and_parts (nat_le e.1 p) (no_later p es) late in
    let h : e.1 ≤ p = let t = two.0 in grind (arith, nat_tests) in
    let first = moment_below e.0 (cycle + e.1 + gap) top q own soon (omega arith) in
    let rest = behind_below gap cycle top p q es own two.1 soon le in
    omega arith

-- ---- results

-- a result is due after 1 to 16 cycles
op_due : (o : UnitOp) → fits_kind o ≡ true → has_result o.op ≡ true → (1 ≤ o.latency) × (o.latency ≤ 16)
op_due o f r = on o.op refl f r where
  some : (a b : Bool) → (a && b) ≡ true → b ≡ true
  some true b e = e
  some false b e = absurd cc

  from : is_from_to 1 16 o.latency ≡ true → (1 ≤ o.latency) × (o.latency ≤ 16)
  from e = (from_to-least 1 16 o.latency e, from_to-greatest 1 16 o.latency e)

  on : (p : Op) → o.op ≡ p → fits_kind (record o { op = p }) ≡ true → has_result p ≡ true → (1 ≤ o.latency) × (o.latency ≤ 16)
  on Ldw e g h = from (some (o.arity == 1) _ g)
  on Stw e g h = absurd cc
  on Ldf e g h = from (some (o.arity == 1) _ g)
  on Stf e g h = absurd cc
  on Out e g h = absurd cc
  on Take e g h = from (some (o.arity == 1) _ g)
  on (Set id) e g h = from (some (is_from_to 1 2 o.arity) _ g)

pub due_least : (m : Machine) → IsMachine m → (unit op due : ℕ) → due_after m (Trigger unit op) ≡ Some due → (1 ≤ due) × (due ≤ 16)
due_least m rules unit op due e = on (op_at m unit op) refl e where
  by : (o : UnitOp) (b : Bool) → has_result o.op ≡ b → fits_kind o ≡ true → (if b then Some o.latency else None) ≡ Some due → (1 ≤ due) × (due ≤ 16)
  by o true r f e = let same : o.latency ≡ due = cc in subst (λ (n : ℕ). (1 ≤ n) × (n ≤ 16)) same (op_due o f r)
  by o false r f e = absurd cc

  on : (t : Option UnitOp) → op_at m unit op ≡ t → option_map_or (λ o. if has_result o.op then Some o.latency else None) t None ≡ Some due → (1 ≤ due) × (due ≤ 16)
  on None at e = absurd cc
  on (Some o) at e = by o (has_result o.op) refl (unit_op m rules unit op o at) e

-- ---- what an item touches, and when

writes_soon : (m : Machine) → IsMachine m → (d : Target) → no_sooner 1 (written_at m d) ≡ true
writes_soon m rules (Reg f i) = refl
writes_soon m rules (Imm f i) = refl
writes_soon m rules (Operand f) = refl
writes_soon m rules (Trigger unit op) = on (due_after m (Trigger unit op)) (λ due e. due_least m rules unit op due e) where
  on : (o : Option ℕ) → ((due : ℕ) → o ≡ Some due → (1 ≤ due) × (due ≤ 16)) → no_sooner 1 ((Started unit, 1) ∷ option_map_or (λ due. (At (KeptPort unit), due) ∷ []) o []) ≡ true
  on None h = refl
  on (Some due) h = let p = (h due refl).0 in let t : nat_le 1 due ≡ true = grind (arith, nat_tests) in rw t refl
writes_soon m rules (Control Jumps) = refl
writes_soon m rules (Control Calls) = refl
writes_soon m rules (Control Halts) = refl

-- how many cycles an item takes
abbrev time_of : Machine → Target → ℕ
time_of m d = max 1 (option_map_or (λ due. due) (due_after m d) 0)

writes_late : (m : Machine) (d : Target) → no_later (time_of m d) (written_at m d) ≡ true
writes_late m (Reg f i) = refl
writes_late m (Imm f i) = refl
writes_late m (Operand f) = refl
writes_late m (Trigger unit op) = on (due_after m (Trigger unit op)) where
  on : (o : Option ℕ) → no_later (max 1 (option_map_or (λ due. due) o 0)) ((Started unit, 1) ∷ option_map_or (λ due. (At (KeptPort unit), due) ∷ []) o []) ≡ true
  on None = refl
  on (Some due) = let a : nat_le 1 (max 1 due) ≡ true = grind (arith, nat_tests) in let b : nat_le due (max 1 due) ≡ true = grind (arith, nat_tests) in rw (a, b) refl
writes_late m (Control Jumps) = refl
writes_late m (Control Calls) = refl
writes_late m (Control Halts) = refl

reads_late : (x : Item) → no_later 1 (reads_by x) ≡ true
reads_late x = on (place_of_source (source_of x)) (guard_of x) (target_of_item x) where
  by : (d : Target) → no_later 1 (operand_read d) ≡ true
  by (Reg f i) = refl
  by (Imm f i) = refl
  by (Operand f) = refl
  by (Trigger unit op) = refl
  by (Control kind) = refl

  on : (p : Option Place) (g : Option GuardRef) (d : Target)
      → no_later 1 (option_map_or (λ p. (At p, 0) ∷ []) p [] ++ (option_map_or (λ g. (At (guard_place g), 0) ∷ []) g [] ++ operand_read d)) ≡ true
  on None None d = by d
  on None (Some g) d = by d
  on (Some p) None d = by d
  on (Some p) (Some g) d = by d

none_sooner : (ts : List Touch) → no_sooner 0 ts ≡ true
none_sooner [] = refl
none_sooner (t ∷ ts) = let z : nat_le 0 t.1 ≡ true = grind (arith, nat_tests) in rw z (none_sooner ts)

-- ---- an item before

pub lasts_some : (m : Machine) (x : Item) → 1 ≤ lasts m x
lasts_some m x = omega arith

bound_over : (m : Machine) → IsMachine m → (v : Item) (x : PlacedItem) → bound m v x ≤ x.cycle + lasts m x.item
bound_over m rules v x =
    let top : ℕ = x.cycle + lasts m x.item in
    let one : 1 ≤ lasts m x.item = lasts_some m x.item in
    let a : behind 0 x.cycle (writes_by m x.item) (reads_by v) ≤ top
    = behind_below 0 x.cycle top (lasts m x.item) 0 (writes_by m x.item) (reads_by v) (writes_late m (target_of_item x.item)) (none_sooner (reads_by v)) (omega arith) in
    let b : behind 1 x.cycle (writes_by m x.item) (writes_by m v) ≤ top
    = behind_below 1 x.cycle top (lasts m x.item) 1 (writes_by m x.item) (writes_by m v) (writes_late m (target_of_item x.item)) (writes_soon m rules (target_of_item v)) (omega arith) in
    let c : behind 1 x.cycle (reads_by x.item) (writes_by m v) ≤ top
    = behind_below 1 x.cycle top 1 1 (reads_by x.item) (writes_by m v) (reads_late x.item) (writes_soon m rules (target_of_item v)) (omega arith) in
    let d : over_before m v x ≤ top = over (is_control v) in
    omega arith where
      over : (t : Bool) → (if t then x.cycle + lasts m x.item - (1 + m.control.delay) else 0) ≤ x.cycle + lasts m x.item
      over true = omega arith
      over false = omega arith

-- no item is held back past the end of those before it
pub least_over : (m : Machine) → IsMachine m → (placed : List PlacedItem) (v : Item) → least m placed v ≤ end_of m placed
least_over m rules [] v = omega arith
least_over m rules (x ∷ placed) v = let a = bound_over m rules v x in let b = least_over m rules placed v in omega arith
