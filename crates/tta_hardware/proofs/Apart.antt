-- The operations that a cycle starts: no two are of one unit, and each result shows in a later cycle.
use Rattle.std.proofs.Common.{◌≡◌, ℕ, ◌<◌, ◌==◌, Bool, true, false, List, [], ◌∷◌, map, slice_get, Option, Some, None, refl, sym, ap, ◌∙◌, arith}
use Rattle.std.specs.Prelude.{option_and_then}
use Rattle.std.specs.Option.{option_map_or}
use Rattle.std.specs.List.{filter_map, cons_option, list_all, AllByRecursion}
use Rattle.std.proofs.lemmas.Option.{none-some, same_Some}
use Rattle.tta_list.proofs.Lists.{list_all_one}
use Rattle.tta_hardware.specs.Cited.{Op, Ldw, Stw, Ldf, Stf, Out, Take, Set, UnitOp, Dest, Machine, IsMachine, is_unit, is_unit_op, fits_kind, are_different, Target, Reg, Imm, Control, Reads, Brought, Written, Start, target_of, moved, bring, start_of, op_at, operand_of, has_result, Move, Instruction, is_legal, effect_of, moves_of}
use Rattle.tta_arch.specs.declared.parts.Unit.{Unit as OpUnit}
use Rattle.tta_arch.specs.declared.ends.Dest.TheVariants as dest
use Rattle.tta_arch.specs.Legal.{same_place}
use Rattle.tta_arch.specs.Effects.{Operand, Trigger}
use Rattle.tta_arch.proofs.Takes.{apart_filter_map}
use Rattle.tta_code.proofs.LegalParts.{legal_parts}
use Rattle.tta_code.proofs.Apart.{meet_moves, moves_apart}

-- ---- each result is later

module _ (m : Machine) (rules : IsMachine m) where
  pub op_fits : (unit op : ℕ) (o : UnitOp) → op_at m unit op ≡ Some o → fits_kind o ≡ true
  op_fits unit op o at = by (slice_get m.units unit) refl at where
    by : (q : Option OpUnit) → slice_get m.units unit ≡ q → option_and_then (λ x. slice_get x.ops op) q ≡ Some o → fits_kind o ≡ true
    by None is at = absurd (none-some o at)
    by (Some x) is at =
        let good : is_unit m.sockets x ≡ true = list_all_one (is_unit m.sockets) m.units unit x rules.units is in
        let ops : list_all (is_unit_op x) x.ops ≡ true = grind (arith, good) in
        let one : is_unit_op x o ≡ true = list_all_one (is_unit_op x) x.ops op o ops at in
        grind (arith, one)

  pub op_later : (unit op : ℕ) (o : UnitOp) → op_at m unit op ≡ Some o → has_result o.op ≡ true → 0 < o.latency
  op_later unit op o at has = by o.op refl (op_fits unit op o at) has where
    by : (p : Op) → o.op ≡ p → fits_kind (record o { op = p }) ≡ true → has_result p ≡ true → 0 < o.latency
    by Ldw is fits has = grind arith
    by Stw is fits has = absurd cc
    by Ldf is fits has = grind arith
    by Stf is fits has = absurd cc
    by Out is fits has = absurd cc
    by Take is fits has = grind arith
    by (Set id) is fits has = grind arith

  -- an operation that starts
  one_later : (written : Written) (b : Brought) (t : Start) → start_of m written b ≡ Some t → has_result t.does.op ≡ true
      → 0 < t.does.latency
  one_later written (Trigger unit op, word) t is has = by (op_at m unit op) refl is where
    by : (o : Option UnitOp) → op_at m unit op ≡ o
        → option_map_or (λ o. Some (record { unit = unit; does = o; operand = operand_of written unit o; word = word })) o None ≡ Some t
        → 0 < t.does.latency
    by None at is = absurd (none-some t is)
    by (Some o) at is =
        let same : o ≡ t.does =
        ap (λ (x : Start). x.does)
        (same_Some (record { unit = unit; does = o; operand = operand_of written unit o; word = word }) t is) in
        op_later unit op t.does (at ∙ ap (λ x. Some x) same) has
  one_later written (Reg file index, word) t is has = absurd (none-some t is)
  one_later written (Imm unit index, word) t is has = absurd (none-some t is)
  one_later written (Operand unit, word) t is has = absurd (none-some t is)
  one_later written (Control kind, word) t is has = absurd (none-some t is)

  pub all_later : (written : Written) (bs : List Brought)
      → AllByRecursion (λ t. has_result t.does.op ≡ true → 0 < t.does.latency) (filter_map (start_of m written) bs)
  all_later written [] = tt
  all_later written (b ∷ bs) = by (start_of m written b) refl (all_later written bs) where
    by : (o : Option Start) → start_of m written b ≡ o
        → AllByRecursion (λ t. has_result t.does.op ≡ true → 0 < t.does.latency) (filter_map (start_of m written) bs)
        → AllByRecursion (λ t. has_result t.does.op ≡ true → 0 < t.does.latency) (cons_option o (filter_map (start_of m written) bs))
    by None is rest = rest
    by (Some t) is rest = (one_later written b t is, rest)

-- ---- no two are of one unit

-- whether two words go to the trigger of one unit
abbrev meets_trigger : ℕ → Target → Bool
meets_trigger unit (Reg file index) = false
meets_trigger unit (Imm q index) = false
meets_trigger unit (Operand q) = false
meets_trigger unit (Trigger q op) = unit == q
meets_trigger unit (Control kind) = false

abbrev meet_targets : Target → Target → Bool
meet_targets (Reg file index) t = false
meet_targets (Imm q index) t = false
meet_targets (Operand q) t = false
meet_targets (Trigger q op) t = meets_trigger q t
meet_targets (Control kind) t = false

abbrev meet_brought : Brought → Brought → Bool
meet_brought a b = meet_targets a.0 b.0

differ : (a b : Dest) → same_place a b ≡ false → meet_targets (target_of a) (target_of b) ≡ false
differ (dest.Reg file index) b is = refl
differ (dest.Operand q) b is = refl
differ (dest.Trigger q op) (dest.Reg file index) is = refl
differ (dest.Trigger q op) (dest.Operand x) is = refl
differ (dest.Trigger q op) (dest.Trigger x k) is = is
differ (dest.Trigger q op) dest.Jump is = refl
differ (dest.Trigger q op) dest.Call is = refl
differ (dest.Trigger q op) dest.Halt is = refl
differ dest.Jump b is = refl
differ dest.Call b is = refl
differ dest.Halt b is = refl

module _ (m : Machine) (reads : Reads) (written : Written) where
  abbrev brings : Move → Option Brought
  brings v = bring reads (effect_of v)

  brought_to : (v : Move) (b : Brought) → brings v ≡ Some b → b.0 ≡ target_of v.dst
  brought_to v b is = by (moved reads (effect_of v)) is where
    by : (o : Option ℕ) → option_map_or (λ word. Some (target_of v.dst, word)) o None ≡ Some b → b.0 ≡ target_of v.dst
    by None is = absurd (none-some b is)
    by (Some w) is = ap (λ (x : Brought). x.0) (sym (same_Some (target_of v.dst, w) b is))

  one_of : (t : Target) (word : ℕ) (s : Start) → start_of m written (t, word) ≡ Some s → (op : ℕ) × (t ≡ Trigger s.unit op)
  one_of (Trigger unit op) word s is = by (op_at m unit op) is where
    by : (o : Option UnitOp)
        → option_map_or (λ o. Some (record { unit = unit; does = o; operand = operand_of written unit o; word = word })) o None ≡ Some s
        → (k : ℕ) × (Trigger unit op ≡ Trigger s.unit k)
    by None is = absurd (none-some s is)
    by (Some o) is = (
      op,
      ap (λ (x : Start). Trigger x.unit op)
          (same_Some (record { unit = unit; does = o; operand = operand_of written unit o; word = word }) s is),
    )
  one_of (Reg file index) word s is = absurd (none-some s is)
  one_of (Imm unit index) word s is = absurd (none-some s is)
  one_of (Operand unit) word s is = absurd (none-some s is)
  one_of (Control kind) word s is = absurd (none-some s is)

  -- a function of each element of a list that is made by another
  fuse : {A B C : Type 0} (g : B → Option C) (f : A → B) (xs : List A) → filter_map g (map f xs) ≡ filter_map (λ x. g (f x)) xs
  fuse g f [] = refl
  fuse g f (x ∷ xs) = ap (cons_option (g (f x))) (fuse g f xs)

  pub starts_differ : (i : Instruction) → is_legal m i ≡ true
      → are_different (λ a b. a.unit == b.unit) (filter_map (start_of m written) (filter_map (bring reads) (map effect_of (moves_of i))))
      ≡ true
  starts_differ i legal =
      ap (λ bs. are_different (λ a b. a.unit == b.unit) (filter_map (start_of m written) bs)) (fuse (bring reads) effect_of (moves_of i))
      ∙ apart_filter_map meet_brought (λ a b. a.unit == b.unit) (start_of m written)
      (λ p q a b is it other.
      let one = one_of p.0 p.1 a is in
      let two = one_of q.0 q.1 b it in
      sym (ap (λ t. meet_targets t (Trigger b.unit two.0)) one.1) ∙ sym (ap (meet_targets p.0) two.1) ∙ other)
      (filter_map brings (moves_of i))
      (apart_filter_map meet_moves meet_brought brings
      (λ v w p q is it other.
      ap (λ t. meet_targets t q.0) (brought_to v p is) ∙ ap (meet_targets (target_of v.dst)) (brought_to w q it) ∙ differ v.dst w.dst other)
      (moves_of i) (sym (moves_apart i.moves) ∙ (legal_parts m i legal).apart))
