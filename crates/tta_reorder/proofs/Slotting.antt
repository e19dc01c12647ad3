-- Where slots are told apart, an item uses the slot that its list shows.
use Rattle.std.proofs.Common.{◌≡◌, ℕ, zero, suc, Bool, true, false, List, Option, Some, None, refl, sym, ap, subst, ◌∙◌}
use Rattle.std.specs.Prelude.{if◌then◌else◌, ◌==◌, slice_get}
use Rattle.std.specs.Option.{option_map_or}
use Rattle.tta_reorder.specs.Cited.{Units, GuardRef, UnitOp, Ldf, Stf, Machine, Target, Reg, Imm, Operand, Trigger, Control, Jumps, Calls, Halts, KeptOperand, KeptPort, Written, kept, moved, has_result, op_at, Start, start_of, operand_of, operand_word, ItemSource, Port, Address, Item, guard_of, source_of, target_of_item, place_written, is_at, writes, is_waiting, Held, linked, effect_of, read_held, does}
use Rattle.tta_arch.specs.declared.ends.Source.TheVariants as source
use Rattle.tta_moves.proofs.Places.{either, kept_there}
use Rattle.tta_moves.proofs.Steps.{kept_other}
use Rattle.tta_reorder.specs.Channels.{Division, part_with, part_of, starts, uses_frame}
use Rattle.tta_reorder.specs.Slots.{constant_of, sure_constant, held_constant, slot_by, slot_at, slot_of, IsPart, IsDivision}
use Rattle.tta_reorder.proofs.Carried.{UsesPart, carried_on, does_on, started_by}
use Rattle.tta_reorder.proofs.SameItem.{moves}
use Rattle.tta_reorder.proofs.Listed.{state, next, past}

-- ---- constants

-- a source that is a constant brings it
constant_is : (addr : List ℕ) (ws : Written) (src : ItemSource) (a : ℕ) → constant_of src ≡ Some a → read_held ws (linked addr src) ≡ Some a
constant_is addr ws (Address block) a e = absurd cc
constant_is addr ws (Port (source.Reg f i)) a e = absurd cc
constant_is addr ws (Port (source.Imm f i)) a e = absurd cc
constant_is addr ws (Port (source.Shown unit)) a e = absurd cc
constant_is addr ws (Port source.Ra) a e = absurd cc
constant_is addr ws (Port (source.Value w)) a e = e

-- so does an item that is carried out
brings : (addr : List ℕ) (h : Held) (x : Item) (a w : ℕ) → constant_of (source_of x) ≡ Some a → moved (read_held h.written) (effect_of addr x) ≡ Some w → w ≡ a
brings addr h x a w is e = by _ (constant_is addr h.written (source_of x) a is) e where
  by : (active : Bool) → read_held h.written (linked addr (source_of x)) ≡ Some a → (if active then read_held h.written (linked addr (source_of x)) else None) ≡ Some w → w ≡ a
  by true r e = let some : ◌≡◌ {A = Option ℕ} (Some w) (Some a) = sym e ∙ r in cc
  by false r e = absurd cc

sure_is : (x : Item) (a : ℕ) → sure_constant x ≡ Some a → (guard_of x ≡ None) × (constant_of (source_of x) ≡ Some a)
sure_is x a e = on (guard_of x) refl where
  on : (g : Option GuardRef) → guard_of x ≡ g → (guard_of x ≡ None) × (constant_of (source_of x) ≡ Some a)
  on None is = (is, rw is at e)
  on (Some g) is = let none = rw is at e in absurd cc

-- ---- operand ports

operand_written : (u : Units) (m : Machine) (back : ℕ) (h : Held) (t : Target) (unit a : ℕ) → is_at (KeptOperand unit) (place_written m t) ≡ true
    → kept (carried_on u m back h t (Some a)).written (KeptOperand unit) ≡ Some a
operand_written u m back h (Reg f i) unit a e = absurd cc
operand_written u m back h (Imm f i) unit a e = absurd cc
operand_written u m back h (Operand other) unit a e = kept_there (KeptOperand other, a) h.written (KeptOperand unit) e
operand_written u m back h (Control Jumps) unit a e = absurd cc
operand_written u m back h (Control Calls) unit a e = absurd cc
operand_written u m back h (Control Halts) unit a e = absurd cc
operand_written u m back h (Trigger other op) unit a e = on (op_at m other op) e where
  by : (b : Bool) → is_at (KeptOperand unit) (if b then Some (KeptPort other) else None) ≡ true → ⊥
  by true e = absurd cc
  by false e = absurd cc

  on : (o : Option UnitOp) → is_at (KeptOperand unit) (option_map_or (λ o. if has_result o.op then Some (KeptPort other) else None) o None) ≡ true
      → kept (carried_on u m back h (Trigger other op) (Some a)).written (KeptOperand unit) ≡ Some a
  on None e = absurd cc
  on (Some o) e = absurd (by (has_result o.op) e)

module _ (u : Units) (m : Machine) (addr : List ℕ) (back : ℕ) (items : List Item) (h : Held) (runs : (n : ℕ) → is_waiting (state u m addr back h items n).exit ≡ false) where
  abbrev old : ℕ → Held
  old n = state u m addr back h items n

  abbrev taken : (n : ℕ) (x : Item) → slice_get items n ≡ Some x → old (suc n) ≡ does u m back (old n) (effect_of addr x)
  taken n x there = next u m addr back h items n x there

  -- an operand port has the constant that is known of it
  port_has : (unit n a : ℕ) → held_constant m items unit n ≡ Some a → kept (old n).written (KeptOperand unit) ≡ Some a
  unfolding held_constant
  port_has unit zero a e = absurd cc
  port_has unit (suc n) a e = on (slice_get items n) refl e (port_has unit n a) where
    on : (o : Option Item) → slice_get items n ≡ o
        → option_map_or (λ x. if writes m (KeptOperand unit) x then sure_constant x else held_constant m items unit n) o (held_constant m items unit n) ≡ Some a
        → (held_constant m items unit n ≡ Some a → kept (old n).written (KeptOperand unit) ≡ Some a) → kept (old (suc n)).written (KeptOperand unit) ≡ Some a
    on None is e more = ap (λ (k : Held). kept k.written (KeptOperand unit)) (past u m addr back h items n is) ∙ more e
    on (Some x) is e more = either (writes m (KeptOperand unit) x)
        (λ w.
        let sure = sure_is x a (rw w at e) in
        let after : is_waiting (does u m back (old n) (effect_of addr x)).exit ≡ false = subst (λ (k : Held). is_waiting k.exit ≡ false) (taken n x is) (runs (suc n)) in
        let word = moves (old n) (effect_of addr x) a sure.0 (constant_is addr (old n).written (source_of x) a sure.1) in
        ap (λ (k : Held). kept k.written (KeptOperand unit)) (taken n x is ∙ does_on u m back (old n) (effect_of addr x) (runs n) after)
        ∙ ap (λ (o : Option ℕ). kept (carried_on u m back (old n) (target_of_item x) o).written (KeptOperand unit)) word
        ∙ operand_written u m back (old n) (target_of_item x) unit a w)
        (λ away.
        ap (λ (k : Held). kept k.written (KeptOperand unit)) (taken n x is)
        ∙ kept_other u m back (old n) (effect_of addr x) (KeptOperand unit) away
        ∙ more (rw away at e))

  -- ---- slots

  some_part : (d : Division) (slot : ℕ) (part : ℕ) → d.apart ≡ true → slot ≡ part → part_with d slot ≡ part
  some_part d slot part is e = rw is e

  all_parts : (d : Division) (slot part : ℕ) → d.apart ≡ false → part ≡ 0 → part_with d slot ≡ part
  all_parts d slot part is e = rw is (sym e)

  -- the slot that is known is the one that an operation uses
  slot_used : (n : ℕ) (x : Item) (a w : ℕ) (s : Start) → slot_of m items n x ≡ Some a → moved (read_held (old n).written) (effect_of addr x) ≡ Some w
      → start_of m (old n).written (target_of_item x, w) ≡ Some s → (s.does.op ≡ Stf → operand_word s ≡ a) × (s.does.op ≡ Ldf → s.word ≡ a)
  slot_used n x a w s known word e = on (target_of_item x) known e where
    by : (unit : ℕ) (o : UnitOp) → slot_by (constant_of (source_of x)) (held_constant m items unit n) o.arity o.op ≡ Some a
        → ◌≡◌ {A = Start} (record { unit = unit; does = o; operand = operand_of (old n).written unit o; word = w }) s
        → (s.does.op ≡ Stf → operand_word s ≡ a) × (s.does.op ≡ Ldf → s.word ≡ a)
    by unit o known same = (
      (λ op.
          let stf : o.op ≡ Stf = ap (λ (q : Start). q.does.op) same ∙ op in
          let held : (if o.arity == 2 then held_constant m items unit n else None) ≡ Some a = rw stf at known in
          ap operand_word (sym same) ∙ two (o.arity == 2) refl held),
      λ op.
          let ldf : o.op ≡ Ldf = ap (λ (q : Start). q.does.op) same ∙ op in
          let brought : constant_of (source_of x) ≡ Some a = rw ldf at known in
          ap (λ (q : Start). q.word) (sym same) ∙ brings addr (old n) x a w brought word,
    ) where
      two : (b : Bool) → (o.arity == 2) ≡ b → (if b then held_constant m items unit n else None) ≡ Some a
          → option_map_or (λ v. v) (if o.arity == 2 then kept (old n).written (KeptOperand unit) else Some 0) 0 ≡ a
      two true is held = rw is (ap (λ (q : Option ℕ). option_map_or (λ v. v) q 0) (port_has unit n a held))
      two false is held = absurd cc

    on : (t : Target) → slot_at m (source_of x) (λ unit. held_constant m items unit n) t ≡ Some a → start_of m (old n).written (t, w) ≡ Some s → (s.does.op ≡ Stf → operand_word s ≡ a) × (s.does.op ≡ Ldf → s.word ≡ a)
    on (Reg f i) known e = absurd cc
    on (Imm f i) known e = absurd cc
    on (Operand unit) known e = absurd cc
    on (Control kind) known e = absurd cc
    on (Trigger unit op) known e = at (op_at m unit op) known e where
      at : (o : Option UnitOp) → option_map_or (λ o. slot_by (constant_of (source_of x)) (held_constant m items unit n) o.arity o.op) o None ≡ Some a
          → option_map_or (λ o. Some (record { unit = unit; does = o; operand = operand_of (old n).written unit o; word = w })) o None ≡ Some s
          → (s.does.op ≡ Stf → operand_word s ≡ a) × (s.does.op ≡ Ldf → s.word ≡ a)
      at None known e = absurd cc
      at (Some o) known e = by unit o known cc

  -- what an item of the list uses lies in its part
  pub uses_part : (d : Division) → IsDivision m items d → (n : ℕ) (x : Item) → slice_get items n ≡ Some x → UsesPart m d addr (old n) (n, x)
  uses_part d divided n x there w s word e = record {
    stored = λ op. by (d.apart) refl (is_part (started_by m (old n).written (target_of_item x) w s uses_frame e ∙ ap uses_frame op)) (λ a k. (slot_used n x a w s k word e).0 op);
    loaded = λ op. by (d.apart) refl (is_part (started_by m (old n).written (target_of_item x) w s uses_frame e ∙ ap uses_frame op)) (λ a k. (slot_used n x a w s k word e).1 op);
  } where
    is_part : starts m uses_frame (target_of_item x) ≡ true → IsPart d.apart (slot_of m items n x) (part_of d n)
    is_part uses = divided n x there uses

    by : {slot : ℕ} (b : Bool) → d.apart ≡ b → IsPart d.apart (slot_of m items n x) (part_of d n) → ((a : ℕ) → slot_of m items n x ≡ Some a → slot ≡ a) → part_with d slot ≡ part_of d n
    by {slot} true is part same = some_part d slot (part_of d n) is (same (part_of d n) (subst (λ (b : Bool). IsPart b (slot_of m items n x) (part_of d n)) is part))
    by {slot} false is part same = all_parts d slot (part_of d n) is (subst (λ (b : Bool). IsPart b (slot_of m items n x) (part_of d n)) is part)
