-- The registers of a machine read only signals that are there.
use Rattle.std.proofs.Common.{◌≡◌, ℕ, ◌+◌, ◌<◌, ◌==◌, Bool, true, false, ◌&&◌, length, filter, slice_get, Option, Some, None, refl, sym, ◌∙◌, inl, inr, arith}
use Rattle.std.specs.Prelude.{is_some, if◌then◌else◌, nat_lt, nat_le}
use Rattle.std.specs.Option.{option_map_or}
use Rattle.std.specs.List.{enumerate_from}
use Rattle.std.proofs.lemmas.Bool.{and_parts, and_from, lt-ltb, le-leb, leb-true, false≢true, eq-eqb, cases_lt}
use Rattle.tta_hardware.specs.Cited.{Op, Ldw, Stw, Ldf, Stf, Out, Take, Set, Template, UnitOp, Machine, template_width, Place, KeptReg, KeptImm, KeptOperand, KeptRa, KeptPort, op_at, Const, Signal, Slice, Select, Either, Equal, Below}
use Rattle.tta_arch.specs.declared.ends.Dest.TheVariants as dest
use Rattle.tta_arch.specs.Effects.{width_of}
use Rattle.tta_hardware.specs.Signals.{TemplateOf, LongOf, Signal as Named, Pc, HasHalted, Underway, Goal, Ends, Keeps, IsDue, Due, HasBegun, Raw, IsInside, Port, IsOffered, Offer, IsReady, IsReset, Whole, Fetched, Word, Acts, Starts, Trigger, Operand, Controls, GoalNow, EndsNow, Lands, Asks, Gives, Goes, NextPc, Puts, PutWord, Watches, Boxes}
use Rattle.tta_hardware.specs.Wires.{never, nothing, hits, buses_to, reached, begins, made, longest, is_coming, coming}
use Rattle.tta_hardware.specs.Registers.{narrowed, kept_next, read_at, space_size, becomes, next_of, restarts, enabled}
use Rattle.tta_hardware.specs.Stands.{has_place}
use Rattle.tta_hardware.proofs.Bits.{template_some}
use Rattle.tta_hardware.proofs.Bringing.{within_list}
use Rattle.tta_hardware.proofs.WiresFit.{kept_filter}
use Rattle.tta_hardware.proofs.RegistersFit.{numbered, weaker}
use Rattle.tta_hardware.proofs.There.{can_be_due, is_there}
use Rattle.tta_hardware.proofs.OnlyThere.{ok, sig, three, first_ok, reached_ok, arriving, word_ok, unit_of, load_of, begins_ok, made_ok, is_coming_ok, coming_ok}

module _ (m : Machine) where
  -- ---- registers

  pub enabled_ok : (n : Named) → ok m (enabled n) ≡ true
  enabled_ok n = by (restarts n) where
    by : (b : Bool) → ok m (if b then Either (Signal IsReset) (Signal Goes) else Signal Goes) ≡ true
    by true = refl
    by false = refl

  underway_ok : (delay : ℕ) → (nat_lt 0 delay && nat_le delay m.control.delay) ≡ true → ok m (next_of m (Underway delay)) ≡ true
  underway_ok delay is = by (delay == m.control.delay) refl where
    by : (b : Bool) → (delay == m.control.delay) ≡ b → ok m (if b then Signal Controls else Signal (Underway (delay + 1))) ≡ true
    by true same = refl
    by false other =
        let most = leb-true delay m.control.delay (and_parts (nat_lt 0 delay) (nat_le delay m.control.delay) is).1 in
        elim (cases_lt delay m.control.delay) [
          | inl less ↦
              sig m (Underway (delay + 1)) (and_from (nat_lt 0 (delay + 1)) (nat_le (delay + 1) m.control.delay)
              (lt-ltb 0 (delay + 1) (omega arith)) (le-leb (delay + 1) m.control.delay (omega (arith, less))))
          | inr more ↦
              let e : delay ≡ m.control.delay = omega (arith, most, more) in
              absurd (false≢true (sym other ∙ eq-eqb delay m.control.delay e))
        ]

  narrowed_ok : (file bus : ℕ) → bus < length m.buses → ok m (narrowed m file (Signal (Word bus))) ≡ true
  narrowed_ok file bus less = by (width_of m file == 1) where
    by : (b : Bool) → ok m (if b then Slice 0 1 (Signal (Word bus)) else Signal (Word bus)) ≡ true
    by true = word_ok m bus less
    by false = word_ok m bus less

  longs_ok : (unit index : ℕ) → has_place m (KeptImm unit index) ≡ true → ok m (kept_next m (KeptImm unit index)) ≡ true
  longs_ok unit index is =
      first_ok m (λ (t : ℕ × Template). Equal (Signal (Fetched TemplateOf)) (Const (template_width m) (t.0 + 1)))
      (λ t. Signal (Fetched LongOf))
      (filter (λ t. t.1.imm == unit && t.1.reg == index) (enumerate_from 0 m.templates)) (Signal (Keeps (KeptImm unit index)))
      (kept_filter (λ (t : ℕ × Template). (ok m (Equal (Signal (Fetched TemplateOf)) (Const (template_width m) (t.0 + 1))) ≡ true)
      × (ok m (Signal (Fetched LongOf)) ≡ true)) (λ t. t.1.imm == unit && t.1.reg == index) (enumerate_from 0 m.templates)
      (weaker (λ (t : ℕ × Template). t.0 < length m.templates)
      (λ t. (ok m (Equal (Signal (Fetched TemplateOf)) (Const (template_width m) (t.0 + 1))) ≡ true)
      × (ok m (Signal (Fetched LongOf)) ≡ true))
      (enumerate_from 0 m.templates)
      (λ t less. (
        and_from (ok m (Signal (Fetched TemplateOf))) true
            (sig m (Fetched TemplateOf) (lt-ltb 0 (template_width m) (template_some m t.0 less))) refl,
        refl,
      ))
      (numbered (length m.templates) 0 m.templates (omega arith))))
      (sig m (Keeps (KeptImm unit index)) is)

  unit_place : (unit : ℕ) → is_some (slice_get m.units unit) ≡ true → nat_lt unit (length m.units) ≡ true
  unit_place unit is = lt-ltb unit (length m.units) (within_list m.units unit is)

  place_ok : (p : Place) → has_place m p ≡ true → ok m (kept_next m p) ≡ true
  place_ok (KeptReg file index) is =
      first_ok m (hits m (dest.Reg file index)) (λ bus. narrowed m file (Signal (Word bus))) (buses_to m (dest.Reg file index))
      (Signal (Keeps (KeptReg file index)))
      (arriving m (dest.Reg file index) (λ bus. narrowed m file (Signal (Word bus))) (narrowed_ok file))
      (sig m (Keeps (KeptReg file index)) is)
  place_ok (KeptImm unit index) is = longs_ok unit index is
  place_ok (KeptOperand unit) is = sig m (Operand unit) (unit_place unit is)
  place_ok KeptRa is = and_from (ok m (reached m dest.Call)) true (reached_ok m dest.Call) refl
  place_ok (KeptPort unit) is =
      let less = unit_place unit is in
      three m (begins m unit 1) (made m unit 1) (Select (is_coming m unit 1) (coming m unit 1) (Signal (Port unit)))
      (begins_ok m unit 1) (made_ok m unit 1 less)
      (three m (is_coming m unit 1) (coming m unit 1) (Signal (Port unit)) (is_coming_ok m unit 1 less (omega arith))
      (coming_ok m unit 1 less (omega arith)) (sig m (Port unit) less))

  due_unit : (unit delay : ℕ) → can_be_due m unit delay ≡ true → nat_lt unit (length m.units) ≡ true
  due_unit unit delay is = (and_parts (nat_lt unit (length m.units)) (nat_lt 0 delay && nat_lt delay (longest m unit)) is).0

  raw_ok : (unit : ℕ) (o : Option UnitOp) → nat_lt unit (length m.units) ≡ true
      → ok m (option_map_or (λ o. read_at o.op (Signal (Trigger unit))) o nothing) ≡ true
  raw_ok unit None less = refl
  raw_ok unit (Some o) less = by o.op where
    by : (p : Op) → ok m (read_at p (Signal (Trigger unit))) ≡ true
    by Ldw = sig m (Trigger unit) less
    by Stw = sig m (Trigger unit) less
    by Ldf = sig m (Trigger unit) less
    by Stf = sig m (Trigger unit) less
    by Out = sig m (Trigger unit) less
    by Take = sig m (Trigger unit) less
    by (Set id) = sig m (Trigger unit) less

  inside_ok : (unit : ℕ) (o : Option UnitOp) → nat_lt unit (length m.units) ≡ true
      → ok m (option_map_or (λ o. Below (Signal (Trigger unit)) (Const 32 (space_size m o.op))) o never) ≡ true
  inside_ok unit None less = refl
  inside_ok unit (Some o) less = and_from (ok m (Signal (Trigger unit))) true (sig m (Trigger unit) less) refl

  pub register_ok : (n : Named) → is_there m n ≡ true → ok m (becomes m n) ≡ true
  register_ok Pc is = refl
  register_ok Whole is = refl
  register_ok HasHalted is = refl
  register_ok (Underway delay) is = underway_ok delay is
  register_ok Goal is = refl
  register_ok Ends is = refl
  register_ok (Keeps p) is = place_ok p is
  register_ok (IsDue unit delay) is =
      and_from (ok m (begins m unit (delay + 1))) (ok m (is_coming m unit (delay + 1))) (begins_ok m unit (delay + 1))
      (is_coming_ok m unit (delay + 1) (due_unit unit delay is) (omega arith))
  register_ok (Due unit delay) is =
      let less = due_unit unit delay is in
      three m (begins m unit (delay + 1)) (made m unit (delay + 1)) (coming m unit (delay + 1)) (begins_ok m unit (delay + 1))
      (made_ok m unit (delay + 1) less) (coming_ok m unit (delay + 1) less (omega arith))
  register_ok (HasBegun unit op) is = sig m (Starts unit op) (load_of m unit op is)
  register_ok (Raw unit op) is = raw_ok unit (op_at m unit op) (unit_of m unit op (load_of m unit op is))
  register_ok (IsInside unit op) is = inside_ok unit (op_at m unit op) (unit_of m unit op (load_of m unit op is))
  register_ok (Port unit) is = refl
  register_ok (Fetched f) is = refl
  register_ok (Word bus) is = refl
  register_ok (Acts bus) is = refl
  register_ok (Starts unit op) is = refl
  register_ok (Trigger unit) is = refl
  register_ok (Operand unit) is = refl
  register_ok Controls is = refl
  register_ok GoalNow is = refl
  register_ok EndsNow is = refl
  register_ok Lands is = refl
  register_ok Asks is = refl
  register_ok Gives is = refl
  register_ok Goes is = refl
  register_ok NextPc is = refl
  register_ok Puts is = refl
  register_ok PutWord is = refl
  register_ok IsOffered is = refl
  register_ok Offer is = refl
  register_ok IsReady is = refl
  register_ok IsReset is = refl
  register_ok (Watches w) is = refl
  register_ok (Boxes b) is = refl
