-- Constants in what registers become, and in where memories are written, are narrow.
use Rattle.std.proofs.Common.{◌≡◌, ℕ, ◌+◌, ◌-◌, ◌==◌, Bool, true, false, ◌&&◌, filter, Option, Some, None, refl, arith}
use Rattle.std.specs.Prelude.{if◌then◌else◌, nat_le}
use Rattle.std.specs.Option.{option_map_or}
use Rattle.std.specs.List.{enumerate_from}
use Rattle.std.proofs.lemmas.Bool.{and_from, le-leb}
use Rattle.tta_ops.specs.Units.{Units}
use Rattle.tta_arch.specs.Over.{StandsOver}
use Rattle.tta_arch.specs.Fields.{template_width}
use Rattle.tta_arch.specs.Effects.{width_of}
use Rattle.tta_arch.specs.declared.parts.Template.{Template}
use Rattle.tta_arch.specs.declared.ends.Dest.TheVariants as dest
use Rattle.tta_circuit.specs.Circuit.{Const, Signal, Slice, Join, Select, Either, Equal, Below, Plus}
use Rattle.tta_hardware.specs.Cited.{Machine, IsMachine, Op, Ldf, UnitOp, op_at, Place, KeptReg, KeptImm, KeptOperand, KeptRa, KeptPort}
use Rattle.tta_hardware.specs.Signals.{TemplateOf, LongOf, Signal as Named, Fetched, Word, Trigger, Operand, Keeps, Pc, Underway, IsDue, Due, Raw, IsInside, Port, IsReset, Controls, Goes}
use Rattle.tta_hardware.specs.Wires.{never, nothing, hits, buses_to, reached, some_start, word_of_start, begins, made, is_coming, coming}
use Rattle.tta_hardware.specs.Registers.{narrowed, kept_next, read_at, space_size, becomes, restarts, enabled}
use Rattle.tta_hardware.specs.Hardware.{store_port}
use Rattle.tta_hardware.proofs.PlainWires.{all_each}
use Rattle.tta_told.proofs.Narrow.{narrow}
use Rattle.tta_told.proofs.Constants.{three, first_narrow, template_short}
use Rattle.tta_told.proofs.WireConstants.{arriving, reached_narrow, begins_narrow, made_narrow, is_coming_narrow, coming_narrow, some_narrow, of_start}

module _ (u : Units) (m : Machine) (rules : IsMachine m) (over : StandsOver u m) where
  pub enabled_narrow : (n : Named) → narrow m (enabled n) ≡ true
  enabled_narrow n = by (restarts n) where
    by : (b : Bool) → narrow m (if b then Either (Signal IsReset) (Signal Goes) else Signal Goes) ≡ true
    by true = refl
    by false = refl

  narrowed_narrow : (file : ℕ) (bus : ℕ) → narrow m (narrowed m file (Signal (Word bus))) ≡ true
  narrowed_narrow file bus = by (width_of m file == 1) where
    by : (b : Bool) → narrow m (if b then Slice 0 1 (Signal (Word bus)) else Signal (Word bus)) ≡ true
    by true = refl
    by false = refl

  place_narrow : (p : Place) → narrow m (kept_next m p) ≡ true
  place_narrow (KeptReg file index) =
      first_narrow m (hits m (dest.Reg file index)) (λ bus. narrowed m file (Signal (Word bus))) (buses_to m (dest.Reg file index))
      (Signal (Keeps (KeptReg file index)))
      (arriving u m rules over (dest.Reg file index) (λ bus. narrowed m file (Signal (Word bus))) (narrowed_narrow file)) refl
  place_narrow (KeptImm unit index) =
      first_narrow m (λ (t : ℕ × Template). Equal (Signal (Fetched TemplateOf)) (Const (template_width m) (t.0 + 1))) (λ t. Signal (Fetched LongOf))
      (filter (λ t. t.1.imm == unit && t.1.reg == index) (enumerate_from 0 m.templates)) (Signal (Keeps (KeptImm unit index)))
      (all_each (λ (t : ℕ × Template). (narrow m (Equal (Signal (Fetched TemplateOf)) (Const (template_width m) (t.0 + 1))) ≡ true)
      × (narrow m (Signal (Fetched LongOf)) ≡ true)) (filter (λ t. t.1.imm == unit && t.1.reg == index) (enumerate_from 0 m.templates))
      (λ t. (template_short m rules, refl))) refl
  place_narrow (KeptOperand unit) = refl
  place_narrow KeptRa =
      three m (reached m dest.Call)
      (Plus 32 (Join m.control.address (Const (32 - m.control.address) 0) (Signal Pc)) (Const 32 (1 + m.control.delay))) (Signal (Keeps KeptRa))
      (reached_narrow u m rules over dest.Call)
      (and_from (nat_le (32 - m.control.address) 64 && true) true
      (and_from (nat_le (32 - m.control.address) 64) true (le-leb (32 - m.control.address) 64 (omega arith)) refl) refl) refl
  place_narrow (KeptPort unit) =
      three m (begins m unit 1) (made m unit 1) (Select (is_coming m unit 1) (coming m unit 1) (Signal (Port unit))) (begins_narrow u m rules over unit 1)
      (made_narrow u m rules over unit 1) (three m (is_coming m unit 1) (coming m unit 1) (Signal (Port unit)) (is_coming_narrow u m rules over unit 1) (coming_narrow u m rules over unit 1) refl)

  raw_narrow : (unit : ℕ) (o : Option UnitOp) → narrow m (option_map_or (λ o. read_at o.op (Signal (Trigger unit))) o nothing) ≡ true
  raw_narrow unit None = refl
  raw_narrow unit (Some o) = by o.op where
    by : (p : Op) → narrow m (read_at p (Signal (Trigger unit))) ≡ true
    by Ldf = refl
    by p = refl

  inside_narrow : (unit : ℕ) (o : Option UnitOp)
      → narrow m (option_map_or (λ o. Below (Signal (Trigger unit)) (Const 32 (space_size m o.op))) o never) ≡ true
  inside_narrow unit None = refl
  inside_narrow unit (Some o) = refl

  pub register_narrow : (n : Named) → narrow m (becomes m n) ≡ true
  register_narrow (Underway delay) = by (delay == m.control.delay) where
    by : (b : Bool) → narrow m (if b then Signal Controls else Signal (Underway (delay + 1))) ≡ true
    by true = refl
    by false = refl
  register_narrow (Keeps p) = place_narrow p
  register_narrow (IsDue unit delay) =
      and_from (narrow m (begins m unit (delay + 1))) (narrow m (is_coming m unit (delay + 1))) (begins_narrow u m rules over unit (delay + 1))
      (is_coming_narrow u m rules over unit (delay + 1))
  register_narrow (Due unit delay) =
      three m (begins m unit (delay + 1)) (made m unit (delay + 1)) (coming m unit (delay + 1)) (begins_narrow u m rules over unit (delay + 1))
      (made_narrow u m rules over unit (delay + 1)) (coming_narrow u m rules over unit (delay + 1))
  register_narrow (Raw unit op) = raw_narrow unit (op_at m unit op)
  register_narrow (IsInside unit op) = inside_narrow unit (op_at m unit op)
  register_narrow n = refl

  -- ---- where the spaces are written

  pub enable_narrow : (size : ℕ) (test : Op → Bool) → narrow m (store_port m size test).enable ≡ true
  enable_narrow size test =
      and_from (narrow m (some_start m test)) (narrow m (word_of_start m test (λ unit. Signal (Operand unit))) && true) (some_narrow u m rules over test)
      (and_from (narrow m (word_of_start m test (λ unit. Signal (Operand unit)))) true (of_start u m rules over test Operand) refl)

  pub address_narrow : (size : ℕ) (test : Op → Bool) → narrow m (store_port m size test).address ≡ true
  address_narrow size test = of_start u m rules over test Operand

  pub word_narrow : (size : ℕ) (test : Op → Bool) → narrow m (store_port m size test).word ≡ true
  word_narrow size test = of_start u m rules over test Trigger
