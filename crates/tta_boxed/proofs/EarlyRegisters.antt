-- Registers and memories of a machine that read no result under way: all but those that keep results.
use Rattle.std.proofs.Common.{◌≡◌, ℕ, ◌+◌, ◌==◌, Bool, true, false, ◌&&◌, filter, Option, Some, None, refl}
use Rattle.std.specs.Prelude.{if◌then◌else◌, ⊤}
use Rattle.std.specs.Option.{option_map_or}
use Rattle.std.specs.List.{enumerate_from}
use Rattle.std.proofs.lemmas.Bool.{and_from, true≢false}
use Rattle.tta_arch.specs.declared.ends.Dest.TheVariants as dest
use Rattle.tta_arch.specs.Effects.{width_of}
use Rattle.tta_arch.specs.declared.parts.Template.{Template}
use Rattle.tta_circuit.specs.Circuit.{WritePort}
use Rattle.tta_hardware.specs.Cited.{Op, Ldw, Stw, Ldf, Stf, Out, Take, Set, UnitOp, Machine, Place, KeptReg, KeptImm, KeptOperand, KeptRa, KeptPort, op_at, template_width, Const, Signal, Slice, Either, Equal, Below}
use Rattle.tta_hardware.specs.Signals.{TemplateOf, LongOf, Signal as Named, Store, Underway, Keeps, IsDue, Due, Raw, IsInside, Trigger, Operand, Controls, Goes, IsReset, Word, Fetched, Expression}
use Rattle.tta_hardware.specs.Wires.{never, nothing, reached, some_start, word_of_start, begins, is_coming}
use Rattle.tta_hardware.specs.Registers.{narrowed, longs, kept_next, read_at, space_size, becomes, next_of, restarts, enabled}
use Rattle.tta_hardware.specs.Hardware.{store_port}
use Rattle.tta_hardware.proofs.PlainWires.{all_made}
use Rattle.tta_trap.proofs.Meets.{first_reads}
use Rattle.tta_boxed.proofs.Early.{early, late, is_slow, reached_early, arriving, begins_early, is_coming_early, starts_early, of_start}

-- the same of a port of a memory, where there is one
abbrev pub PortEarly : Option (WritePort Named Store) → Type 0
PortEarly None = ⊤
PortEarly (Some p) = (early p.enable ≡ true) × ((early p.address ≡ true) × (early p.word ≡ true))

module _ (m : Machine) where
  pub enabled_early : (n : Named) → early (enabled n) ≡ true
  enabled_early n = by (restarts n) where
    by : (b : Bool) → early (if b then Either (Signal IsReset) (Signal Goes) else Signal Goes) ≡ true
    by true = refl
    by false = refl

  underway_early : (delay : ℕ) → early (next_of m (Underway delay)) ≡ true
  underway_early delay = by (delay == m.control.delay) where
    by : (b : Bool) → early (if b then Signal Controls else Signal (Underway (delay + 1))) ≡ true
    by true = refl
    by false = refl

  narrowed_early : (file bus : ℕ) → early (narrowed m file (Signal (Word bus))) ≡ true
  narrowed_early file bus = by (width_of m file == 1) where
    by : (b : Bool) → early (if b then Slice 0 1 (Signal (Word bus)) else Signal (Word bus)) ≡ true
    by true = refl
    by false = refl

  longs_early : (unit index : ℕ) → early (kept_next m (KeptImm unit index)) ≡ true
  longs_early unit index =
      first_reads late 1 (longs m unit index) (Signal (Keeps (KeptImm unit index)))
      (all_made (λ (c : Expression × Expression). (early c.0 ≡ true) × (early c.1 ≡ true))
      (λ (t : ℕ × Template). (Equal (Signal (Fetched TemplateOf)) (Const (template_width m) (t.0 + 1)), Signal (Fetched LongOf)))
      (filter (λ t. t.1.imm == unit && t.1.reg == index) (enumerate_from 0 m.templates)) (λ t. (refl, refl))) refl

  place_early : (p : Place) → is_slow (Keeps p) ≡ false → early (kept_next m p) ≡ true
  place_early (KeptReg file index) is =
      arriving m (dest.Reg file index) (λ bus. narrowed m file (Signal (Word bus))) (Signal (Keeps (KeptReg file index)))
      (narrowed_early file) refl
  place_early (KeptImm unit index) is = longs_early unit index
  place_early (KeptOperand unit) is = refl
  place_early KeptRa is = and_from (early (reached m dest.Call)) true (reached_early m dest.Call) refl
  place_early (KeptPort unit) is = absurd (true≢false is)

  raw_early : (unit : ℕ) (o : Option UnitOp) → early (option_map_or (λ o. read_at o.op (Signal (Trigger unit))) o nothing) ≡ true
  raw_early unit None = refl
  raw_early unit (Some o) = by o.op where
    by : (p : Op) → early (read_at p (Signal (Trigger unit))) ≡ true
    by Ldw = refl
    by Stw = refl
    by Ldf = refl
    by Stf = refl
    by Out = refl
    by Take = refl
    by (Set id) = refl

  inside_early : (unit : ℕ) (o : Option UnitOp)
      → early (option_map_or (λ o. Below (Signal (Trigger unit)) (Const 32 (space_size m o.op))) o never) ≡ true
  inside_early unit None = refl
  inside_early unit (Some o) = refl

  pub becomes_early : (n : Named) → is_slow n ≡ false → early (becomes m n) ≡ true
  becomes_early (Underway delay) is = underway_early delay
  becomes_early (Keeps p) is = place_early p is
  becomes_early (IsDue unit delay) is =
      and_from (early (begins m unit (delay + 1))) (early (is_coming m unit (delay + 1))) (begins_early m unit (delay + 1))
      (is_coming_early m unit (delay + 1))
  becomes_early (Due unit delay) is = absurd (true≢false is)
  becomes_early (Raw unit op) is = raw_early unit (op_at m unit op)
  becomes_early (IsInside unit op) is = inside_early unit (op_at m unit op)
  becomes_early n is = refl

  pub port_early : (size : ℕ) (test : Op → Bool) → PortEarly (Some (store_port m size test))
  port_early size test =
      let address = of_start m test (λ unit. Signal (Operand unit)) (λ unit. refl) in (
        and_from (early (some_start m test)) (early (word_of_start m test (λ unit. Signal (Operand unit))) && true) (starts_early m test)
            (and_from (early (word_of_start m test (λ unit. Signal (Operand unit)))) true address refl),
        (address, of_start m test (λ unit. Signal (Trigger unit)) (λ unit. refl)),
      )
