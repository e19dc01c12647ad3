-- Constants in what a circuit has more that tells the first fault are narrow.
use Rattle.std.proofs.Common.{◌≡◌, ℕ, ◌+◌, ◌<◌, ◌^◌, ◌==◌, Bool, true, false, ◌&&◌, [], ◌∷◌, length, map, filter, refl}
use Rattle.std.specs.Prelude.{if◌then◌else◌, nat_lt, nat_le}
use Rattle.std.specs.List.{enumerate_from, range_with_len}
use Rattle.std.proofs.lemmas.Bool.{and_from, ltb-true}
use Rattle.tta_ops.specs.Units.{Units}
use Rattle.tta_arch.specs.Over.{StandsOver}
use Rattle.tta_arch.specs.Fields.{dest_width, guard_width, payload_width, template_width, guards_on, sources_on, numbers}
use Rattle.tta_arch.specs.declared.parts.Guard.{Guard}
use Rattle.tta_arch.specs.declared.parts.Template.{Template}
use Rattle.tta_arch.specs.declared.ends.Source.{Source}
use Rattle.tta_arch.specs.declared.ends.Source.TheVariants as source
use Rattle.tta_arch.specs.declared.ends.Dest.TheVariants as dest
use Rattle.tta_circuit.specs.Circuit.{Const, Signal, Not, Both, Either, Equal, Below}
use Rattle.tta_hardware.specs.Cited.{Machine, IsMachine, UnitOp, has_result, Place, KeptReg, KeptImm, KeptOperand, KeptRa, KeptPort}
use Rattle.tta_hardware.specs.Signals.{GuardOf, SourceOf, DestOf, TemplateOf, LongOf, Signal as Named, Pc, Underway, Fetched, Starts, Goes, Watch, HasWord, IsPast, LacksRegister, LacksPort, LacksOperand, Clashes, FaultNow, Watches, Expression}
use Rattle.tta_hardware.specs.Chains.{any_of, pick_from}
use Rattle.tta_hardware.specs.Wires.{never, reached, ops_of, begins, is_coming, longest}
use Rattle.tta_hardware.specs.Registers.{longs}
use Rattle.tta_hardware.proofs.PlainWires.{all_each, all_made}
use Rattle.tta_trap.specs.Watches.{has_move, guard_lacks, lacks, register_lacks, port_lacks, acts_on, is_outside, jumps_again, operand_lacks, clashing, fault_choices, watch_made}
use Rattle.tta_trap.specs.Memory.{gets, watch_next}
use Rattle.tta_trap.specs.Trap.{trap_made}
use Rattle.tta_trap.proofs.Present.{trap_there}
use Rattle.tta_told.proofs.Narrow.{narrow}
use Rattle.tta_told.proofs.Constants.{any_narrow, both_narrow, pick_narrow, dest_short, guard_short, payload_short, template_short}
use Rattle.tta_told.proofs.WireConstants.{reached_narrow, begins_narrow, is_coming_narrow, address_short, wire_narrow}

module _ (u : Units) (m : Machine) (rules : IsMachine m) (over : StandsOver u m) where
  -- ---- what buses lack

  move_narrow : (bus : ℕ) → bus < length m.buses → narrow m (has_move m bus) ≡ true
  move_narrow bus less = by (nat_lt 0 (dest_width m bus)) where
    by : (b : Bool) → narrow m (if b then Not (Equal (Signal (Fetched (DestOf bus))) (Const (dest_width m bus) 0)) else never) ≡ true
    by true = dest_short m rules bus less
    by false = refl

  guard_narrow : (bus : ℕ) → bus < length m.buses → narrow m (guard_lacks m bus) ≡ true
  guard_narrow bus less = by (nat_lt 0 (guard_width m bus)) where
    by : (b : Bool) → narrow m (if b
        then pick_from (guard_width m bus) (Signal (Fetched (GuardOf bus))) 0
        (never ∷ map (λ g. lacks (KeptReg g.on.file g.on.index)) (guards_on m bus)) never
        else never) ≡ true
    by true =
        and_from (nat_le (guard_width m bus) 64) _ (guard_short m rules bus less)
        (pick_narrow m (guard_width m bus) 1 (Fetched (GuardOf bus)) (λ (g : Guard). lacks (KeptReg g.on.file g.on.index)) (guards_on m bus)
        never (guard_short m rules bus less) (λ g. refl) refl)
    by false = refl

  acting : (bus : ℕ) → bus < length m.buses → (test : Source → Expression) → ((src : Source) → narrow m (test src) ≡ true)
      → narrow m (acts_on m bus test) ≡ true
  acting bus less test each =
      pick_narrow m (payload_width m bus) 0 (Fetched (SourceOf bus)) test (sources_on m bus) never (payload_short m rules bus less) each refl

  register_narrow : (src : Source) → narrow m (register_lacks src) ≡ true
  register_narrow (source.Reg file index) = refl
  register_narrow (source.Imm unit index) = refl
  register_narrow (source.Shown unit) = refl
  register_narrow source.Ra = refl
  register_narrow (source.Value word) = refl

  port_narrow : (src : Source) → narrow m (port_lacks src) ≡ true
  port_narrow (source.Reg file index) = refl
  port_narrow (source.Imm unit index) = refl
  port_narrow (source.Shown unit) = refl
  port_narrow source.Ra = refl
  port_narrow (source.Value word) = refl

  -- ---- faults of units and of control

  operand_narrow : (unit : ℕ) → narrow m (operand_lacks m unit) ≡ true
  operand_narrow unit =
      and_from (narrow m (any_of (map (λ o. Signal (Starts unit o.0)) (filter (λ o. o.1.arity == 2) (ops_of m unit)))))
      (narrow m (reached m (dest.Operand unit)) && true)
      (any_narrow m (λ (o : ℕ × UnitOp). Signal (Starts unit o.0)) (filter (λ o. o.1.arity == 2) (ops_of m unit)) (all_each _ _ (λ o. refl)))
      (and_from (narrow m (reached m (dest.Operand unit))) true (reached_narrow u m rules over (dest.Operand unit)) refl)

  clashing_narrow : (unit : ℕ) → narrow m (clashing m unit) ≡ true
  clashing_narrow unit =
      any_narrow m (λ (o : ℕ × UnitOp). Both (Signal (Starts unit o.0)) (is_coming m unit o.1.latency))
      (filter (λ o. has_result o.1.op && nat_lt o.1.latency (longest m unit)) (ops_of m unit))
      (all_each _ _ (λ o. is_coming_narrow u m rules over unit o.1.latency))

  outside_narrow : (count : ℕ) → narrow m (is_outside m count) ≡ true
  outside_narrow count = by (count == 2 ^ m.control.address) where
    by : (b : Bool) → narrow m (if b
        then Signal (Watches IsPast)
        else Either (Signal (Watches IsPast)) (Not (Below (Signal Pc) (Const m.control.address count)))) ≡ true
    by true = refl
    by false = address_short u m rules over

  again_narrow : narrow m (jumps_again m) ≡ true
  again_narrow =
      any_narrow m (λ (delay : ℕ). Signal (Underway delay)) (range_with_len 1 m.control.delay) (all_each _ _ (λ delay. refl))

  numbered : (f : ℕ → Watch) (count : ℕ) → narrow m (any_of (map (λ i. Signal (Watches (f i))) (numbers count))) ≡ true
  numbered f count = any_narrow m (λ (i : ℕ). Signal (Watches (f i))) (numbers count) (all_each _ (numbers count) (λ i. refl))

  fault_narrow : (count : ℕ) → narrow m (watch_made m count FaultNow) ≡ true
  fault_narrow count =
      both_narrow m (fault_choices m count) [] (Const 7 0) (
        (outside_narrow count, refl),
        (
          (numbered LacksRegister (length m.buses), refl),
          (
            (numbered LacksPort (length m.buses), refl),
            ((numbered LacksOperand (length m.units), refl), ((numbered Clashes (length m.units), refl), ((again_narrow, refl), tt))),
          ),
        ),
      ) refl

  -- ---- all wires and registers

  pub trap_narrow : (count : ℕ) (n : Named) → trap_there m n ≡ true → narrow m (trap_made m count n) ≡ true
  trap_narrow count (Watches (LacksRegister bus)) is =
      let less = ltb-true bus (length m.buses) is in
      and_from (narrow m (has_move m bus)) (narrow m (guard_lacks m bus) && narrow m (acts_on m bus register_lacks)) (move_narrow bus less)
      (and_from (narrow m (guard_lacks m bus)) (narrow m (acts_on m bus register_lacks)) (guard_narrow bus less)
      (acting bus less register_lacks register_narrow))
  trap_narrow count (Watches (LacksPort bus)) is =
      let less = ltb-true bus (length m.buses) is in
      and_from (narrow m (has_move m bus)) (narrow m (acts_on m bus port_lacks)) (move_narrow bus less) (acting bus less port_lacks port_narrow)
  trap_narrow count (Watches (LacksOperand unit)) is = operand_narrow unit
  trap_narrow count (Watches (Clashes unit)) is = clashing_narrow unit
  trap_narrow count (Watches FaultNow) is = fault_narrow count
  trap_narrow count (Watches (HasWord p)) is = refl
  trap_narrow count (Watches IsPast) is = refl
  trap_narrow count Goes is = refl
  trap_narrow count n is = wire_narrow u m rules over n is

  gets_narrow : (p : Place) → narrow m (gets m p) ≡ true
  gets_narrow (KeptReg file index) = reached_narrow u m rules over (dest.Reg file index)
  gets_narrow (KeptImm unit index) =
      any_narrow m (λ (c : Expression × Expression). c.0) (longs m unit index)
      (all_made (λ (c : Expression × Expression). narrow m c.0 ≡ true)
      (λ (t : ℕ × Template). (Equal (Signal (Fetched TemplateOf)) (Const (template_width m) (t.0 + 1)), Signal (Fetched LongOf)))
      (filter (λ t. t.1.imm == unit && t.1.reg == index) (enumerate_from 0 m.templates)) (λ t. template_short m rules))
  gets_narrow (KeptOperand unit) = reached_narrow u m rules over (dest.Operand unit)
  gets_narrow KeptRa = reached_narrow u m rules over dest.Call
  gets_narrow (KeptPort unit) =
      and_from (narrow m (begins m unit 1)) (narrow m (is_coming m unit 1)) (begins_narrow u m rules over unit 1)
      (is_coming_narrow u m rules over unit 1)

  pub watch_narrow : (w : Watch) → narrow m (watch_next m w) ≡ true
  watch_narrow (HasWord p) = and_from (narrow m (gets m p)) true (gets_narrow p) refl
  watch_narrow IsPast = address_short u m rules over
  watch_narrow w = refl
