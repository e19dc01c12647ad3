-- What tells faults reads no result under way.
use Rattle.std.proofs.Common.{◌≡◌, ℕ, ◌+◌, ◌^◌, ◌==◌, Bool, true, false, ◌&&◌, nat_lt, ◌∷◌, length, map, filter, refl}
use Rattle.std.specs.Prelude.{if◌then◌else◌}
use Rattle.std.specs.List.{range_with_len, enumerate_from}
use Rattle.std.proofs.lemmas.Bool.{and_from}
use Rattle.tta_arch.specs.declared.ends.Dest.TheVariants as dest
use Rattle.tta_arch.specs.declared.ends.Source.TheVariants as source
use Rattle.tta_arch.specs.declared.parts.Guard.{Guard}
use Rattle.tta_arch.specs.declared.parts.Template.{Template}
use Rattle.tta_arch.specs.declared.parts.UnitOp.{UnitOp}
use Rattle.tta_arch.specs.Fields.{template_width}
use Rattle.tta_hardware.specs.Signals.{Signal as Named, TemplateOf, LongOf}
use Rattle.tta_hardware.proofs.PlainWires.{all_each, all_made}
use Rattle.tta_trap.specs.Cited.{Machine, Place, KeptReg, KeptImm, KeptOperand, KeptRa, KeptPort, Source, has_result, numbers, guards_on, sources_on, guard_width, payload_width, dest_width, Const, Signal, Not, Both, Either, Equal, Below, Pc, Underway, Fetched, GuardOf, SourceOf, DestOf, Starts, Goes, Watch, HasWord, IsPast, LacksRegister, LacksPort, LacksOperand, Clashes, FaultNow, Watches, Expression, any_of, pick_from, never, reached, begins, ops_of, is_coming, longest, longs}
use Rattle.tta_trap.specs.Watches.{is_outside, jumps_again, lacks, has_move, guard_lacks, register_lacks, port_lacks, acts_on, operand_lacks, clashing, fault_choices, watch_made}
use Rattle.tta_trap.specs.Memory.{gets, watch_next}
use Rattle.tta_trap.specs.Trap.{trap_made}
use Rattle.tta_trap.proofs.Meets.{any_reads, first_reads, pick_reads}
use Rattle.tta_boxed.proofs.Early.{early, late, reached_early, begins_early, is_coming_early, wire_early}

module _ (m : Machine) where
  -- ---- wires

  move_early : (bus : ℕ) → early (has_move m bus) ≡ true
  move_early bus = by (nat_lt 0 (dest_width m bus)) where
    by : (b : Bool) → early (if b then Not (Equal (Signal (Fetched (DestOf bus))) (Const (dest_width m bus) 0)) else never) ≡ true
    by true = refl
    by false = refl

  guard_early : (bus : ℕ) → early (guard_lacks m bus) ≡ true
  guard_early bus = by (nat_lt 0 (guard_width m bus)) where
    by : (b : Bool) → early (if b
        then pick_from (guard_width m bus) (Signal (Fetched (GuardOf bus))) 0
        (never ∷ map (λ g. lacks (KeptReg g.on.file g.on.index)) (guards_on m bus)) never
        else never) ≡ true
    by true =
        pick_reads late 1 (guard_width m bus) 1 (Signal (Fetched (GuardOf bus))) (λ (g : Guard). lacks (KeptReg g.on.file g.on.index))
        (guards_on m bus) never refl (all_each _ (guards_on m bus) (λ g. refl)) refl
    by false = refl

  acting : (bus : ℕ) (test : Source → Expression) → ((src : Source) → early (test src) ≡ true) → early (acts_on m bus test) ≡ true
  acting bus test each =
      pick_reads late 1 (payload_width m bus) 0 (Signal (Fetched (SourceOf bus))) test (sources_on m bus) never refl
      (all_each _ (sources_on m bus) each) refl

  register_early : (src : Source) → early (register_lacks src) ≡ true
  register_early (source.Reg file index) = refl
  register_early (source.Imm unit index) = refl
  register_early (source.Shown unit) = refl
  register_early source.Ra = refl
  register_early (source.Value word) = refl

  port_early : (src : Source) → early (port_lacks src) ≡ true
  port_early (source.Reg file index) = refl
  port_early (source.Imm unit index) = refl
  port_early (source.Shown unit) = refl
  port_early source.Ra = refl
  port_early (source.Value word) = refl

  outside_early : (count : ℕ) → early (is_outside m count) ≡ true
  outside_early count = by (count == 2 ^ m.control.address) where
    by : (b : Bool) → early (if b
        then Signal (Watches IsPast)
        else Either (Signal (Watches IsPast)) (Not (Below (Signal Pc) (Const m.control.address count)))) ≡ true
    by true = refl
    by false = refl

  again_early : early (jumps_again m) ≡ true
  again_early =
      any_reads late 1 (λ (delay : ℕ). Signal (Underway delay)) (range_with_len 1 m.control.delay) (all_each _ _ (λ delay. refl))

  numbered : (f : ℕ → Watch) (count : ℕ) → early (any_of (map (λ i. Signal (Watches (f i))) (numbers count))) ≡ true
  numbered f count = any_reads late 1 (λ (i : ℕ). Signal (Watches (f i))) (numbers count) (all_each _ (numbers count) (λ i. refl))

  operand_early : (unit : ℕ) → early (operand_lacks m unit) ≡ true
  operand_early unit =
      and_from (early (any_of (map (λ o. Signal (Starts unit o.0)) (filter (λ o. o.1.arity == 2) (ops_of m unit)))))
      (early (reached m (dest.Operand unit)) && true)
      (any_reads late 1 (λ (o : ℕ × UnitOp). Signal (Starts unit o.0)) (filter (λ o. o.1.arity == 2) (ops_of m unit))
      (all_each _ _ (λ o. refl)))
      (and_from (early (reached m (dest.Operand unit))) true (reached_early m (dest.Operand unit)) refl)

  clashing_early : (unit : ℕ) → early (clashing m unit) ≡ true
  clashing_early unit =
      any_reads late 1 (λ (o : ℕ × UnitOp). Both (Signal (Starts unit o.0)) (is_coming m unit o.1.latency))
      (filter (λ o. has_result o.1.op && nat_lt o.1.latency (longest m unit)) (ops_of m unit))
      (all_each _ _ (λ o. is_coming_early m unit o.1.latency))

  watch_early : (count : ℕ) (w : Watch) → early (watch_made m count w) ≡ true
  watch_early count (LacksRegister bus) =
      and_from (early (has_move m bus)) (early (guard_lacks m bus) && early (acts_on m bus register_lacks)) (move_early bus)
      (and_from (early (guard_lacks m bus)) (early (acts_on m bus register_lacks)) (guard_early bus)
      (acting bus register_lacks register_early))
  watch_early count (LacksPort bus) =
      and_from (early (has_move m bus)) (early (acts_on m bus port_lacks)) (move_early bus) (acting bus port_lacks port_early)
  watch_early count (LacksOperand unit) = operand_early unit
  watch_early count (Clashes unit) = clashing_early unit
  watch_early count FaultNow =
      first_reads late 1 (fault_choices m count) (Const 7 0) (
        (outside_early count, refl),
        (
          (numbered LacksRegister (length m.buses), refl),
          (
            (numbered LacksPort (length m.buses), refl),
            ((numbered LacksOperand (length m.units), refl), ((numbered Clashes (length m.units), refl), ((again_early, refl), tt))),
          ),
        ),
      ) refl
  watch_early count w = refl

  -- No wire of a circuit that tells faults reads a result that is under way.
  pub trap_early : (count : ℕ) (n : Named) → early (trap_made m count n) ≡ true
  trap_early count (Watches w) = watch_early count w
  trap_early count Goes = refl
  trap_early count n = wire_early m n

  -- ---- registers

  gets_early : (p : Place) → early (gets m p) ≡ true
  gets_early (KeptReg file index) = reached_early m (dest.Reg file index)
  gets_early (KeptImm unit index) =
      any_reads late 1 (λ (c : Expression × Expression). c.0) (longs m unit index)
      (all_made (λ (c : Expression × Expression). early c.0 ≡ true)
      (λ (t : ℕ × Template). (Equal (Signal (Fetched TemplateOf)) (Const (template_width m) (t.0 + 1)), Signal (Fetched LongOf)))
      (filter (λ t. t.1.imm == unit && t.1.reg == index) (enumerate_from 0 m.templates)) (λ t. refl))
  gets_early (KeptOperand unit) = reached_early m (dest.Operand unit)
  gets_early KeptRa = reached_early m dest.Call
  gets_early (KeptPort unit) =
      and_from (early (begins m unit 1)) (early (is_coming m unit 1)) (begins_early m unit 1) (is_coming_early m unit 1)

  pub kept_early : (w : Watch) → early (watch_next m w) ≡ true
  kept_early (HasWord p) = and_from (early (gets m p)) true (gets_early p) refl
  kept_early w = refl
