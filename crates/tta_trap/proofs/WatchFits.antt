-- The wires and registers that tell faults keep their widths and are plain.
use Rattle.std.proofs.Common.{◌≡◌, ℕ, ◌+◌, ◌-◌, ◌<◌, ◌≤◌, ◌^◌, ◌==◌, Bool, true, false, ◌&&◌, List, [], ◌∷◌, length, map, filter, refl, sym, ◌∙◌, inl, inr, arith}
use Rattle.std.specs.Prelude.{if◌then◌else◌, nat_lt}
use Rattle.std.specs.List.{enumerate_from, range_with_len}
use Rattle.std.proofs.lemmas.Bool.{false≢true, lt-ltb, eq-eqb, cases_lt}
use Rattle.std.proofs.lemmas.Nat.{pow_pos}
use Rattle.tta_arch.proofs.Facts.{address_most}
use Rattle.tta_arch.proofs.Widths.{pow_le}
use Rattle.tta_arch.specs.declared.parts.Guard.{Guard}
use Rattle.tta_arch.specs.declared.parts.UnitOp.{UnitOp}
use Rattle.tta_arch.specs.declared.parts.Template.{Template}
use Rattle.tta_arch.specs.Fields.{template_width}
use Rattle.tta_arch.specs.declared.ends.Dest.TheVariants as dest
use Rattle.tta_arch.specs.declared.ends.Source.TheVariants as source
use Rattle.tta_trap.specs.Cited.{Machine, IsMachine, Place, KeptReg, KeptImm, KeptOperand, KeptRa, KeptPort, Source, has_result, numbers, guards_on, sources_on, guard_width, payload_width, dest_width, Const, Signal, Not, Both, Either, Equal, Below, Pc, HasHalted, Underway, IsReset, Fetched, GuardOf, SourceOf, DestOf, IsShort, Acts, Starts, Controls, GoalNow, EndsNow, Lands, HasWord, IsPast, LacksRegister, LacksPort, LacksOperand, Clashes, Watches, Expression, any_of, pick_from, never, ops_of, is_coming, longest, longs}
use Rattle.tta_hardware.specs.Wires.{timed}
use Rattle.tta_hardware.specs.Signals.{IsDue, TemplateOf, LongOf}
use Rattle.tta_hardware.specs.Sized.{Fits}
use Rattle.tta_hardware.proofs.Bits.{enough, template_some, payload_some, address_some}
use Rattle.tta_hardware.proofs.Fitting.{signal, const, select, negated, both, either, equal, below, any_fits, both_fit, pick_fits, all_of}
use Rattle.tta_hardware.proofs.WiresFit.{reached_fits, all_map, kept_filter}
use Rattle.tta_hardware.proofs.RegistersFit.{numbered, weaker}
use Rattle.tta_trap.specs.Memory.{gets, has_next, past_next}
use Rattle.tta_trap.specs.Watches.{is_outside, jumps_again, lacks, has_move, guard_lacks, register_lacks, port_lacks, acts_on, operand_lacks, clashing, fault_choices, fault_now, watch_made}

module _ (m : Machine) (rules : IsMachine m) where
  -- ---- what moves read

  zero_fits : Fits m never 1
  zero_fits = const m 1 0 refl (omega arith)

  lacks_fits : (p : Place) → Fits m (lacks p) 1
  lacks_fits p = negated m _ (signal m (Watches (HasWord p)) refl)

  move_fits : (bus : ℕ) → Fits m (has_move m bus) 1
  move_fits bus = by (nat_lt 0 (dest_width m bus)) refl where
    by : (b : Bool) → nat_lt 0 (dest_width m bus) ≡ b
        → Fits m (if b then Not (Equal (Signal (Fetched (DestOf bus))) (Const (dest_width m bus) 0)) else never) 1
    by true some =
        negated m _ (equal m (dest_width m bus) _ _ (signal m (Fetched (DestOf bus)) some)
        (const m (dest_width m bus) 0 some (pow_pos (dest_width m bus))))
    by false none = zero_fits

  guard_fits : (bus : ℕ) → Fits m (guard_lacks m bus) 1
  guard_fits bus = by (nat_lt 0 (guard_width m bus)) refl where
    by : (b : Bool) → nat_lt 0 (guard_width m bus) ≡ b → Fits m (if b
        then pick_from (guard_width m bus) (Signal (Fetched (GuardOf bus))) 0
        (never ∷ map (λ g. lacks (KeptReg g.on.file g.on.index)) (guards_on m bus)) never
        else never) 1
    by true some =
        let most = enough (1 + length (guards_on m bus)) (guard_width m bus) (omega arith) in
        select m 1 _ _ _
        (equal m (guard_width m bus) _ _ (signal m (Fetched (GuardOf bus)) some)
        (const m (guard_width m bus) 0 some (pow_pos (guard_width m bus)))) zero_fits
        (pick_fits m 1 (guard_width m bus) 1 (1 + length (guards_on m bus)) (Signal (Fetched (GuardOf bus)))
        (λ (g : Guard). lacks (KeptReg g.on.file g.on.index)) (guards_on m bus) never (signal m (Fetched (GuardOf bus)) some) some
        (omega arith) most
        (all_of m (λ (g : Guard). Fits m (lacks (KeptReg g.on.file g.on.index)) 1) (guards_on m bus)
        (λ g. lacks_fits (KeptReg g.on.file g.on.index))) zero_fits)
    by false none = zero_fits

  register_fits : (src : Source) → Fits m (register_lacks src) 1
  register_fits (source.Reg file index) = lacks_fits (KeptReg file index)
  register_fits (source.Imm unit index) = lacks_fits (KeptImm unit index)
  register_fits (source.Shown unit) = zero_fits
  register_fits source.Ra = lacks_fits KeptRa
  register_fits (source.Value word) = zero_fits

  port_fits : (src : Source) → Fits m (port_lacks src) 1
  port_fits (source.Reg file index) = zero_fits
  port_fits (source.Imm unit index) = zero_fits
  port_fits (source.Shown unit) = lacks_fits (KeptPort unit)
  port_fits source.Ra = zero_fits
  port_fits (source.Value word) = zero_fits

  acts_fits : (bus : ℕ) → bus < length m.buses → (test : Source → Expression) → ((src : Source) → Fits m (test src) 1)
      → Fits m (acts_on m bus test) 1
  acts_fits bus there test each =
      let some = lt-ltb 0 (payload_width m bus) (payload_some m bus rules there) in
      both m _ _ (signal m (Acts bus) refl)
      (both m _ _ (negated m _ (signal m (Fetched (IsShort bus)) refl))
      (pick_fits m 1 (payload_width m bus) 0 (length (sources_on m bus)) (Signal (Fetched (SourceOf bus))) test (sources_on m bus) never
      (signal m (Fetched (SourceOf bus)) some) some (omega arith)
      (enough (length (sources_on m bus)) (payload_width m bus) (omega arith))
      (all_of m (λ src. Fits m (test src) 1) (sources_on m bus) each) zero_fits))

  -- ---- what operations find

  starts_fit : (unit : ℕ) (os : List (ℕ × UnitOp)) → Fits m (any_of (map (λ o. Signal (Starts unit o.0)) os)) 1
  starts_fit unit os =
      any_fits m (λ (o : ℕ × UnitOp). Signal (Starts unit o.0)) os
      (all_of m (λ (o : ℕ × UnitOp). Fits m (Signal (Starts unit o.0)) 1) os (λ o. signal m (Starts unit o.0) refl))

  coming_fits : (unit delay : ℕ) → Fits m (is_coming m unit delay) 1
  coming_fits unit delay = by (nat_lt delay (longest m unit)) where
    by : (b : Bool) → Fits m (if b then Signal (IsDue unit delay) else never) 1
    by true = signal m (IsDue unit delay) refl
    by false = zero_fits

  pub operand_fits : (unit : ℕ) → Fits m (operand_lacks m unit) 1
  operand_fits unit =
      both m _ _ (starts_fit unit (filter (λ o. o.1.arity == 2) (ops_of m unit)))
      (negated m _ (either m _ _ (reached_fits m rules (dest.Operand unit)) (signal m (Watches (HasWord (KeptOperand unit))) refl)))

  pub clashing_fits : (unit : ℕ) → Fits m (clashing m unit) 1
  clashing_fits unit =
      any_fits m (λ (o : ℕ × UnitOp). Both (Signal (Starts unit o.0)) (is_coming m unit o.1.latency))
      (filter (λ o. has_result o.1.op && nat_lt o.1.latency (longest m unit)) (ops_of m unit))
      (all_of m (λ (o : ℕ × UnitOp). Fits m (Both (Signal (Starts unit o.0)) (is_coming m unit o.1.latency)) 1)
      (filter (λ o. has_result o.1.op && nat_lt o.1.latency (longest m unit)) (ops_of m unit))
      (λ o. both m _ _ (signal m (Starts unit o.0) refl) (coming_fits unit o.1.latency)))

  pub register_wire_fits : (count bus : ℕ) → bus < length m.buses → Fits m (watch_made m count (LacksRegister bus)) 1
  register_wire_fits count bus there =
      both m _ _ (move_fits bus) (either m _ _ (guard_fits bus) (acts_fits bus there register_lacks register_fits))

  pub port_wire_fits : (count bus : ℕ) → bus < length m.buses → Fits m (watch_made m count (LacksPort bus)) 1
  port_wire_fits count bus there = both m _ _ (move_fits bus) (acts_fits bus there port_lacks port_fits)

  -- ---- the fault

  address_bits : nat_lt 0 m.control.address ≡ true
  address_bits = lt-ltb 0 m.control.address (address_some m rules)

  outside_fits : (count : ℕ) → count ≤ 2 ^ m.control.address → Fits m (is_outside m count) 1
  outside_fits count room = by (count == 2 ^ m.control.address) refl where
    by : (b : Bool) → (count == 2 ^ m.control.address) ≡ b → Fits m (if b then Signal (Watches IsPast)
        else Either (Signal (Watches IsPast)) (Not (Below (Signal Pc) (Const m.control.address count)))) 1
    by true full = signal m (Watches IsPast) refl
    by false other =
        either m _ _ (signal m (Watches IsPast) refl)
        (negated m _ (below m m.control.address _ _ (signal m Pc address_bits) (const m m.control.address count address_bits few)))
      where
        few : count < 2 ^ m.control.address
        few = elim (cases_lt count (2 ^ m.control.address)) [
          | inl less ↦ less
          | inr more ↦
              let e : count ≡ 2 ^ m.control.address = omega (arith, room, more) in
              absurd (false≢true (sym other ∙ eq-eqb count (2 ^ m.control.address) e))
        ]

  again_fits : Fits m (jumps_again m) 1
  again_fits =
      both m _ _ (signal m Controls refl)
      (any_fits m (λ (delay : ℕ). Signal (Underway delay)) (range_with_len 1 m.control.delay)
      (all_of m (λ delay. Fits m (Signal (Underway delay)) 1) (range_with_len 1 m.control.delay) (λ delay. signal m (Underway delay) refl)))

  each_fits : (f : ℕ → Expression) (n : ℕ) → ((i : ℕ) → Fits m (f i) 1) → Fits m (any_of (map f (numbers n))) 1
  each_fits f n each = any_fits m f (numbers n) (all_of m (λ i. Fits m (f i) 1) (numbers n) each)

  pub fault_fits : (count : ℕ) → count ≤ 2 ^ m.control.address → Fits m (fault_now m count) 7
  fault_fits count room =
      select m 7 _ _ _ (either m _ _ (signal m IsReset refl) (signal m HasHalted refl)) (const m 7 0 refl (omega arith))
      (both_fit m 7 (fault_choices m count) [] (Const 7 0) (
        (outside_fits count room, const m 7 65 refl (omega arith)),
        (
          (
            each_fits (λ bus. Signal (Watches (LacksRegister bus))) (length m.buses) (λ bus. signal m (Watches (LacksRegister bus)) refl),
            const m 7 60 refl (omega arith),
          ),
          (
            (
              each_fits (λ bus. Signal (Watches (LacksPort bus))) (length m.buses) (λ bus. signal m (Watches (LacksPort bus)) refl),
              const m 7 61 refl (omega arith),
            ),
            (
              (
                each_fits (λ unit. Signal (Watches (LacksOperand unit))) (length m.units)
                    (λ unit. signal m (Watches (LacksOperand unit)) refl),
                const m 7 62 refl (omega arith),
              ),
              (
                (
                  each_fits (λ unit. Signal (Watches (Clashes unit))) (length m.units) (λ unit. signal m (Watches (Clashes unit)) refl),
                  const m 7 63 refl (omega arith),
                ),
                ((again_fits, const m 7 64 refl (omega arith)), tt),
              ),
            ),
          ),
        ),
      ) (const m 7 0 refl (omega arith)))

  -- ---- registers

  longs_fit : (unit index : ℕ) → Fits m (any_of (map (λ c. c.0) (longs m unit index))) 1
  longs_fit unit index =
      any_fits m (λ (c : Expression × Expression). c.0) (longs m unit index)
      (all_map (λ (c : Expression × Expression). Fits m c.0 1)
      (λ (t : ℕ × Template). (Equal (Signal (Fetched TemplateOf)) (Const (template_width m) (t.0 + 1)), Signal (Fetched LongOf)))
      (filter (λ t. t.1.imm == unit && t.1.reg == index) (enumerate_from 0 m.templates))
      (kept_filter (λ (t : ℕ × Template). Fits m (Equal (Signal (Fetched TemplateOf)) (Const (template_width m) (t.0 + 1))) 1)
      (λ t. t.1.imm == unit && t.1.reg == index) (enumerate_from 0 m.templates)
      (weaker (λ (t : ℕ × Template). t.0 < length m.templates)
      (λ t. Fits m (Equal (Signal (Fetched TemplateOf)) (Const (template_width m) (t.0 + 1))) 1) (enumerate_from 0 m.templates)
      (λ t less. let some = lt-ltb 0 (template_width m) (template_some m t.0 less) in
      equal m (template_width m) _ _ (signal m (Fetched TemplateOf) some)
      (const m (template_width m) (t.0 + 1) some
      (let e = enough (1 + length m.templates) (template_width m) (omega arith) in omega (arith, e, less))))
      (numbered (length m.templates) 0 m.templates (omega arith)))))

  gets_fit : (p : Place) → Fits m (gets m p) 1
  gets_fit (KeptReg file index) = reached_fits m rules (dest.Reg file index)
  gets_fit (KeptImm unit index) = longs_fit unit index
  gets_fit (KeptOperand unit) = reached_fits m rules (dest.Operand unit)
  gets_fit KeptRa = reached_fits m rules dest.Call
  gets_fit (KeptPort unit) = either m _ _ (starts_fit unit (timed m unit 1)) (coming_fits unit 1)

  pub word_fits : (p : Place) → Fits m (has_next m p) 1
  word_fits p = either m _ _ (gets_fit p) (signal m (Watches (HasWord p)) refl)

  pub past_fits : Fits m (past_next m) 1
  past_fits =
      let few : 2 ^ m.control.address ≤ 2 ^ 16 = pow_le m.control.address 16 (address_most m rules) in
      let some = pow_pos m.control.address in
      select m 1 _ _ _ (both m _ _ (signal m Lands refl) (negated m _ (signal m EndsNow refl)))
      (negated m _ (below m 32 _ _ (signal m GoalNow refl) (const m 32 (2 ^ m.control.address) refl (omega (arith, few)))))
      (equal m m.control.address _ _ (signal m Pc address_bits)
      (const m m.control.address (2 ^ m.control.address - 1) address_bits (omega (arith, some))))
