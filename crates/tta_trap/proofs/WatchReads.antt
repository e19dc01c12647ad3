-- What the wires and registers that tell faults read.
use Rattle.std.proofs.Common.{◌≡◌, ℕ, zero, suc, ◌+◌, ◌^◌, ◌<◌, ◌≤◌, ◌==◌, Bool, true, false, ◌&&◌, ◌∷◌, length, map, filter, slice_get, Option, Some, None, refl, ap, arith}
use Rattle.std.specs.Prelude.{is_some, if◌then◌else◌, nat_lt, nat_le}
use Rattle.std.specs.Option.{option_map_or}
use Rattle.std.specs.List.{range_with_len, AllByRecursion}
use Rattle.std.proofs.lemmas.Bool.{and_parts, and_from, lt-ltb, le-leb, false≢true}
use Rattle.tta_arch.specs.declared.parts.File.{File}
use Rattle.tta_arch.specs.declared.parts.Guard.{Guard}
use Rattle.tta_arch.specs.declared.parts.UnitOp.{UnitOp}
use Rattle.tta_circuit.specs.Order.{reads_below}
use Rattle.tta_hardware.specs.Signals.{IsDue}
use Rattle.tta_arch.specs.Joins.{is_source_on}
use Rattle.tta_arch.specs.Rules.{is_guard}
use Rattle.tta_arch.specs.Fields.{all_sources}
use Rattle.tta_arch.specs.Effects.{op_at}
use Rattle.tta_arch.specs.declared.ends.Dest.{Dest}
use Rattle.tta_arch.specs.declared.ends.Source.TheVariants as source
use Rattle.tta_arch.specs.declared.ends.Dest.TheVariants as dest
use Rattle.tta_trap.specs.Cited.{Machine, IsMachine, Place, KeptReg, KeptImm, KeptOperand, KeptRa, KeptPort, Source, has_result, numbers, guards_on, sources_on, guard_width, payload_width, dest_width, Const, Signal, Not, Both, Either, Equal, Below, Pc, HasHalted, Underway, IsReset, Fetched, GuardOf, SourceOf, DestOf, IsShort, Acts, Starts, HasWord, IsPast, LacksRegister, LacksPort, LacksOperand, Clashes, FaultNow, Watches, Expression, any_of, first_of, pick_from, never, reached, ops_of, is_coming, longest, has_place}
use Rattle.tta_hardware.specs.Wires.{hits, buses_to}
use Rattle.tta_hardware.specs.Signals.{Signal as Named}
use Rattle.tta_hardware.proofs.Apart.{op_later}
use Rattle.tta_hardware.proofs.Bringing.{reg_there, imm_there, unit_there}
use Rattle.tta_hardware.proofs.WiresFit.{all_filter, kept_filter, all_from}
use Rattle.tta_hardware.proofs.RegistersFit.{weaker}
use Rattle.tta_hardware.proofs.PlainWires.{below_all, all_each}
use Rattle.tta_hardware.proofs.There.{some_at}
use Rattle.tta_hardware.proofs.OnlyThere.{kept_in, reached_ok, ops_there, is_coming_ok}
use Rattle.tta_trap.specs.Watches.{is_outside, jumps_again, lacks, has_move, guard_lacks, register_lacks, port_lacks, of_source, acts_on, operand_lacks, clashing, fault_choices, fault_now, watch_made}
use Rattle.tta_trap.specs.Sized.{trap_rank}
use Rattle.tta_trap.proofs.Meets.{any_reads, select_reads, first_reads, pick_reads}
use Rattle.tta_trap.proofs.Present.{trap_there, may, ok, sig, both_ways}

module _ (m : Machine) (rules : IsMachine m) where
  -- ---- what moves read

  -- whether an expression reads only what is there and stands before the wires that tell faults
  abbrev early : Expression → Bool
  early e = ok m 5 e

  abbrev rank5 : Named → ℕ
  rank5 n = if may m 5 n then 0 else 1

  of : (n : Named) → trap_there m n ≡ true → nat_lt (trap_rank n) 5 ≡ true → early (Signal n) ≡ true
  of n is less = sig m 5 n is less

  lacks_reads : (p : Place) → has_place m p ≡ true → early (lacks p) ≡ true
  lacks_reads p has = of (Watches (HasWord p)) has refl

  bus_field : (bus width : ℕ) → bus < length m.buses → nat_lt 0 width ≡ true → (nat_lt bus (length m.buses) && nat_lt 0 width) ≡ true
  bus_field bus width less some = and_from (nat_lt bus (length m.buses)) (nat_lt 0 width) (lt-ltb bus (length m.buses) less) some

  has_move_reads : (bus : ℕ) → bus < length m.buses → early (has_move m bus) ≡ true
  has_move_reads bus less = by (nat_lt 0 (dest_width m bus)) refl where
    by : (b : Bool) → nat_lt 0 (dest_width m bus) ≡ b
        → early (if b then Not (Equal (Signal (Fetched (DestOf bus))) (Const (dest_width m bus) 0)) else never) ≡ true
    by true some =
        and_from (early (Signal (Fetched (DestOf bus)))) true
        (of (Fetched (DestOf bus)) (bus_field bus (dest_width m bus) less some) refl) refl
    by false none = refl

  guard_there : (g : Guard) → is_guard (length m.buses) m.files g ≡ true → has_place m (KeptReg g.on.file g.on.index) ≡ true
  guard_there g good =
      narrow (slice_get m.files g.on.file)
      (and_parts (nat_lt g.bus (length m.buses))
      (option_map_or (λ f. f.width == 1 && nat_lt g.on.index f.size) (slice_get m.files g.on.file) false) good).1
    where
      narrow : (o : Option File) → option_map_or (λ f. f.width == 1 && nat_lt g.on.index f.size) o false ≡ true
          → option_map_or (λ f. nat_lt g.on.index f.size) o false ≡ true
      narrow None is = absurd (false≢true is)
      narrow (Some f) is = (and_parts (f.width == 1) (nat_lt g.on.index f.size) is).1

  guard_reads : (bus : ℕ) → bus < length m.buses → early (guard_lacks m bus) ≡ true
  guard_reads bus less = by (nat_lt 0 (guard_width m bus)) refl where
    by : (b : Bool) → nat_lt 0 (guard_width m bus) ≡ b → early (if b
        then pick_from (guard_width m bus) (Signal (Fetched (GuardOf bus))) 0
        (never ∷ map (λ g. lacks (KeptReg g.on.file g.on.index)) (guards_on m bus)) never
        else never) ≡ true
    by true some =
        let code = of (Fetched (GuardOf bus)) (bus_field bus (guard_width m bus) less some) refl in
        select_reads rank5 1 (Equal (Signal (Fetched (GuardOf bus))) (Const (guard_width m bus) 0)) never
        (pick_from (guard_width m bus) (Signal (Fetched (GuardOf bus))) 1
        (map (λ g. lacks (KeptReg g.on.file g.on.index)) (guards_on m bus))
        never)
        (and_from (early (Signal (Fetched (GuardOf bus)))) true code refl) refl
        (pick_reads rank5 1 (guard_width m bus) 1 (Signal (Fetched (GuardOf bus)))
        (λ (g : Guard). lacks (KeptReg g.on.file g.on.index)) (guards_on m bus) never code
        (kept_filter (λ (g : Guard). early (lacks (KeptReg g.on.file g.on.index)) ≡ true) (λ g. g.bus == bus) m.guards
        (all_from (λ (g : Guard). early (lacks (KeptReg g.on.file g.on.index)) ≡ true) (is_guard (length m.buses) m.files) m.guards
        rules.guards (λ g good. lacks_reads (KeptReg g.on.file g.on.index) (guard_there g good)))) refl)
    by false none = refl

  register_reads : (bus : ℕ) (src : Source) → is_source_on m bus src ≡ true → early (register_lacks src) ≡ true
  register_reads bus (source.Reg file index) on = lacks_reads (KeptReg file index) (reg_there m bus file index on)
  register_reads bus (source.Imm unit index) on = lacks_reads (KeptImm unit index) (imm_there m bus unit index on)
  register_reads bus (source.Shown unit) on = refl
  register_reads bus source.Ra on = lacks_reads KeptRa refl
  register_reads bus (source.Value word) on = refl

  port_reads : (bus : ℕ) (src : Source) → is_source_on m bus src ≡ true → early (port_lacks src) ≡ true
  port_reads bus (source.Reg file index) on = refl
  port_reads bus (source.Imm unit index) on = refl
  port_reads bus (source.Shown unit) on =
      lacks_reads (KeptPort unit) (some_at m rules m.units unit (unit_there m bus unit on))
  port_reads bus source.Ra on = refl
  port_reads bus (source.Value word) on = refl

  acts_reads : (bus : ℕ) (test : Source → Expression) → bus < length m.buses
      → ((src : Source) → is_source_on m bus src ≡ true → early (test src) ≡ true) → early (acts_on m bus test) ≡ true
  acts_reads bus test less each =
      let there = lt-ltb bus (length m.buses) less in
      and_from (early (Signal (Acts bus))) (early (of_source m bus test)) (of (Acts bus) there refl)
      (and_from (early (Signal (Fetched (IsShort bus))))
      (early (pick_from (payload_width m bus) (Signal (Fetched (SourceOf bus))) 0 (map test (sources_on m bus)) never))
      (of (Fetched (IsShort bus)) there refl)
      (pick_reads rank5 1 (payload_width m bus) 0 (Signal (Fetched (SourceOf bus))) test (sources_on m bus) never
      (of (Fetched (SourceOf bus)) there refl)
      (all_filter (λ src. early (test src) ≡ true) (is_source_on m bus) (all_sources m) each) refl))

  -- ---- what operations find

  pub reached_reads : (dst : Dest) → ok m 5 (reached m dst) ≡ true
  reached_reads dst =
      both_ways m 5 (reached m dst) (reached_ok m dst)
      (any_reads trap_rank 5 (hits m dst) (buses_to m dst) (all_each _ (buses_to m dst) (λ bus. refl)))

  starts_reads : (unit op : ℕ) (o : UnitOp) → op_at m unit op ≡ Some o → early (Signal (Starts unit op)) ≡ true
  starts_reads unit op o at = of (Starts unit op) (ap is_some at) refl

  pub coming_reads : (unit delay : ℕ) → unit < length m.units → 0 < delay → ok m 5 (is_coming m unit delay) ≡ true
  coming_reads unit delay less some =
      both_ways m 5 (is_coming m unit delay) (is_coming_ok m unit delay (lt-ltb unit (length m.units) less) some)
      (by (nat_lt delay (longest m unit)))
    where
      by : (b : Bool) → reads_below trap_rank 5 (if b then Signal (IsDue unit delay) else never) ≡ true
      by true = refl
      by false = refl

  operand_reads : (unit : ℕ) → unit < length m.units → early (operand_lacks m unit) ≡ true
  operand_reads unit less =
      and_from
      (early (any_of (map (λ o. Signal (Starts unit o.0)) (filter (λ o. o.1.arity == 2) (ops_of m unit)))))
      (early (reached m (dest.Operand unit)) && early (Signal (Watches (HasWord (KeptOperand unit)))))
      (any_reads rank5 1 (λ (o : ℕ × UnitOp). Signal (Starts unit o.0)) (filter (λ o. o.1.arity == 2) (ops_of m unit))
      (weaker (λ (o : ℕ × UnitOp). op_at m unit o.0 ≡ Some o.1) (λ o. early (Signal (Starts unit o.0)) ≡ true)
      (filter (λ o. o.1.arity == 2) (ops_of m unit)) (λ o at. starts_reads unit o.0 o.1 at)
      (kept_filter (λ (o : ℕ × UnitOp). op_at m unit o.0 ≡ Some o.1) (λ o. o.1.arity == 2) (ops_of m unit) (ops_there m unit))))
      (and_from (early (reached m (dest.Operand unit))) (early (Signal (Watches (HasWord (KeptOperand unit)))))
      (reached_reads (dest.Operand unit))
      (of (Watches (HasWord (KeptOperand unit))) (some_at m rules m.units unit less) refl))

  clashing_reads : (unit : ℕ) → unit < length m.units → early (clashing m unit) ≡ true
  clashing_reads unit less =
      any_reads rank5 1 (λ (o : ℕ × UnitOp). Both (Signal (Starts unit o.0)) (is_coming m unit o.1.latency))
      (filter (λ o. has_result o.1.op && nat_lt o.1.latency (longest m unit)) (ops_of m unit))
      (weaker
      (λ (o : ℕ × UnitOp). (op_at m unit o.0 ≡ Some o.1) × ((has_result o.1.op && nat_lt o.1.latency (longest m unit)) ≡ true))
      (λ o. early (Both (Signal (Starts unit o.0)) (is_coming m unit o.1.latency)) ≡ true)
      (filter (λ o. has_result o.1.op && nat_lt o.1.latency (longest m unit)) (ops_of m unit))
      (λ o p. and_from (early (Signal (Starts unit o.0))) (early (is_coming m unit o.1.latency)) (starts_reads unit o.0 o.1 p.0)
      (coming_reads unit o.1.latency less
      (op_later m rules unit o.0 o.1 p.0 (and_parts (has_result o.1.op) (nat_lt o.1.latency (longest m unit)) p.1).0)))
      (kept_in (λ (o : ℕ × UnitOp). op_at m unit o.0 ≡ Some o.1) (λ o. has_result o.1.op && nat_lt o.1.latency (longest m unit))
      (ops_of m unit) (ops_there m unit)))

  -- ---- the fault

  outside_reads : (count : ℕ) → ok m 6 (is_outside m count) ≡ true
  outside_reads count = by (count == 2 ^ m.control.address) where
    by : (b : Bool) → ok m 6 (if b then Signal (Watches IsPast)
        else Either (Signal (Watches IsPast)) (Not (Below (Signal Pc) (Const m.control.address count)))) ≡ true
    by true = refl
    by false = refl

  again_reads : ok m 6 (jumps_again m) ≡ true
  again_reads =
      any_reads (λ n. if may m 6 n then 0 else 1) 1 (λ (delay : ℕ). Signal (Underway delay)) (range_with_len 1 m.control.delay)
      (from 1 m.control.delay (omega arith) (omega arith))
    where
      from : (a k : ℕ) → 1 ≤ a → a + k ≤ m.control.delay + 1
          → AllByRecursion (λ delay. ok m 6 (Signal (Underway delay)) ≡ true) (range_with_len a k)
      from a zero low high = tt
      from a (suc k) low high = (
        sig m 6 (Underway a) (and_from (nat_lt 0 a) (nat_le a m.control.delay) (lt-ltb 0 a (omega (arith, low)))
            (le-leb a m.control.delay (omega (arith, high)))) refl,
        from (a + 1) k (omega (arith, low)) (omega (arith, high)),
      )

  any_watch : (f : ℕ → Named) (n : ℕ) → ((i : ℕ) → i < n → trap_there m (f i) ≡ true) → ((i : ℕ) → nat_lt (trap_rank (f i)) 6 ≡ true)
      → ok m 6 (any_of (map (λ i. Signal (f i)) (numbers n))) ≡ true
  any_watch f n there less =
      any_reads (λ n. if may m 6 n then 0 else 1) 1 (λ (i : ℕ). Signal (f i)) (numbers n)
      (weaker (λ i. i < n) (λ i. ok m 6 (Signal (f i)) ≡ true) (numbers n) (λ i few. sig m 6 (f i) (there i few) (less i))
      (below_all n 0 n (omega arith)))

  fault_reads : (count : ℕ) → ok m 6 (fault_now m count) ≡ true
  fault_reads count =
      select_reads (λ n. if may m 6 n then 0 else 1) 1 (Either (Signal IsReset) (Signal HasHalted)) (Const 7 0)
      (first_of (fault_choices m count) (Const 7 0)) refl refl
      (first_reads (λ n. if may m 6 n then 0 else 1) 1 (fault_choices m count) (Const 7 0) (
        (outside_reads count, refl),
        (
          (any_watch (λ bus. Watches (LacksRegister bus)) (length m.buses) (λ i few. lt-ltb i (length m.buses) few) (λ i. refl), refl),
          (
            (any_watch (λ bus. Watches (LacksPort bus)) (length m.buses) (λ i few. lt-ltb i (length m.buses) few) (λ i. refl), refl),
            (
              (any_watch (λ unit. Watches (LacksOperand unit)) (length m.units) (λ i few. lt-ltb i (length m.units) few) (λ i. refl), refl),
              (
                (any_watch (λ unit. Watches (Clashes unit)) (length m.units) (λ i few. lt-ltb i (length m.units) few) (λ i. refl), refl),
                ((again_reads, refl), tt),
              ),
            ),
          ),
        ),
      ) refl)

  -- ---- all of them

  -- Each wire that tells a fault reads only what is there and stands before it.
  pub register_wire : (count bus : ℕ) → bus < length m.buses → ok m 5 (watch_made m count (LacksRegister bus)) ≡ true
  register_wire count bus less =
      and_from (early (has_move m bus)) (early (guard_lacks m bus) && early (acts_on m bus register_lacks)) (has_move_reads bus less)
      (and_from (early (guard_lacks m bus)) (early (acts_on m bus register_lacks)) (guard_reads bus less)
      (acts_reads bus register_lacks less (register_reads bus)))

  pub port_wire : (count bus : ℕ) → bus < length m.buses → ok m 5 (watch_made m count (LacksPort bus)) ≡ true
  port_wire count bus less =
      and_from (early (has_move m bus)) (early (acts_on m bus port_lacks)) (has_move_reads bus less)
      (acts_reads bus port_lacks less (port_reads bus))

  pub operand_wire : (count unit : ℕ) → unit < length m.units → ok m 5 (watch_made m count (LacksOperand unit)) ≡ true
  operand_wire count unit less = operand_reads unit less

  pub clashes_wire : (count unit : ℕ) → unit < length m.units → ok m 5 (watch_made m count (Clashes unit)) ≡ true
  clashes_wire count unit less = clashing_reads unit less

  pub fault_wire : (count : ℕ) → ok m 6 (watch_made m count FaultNow) ≡ true
  fault_wire count = fault_reads count
