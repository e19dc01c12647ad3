-- Constants in the wires of a machine are narrow.
use Rattle.std.proofs.Common.{◌≡◌, ℕ, ◌+◌, ◌<◌, ◌^◌, ◌==◌, Bool, true, false, ◌&&◌, List, [], ◌∷◌, length, map, slice_get, Option, Some, None, refl, ap, arith}
use Rattle.std.specs.Prelude.{if◌then◌else◌, nat_lt, nat_le, is_some}
use Rattle.std.specs.List.{flat_map, AllByRecursion}
use Rattle.std.proofs.lemmas.Bool.{and_from, lt-ltb, ltb-true, le-leb, false≢true}
use Rattle.tta_ops.specs.Units.{Units}
use Rattle.tta_ops.specs.declared.OpId.{OpId}
use Rattle.tta_arch.specs.Over.{StandsOver, is_named}
use Rattle.tta_arch.specs.Fields.{guard_width, payload_width, guards_on, sources_on, numbers}
use Rattle.tta_arch.specs.Effects.{width_of}
use Rattle.tta_arch.specs.Joins.{is_dest_on}
use Rattle.tta_arch.specs.declared.parts.Guard.{Guard}
use Rattle.tta_arch.specs.declared.ends.Source.{Source}
use Rattle.tta_arch.specs.declared.ends.Source.TheVariants as source
use Rattle.tta_arch.specs.declared.ends.Dest.{Dest}
use Rattle.tta_arch.specs.declared.ends.Dest.TheVariants as dest
use Rattle.tta_circuit.specs.Circuit.{Const, Signal, Join, Not}
use Rattle.tta_hardware.specs.Cited.{Machine, IsMachine, Op, Ldw, Stw, Ldf, Stf, Out, Take, Set, UnitOp, op_at, has_result, KeptReg, KeptOperand, KeptPort}
use Rattle.tta_hardware.specs.Signals.{GuardOf, SourceOf, Signal as Named, Fetched, Word, Acts, Starts, Trigger, Operand, Keeps, HasBegun, Underway, Goal, IsDue, Due, Port, Controls, GoalNow, EndsNow, Lands, Asks, Gives, NextPc, PutWord, Expression}
use Rattle.tta_hardware.specs.Chains.{first_of, pick_from}
use Rattle.tta_hardware.specs.Wires.{bus_word, bus_acts, never, nothing, source_word, passing, hits, buses_to, reached, arrivals, ops_of, all_ops, some_start, word_of_start, loads, read_word, fresh, result_of, timed, begins, made, longest, is_coming, coming, next_pc, made_of}
use Rattle.tta_hardware.proofs.Bringing.{within_list}
use Rattle.tta_hardware.proofs.There.{is_there}
use Rattle.tta_arch.proofs.Facts.{address_most}
use Rattle.tta_arch.specs.Rules.{same_op}
use Rattle.tta_hardware.proofs.WiresFit.{kept_filter, all_map}
use Rattle.tta_hardware.proofs.RegistersFit.{weaker}
use Rattle.tta_hardware.proofs.PlainWires.{all_each, below_all}
use Rattle.tta_hardware.proofs.OnlyThere.{ops_there}
use Rattle.tta_told.proofs.Narrow.{narrow}
use Rattle.tta_told.proofs.Constants.{any_narrow, first_narrow, both_narrow, pick_narrow, dest_short, guard_short, payload_short, field_narrow}

module _ (u : Units) (m : Machine) (rules : IsMachine m) (over : StandsOver u m) where
  -- ---- what buses bring

  hit_narrow : (dst : Dest) (bus : ℕ) → bus < length m.buses → narrow m (hits m dst bus) ≡ true
  hit_narrow dst bus less = dest_short m rules bus less

  leading : (dst : Dest) → AllByRecursion (λ bus. bus < length m.buses) (buses_to m dst)
  leading dst =
      kept_filter (λ bus. bus < length m.buses) (λ bus. is_dest_on m bus dst) (numbers (length m.buses))
      (below_all (length m.buses) 0 (length m.buses) (omega arith))

  pub reached_narrow : (dst : Dest) → narrow m (reached m dst) ≡ true
  reached_narrow dst =
      any_narrow m (hits m dst) (buses_to m dst)
      (weaker (λ bus. bus < length m.buses) (λ bus. narrow m (hits m dst bus) ≡ true) (buses_to m dst) (hit_narrow dst) (leading dst))

  pub arriving : (dst : Dest) (f : ℕ → Expression) → ((bus : ℕ) → narrow m (f bus) ≡ true)
      → AllByRecursion (λ bus. (narrow m (hits m dst bus) ≡ true) × (narrow m (f bus) ≡ true)) (buses_to m dst)
  arriving dst f each =
      weaker (λ bus. bus < length m.buses) (λ bus. (narrow m (hits m dst bus) ≡ true) × (narrow m (f bus) ≡ true)) (buses_to m dst)
      (λ bus less. (hit_narrow dst bus less, each bus)) (leading dst)

  arrivals_narrow : (dst : Dest) → AllByRecursion (λ c. (narrow m c.0 ≡ true) × (narrow m c.1 ≡ true)) (arrivals m dst)
  arrivals_narrow dst =
      all_map (λ (c : Expression × Expression). (narrow m c.0 ≡ true) × (narrow m c.1 ≡ true)) (λ bus. (hits m dst bus, Signal (Word bus)))
      (buses_to m dst) (arriving dst (λ bus. Signal (Word bus)) (λ bus. refl))

  over_ops : (unit : ℕ) (ops : List (ℕ × UnitOp))
      → narrow m (first_of (flat_map (λ o. arrivals m (dest.Trigger unit o.0)) ops) nothing) ≡ true
  over_ops unit [] = refl
  over_ops unit (o ∷ ops) =
      both_narrow m (arrivals m (dest.Trigger unit o.0)) (flat_map (λ o. arrivals m (dest.Trigger unit o.0)) ops) nothing
      (arrivals_narrow (dest.Trigger unit o.0)) (over_ops unit ops)

  source_narrow : (src : Source) → narrow m (source_word m src) ≡ true
  source_narrow (source.Reg file index) = by (width_of m file == 1) where
    by : (b : Bool)
        → narrow m (if b then Join 1 (Const 31 0) (Signal (Keeps (KeptReg file index))) else Signal (Keeps (KeptReg file index))) ≡ true
    by true = refl
    by false = refl
  source_narrow (source.Imm unit index) = refl
  source_narrow (source.Shown unit) = refl
  source_narrow source.Ra = refl
  source_narrow (source.Value word) = refl

  guard_narrow : (g : Guard) → narrow m (passing g.on) ≡ true
  guard_narrow g = by g.on.inverted where
    by : (b : Bool)
        → narrow m (if b then Not (Signal (Keeps (KeptReg g.on.file g.on.index))) else Signal (Keeps (KeptReg g.on.file g.on.index))) ≡ true
    by true = refl
    by false = refl

  bus_narrow : (bus : ℕ) → bus < length m.buses → narrow m (bus_word m bus) ≡ true
  bus_narrow bus less =
      pick_narrow m (payload_width m bus) 0 (Fetched (SourceOf bus)) (source_word m) (sources_on m bus) nothing (payload_short m rules bus less)
      source_narrow refl

  acts_narrow : (bus : ℕ) → bus < length m.buses → narrow m (bus_acts m bus) ≡ true
  acts_narrow bus less = by (nat_lt 0 (guard_width m bus)) where
    by : (b : Bool) → narrow m (if b
        then pick_from (guard_width m bus) (Signal (Fetched (GuardOf bus))) 0 (Const 1 1 ∷ map (λ g. passing g.on) (guards_on m bus)) never
        else Const 1 1) ≡ true
    by true =
        and_from (nat_le (guard_width m bus) 64) _ (guard_short m rules bus less)
        (pick_narrow m (guard_width m bus) 1 (Fetched (GuardOf bus)) (λ (g : Guard). passing g.on) (guards_on m bus) never (guard_short m rules bus less)
        guard_narrow refl)
    by false = refl

  -- ---- what units start and show

  pub some_narrow : (test : Op → Bool) → narrow m (some_start m test) ≡ true
  some_narrow test =
      any_narrow m (λ (o : ℕ × ℕ). Signal (Starts o.0 o.1)) (all_ops m test)
      (all_each (λ (o : ℕ × ℕ). narrow m (Signal (Starts o.0 o.1)) ≡ true) (all_ops m test) (λ o. refl))

  pub of_start : (test : Op → Bool) (f : ℕ → Named) → narrow m (word_of_start m test (λ unit. Signal (f unit))) ≡ true
  of_start test f =
      first_narrow m (λ (o : ℕ × ℕ). Signal (Starts o.0 o.1)) (λ o. Signal (f o.0)) (all_ops m test) nothing
      (all_each (λ (o : ℕ × ℕ). (narrow m (Signal (Starts o.0 o.1)) ≡ true) × (narrow m (Signal (f o.0)) ≡ true)) (all_ops m test)
      (λ o. (refl, refl))) refl

  pub fresh_narrow : (unit latency : ℕ) (e : Expression) → narrow m e ≡ true → narrow m (fresh m unit latency e) ≡ true
  fresh_narrow unit latency e rest =
      first_narrow m (λ (o : ℕ × UnitOp). Signal (HasBegun unit o.0)) (λ o. read_word unit o.0) (loads m unit latency) e
      (all_each (λ (o : ℕ × UnitOp). (narrow m (Signal (HasBegun unit o.0)) ≡ true) × (narrow m (read_word unit o.0) ≡ true))
      (loads m unit latency) (λ o. (refl, refl))) rest

  -- the number of an operation of a set of units
  op_small : (id : OpId) → is_named (slice_get u.names id.0) ≡ true → nat_lt id.0 (2 ^ 64) ≡ true
  op_small id is = by (slice_get u.names id.0) refl is where
    by : (o : Option (List ℕ)) → slice_get u.names id.0 ≡ o → is_named o ≡ true → nat_lt id.0 (2 ^ 64) ≡ true
    by None at is = absurd (false≢true is)
    by (Some name) at is =
        let few = u.few in
        let less = within_list u.names id.0 (ap is_some at) in
        lt-ltb id.0 (2 ^ 64) (omega (arith, few, less))

  pub result_narrow : (unit : ℕ) (k : ℕ) (o : UnitOp) → op_at m unit k ≡ Some o → narrow m (result_of m unit o) ≡ true
  result_narrow unit k o at = by o.op refl where
    operand : (b : Bool) → narrow m (if b then Signal (Operand unit) else nothing) ≡ true
    operand true = refl
    operand false = refl

    by : (p : Op) → o.op ≡ p → narrow m (result_of m unit (record o { op = p })) ≡ true
    by Ldw is = refl
    by Stw is = refl
    by Ldf is = refl
    by Stf is = refl
    by Out is = refl
    by Take is = refl
    by (Set id) is =
        and_from (nat_lt id.0 (2 ^ 64)) (narrow m (if o.arity == 2 then Signal (Operand unit) else nothing) && true)
        (op_small id (over.names unit k o id at is))
        (and_from (narrow m (if o.arity == 2 then Signal (Operand unit) else nothing)) true (operand (o.arity == 2)) refl)

  pub begins_narrow : (unit latency : ℕ) → narrow m (begins m unit latency) ≡ true
  begins_narrow unit latency =
      any_narrow m (λ (o : ℕ × UnitOp). Signal (Starts unit o.0)) (timed m unit latency)
      (all_each (λ (o : ℕ × UnitOp). narrow m (Signal (Starts unit o.0)) ≡ true) (timed m unit latency) (λ o. refl))

  pub made_narrow : (unit latency : ℕ) → narrow m (made m unit latency) ≡ true
  made_narrow unit latency =
      first_narrow m (λ (o : ℕ × UnitOp). Signal (Starts unit o.0)) (λ o. result_of m unit o.1) (timed m unit latency) nothing
      (weaker (λ (o : ℕ × UnitOp). op_at m unit o.0 ≡ Some o.1)
      (λ o. (narrow m (Signal (Starts unit o.0)) ≡ true) × (narrow m (result_of m unit o.1) ≡ true)) (timed m unit latency)
      (λ o at. (refl, result_narrow unit o.0 o.1 at))
      (kept_filter (λ (o : ℕ × UnitOp). op_at m unit o.0 ≡ Some o.1) (λ o. has_result o.1.op && o.1.latency == latency) (ops_of m unit)
      (ops_there m unit))) refl

  pub is_coming_narrow : (unit delay : ℕ) → narrow m (is_coming m unit delay) ≡ true
  is_coming_narrow unit delay = by (nat_lt delay (longest m unit)) where
    by : (b : Bool) → narrow m (if b then Signal (IsDue unit delay) else never) ≡ true
    by true = refl
    by false = refl

  pub coming_narrow : (unit delay : ℕ) → narrow m (coming m unit delay) ≡ true
  coming_narrow unit delay = by (nat_lt delay (longest m unit)) where
    by : (b : Bool) → narrow m (if b then fresh m unit (delay + 1) (Signal (Due unit delay)) else nothing) ≡ true
    by true = fresh_narrow unit (delay + 1) (Signal (Due unit delay)) refl
    by false = refl

  -- ---- control

  pub address_short : nat_le m.control.address 64 ≡ true
  address_short = let a = address_most m rules in le-leb m.control.address 64 (omega (arith, a))

  next_narrow : narrow m (next_pc m) ≡ true
  next_narrow = address_short

  -- ---- all wires

  pub wire_narrow : (n : Named) → is_there m n ≡ true → narrow m (made_of m n) ≡ true
  wire_narrow (Port unit) is = fresh_narrow unit 1 (Signal (Keeps (KeptPort unit))) refl
  wire_narrow (Fetched f) is = field_narrow m rules f is
  wire_narrow (Word bus) is = bus_narrow bus (ltb-true bus (length m.buses) is)
  wire_narrow (Acts bus) is = acts_narrow bus (ltb-true bus (length m.buses) is)
  wire_narrow (Starts unit op) is = reached_narrow (dest.Trigger unit op)
  wire_narrow (Trigger unit) is = over_ops unit (ops_of m unit)
  wire_narrow (Operand unit) is =
      first_narrow m (hits m (dest.Operand unit)) (λ bus. Signal (Word bus)) (buses_to m (dest.Operand unit))
      (Signal (Keeps (KeptOperand unit))) (arriving (dest.Operand unit) (λ bus. Signal (Word bus)) (λ bus. refl)) refl
  wire_narrow Controls is =
      and_from (narrow m (reached m dest.Jump)) (narrow m (reached m dest.Call) && narrow m (reached m dest.Halt)) (reached_narrow dest.Jump)
      (and_from (narrow m (reached m dest.Call)) (narrow m (reached m dest.Halt)) (reached_narrow dest.Call) (reached_narrow dest.Halt))
  wire_narrow GoalNow is =
      both_narrow m (arrivals m dest.Jump) (arrivals m dest.Call) (Signal Goal) (arrivals_narrow dest.Jump)
      (first_narrow m (hits m dest.Call) (λ bus. Signal (Word bus)) (buses_to m dest.Call) (Signal Goal)
      (arriving dest.Call (λ bus. Signal (Word bus)) (λ bus. refl)) refl)
  wire_narrow EndsNow is = and_from (narrow m (reached m dest.Halt)) true (reached_narrow dest.Halt) refl
  wire_narrow Lands is = by (m.control.delay == 0) where
    by : (b : Bool) → narrow m (if b then Signal Controls else Signal (Underway 1)) ≡ true
    by true = refl
    by false = refl
  wire_narrow Asks is = some_narrow (same_op Take)
  wire_narrow Gives is = some_narrow (same_op Out)
  wire_narrow NextPc is = and_from (nat_le m.control.address 64) (narrow m (next_pc m)) address_short next_narrow
  wire_narrow PutWord is = of_start (same_op Out) Trigger
  wire_narrow n is = refl
