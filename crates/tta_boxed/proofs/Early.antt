-- Expressions of a machine's circuit that read no result under way, nor what only a circuit has that leaves operations to modules.
use Rattle.std.proofs.Common.{◌≡◌, ℕ, ◌==◌, Bool, true, false, ◌&&◌, nat_lt, ◌∷◌, ◌++◌, map, refl}
use Rattle.std.specs.Prelude.{if◌then◌else◌}
use Rattle.std.specs.List.{flat_map, AllByRecursion}
use Rattle.std.proofs.lemmas.Bool.{and_from}
use Rattle.tta_arch.specs.declared.ends.Dest.{Dest}
use Rattle.tta_arch.specs.declared.ends.Dest.TheVariants as dest
use Rattle.tta_arch.specs.declared.ends.Source.{Source}
use Rattle.tta_arch.specs.declared.ends.Source.TheVariants as source
use Rattle.tta_arch.specs.declared.parts.Guard.{Guard}
use Rattle.tta_arch.specs.Effects.{width_of}
use Rattle.tta_hardware.specs.Cited.{Op, Ldw, Stw, Ldf, Stf, Out, Take, Set, UnitOp, Machine, KeptReg, KeptOperand, KeptPort, same_op, guards_on, sources_on, guard_width, payload_width, Const, Signal, Join, Not, reads_below}
use Rattle.tta_hardware.specs.Signals.{GuardOf, SourceOf, Signal as Named, Whole, Underway, Goal, Keeps, IsDue, Due, HasBegun, Port, Fetched, Word, Acts, Starts, Trigger, Operand, Controls, GoalNow, EndsNow, Lands, Asks, Gives, PutWord, Expression}
use Rattle.tta_hardware.specs.Chains.{first_of, pick_from}
use Rattle.tta_hardware.specs.Wires.{never, nothing, source_word, passing, hits, buses_to, reached, arrivals, ops_of, all_ops, some_start, word_of_start, loads, read_word, fresh, result_of, timed, begins, made, longest, is_coming, made_of}
use Rattle.tta_hardware.proofs.PartsRead.{field_reads}
use Rattle.tta_hardware.proofs.WiresFit.{both_lists}
use Rattle.tta_hardware.proofs.PlainWires.{all_each, all_made, every_piece}
use Rattle.tta_trap.proofs.Meets.{any_reads, first_reads, pick_reads}
use Rattle.tta_boxed.specs.Theorem.{is_beside}

-- what is beside stands after all else
abbrev pub late : Named → ℕ
late n = if is_beside n then 1 else 0

-- whether an expression reads nothing that is
abbrev pub early : Expression → Bool
early e = reads_below late 1 e

-- whether a register takes results that were under way
abbrev pub is_slow : Named → Bool
is_slow (Keeps (KeptPort unit)) = true
is_slow (Due unit delay) = true
is_slow n = false

module _ (m : Machine) where
  -- ---- over lists

  pub reached_early : (dst : Dest) → early (reached m dst) ≡ true
  reached_early dst = any_reads late 1 (hits m dst) (buses_to m dst) (all_each _ (buses_to m dst) (λ bus. refl))

  pub arriving : (dst : Dest) (f : ℕ → Expression) (other : Expression) → ((bus : ℕ) → early (f bus) ≡ true) → early other ≡ true
      → early (first_of (map (λ bus. (hits m dst bus, f bus)) (buses_to m dst)) other) ≡ true
  arriving dst f other each rest =
      first_reads late 1 (map (λ bus. (hits m dst bus, f bus)) (buses_to m dst)) other
      (all_made (λ (c : Expression × Expression). (early c.0 ≡ true) × (early c.1 ≡ true)) (λ bus. (hits m dst bus, f bus)) (buses_to m dst)
      (λ bus. (refl, each bus))) rest

  -- ---- what starts, and results

  pub fresh_early : (unit latency : ℕ) (e : Expression) → early e ≡ true → early (fresh m unit latency e) ≡ true
  fresh_early unit latency e rest =
      first_reads late 1 (map (λ o. (Signal (HasBegun unit o.0), read_word unit o.0)) (loads m unit latency)) e
      (all_made (λ (c : Expression × Expression). (early c.0 ≡ true) × (early c.1 ≡ true))
      (λ (o : ℕ × UnitOp). (Signal (HasBegun unit o.0), read_word unit o.0)) (loads m unit latency) (λ o. (refl, refl))) rest

  pub result_early : (unit : ℕ) (o : UnitOp) → early (result_of m unit o) ≡ true
  result_early unit o = by o.op where
    operand : (b : Bool) → early (if b then Signal (Operand unit) else nothing) ≡ true
    operand true = refl
    operand false = refl

    by : (p : Op) → early (result_of m unit (record o { op = p })) ≡ true
    by Ldw = refl
    by Stw = refl
    by Ldf = refl
    by Stf = refl
    by Out = refl
    by Take = refl
    by (Set id) = and_from (early (if o.arity == 2 then Signal (Operand unit) else nothing)) true (operand (o.arity == 2)) refl

  pub begins_early : (unit latency : ℕ) → early (begins m unit latency) ≡ true
  begins_early unit latency =
      any_reads late 1 (λ (o : ℕ × UnitOp). Signal (Starts unit o.0)) (timed m unit latency)
      (all_each _ (timed m unit latency) (λ o. refl))

  pub made_early : (unit latency : ℕ) → early (made m unit latency) ≡ true
  made_early unit latency =
      first_reads late 1 (map (λ o. (Signal (Starts unit o.0), result_of m unit o.1)) (timed m unit latency)) nothing
      (all_made (λ (c : Expression × Expression). (early c.0 ≡ true) × (early c.1 ≡ true))
      (λ (o : ℕ × UnitOp). (Signal (Starts unit o.0), result_of m unit o.1)) (timed m unit latency)
      (λ o. (refl, result_early unit o.1))) refl

  pub is_coming_early : (unit delay : ℕ) → early (is_coming m unit delay) ≡ true
  is_coming_early unit delay = by (nat_lt delay (longest m unit)) where
    by : (b : Bool) → early (if b then Signal (IsDue unit delay) else never) ≡ true
    by true = refl
    by false = refl

  pub starts_early : (test : Op → Bool) → early (some_start m test) ≡ true
  starts_early test =
      any_reads late 1 (λ (o : ℕ × ℕ). Signal (Starts o.0 o.1)) (all_ops m test) (all_each _ (all_ops m test) (λ o. refl))

  pub of_start : (test : Op → Bool) (f : ℕ → Expression) → ((unit : ℕ) → early (f unit) ≡ true) → early (word_of_start m test f) ≡ true
  of_start test f each =
      first_reads late 1 (map (λ o. (Signal (Starts o.0 o.1), f o.0)) (all_ops m test)) nothing
      (all_made (λ (c : Expression × Expression). (early c.0 ≡ true) × (early c.1 ≡ true))
      (λ (o : ℕ × ℕ). (Signal (Starts o.0 o.1), f o.0)) (all_ops m test) (λ o. (refl, each o.0))) refl

  -- ---- wires

  source_early : (src : Source) → early (source_word m src) ≡ true
  source_early (source.Reg file index) = by (width_of m file == 1) where
    by : (b : Bool)
        → early (if b then Join 1 (Const 31 0) (Signal (Keeps (KeptReg file index))) else Signal (Keeps (KeptReg file index))) ≡ true
    by true = refl
    by false = refl
  source_early (source.Imm unit index) = refl
  source_early (source.Shown unit) = refl
  source_early source.Ra = refl
  source_early (source.Value word) = refl

  guard_early : (g : Guard) → early (passing g.on) ≡ true
  guard_early g = by g.on.inverted where
    by : (b : Bool)
        → early (if b then Not (Signal (Keeps (KeptReg g.on.file g.on.index))) else Signal (Keeps (KeptReg g.on.file g.on.index))) ≡ true
    by true = refl
    by false = refl

  acts_early : (bus : ℕ) → early (made_of m (Acts bus)) ≡ true
  acts_early bus = by (nat_lt 0 (guard_width m bus)) where
    by : (b : Bool) → early (if b
        then pick_from (guard_width m bus) (Signal (Fetched (GuardOf bus))) 0 (Const 1 1 ∷ map (λ g. passing g.on) (guards_on m bus)) never
        else Const 1 1) ≡ true
    by true =
        pick_reads late 1 (guard_width m bus) 1 (Signal (Fetched (GuardOf bus))) (λ (g : Guard). passing g.on) (guards_on m bus) never refl
        (all_each _ (guards_on m bus) guard_early) refl
    by false = refl

  lands_early : early (made_of m Lands) ≡ true
  lands_early = by (m.control.delay == 0) where
    by : (b : Bool) → early (if b then Signal Controls else Signal (Underway 1)) ≡ true
    by true = refl
    by false = refl

  arrive : (dst : Dest) → AllByRecursion (λ (c : Expression × Expression). (early c.0 ≡ true) × (early c.1 ≡ true)) (arrivals m dst)
  arrive dst =
      all_made (λ (c : Expression × Expression). (early c.0 ≡ true) × (early c.1 ≡ true)) (λ bus. (hits m dst bus, Signal (Word bus)))
      (buses_to m dst) (λ bus. (refl, refl))

  trigger_early : (unit : ℕ) → early (made_of m (Trigger unit)) ≡ true
  trigger_early unit =
      first_reads late 1 (flat_map (λ o. arrivals m (dest.Trigger unit o.0)) (ops_of m unit)) nothing
      (every_piece (λ (c : Expression × Expression). (early c.0 ≡ true) × (early c.1 ≡ true))
      (λ (o : ℕ × UnitOp). arrivals m (dest.Trigger unit o.0)) (ops_of m unit)
      (λ o. arrive (dest.Trigger unit o.0))) refl

  -- No wire reads a result that is under way.
  pub wire_early : (n : Named) → early (made_of m n) ≡ true
  wire_early (Port unit) = fresh_early unit 1 (Signal (Keeps (KeptPort unit))) refl
  wire_early (Fetched f) = field_reads late 1 m (Signal Whole) refl f
  wire_early (Word bus) =
      pick_reads late 1 (payload_width m bus) 0 (Signal (Fetched (SourceOf bus))) (source_word m) (sources_on m bus) nothing refl
      (all_each _ (sources_on m bus) source_early) refl
  wire_early (Acts bus) = acts_early bus
  wire_early (Starts unit op) = reached_early (dest.Trigger unit op)
  wire_early (Trigger unit) = trigger_early unit
  wire_early (Operand unit) =
      arriving (dest.Operand unit) (λ bus. Signal (Word bus)) (Signal (Keeps (KeptOperand unit))) (λ bus. refl) refl
  wire_early Controls =
      and_from (early (reached m dest.Jump)) (early (reached m dest.Call) && early (reached m dest.Halt)) (reached_early dest.Jump)
      (and_from (early (reached m dest.Call)) (early (reached m dest.Halt)) (reached_early dest.Call) (reached_early dest.Halt))
  wire_early GoalNow =
      first_reads late 1 (arrivals m dest.Jump ++ arrivals m dest.Call) (Signal Goal)
      (both_lists (λ (c : Expression × Expression). (early c.0 ≡ true) × (early c.1 ≡ true)) (arrivals m dest.Jump) (arrivals m dest.Call)
      (arrive dest.Jump) (arrive dest.Call)) refl
  wire_early EndsNow = and_from (early (reached m dest.Halt)) true (reached_early dest.Halt) refl
  wire_early Lands = lands_early
  wire_early Asks = starts_early (same_op Take)
  wire_early Gives = starts_early (same_op Out)
  wire_early PutWord = of_start (same_op Out) (λ unit. Signal (Trigger unit)) (λ unit. refl)
  wire_early n = refl
