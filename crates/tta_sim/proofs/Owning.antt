-- The units of a machine in a region.
use Rattle.std.proofs.Common.{◌≡◌, ℕ, zero, suc, ◌+◌, ◌<◌, ◌≤◌, true, List, [], length, replicate, get_or, Option, Some, None, refl, sym, ap, ◌∙◌, subst, arith}
use Rattle.std.specs.Prelude.{slice_get, option_map, option_and_then, IfSome}
use Rattle.std.specs.List.{list_all}
use Rattle.std.proofs.lemmas.List.{length-replicate}
use Rattle.std.proofs.lemmas.Option.{slice_get_within}
use Rattle.tta_list.proofs.Lists.{list_all_one}
use Rattle.tta_arch.specs.declared.parts.Unit.{Unit as OpUnit}
use Rattle.tta_sim.specs.Cited.{UnitOp, Op, Ldw, Stw, Ldf, Stf, Out, Take, Set, Machine, IsMachine, is_unit, is_unit_op, fits_kind, op_at, StandsFor, Rings, shown_in, due_in, longest_of, Code, State, port, latest, due_at}
use Rattle.tta_sim.specs.declared.results.Part.{Part}
use Rattle.tta_sim.specs.declared.stretch.Pace.{Pace}
use Rattle.tta_sim.specs.declared.stretch.Pace.TheVariants as pace
use Rattle.tta_sim.specs.Controls.{cycles_in}
use Rattle.tta_sim.specs.Results.{AreResultsOf, AreThere, AreKept, HasUnits, results_at, units_of}
use Rattle.tta_sim.proofs.Agreeing.{port_is}
use Rattle.tta_sim.specs.Ready.{KeepsOthers}
use Rattle.tta_sim.specs.declared.cycle_step.CycleStep.{CycleStep}
use Rattle.tta_sim.specs.declared.cycle_step.CycleStep.TheVariants.{Ran, Halted as HadHalted, Waiting as Waits, Fault as Faults}
use Rattle.tta_sim.specs.Held.{Held, HeldState, rings_held, held_with, StandsWith, Stands, GoesWith, GoesTo, IsStateOf, IsRunOf}

-- ---- units that are there

pub units_there : (part : Part) (m : Machine) (rings : Rings) → HasUnits part.base m rings → part.count ≡ length m.units → AreThere (results_at part rings)
units_there part m rings has count = record { few = omega (arith, has.few, count); there = omega (arith, has.there, count) }

-- one cycle at most is made with a line
pub one_at_most : (p : Pace) → cycles_in p ≤ 1
one_at_most pace.Goes = omega arith
one_at_most pace.Ends = omega arith
one_at_most pace.Stays = omega arith

pub units_still : (base : ℕ) (m : Machine) (old new : Rings) → HasUnits base m old → AreKept old new → HasUnits base m new
units_still base m old new has kept = record {
  few = has.few;
  there = omega (arith, has.there, kept.units);
  longest = λ unit op. each (op_at m unit op) unit (has.longest unit op);
} where
  each : (o : Option UnitOp) (unit : ℕ) → IfSome o (λ x. x.latency ≤ longest_of old (base + unit)) → IfSome o (λ x. x.latency ≤ longest_of new (base + unit))
  each None unit is = is
  each (Some x) unit is = omega (arith, is, kept.longest (base + unit))

-- ---- the others stay

pub others_same : (part : Part) (r : Rings) → KeepsOthers part r r
others_same part r = record {
  kept = record { units = refl; longest = λ unit. refl };
  beside = record { shown = λ u had other. refl; due = λ u d had other. refl };
}

-- ---- a region of its own

pub few_cycles : (d : UnitOp) → fits_kind d ≡ true → d.latency ≤ 16
few_cycles d kind = by d.op kind where
  by : (o : Op) → fits_kind (record d { op = o }) ≡ true → d.latency ≤ 16
  by Ldw kind = grind arith
  by Stw kind = grind arith
  by Ldf kind = grind arith
  by Stf kind = grind arith
  by Out kind = grind arith
  by Take kind = grind arith
  by (Set id) kind = grind arith

all_same : (n i x d : ℕ) → i < n → get_or (replicate n x) i d ≡ x
all_same zero i x d less = absurd (omega (arith, less))
all_same (suc n) zero x d less = refl
all_same (suc n) (suc i) x d less = all_same n i x d (omega (arith, less))

-- each unit has a ring
pub own_size : (m : Machine) (longest : List ℕ) (rings : Rings) → longest ≡ replicate (length m.units) 16 → length rings.rings ≡ length longest
    → length rings.rings ≡ length m.units
own_size m longest rings same units = units ∙ ap length same ∙ length-replicate {A = ℕ} (length m.units) 16

-- with room for the longest latency that there is
pub has_room : (m : Machine) (longest : List ℕ) (rings : Rings) → IsMachine m → longest ≡ replicate (length m.units) 16 → length rings.rings ≡ length longest
    → ((unit : ℕ) → longest_of rings unit ≡ get_or longest unit 0) → HasUnits 0 m rings
has_room m longest rings rules same units has = record {
  few = omega (arith, rules.limits.units);
  there = omega (arith, units, ap length same, length-replicate {A = ℕ} (length m.units) 16);
  longest = λ unit op. each unit op (slice_get m.units unit) refl;
} where
  each : (unit op : ℕ) (o : Option OpUnit) → slice_get m.units unit ≡ o → IfSome (option_and_then (λ u. slice_get u.ops op) o) (λ x. x.latency ≤ longest_of rings (0 + unit))
  each unit op None at = tt
  each unit op (Some u) at = of (slice_get u.ops op) refl where
    of : (o : Option UnitOp) → slice_get u.ops op ≡ o → IfSome o (λ x. x.latency ≤ longest_of rings (0 + unit))
    of None there = tt
    of (Some d) there =
        let within = slice_get_within m.units unit u at in
        let good : is_unit m.sockets u ≡ true = list_all_one (is_unit m.sockets) m.units unit u rules.units at in
        let ops : list_all (is_unit_op u) u.ops ≡ true = grind (arith, good) in
        let one : is_unit_op u d ≡ true = list_all_one (is_unit_op u) u.ops op d ops there in
        let kind : fits_kind d ≡ true = grind (arith, one) in
        let few : d.latency ≤ 16 = few_cycles d kind in
        let here : longest_of rings (0 + unit) ≡ 16 =
        has (0 + unit) ∙ ap (λ xs. get_or xs (0 + unit) 0) same ∙ all_same (length m.units) (0 + unit) 16 0 (omega (arith, within)) in
        omega (arith, few, here)

-- and nothing was started
pub has_none : (m : Machine) (rings : Rings) → HasUnits 0 m rings → ((moment : ℕ → ℕ) → StandsFor (record { started = []; moment = moment }) rings)
    → AreResultsOf [] 0 (units_of 0 m rings)
has_none m rings has none = record {
  shown = λ unit less. (none (λ u. 0)).shown (0 + unit) (omega (arith, less, has.there));
  due = λ unit delay less. (none (λ u. 0)).coming (0 + unit) delay (omega (arith, less, has.there));
}

-- ---- a run with a region of its own

module _ (m : Machine) (code : Code) (h : HeldState) (rings : Rings) (size : length rings.rings ≡ length m.units) where
  pub own_run : IsStateOf m code h → HasUnits 0 m rings → IsRunOf m code (held_with h rings)
  own_run run has = record {
    legal = run.legal;
    reached = run.reached;
    decoded = run.decoded;
    units = size;
    has_units = has;
    memory = run.memory;
    frame = run.frame;
  }

  pub own_stands : (s : State) → StandsWith (units_of 0 m rings) h s → Stands (held_with h rings) s
  own_stands s stands = record {
    places = stands.places;
    results = subst (λ n. AreResultsOf s.started s.cycle (record { base = 0; units = n; rings = rings })) (sym size) stands.results;
    memory = stands.memory;
    frame = stands.frame;
    pc = stands.pc;
    cycle = stands.cycle;
    pending = stands.pending;
    outcome = stands.outcome;
  }

  pub state_stands : (s : State) → Stands (held_with h rings) s → StandsWith (units_of 0 m rings) h s
  state_stands s stands = record {
    places = stands.places;
    results = subst (λ n. AreResultsOf s.started s.cycle (record { base = 0; units = n; rings = rings })) size stands.results;
    memory = stands.memory;
    frame = stands.frame;
    pc = stands.pc;
    cycle = stands.cycle;
    pending = stands.pending;
    outcome = stands.outcome;
  }

  pub own_goes : (s next : State) (answer : CycleStep) → GoesWith (units_of 0 m rings) h s next answer → GoesTo (held_with h rings) s next answer
  own_goes s next (Ran word took) goes = own_stands next goes
  own_goes s next HadHalted goes = own_stands next goes
  own_goes s next Waits goes = own_stands s goes
  own_goes s next (Faults number) goes = own_stands next goes

-- the run without its results
pub state_run : (m : Machine) (code : Code) (h : HeldState) (rings : Rings) → IsRunOf m code (held_with h rings) → IsStateOf m code h
state_run m code h rings run = record { legal = run.legal; reached = run.reached; decoded = run.decoded; memory = run.memory; frame = run.frame }

-- what its ports show, and what is due
pub port_own : (h : Held) (s : State) (unit : ℕ) → Stands h s → unit < length h.shown → shown_in (rings_held h) unit ≡ port s unit
port_own h s unit stands less =
    let number : unit ≡ 0 + unit = omega arith in
    ap (shown_in (rings_held h)) number ∙ stands.results.shown unit less ∙ port_is (latest unit s.cycle s.started)

pub due_own : (h : Held) (s : State) (unit delay : ℕ) → Stands h s → unit < length h.shown
    → due_in (rings_held h) unit delay ≡ option_map (λ r. r.value) (due_at unit (s.cycle + delay) s.started)
due_own h s unit delay stands less =
    let number : unit ≡ 0 + unit = omega arith in
    ap (λ n. due_in (rings_held h) n delay) number ∙ stands.results.due unit delay less
