-- The circuit of a machine with its code, which leaves long operations to modules beside it.
use Rattle.std.specs.Prelude.{ℕ, ◌-◌, ◌+◌, ◌==◌, Bool, false, ◌&&◌, nat_lt, if◌then◌else◌, List, ◌++◌, map, filter}
use Rattle.std.specs.List.{flat_map, enumerate_from, range_with_len}
use Rattle.tta_boxed.specs.Cited.{Const, Signal, Select, Either, Register, Circuit, Op, Set, UnitOp, Machine, KeptPort, Store, Due, HasBegun, Starts, Port, IsReset, Goes, Keeps, Shows, IsFrom, Boxes, Expression, first_of, never, nothing, ops_of, loads, fresh, result_of, timed, begins, made, longest, is_coming, coming}
use Rattle.tta_hardware.specs.Signals.{Signal as Named}

module _ (m : Machine) (leaves : ℕ → Bool) where
  -- ---- which operations

  -- Whether an operation is left to a module: one of those that pass a test by their numbers, whose result shows after more than a cycle.
  abbrev pub is_left : UnitOp → Bool
  is_left o = on o.op where
    on : Op → Bool
    on (Set id) = leaves id.0 && nat_lt 1 o.latency
    on other = false

  -- those of a unit, each with its number
  abbrev pub left_ops : (unit : ℕ) → List (ℕ × UnitOp)
  left_ops unit = filter (λ o. is_left o.1) (ops_of m unit)

  -- ---- what is due

  -- the word that an operation shows; one that is left to a module has none yet
  abbrev pub kept_result : (unit : ℕ) → UnitOp → Expression
  kept_result unit o = if is_left o then nothing else result_of m unit o

  -- the word that the operation shows which starts, of those whose results show after so many cycles
  abbrev pub kept_made : (unit latency : ℕ) → Expression
  kept_made unit latency = first_of (map (λ o. (Signal (Starts unit o.0), kept_result unit o.1)) (timed m unit latency)) nothing

  -- whether it is this one of them
  abbrev pub is_picked : (unit op latency : ℕ) → Expression
  is_picked unit op latency =
      first_of (map (λ o. (Signal (Starts unit o.0), Const 1 (if o.0 == op then 1 else 0))) (timed m unit latency)) never

  -- Whether what is due in so many cycles was the operation's a cycle before: not where a load that began then has its word now.
  abbrev pub was_from : (unit op delay : ℕ) → Expression
  was_from unit op delay =
      first_of (map (λ o. (Signal (HasBegun unit o.0), never)) (loads m unit (delay + 1))) (Signal (Boxes (IsFrom unit op delay)))

  -- Whether what is due in so many cycles is this operation's, which has this latency.
  abbrev pub from_next : (unit op latency delay : ℕ) → Expression
  from_next unit op latency delay =
      Select (begins m unit (delay + 1)) (if latency == delay + 1 then is_picked unit op latency else never)
      (if nat_lt (delay + 1) latency then was_from unit op (delay + 1) else never)

  -- for each operation of a unit that is left to a module whether the next result is its, and what its module shows
  abbrev pub shown : (unit : ℕ) → List (Expression × Expression)
  shown unit = map (λ o. (Signal (Boxes (IsFrom unit o.0 1)), Signal (Boxes (Shows unit o.0)))) (left_ops unit)

  -- the next result of a unit
  abbrev pub coming_next : (unit : ℕ) → Expression
  coming_next unit = if nat_lt 1 (longest m unit) then fresh m unit 2 (first_of (shown unit) (Signal (Due unit 1))) else nothing

  -- ---- registers

  -- a register of the circuit; result ports take what modules show
  abbrev pub boxed_register : Register Named Store → Register Named Store
  boxed_register r = on r.name where
    on : Named → Register Named Store
    on (Keeps (KeptPort unit)) = record r {
      next = Select (begins m unit 1) (made m unit 1) (Select (is_coming m unit 1) (coming_next unit) (Signal (Port unit)));
    }
    on (Due unit delay) = record r {
      next = Select (begins m unit (delay + 1)) (kept_made unit (delay + 1)) (coming m unit (delay + 1));
    }
    on n = r

  -- what says whose a result is that is due, and begins with 0
  abbrev pub from_register : (unit op latency delay : ℕ) → Register Named Store
  from_register unit op latency delay = record {
    name = Boxes (IsFrom unit op delay);
    width = 1;
    enable = Either (Signal IsReset) (Signal Goes);
    next = Select (Signal IsReset) never (from_next unit op latency delay);
  }

  -- those of an operation of a unit
  abbrev pub op_registers : (unit : ℕ) → ℕ × UnitOp → List (Register Named Store)
  op_registers unit o = map (from_register unit o.0 o.1.latency) (range_with_len 1 (o.1.latency - 1))

  -- all of them
  abbrev pub box_registers : List (Register Named Store)
  box_registers = flat_map (λ u. flat_map (op_registers u.0) (left_ops u.0)) (enumerate_from 0 m.units)

  -- ---- the circuit

  -- what modules show, which the circuit is given
  abbrev pub box_inputs : List (Named × ℕ)
  box_inputs = flat_map (λ u. map (λ o. (Boxes (Shows u.0 o.0), 32)) (left_ops u.0)) (enumerate_from 0 m.units)

  -- A circuit of the machine that leaves these operations to modules, made of one that makes all of them.
  abbrev pub boxed : Circuit Named Store → Circuit Named Store
  boxed c = record c { inputs = c.inputs ++ box_inputs; registers = map boxed_register c.registers ++ box_registers }
