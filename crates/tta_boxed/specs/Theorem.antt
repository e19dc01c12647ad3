-- A circuit that leaves operations to modules runs as the circuit that makes them itself.
use Rattle.std.specs.Prelude.{◌≡◌, ℕ, ◌-◌, ◌==◌, Bool, true, false, if◌then◌else◌, List, Some}
use Rattle.tta_boxed.specs.Cited.{Units, Circuit, Set, UnitOp, Machine, IsMachine, op_at, Serves, is_set, Store, IsReset, Operand, Trigger, Goes, Due, Shows, Boxes, Hardware, held_after, signals_after, cycles_after, taken_after, put_after, circuit_of, trap_circuit}
use Rattle.tta_code.specs.declared.code.Code.{Code as Program}
use Rattle.tta_hardware.specs.Signals.{Signal as Named}
use Rattle.tta_boxed.specs.Boxed.{is_left, boxed}

-- the circuit of a machine with its code that makes all operations itself, whether or not it tells the first fault
abbrev pub whole : (faults : Bool) → Machine → Program → (memory : List ℕ) → Circuit Named Store
whole true m code memory = trap_circuit m code memory
whole false m code memory = circuit_of m code memory

-- the words that the module of an operation of a unit is given: an operation of one word is given 0 in the place of the first
abbrev pub given_to : (unit : ℕ) → UnitOp → (env : Named → ℕ) → ℕ × ℕ
given_to unit o env = (if o.arity == 2 then env (Operand unit) else 0, env (Trigger unit))

-- Each module shows what it owes: it is enabled at the clocks that carry an instruction out, and has a stage less than its operation
-- takes cycles.
abbrev pub AreServed : Units → Machine → (leaves : ℕ → Bool) → Circuit Named Store → Hardware → (inputs : ℕ → Named → ℕ) → Type 0
AreServed u m leaves c h inputs =
    (unit op id : ℕ) (o : UnitOp) → op_at m unit op ≡ Some o → is_left m leaves o ≡ true → o.op ≡ Set (record { 0 = id })
    → Serves (u.value id) (o.latency - 1) (λ t. given_to unit o (signals_after u c h inputs t))
    (λ t. is_set (signals_after u c h inputs t Goes)) (λ t. inputs t (Boxes (Shows unit op)))

-- whether a signal is a result that is under way, or what only a circuit has that leaves operations to modules
abbrev pub is_beside : Named → Bool
is_beside (Due unit delay) = true
is_beside (Boxes b) = true
is_beside n = false

-- Two circuits that held the same hold the same after so many clocks, and have the same words, but for results under way; they have made
-- as many cycles, have taken as many words, and have put out the same.
pub record RunAlike (u : Units) (c d : Circuit Named Store) (h : Hardware) (inputs : ℕ → Named → ℕ) (t : ℕ) : Type 0 where
  pub words : (n : Named) → is_beside n ≡ false → (held_after u c h inputs t).words n ≡ (held_after u d h inputs t).words n
  pub memories : (s : Store) → (held_after u c h inputs t).memories s ≡ (held_after u d h inputs t).memories s
  pub signals : (n : Named) → is_beside n ≡ false → signals_after u c h inputs t n ≡ signals_after u d h inputs t n
  pub cycles : cycles_after u c h inputs t ≡ cycles_after u d h inputs t
  pub taken : taken_after u c h inputs t ≡ taken_after u d h inputs t
  pub put : put_after u c h inputs t ≡ put_after u d h inputs t

-- From a clock that begins anew on, whatever it held before, a circuit that leaves operations to modules does at every clock what the
-- circuit does that makes them itself, as long as the modules show what they owe. Nothing is asked of the code.
abbrev pub BoxedRuns : Type 0
BoxedRuns =
    (u : Units) (m : Machine) (leaves : ℕ → Bool) (faults : Bool) (code : Program) (memory : List ℕ) (h : Hardware)
    (inputs : ℕ → Named → ℕ) → IsMachine m → is_set (inputs 0 IsReset) ≡ true
    → AreServed u m leaves (boxed m leaves (whole faults m code memory)) h inputs → (t : ℕ)
    → RunAlike u (boxed m leaves (whole faults m code memory)) (whole faults m code memory) h inputs t
