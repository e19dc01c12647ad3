-- What a circuit settles to that tells the first fault, and what one without a watch would.
use Rattle.std.proofs.Common.{◌≡◌, ℕ, ◌<◌, ◌≤◌, ◌==◌, Bool, true, false, not, ◌&&◌, ◌||◌, List, [], ◌∷◌, length, map, refl, sym, ap, ◌∙◌, arith}
use Rattle.std.specs.Prelude.{if◌then◌else◌, nat_lt}
use Rattle.std.specs.List.{list_any}
use Rattle.std.proofs.lemmas.Bool.{and_parts, or_left, false≢true, lt-ltb, ltb-true}
use Rattle.tta_circuit.specs.Order.{reads_below}
use Rattle.tta_circuit.specs.Laws.{Solves}
use Rattle.tta_circuit.specs.Meaning.{bit, given, settled}
use Rattle.tta_circuit.proofs.Settling.{settled_solves, value_alike}
use Rattle.tta_arch.specs.Rules.{same_op}
use Rattle.tta_arch.specs.declared.parts.Op.TheVariants.{Out}
use Rattle.tta_trap.specs.Cited.{Units, Machine, IsMachine, Circuit, is_set, value, Store, same_signal, Pc, HasHalted, Underway, IsReset, Fetched, Acts, Starts, Controls, GoalNow, EndsNow, Lands, Asks, Gives, Goes, NextPc, Puts, PutWord, HasWord, IsPast, LacksRegister, LacksPort, LacksOperand, Clashes, FaultNow, Watches, Expression, first_of, rank, made_of, Hardware, IsSettled}
use Rattle.tta_code.specs.declared.code.Code.{Code as Program}
use Rattle.tta_hardware.specs.Signals.{Signal as Named, Goal, Ends, Keeps, IsDue, Due, HasBegun, Raw, IsInside, Port, Whole, Word, Trigger, Operand}
use Rattle.tta_circuit.specs.Circuit.{Signal as OfSignal}
use Rattle.tta_hardware.specs.Wires.{nothing, all_ops}
use Rattle.tta_hardware.specs.Hardware.{wire_names}
use Rattle.tta_hardware.proofs.Chained.{set_bit}
use Rattle.tta_hardware.proofs.Named.{tells, signal_is, signal_itself}
use Rattle.tta_hardware.proofs.Members.{last_there, bus_there, port_there, starts_there, trigger_there, operand_there, fetched_there}
use Rattle.tta_hardware.proofs.There.{is_there}
use Rattle.tta_trap.specs.Trap.{trap_made, trap_wire, trap_wires, trap_circuit}
use Rattle.tta_trap.specs.Tells.{IsWatched}
use Rattle.tta_trap.specs.Sized.{trap_rank}
use Rattle.tta_trap.proofs.Meets.{meets}
use Rattle.tta_trap.proofs.Present.{trap_there, still_there, may, passes}
use Rattle.tta_trap.proofs.MemoryReads.{wire_reads}
use Rattle.tta_trap.proofs.Listed.{plain_in, bus_watch_in, unit_watch_in, fault_in, in_order, made_by}

-- ---- found by name

-- a wire that there is has its word
solved_at : (u : Units) (m : Machine) (count : ℕ) (ms : Store → List ℕ) (env : Named → ℕ) (ns : List Named)
    → Solves u ms env (map (trap_wire m count) ns) → (n : Named) → list_any (same_signal n) ns ≡ true
    → env n ≡ value u ms env (trap_made m count n)
solved_at u m count ms env [] all n any = absurd (false≢true any)
solved_at u m count ms env (k ∷ ns) all n any = by (same_signal n k) refl any (solved_at u m count ms env ns all.1 n) where
  by : (b : Bool) → same_signal n k ≡ b → (b || list_any (same_signal n) ns) ≡ true
      → (list_any (same_signal n) ns ≡ true → env n ≡ value u ms env (trap_made m count n))
      → env n ≡ value u ms env (trap_made m count n)
  by true is any rest = let same = signal_is n k is in ap env same ∙ all.0 ∙ ap (λ x. value u ms env (trap_made m count x)) (sym same)
  by false is any rest = rest any

-- a wire of a machine is among its wires
wire_in : (m : Machine) (n : Named) → nat_lt 0 (rank n) ≡ true → is_there m n ≡ true → list_any (same_signal n) (wire_names m) ≡ true
wire_in m (Port unit) some is = port_there m unit (ltb-true unit (length m.units) is)
wire_in m (Fetched f) some is = fetched_there m f is
wire_in m (Acts bus) some is =
    bus_there m bus (ltb-true bus (length m.buses) is) (Acts bus)
    (or_left (same_signal (Acts bus) (Acts bus)) (list_any (same_signal (Acts bus)) (Word bus ∷ [])) (signal_itself (Acts bus)))
wire_in m (Word bus) some is =
    bus_there m bus (ltb-true bus (length m.buses) is) (Word bus)
    (or_left (same_signal (Word bus) (Word bus)) false (signal_itself (Word bus)))
wire_in m (Starts unit op) some is = starts_there m unit op is
wire_in m (Trigger unit) some is = trigger_there m unit (ltb-true unit (length m.units) is)
wire_in m (Operand unit) some is = operand_there m unit (ltb-true unit (length m.units) is)
wire_in m Controls some is = last_there m Controls refl
wire_in m GoalNow some is = last_there m GoalNow refl
wire_in m EndsNow some is = last_there m EndsNow refl
wire_in m Lands some is = last_there m Lands refl
wire_in m Asks some is = last_there m Asks refl
wire_in m Gives some is = last_there m Gives refl
wire_in m Goes some is = last_there m Goes refl
wire_in m NextPc some is = last_there m NextPc refl
wire_in m Puts some is = last_there m Puts refl
wire_in m PutWord some is = last_there m PutWord refl
wire_in m n some is = absurd (false≢true some)

module _ (u : Units) (m : Machine) (rules : IsMachine m) (code : Program) (memory : List ℕ) (h : Hardware) (inputs : Named → ℕ) where
  abbrev pub circuit : Circuit Named Store
  circuit = trap_circuit m code memory

  abbrev count : ℕ
  count = length code.words

  -- the words of its signals
  abbrev pub env : Named → ℕ
  env = settled same_signal u circuit h inputs

  solves : Solves u h.memories env (map (trap_wire m count) (trap_wires m))
      × ((n : Named) → trap_rank n < 1 → env n ≡ given same_signal circuit h inputs n)
  solves =
      settled_solves Named Store same_signal tells trap_rank u h.memories (given same_signal circuit h inputs) (trap_made m count) 1
      (map (trap_wire m count) (trap_wires m)) (in_order m rules count) (made_by m rules count (trap_wires m))

  pub at : (n : Named) → list_any (same_signal n) (trap_wires m) ≡ true → env n ≡ value u h.memories env (trap_made m count n)
  at n any = solved_at u m count h.memories env (trap_wires m) solves.0 n any

  -- an input has the word that is handed in
  pub reset_is : env IsReset ≡ inputs IsReset
  reset_is = solves.1 IsReset (omega arith)

  -- words of signals of which registers have what is held, and wires the words of their expressions
  module _ (words : Named → ℕ) (held : (n : Named) → trap_rank n < 1 → words n ≡ given same_signal circuit h inputs n)
      (made : (n : Named) → nat_lt 0 (rank n) ≡ true → is_there m n ≡ true → words n ≡ value u h.memories words (made_of m n)) where
    settles : IsSettled u m h words
    settles = record {
      places = λ p. held (Keeps p) (omega arith);
      is_due = λ unit delay. held (IsDue unit delay) (omega arith);
      due = λ unit delay. held (Due unit delay) (omega arith);
      has_begun = λ unit op. held (HasBegun unit op) (omega arith);
      raw = λ unit op. held (Raw unit op) (omega arith);
      inside = λ unit op. held (IsInside unit op) (omega arith);
      pc = held Pc (omega arith);
      halted = held HasHalted (omega arith);
      goal = held Goal (omega arith);
      ends = held Ends (omega arith);
      underway = λ delay. held (Underway delay) (omega arith);
      whole = held Whole (omega arith);
      port = λ unit less. made (Port unit) refl (lt-ltb unit (length m.units) less);
      fetched = λ f has. made (Fetched f) refl has;
      acts = λ bus less. made (Acts bus) refl (lt-ltb bus (length m.buses) less);
      word = λ bus less. made (Word bus) refl (lt-ltb bus (length m.buses) less);
      starts = λ unit op some. made (Starts unit op) refl some;
      trigger = λ unit less. made (Trigger unit) refl (lt-ltb unit (length m.units) less);
      operand = λ unit less. made (Operand unit) refl (lt-ltb unit (length m.units) less);
      controls = made Controls refl refl;
      goal_now = made GoalNow refl refl;
      ends_now = made EndsNow refl refl;
      lands = made Lands refl refl;
      asks = made Asks refl refl;
      gives = made Gives refl refl;
      goes = made Goes refl refl;
      next_pc = made NextPc refl refl;
      puts = made Puts refl refl;
      put_word = made PutWord refl refl;
    }

  -- ---- what a watch says

  pub is_watched : IsWatched u m (length code.words) h env
  is_watched = record {
    has_word = λ p. solves.1 (Watches (HasWord p)) (omega arith);
    past = solves.1 (Watches IsPast) (omega arith);
    lacks_register = λ bus less. let n = Watches (LacksRegister bus) in
        at n (bus_watch_in m bus less (same_signal n)
        (or_left (same_signal n n) (list_any (same_signal n) (Watches (LacksPort bus) ∷ [])) (signal_itself n)));
    lacks_port = λ bus less. let n = Watches (LacksPort bus) in
        at n (bus_watch_in m bus less (same_signal n) (or_left (same_signal n n) false (signal_itself n)));
    lacks_operand = λ unit less. let n = Watches (LacksOperand unit) in
        at n (unit_watch_in m unit less (same_signal n)
        (or_left (same_signal n n) (list_any (same_signal n) (Watches (Clashes unit) ∷ [])) (signal_itself n)));
    clashes = λ unit less. let n = Watches (Clashes unit) in
        at n (unit_watch_in m unit less (same_signal n) (or_left (same_signal n n) false (signal_itself n)));
    fault = at (Watches FaultNow) (fault_in m (same_signal (Watches FaultNow)) refl);
  }

  -- ---- what would go on without a watch

  -- the words of signals where nothing stops at faults
  abbrev pub free : Named → ℕ
  free Goes = value u h.memories env (made_of m Goes)
  free Puts = bit (is_set (value u h.memories env (made_of m Goes)) && is_set (env Gives))
  free n = env n

  agree : (n : Named) → trap_rank n < 7 → free n ≡ env n
  agree Goes less = absurd (omega (arith, less))
  agree Puts less = absurd (omega (arith, less))
  agree n less = refl

  -- what stands before whether a clock carries an instruction out is the same
  same_before : (e : Expression) → reads_below trap_rank 7 e ≡ true → value u h.memories free e ≡ value u h.memories env e
  same_before e less = value_alike trap_rank u h.memories free env 7 agree e less

  reads_before : (n : Named) → trap_there m n ≡ true → trap_rank n ≤ 7 → reads_below trap_rank 7 (trap_made m count n) ≡ true
  reads_before n is most =
      meets (λ k. if may m (trap_rank n) k then 0 else 1) (λ k. if may m (trap_rank n) k then 0 else 1) trap_rank 1 1 7 each
      (trap_made m count n) (wire_reads m rules count n is) (wire_reads m rules count n is)
    where
      each : (k : Named) → (if may m (trap_rank n) k then 0 else 1) < 1 → (if may m (trap_rank n) k then 0 else 1) < 1 → trap_rank k < 7
      each k a b =
          let p = and_parts (trap_there m k) (nat_lt (trap_rank k) (trap_rank n)) (passes (may m (trap_rank n) k) a) in
          let less = ltb-true (trap_rank k) (trap_rank n) p.1 in omega (arith, less, most)

  same_made : (n : Named) → trap_there m n ≡ true → trap_rank n ≤ 7
      → value u h.memories free (trap_made m count n) ≡ value u h.memories env (trap_made m count n)
  same_made n is most = same_before (trap_made m count n) (reads_before n is most)

  same_put : (os : List (ℕ × ℕ))
      → value u h.memories free (first_of (map (λ o. (OfSignal (Starts o.0 o.1), OfSignal (Trigger o.0))) os) nothing)
      ≡ value u h.memories env (first_of (map (λ o. (OfSignal (Starts o.0 o.1), OfSignal (Trigger o.0))) os) nothing)
  same_put [] = refl
  same_put (o ∷ os) = ap (λ w. if is_set (env (Starts o.0 o.1)) then env (Trigger o.0) else w) (same_put os)

  free_held : (n : Named) → trap_rank n < 1 → free n ≡ given same_signal circuit h inputs n
  free_held Goes less = absurd (omega (arith, less))
  free_held Puts less = absurd (omega (arith, less))
  free_held n less = solves.1 n less

  free_made : (n : Named) → nat_lt 0 (rank n) ≡ true → is_there m n ≡ true → free n ≡ value u h.memories free (made_of m n)
  free_made (Watches w) some is = absurd (false≢true is)
  free_made Goes some is = sym (same_before (made_of m Goes) refl)
  free_made Puts some is = refl
  free_made PutWord some is =
      at PutWord (plain_in m (same_signal PutWord) (wire_in m PutWord refl refl)) ∙ sym (same_put (all_ops m (same_op Out)))
  free_made n some is =
      at n (plain_in m (same_signal n) (wire_in m n some is)) ∙ sym (same_made n (still_there m n is) (omega arith))

  pub free_settled : IsSettled u m h free
  free_settled = settles free free_held free_made

  pub free_watched : IsWatched u m (length code.words) h free
  free_watched = record {
    has_word = is_watched.has_word;
    past = is_watched.past;
    lacks_register = λ bus less. is_watched.lacks_register bus less
        ∙ sym (same_made (Watches (LacksRegister bus)) (lt-ltb bus (length m.buses) less) (omega arith));
    lacks_port = λ bus less. is_watched.lacks_port bus less
        ∙ sym (same_made (Watches (LacksPort bus)) (lt-ltb bus (length m.buses) less) (omega arith));
    lacks_operand = λ unit less. is_watched.lacks_operand unit less
        ∙ sym (same_made (Watches (LacksOperand unit)) (lt-ltb unit (length m.units) less) (omega arith));
    clashes = λ unit less. is_watched.clashes unit less
        ∙ sym (same_made (Watches (Clashes unit)) (lt-ltb unit (length m.units) less) (omega arith));
    fault = is_watched.fault ∙ sym (same_made (Watches FaultNow) refl (omega arith));
  }

  -- ---- whether a clock carries an instruction out

  at_goes : env Goes ≡ value u h.memories env (trap_made m count Goes)
  at_goes = at Goes (plain_in m (same_signal Goes) (wire_in m Goes refl refl))

  pub at_puts : env Puts ≡ bit (is_set (env Goes) && is_set (env Gives))
  at_puts = at Puts (plain_in m (same_signal Puts) (wire_in m Puts refl refl))

  pub next_pc_is : env NextPc ≡ value u h.memories env (made_of m NextPc)
  next_pc_is = at NextPc (plain_in m (same_signal NextPc) (wire_in m NextPc refl refl))

  gated : (n : ℕ) (b : Bool) → is_set (bit (is_set (bit (n == 0)) && b)) ≡ (not (is_set n) && b)
  gated n b = by (n == 0) where
    by : (c : Bool) → is_set (bit (is_set (bit c) && b)) ≡ (not (not c) && b)
    by true = set_bit b
    by false = refl

  -- it does where no fault is told, and one without a watch would
  pub goes_is : is_set (env Goes) ≡ (not (is_set (env (Watches FaultNow))) && is_set (free Goes))
  goes_is = ap is_set at_goes ∙ gated (env (Watches FaultNow)) (is_set (free Goes))

  module _ (fine : is_set (env (Watches FaultNow)) ≡ false) where
    -- the word is that of a test
    again : (n : ℕ) (b : Bool) → is_set n ≡ false → bit (is_set (bit (n == 0)) && is_set (bit b)) ≡ bit b
    again n b is = by (n == 0) b is where
      by : (c b : Bool) → not c ≡ false → bit (is_set (bit c) && is_set (bit b)) ≡ bit b
      by true true is = refl
      by true false is = refl
      by false b is = absurd (false≢true (sym is))

    same_goes : env Goes ≡ free Goes
    same_goes = at_goes ∙ again (env (Watches FaultNow)) _ fine

    env_made : (n : Named) → nat_lt 0 (rank n) ≡ true → is_there m n ≡ true → env n ≡ value u h.memories env (made_of m n)
    env_made (Watches w) some is = absurd (false≢true is)
    env_made Goes some is = same_goes
    env_made n some is = at n (plain_in m (same_signal n) (wire_in m n some is))

    -- where no fault is told, it is as without a watch
    pub is_settled : IsSettled u m h env
    is_settled = settles env (λ n less. solves.1 n less) env_made
