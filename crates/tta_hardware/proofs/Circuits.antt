-- A circuit's own meaning gives what the laws of one clock ask for.
use Rattle.std.proofs.Common.{◌≡◌, ℕ, ◌<◌, ◌≤◌, Bool, true, false, not, ◌&&◌, ◌||◌, List, [], ◌∷◌, length, map, Some, refl, sym, ap, ◌∙◌, arith}
use Rattle.std.specs.Prelude.{if◌then◌else◌, slice_set, slice_index}
use Rattle.std.specs.List.{find, list_any}
use Rattle.std.proofs.lemmas.Bool.{false≢true, not-true, and_parts, or_left}
use Rattle.tta_hardware.specs.Cited.{Units, Stw, Stf, Machine, same_op, bit, is_set, value, given, settled, registered, clocked, Either, Solves}
use Rattle.tta_code.specs.declared.code.Code.{Code as Program}
use Rattle.tta_circuit.specs.Circuit.{Signal as OfSignal}
use Rattle.tta_circuit.proofs.Settling.{settled_solves}
use Rattle.tta_hardware.specs.Signals.{Store, Code, Data, Frame, Signal as Named, Pc, IsOffered, IsReady, HasHalted, Underway, Goal, Ends, Keeps, IsDue, Due, HasBegun, Raw, IsInside, Port, IsReset, Whole, Fetched, Word, Acts, Starts, Trigger, Operand, Controls, GoalNow, EndsNow, Lands, Asks, Gives, Goes, NextPc, Puts, PutWord, same_signal, same_store}
use Rattle.tta_hardware.specs.Wires.{made_of, longest}
use Rattle.tta_hardware.specs.Registers.{register, restarts, becomes, enabled, next_of}
use Rattle.tta_hardware.specs.Hardware.{wire_names, register_names, wire, store_port, circuit_of}
use Rattle.tta_hardware.specs.Order.{rank}
use Rattle.tta_hardware.specs.Stands.{Hardware, IsSettled, HasClocked}
use Rattle.tta_hardware.specs.Laws.{HasStored}
use Rattle.tta_hardware.proofs.Chained.{set_bit, going}
use Rattle.tta_hardware.proofs.Named.{tells, signal_is, signal_itself}
use Rattle.tta_hardware.proofs.Ordered.{in_order, made_by}
use Rattle.tta_hardware.proofs.Members.{alone_there, underway_there, is_due_there, due_there, load_there, port_there, place_there, last_there, bus_there, starts_there, trigger_there, operand_there, fetched_there}

-- ---- found by name

-- a wire that there is has its word
solved_at : (u : Units) (m : Machine) (ms : Store → List ℕ) (env : Named → ℕ) (ns : List Named) → Solves u ms env (map (wire m) ns)
    → (n : Named)
    → list_any (same_signal n) ns ≡ true → env n ≡ value u ms env (made_of m n)
solved_at u m ms env [] all n any = absurd (false≢true any)
solved_at u m ms env (k ∷ ns) all n any = by (same_signal n k) refl any (solved_at u m ms env ns all.1 n) where
  by : (b : Bool) → same_signal n k ≡ b → (b || list_any (same_signal n) ns) ≡ true
      → (list_any (same_signal n) ns ≡ true → env n ≡ value u ms env (made_of m n))
      → env n ≡ value u ms env (made_of m n)
  by true is any rest = let same = signal_is n k is in ap env same ∙ all.0 ∙ ap (λ x. value u ms env (made_of m x)) (sym same)
  by false is any rest = rest any

-- a register that there is is found
register_at : (m : Machine) (ns : List Named) (n : Named) → list_any (same_signal n) ns ≡ true
    → find (λ r. same_signal r.name n) (map (register m) ns) ≡ Some (register m n)
register_at m [] n any = absurd (false≢true any)
register_at m (k ∷ ns) n any = by (same_signal k n) refl (same_signal n k) refl any (register_at m ns n) where
  by : (b : Bool) → same_signal k n ≡ b → (c : Bool) → same_signal n k ≡ c → (c || list_any (same_signal n) ns) ≡ true
      → (list_any (same_signal n) ns ≡ true → find (λ r. same_signal r.name n) (map (register m) ns) ≡ Some (register m n))
      → (if b then Some (register m k) else find (λ r. same_signal r.name n) (map (register m) ns)) ≡ Some (register m n)
  by true is c is' any rest = ap (λ x. Some (register m x)) (signal_is k n is)
  by false is true is' any rest = absurd (false≢true (sym is ∙ ap (λ x. same_signal x n) (sym (signal_is n k is')) ∙ signal_itself n))
  by false is false is' any rest = rest any

-- ---- settled

module _ (u : Units) (m : Machine) (code : Program) (memory : List ℕ) (h : Hardware) (inputs : Named → ℕ) where
  abbrev pub env : Named → ℕ
  env = settled same_signal u (circuit_of m code memory) h inputs

  solves : Solves u h.memories env (map (wire m) (wire_names m))
      × ((n : Named) → rank n < 1 → env n ≡ given same_signal (circuit_of m code memory) h inputs n)
  solves =
      settled_solves Named Store same_signal tells rank u h.memories (given same_signal (circuit_of m code memory) h inputs) (made_of m) 1
      (map (wire m) (wire_names m))
      (in_order m) (made_by m (wire_names m))

  at : (n : Named) → list_any (same_signal n) (wire_names m) ≡ true → env n ≡ value u h.memories env (made_of m n)
  at n any = solved_at u m h.memories env (wire_names m) solves.0 n any

  pub is_settled : IsSettled u m h env
  is_settled = record {
    places = λ p. solves.1 (Keeps p) (omega arith);
    is_due = λ unit delay. solves.1 (IsDue unit delay) (omega arith);
    due = λ unit delay. solves.1 (Due unit delay) (omega arith);
    has_begun = λ unit op. solves.1 (HasBegun unit op) (omega arith);
    raw = λ unit op. solves.1 (Raw unit op) (omega arith);
    inside = λ unit op. solves.1 (IsInside unit op) (omega arith);
    port = λ unit less. at (Port unit) (port_there m unit less);
    pc = solves.1 Pc (omega arith);
    halted = solves.1 HasHalted (omega arith);
    goal = solves.1 Goal (omega arith);
    ends = solves.1 Ends (omega arith);
    underway = λ delay. solves.1 (Underway delay) (omega arith);
    whole = solves.1 Whole (omega arith);
    fetched = λ f has. at (Fetched f) (fetched_there m f has);
    acts = λ bus less. at (Acts bus)
        (bus_there m bus less (Acts bus) (ap (λ b. b || list_any (same_signal (Acts bus)) (Word bus ∷ [])) (signal_itself (Acts bus))));
    word = λ bus less. at (Word bus) (bus_there m bus less (Word bus) (ap (λ b. b || false) (signal_itself (Word bus))));
    starts = λ unit op some. at (Starts unit op) (starts_there m unit op some);
    trigger = λ unit less. at (Trigger unit) (trigger_there m unit less);
    operand = λ unit less. at (Operand unit) (operand_there m unit less);
    controls = at Controls (last_there m Controls refl);
    goal_now = at GoalNow (last_there m GoalNow refl);
    ends_now = at EndsNow (last_there m EndsNow refl);
    lands = at Lands (last_there m Lands refl);
    asks = at Asks (last_there m Asks refl);
    gives = at Gives (last_there m Gives refl);
    goes = at Goes (last_there m Goes refl);
    next_pc = at NextPc (last_there m NextPc refl);
    puts = at Puts (last_there m Puts refl);
    put_word = at PutWord (last_there m PutWord refl);
  }

  -- an input has the word that is handed in
  pub reset_is : env IsReset ≡ inputs IsReset
  reset_is = solves.1 IsReset (omega arith)

  -- ---- clocked

  abbrev pub after : Hardware
  after = clocked same_signal same_store u (circuit_of m code memory) env h

  -- whether a register takes a word
  takes : (n : Named) → is_set (value u h.memories env (enabled n))
      ≡ (if restarts n then is_set (env IsReset) || is_set (env Goes) else is_set (env Goes))
  takes n = by (restarts n) where
    by : (b : Bool) → is_set (value u h.memories env (if b then Either (OfSignal IsReset) (OfSignal Goes) else OfSignal Goes))
        ≡ (if b then is_set (env IsReset) || is_set (env Goes) else is_set (env Goes))
    by true = set_bit (is_set (env IsReset) || is_set (env Goes))
    by false = refl

  becomes_it : (n : Named) → list_any (same_signal n) (register_names m) ≡ true → is_set (value u h.memories env (enabled n)) ≡ true
      → after.words n ≡ value u h.memories env (becomes m n)
  becomes_it n any on =
      ap (λ r. registered same_signal u h.memories env r (h.words n)) (register_at m (register_names m) n any)
      ∙ ap (λ b. if b then value u h.memories env (becomes m n) else h.words n) on

  goes_is : is_set (env Goes) ≡ (not (is_set (env IsReset)) && (not (is_set (env HasHalted))
      && ((not (is_set (env Asks)) || is_set (env IsOffered)) && (not (is_set (env Gives)) || is_set (env IsReady)))))
  goes_is =
      ap is_set is_settled.goes
      ∙ going (is_set (env IsReset)) (is_set (env HasHalted)) (is_set (env Asks)) (is_set (env IsOffered)) (is_set (env Gives))
      (is_set (env IsReady))

  module _ (goes : is_set (env Goes) ≡ true) where
    on : is_set (env IsReset) ≡ false
    on =
        not-true (is_set (env IsReset)) (and_parts (not (is_set (env IsReset))) (not (is_set (env HasHalted))
        && ((not (is_set (env Asks)) || is_set (env IsOffered)) && (not (is_set (env Gives)) || is_set (env IsReady))))
        (sym goes_is ∙ goes)).0

    taken : (n : Named) → is_set (value u h.memories env (enabled n)) ≡ true
    taken n = takes n ∙ ap (λ b. if restarts n then b || is_set (env Goes) else is_set (env Goes)) on
        ∙ ap (λ b. if restarts n then b else b) goes ∙ either (restarts n) where
          either : (b : Bool) → (if b then true else true) ≡ true
          either true = refl
          either false = refl

    next : (n : Named) → list_any (same_signal n) (register_names m) ≡ true → after.words n ≡ value u h.memories env (becomes m n)
    next n any = becomes_it n any (taken n)

    -- what is no beginning anew
    unset : (w : ℕ) → (if is_set (env IsReset) then 0 else w) ≡ w
    unset w = ap (λ b. if b then 0 else w) on

    at_pc : after.words Pc ≡ env NextPc
    at_pc = next Pc (alone_there m Pc refl)

    pub has_clocked : HasClocked u m h env after.words
    has_clocked = record {
      places = λ p has. next (Keeps p) (place_there m p has);
      is_due = λ unit delay less some soon. next (IsDue unit delay) (is_due_there m unit delay less some soon)
          ∙ unset (value u h.memories env (next_of m (IsDue unit delay)));
      due = λ unit delay less some soon. next (Due unit delay) (due_there m unit delay less some soon);
      begun = λ unit op o here load. next (HasBegun unit op)
          (load_there m unit op o here load (HasBegun unit op)
          (or_left (same_signal (HasBegun unit op) (HasBegun unit op)) false (signal_itself (HasBegun unit op))));
      raw = λ unit op o here load. next (Raw unit op)
          (load_there m unit op o here load (Raw unit op)
          (or_left (same_signal (Raw unit op) (Raw unit op)) false (signal_itself (Raw unit op))));
      inside = λ unit op o here load. next (IsInside unit op)
          (load_there m unit op o here load (IsInside unit op)
          (or_left (same_signal (IsInside unit op) (IsInside unit op)) false (signal_itself (IsInside unit op))));
      pc = at_pc ∙ is_settled.next_pc ∙ unset (value u h.memories env (next_of m Pc));
      whole = next Whole (alone_there m Whole refl) ∙ ap (slice_index (h.memories Code)) (sym at_pc);
      halted = next HasHalted (alone_there m HasHalted refl) ∙ unset (value u h.memories env (next_of m HasHalted));
      goal = next Goal (alone_there m Goal refl);
      ends = next Ends (alone_there m Ends refl);
      underway = λ delay some most. next (Underway delay) (underway_there m delay some most)
          ∙ unset (value u h.memories env (next_of m (Underway delay)));
    }

  -- ---- stored

  pub has_stored : HasStored u m h env after.memories
  has_stored = record {
    memory = refl;
    frame = refl;
    rom = refl;
  }

  -- code is never written
  pub rom_stays : after.memories Code ≡ h.memories Code
  rom_stays = has_stored.rom

  -- ---- a clock that carries nothing out

  module _ (stops : is_set (env Goes) ≡ false) where
    off : (b : Bool) → is_set (bit (is_set (env Goes) && b)) ≡ false
    off b = set_bit (is_set (env Goes) && b) ∙ ap (λ x. x && b) stops

    stay : is_set (env IsReset) ≡ false → (ns : List Named) (n : Named) (old : ℕ)
        → registered same_signal u h.memories env (find (λ r. same_signal r.name n) (map (register m) ns)) old ≡ old
    stay quiet [] n old = refl
    stay quiet (k ∷ ns) n old = by (same_signal k n) (stay quiet ns n old) where
      idle : is_set (value u h.memories env (enabled k)) ≡ false
      idle = takes k ∙ ap (λ b. if restarts k then b || is_set (env Goes) else is_set (env Goes)) quiet
          ∙ ap (λ b. if restarts k then b else b) stops ∙ either (restarts k) where
            either : (b : Bool) → (if b then false else false) ≡ false
            either true = refl
            either false = refl

      by : (b : Bool) → registered same_signal u h.memories env (find (λ r. same_signal r.name n) (map (register m) ns)) old ≡ old
          → registered same_signal u h.memories env
          (if b then Some (register m k) else find (λ r. same_signal r.name n) (map (register m) ns)) old ≡ old
      by true rest = ap (λ b. if b then value u h.memories env (becomes m k) else old) idle
      by false rest = rest

    pub words_stay : is_set (env IsReset) ≡ false → (n : Named) → after.words n ≡ h.words n
    words_stay quiet n = stay quiet (register_names m) n (h.words n)

    pub data_stays : after.memories Data ≡ h.memories Data
    data_stays = has_stored.memory
        ∙ ap (λ b. if b then slice_set (h.memories Data) (value u h.memories env (store_port m m.data_words (same_op Stw)).address)
        (value u h.memories env (store_port m m.data_words (same_op Stw)).word) else h.memories Data) (off _)

    pub frame_stays : after.memories Frame ≡ h.memories Frame
    frame_stays = has_stored.frame
        ∙ ap (λ b. if b then slice_set (h.memories Frame) (value u h.memories env (store_port m m.frame_words (same_op Stf)).address)
        (value u h.memories env (store_port m m.frame_words (same_op Stf)).word) else h.memories Frame) (off _)

  -- ---- a clock that begins anew

  module _ (reset : is_set (env IsReset) ≡ true) where
    pub goes_not : is_set (env Goes) ≡ false
    goes_not = goes_is ∙ ap (λ b. not b && (not (is_set (env HasHalted))
        && ((not (is_set (env Asks)) || is_set (env IsOffered)) && (not (is_set (env Gives)) || is_set (env IsReady))))) reset

    set : (n : Named) → list_any (same_signal n) (register_names m) ≡ true → restarts n ≡ true
        → after.words n ≡ value u h.memories env (becomes m n)
    set n any is = becomes_it n any (takes n ∙ ap (λ b. if b then is_set (env IsReset) || is_set (env Goes) else is_set (env Goes)) is
        ∙ ap (λ b. b || is_set (env Goes)) reset)

    -- what begins with 0
    zero_word : (w : ℕ) → (if is_set (env IsReset) then 0 else w) ≡ 0
    zero_word w = ap (λ b. if b then 0 else w) reset

    pub pc_begins : after.words Pc ≡ 0
    pc_begins = set Pc (alone_there m Pc refl) refl ∙ is_settled.next_pc ∙ zero_word (value u h.memories env (next_of m Pc))

    pub whole_begins : after.words Whole ≡ slice_index (h.memories Code) (after.words Pc)
    whole_begins = set Whole (alone_there m Whole refl) refl
        ∙ ap (slice_index (h.memories Code)) (sym (set Pc (alone_there m Pc refl) refl))

    pub halted_begins : after.words HasHalted ≡ 0
    halted_begins = set HasHalted (alone_there m HasHalted refl) refl ∙ zero_word (value u h.memories env (next_of m HasHalted))

    pub underway_begins : (delay : ℕ) → 0 < delay → delay ≤ m.control.delay → after.words (Underway delay) ≡ 0
    underway_begins delay some most = set (Underway delay) (underway_there m delay some most) refl
        ∙ zero_word (value u h.memories env (next_of m (Underway delay)))

    pub is_due_begins : (unit delay : ℕ) → unit < length m.units → 0 < delay → delay < longest m unit → after.words (IsDue unit delay) ≡ 0
    is_due_begins unit delay less some soon =
        set (IsDue unit delay) (is_due_there m unit delay less some soon) refl
        ∙ zero_word (value u h.memories env (next_of m (IsDue unit delay)))
