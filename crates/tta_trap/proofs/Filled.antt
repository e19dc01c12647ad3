-- Words past the code change nothing in a circuit that tells the first fault.
use Rattle.std.proofs.Common.{◌≡◌, ℕ, zero, suc, ◌+◌, ◌-◌, ◌^◌, Bool, true, false, ◌&&◌, List, [], ◌∷◌, ◌++◌, length, map, refl, ap, ◌∙◌}
use Rattle.std.specs.Prelude.{if◌then◌else◌, slice_index, slice_set}
use Rattle.std.specs.List.{find}
use Rattle.tta_circuit.specs.Circuit.{WritePort}
use Rattle.tta_circuit.specs.Meaning.{bit, is_input, given, settled, clocked}
use Rattle.tta_circuit.proofs.Alike.{settle_same, registered_same, written_same}
use Rattle.tta_arch.specs.Rules.{same_op}
use Rattle.tta_arch.specs.declared.parts.Op.TheVariants.{Stw, Stf}
use Rattle.tta_trap.specs.Cited.{Units, Machine, Circuit, is_set, value, powered, Store, same_signal, same_store, Data, Frame, IsOffered, IsReady, IsReset, Asks, Goes, Puts, PutWord, Hardware, held_at, signals_at, cycles_at, taken_at, put_at, filled, register, register_names}
use Rattle.tta_hardware.specs.Signals.{Signal as Named, Code, Offer}
use Rattle.tta_hardware.specs.Hardware.{store_port}
use Rattle.tta_hardware.proofs.Kept.{filled_reads}
use Rattle.tta_trap.specs.Memory.{watch_register, watch_registers}
use Rattle.tta_trap.specs.Trap.{trap_wire, trap_wires, trap_with}
use Rattle.tta_trap.specs.Images.{TrapRunsAlike, TrapFilledRuns}

-- two circuits hold the same, but for what stands past the code
record SameHeld (h h' : Hardware) : Type 0 where
  words : (n : Named) → h'.words n ≡ h.words n
  code : (k : ℕ) → slice_index (h'.memories Code) k ≡ slice_index (h.memories Code) k
  memory : h'.memories Data ≡ h.memories Data
  frame : h'.memories Frame ≡ h.memories Frame

reads_of : (h h' : Hardware) → SameHeld h h' → (s : Store) (k : ℕ) → slice_index (h'.memories s) k ≡ slice_index (h.memories s) k
reads_of h h' same Code k = same.code k
reads_of h h' same Data k = ap (λ (l : List ℕ). slice_index l k) same.memory
reads_of h h' same Frame k = ap (λ (l : List ℕ). slice_index l k) same.frame

module _ (u : Units) (m : Machine) (count : ℕ) (ws memory : List ℕ) where
  module _ (h h' : Hardware) (same : SameHeld h h') (inputs : Named → ℕ) where
    abbrev env : Named → ℕ
    env = settled same_signal u (trap_with m count ws memory) h inputs

    abbrev env' : Named → ℕ
    env' = settled same_signal u (trap_with m count (filled m ws) memory) h' inputs

    given_alike : (n : Named)
        → given same_signal (trap_with m count (filled m ws) memory) h' inputs n ≡ given same_signal (trap_with m count ws memory) h inputs n
    given_alike n = by (is_input same_signal ((IsOffered, 1) ∷ (Offer, 32) ∷ (IsReady, 1) ∷ (IsReset, 1) ∷ []) n) where
      by : (b : Bool) → (if b then inputs n else h'.words n) ≡ (if b then inputs n else h.words n)
      by true = refl
      by false = same.words n

    lines : (n : Named) → env' n ≡ env n
    lines =
        settle_same u h.memories h'.memories (reads_of h h' same) same_signal (map (trap_wire m count) (trap_wires m))
        (given same_signal (trap_with m count ws memory) h inputs) (given same_signal (trap_with m count (filled m ws) memory) h' inputs)
        given_alike

    -- a port writes the same words into the same
    through : (p : WritePort Named Store) (old old' : List ℕ) → old' ≡ old
        → (if is_set (value u h'.memories env' p.enable)
        then slice_set old' (value u h'.memories env' p.address) (value u h'.memories env' p.word) else old')
        ≡ (if is_set (value u h.memories env p.enable)
        then slice_set old (value u h.memories env p.address) (value u h.memories env p.word) else old)
    through p old old' was =
        written_same u h.memories h'.memories (reads_of h h' same) env env' lines p old'
        ∙ ap (λ (l : List ℕ). if is_set (value u h.memories env p.enable)
        then slice_set l (value u h.memories env p.address) (value u h.memories env p.word) else l) was

    clocked_alike : SameHeld (clocked same_signal same_store u (trap_with m count ws memory) env h)
        (clocked same_signal same_store u (trap_with m count (filled m ws) memory) env' h')
    clocked_alike = record {
      words = λ n. registered_same u h.memories h'.memories (reads_of h h' same) env env' lines same_signal
          (find (λ r. same_signal r.name n) (map (register m) (register_names m) ++ map (watch_register m) (watch_registers m))) (h.words n) (h'.words n) (same.words n);
      code = same.code;
      memory = through (store_port m m.data_words (same_op Stw)) (h.memories Data) (h'.memories Data) same.memory;
      frame = through (store_port m m.frame_words (same_op Stf)) (h.memories Frame) (h'.memories Frame) same.frame;
    }

  powered_alike : (powers : Named → ℕ)
      → SameHeld (powered same_signal same_store (trap_with m count ws memory) powers)
      (powered same_signal same_store (trap_with m count (filled m ws) memory) powers)
  powered_alike powers = record {
    words = λ n. refl;
    code = filled_reads ws (2 ^ m.control.address - length ws);
    memory = refl;
    frame = refl;
  }

  held_alike : (powers : Named → ℕ) (inputs : ℕ → Named → ℕ) (t : ℕ)
      → SameHeld (held_at u (trap_with m count ws memory) powers inputs t) (held_at u (trap_with m count (filled m ws) memory) powers inputs t)
  held_alike powers inputs zero = powered_alike powers
  held_alike powers inputs (suc t) =
      clocked_alike (held_at u (trap_with m count ws memory) powers inputs t) (held_at u (trap_with m count (filled m ws) memory) powers inputs t)
      (held_alike powers inputs t) (inputs t)

module _ (u : Units) (m : Machine) (count : ℕ) (ws memory : List ℕ) (powers : Named → ℕ) (inputs : ℕ → Named → ℕ) where
  abbrev c : Circuit Named Store
  c = trap_with m count ws memory

  abbrev c' : Circuit Named Store
  c' = trap_with m count (filled m ws) memory

  settled_alike : (t : ℕ) (n : Named) → signals_at u c' powers inputs t n ≡ signals_at u c powers inputs t n
  settled_alike t =
      lines u m count ws memory (held_at u c powers inputs t) (held_at u c' powers inputs t)
      (held_alike u m count ws memory powers inputs t) (inputs t)

  cycles_alike : (t : ℕ) → cycles_at u c' powers inputs t ≡ cycles_at u c powers inputs t
  cycles_alike zero = refl
  cycles_alike (suc t) =
      ap (λ n. cycles_at u c' powers inputs t + bit (is_set n)) (settled_alike t Goes)
      ∙ ap (λ (k : ℕ). k + bit (is_set (signals_at u c powers inputs t Goes))) (cycles_alike t)

  taken_alike : (t : ℕ) → taken_at u c' powers inputs t ≡ taken_at u c powers inputs t
  taken_alike zero = refl
  taken_alike (suc t) =
      ap (λ n. taken_at u c' powers inputs t + bit (is_set n && is_set (signals_at u c' powers inputs t Asks))) (settled_alike t Goes)
      ∙ ap (λ n. taken_at u c' powers inputs t + bit (is_set (signals_at u c powers inputs t Goes) && is_set n)) (settled_alike t Asks)
      ∙ ap (λ (k : ℕ). k + bit (is_set (signals_at u c powers inputs t Goes) && is_set (signals_at u c powers inputs t Asks))) (taken_alike t)

  put_alike : (t : ℕ) → put_at u c' powers inputs t ≡ put_at u c powers inputs t
  put_alike zero = refl
  put_alike (suc t) =
      ap (λ n. put_at u c' powers inputs t ++ (if is_set n then signals_at u c' powers inputs t PutWord ∷ [] else [])) (settled_alike t Puts)
      ∙ ap (λ n. put_at u c' powers inputs t ++ (if is_set (signals_at u c powers inputs t Puts) then n ∷ [] else []))
      (settled_alike t PutWord)
      ∙ ap (λ (l : List ℕ). l ++ (if is_set (signals_at u c powers inputs t Puts) then signals_at u c powers inputs t PutWord ∷ [] else []))
      (put_alike t)

  pub runs_alike : (t : ℕ) → TrapRunsAlike u m count ws memory powers inputs t
  runs_alike t =
      let same = held_alike u m count ws memory powers inputs t in
      record {
        settled = settled_alike t;
        held = same.words;
        data_space = same.memory;
        frame_space = same.frame;
        cycles = cycles_alike t;
        taken = taken_alike t;
        put = put_alike t;
      }

pub trap_filled_runs : TrapFilledRuns
trap_filled_runs u m count ws memory powers inputs t = runs_alike u m count ws memory powers inputs t
