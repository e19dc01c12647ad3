-- Words past the code change nothing.
use Rattle.std.proofs.Common.{◌≡◌, ℕ, zero, suc, ◌-◌, ◌^◌, Bool, true, false, List, [], ◌∷◌, length, map, refl, ap, ◌∙◌}
use Rattle.std.specs.Prelude.{if◌then◌else◌, slice_index, slice_set}
use Rattle.std.specs.List.{find}
use Rattle.tta_hardware.specs.Cited.{Units, Stw, Stf, Machine, same_op, WritePort, is_set, is_input, Held, value, given, settled, clocked, powered}
use Rattle.tta_circuit.proofs.Alike.{settle_same, registered_same, written_same}
use Rattle.tta_hardware.specs.Signals.{Store, Code, Data, Frame, Signal as Named, IsOffered, Offer, IsReady, IsReset, same_store, same_signal}
use Rattle.tta_hardware.specs.Hardware.{register_names, wire_names, wire, store_port, circuit_with}
use Rattle.tta_hardware.specs.Registers.{register}
use Rattle.tta_hardware.specs.Runs.{held_at}
use Rattle.tta_hardware.specs.Words.{filled}
use Rattle.tta_hardware.specs.Images.{FilledRuns}
use Rattle.tta_hardware.proofs.Kept.{filled_reads}

-- two circuits hold the same, but for what stands past the code
record SameHeld (h h' : Held Named Store) : Type 0 where
  words : (n : Named) → h'.words n ≡ h.words n
  code : (k : ℕ) → slice_index (h'.memories Code) k ≡ slice_index (h.memories Code) k
  memory : h'.memories Data ≡ h.memories Data
  frame : h'.memories Frame ≡ h.memories Frame

reads_of : (h h' : Held Named Store) → SameHeld h h' → (s : Store) (k : ℕ) → slice_index (h'.memories s) k ≡ slice_index (h.memories s) k
reads_of h h' same Code k = same.code k
reads_of h h' same Data k = ap (λ (l : List ℕ). slice_index l k) same.memory
reads_of h h' same Frame k = ap (λ (l : List ℕ). slice_index l k) same.frame

module _ (u : Units) (m : Machine) (ws memory : List ℕ) where
  module _ (h h' : Held Named Store) (same : SameHeld h h') (inputs : Named → ℕ) where
    abbrev env : Named → ℕ
    env = settled same_signal u (circuit_with m ws memory) h inputs

    abbrev env' : Named → ℕ
    env' = settled same_signal u (circuit_with m (filled m ws) memory) h' inputs

    given_alike : (n : Named)
        → given same_signal (circuit_with m (filled m ws) memory) h' inputs n ≡ given same_signal (circuit_with m ws memory) h inputs n
    given_alike n = by (is_input same_signal ((IsOffered, 1) ∷ (Offer, 32) ∷ (IsReady, 1) ∷ (IsReset, 1) ∷ []) n) where
      by : (b : Bool) → (if b then inputs n else h'.words n) ≡ (if b then inputs n else h.words n)
      by true = refl
      by false = same.words n

    lines : (n : Named) → env' n ≡ env n
    lines =
        settle_same u h.memories h'.memories (reads_of h h' same) same_signal (map (wire m) (wire_names m))
        (given same_signal (circuit_with m ws memory) h inputs) (given same_signal (circuit_with m (filled m ws) memory) h' inputs)
        given_alike

    -- a port writes the same words into the same
    through : (p : WritePort Named Store) (old old' : List ℕ) → old' ≡ old
        → (if is_set (value u h'.memories env' p.enable)
        then slice_set old' (value u h'.memories env' p.address) (value u h'.memories env' p.word) else old')
        ≡ (if is_set (value u h.memories env p.enable)
        then slice_set old (value u h.memories env p.address) (value u h.memories env p.word) else old)
    through p old old' was =
        written_same u h.memories h'.memories (reads_of h h' same) env env' lines p old'
        ∙ ap (λ (l : List ℕ). if is_set (value u h.memories env p.enable)
        then slice_set l (value u h.memories env p.address) (value u h.memories env p.word) else l) was

    clocked_alike : SameHeld (clocked same_signal same_store u (circuit_with m ws memory) env h)
        (clocked same_signal same_store u (circuit_with m (filled m ws) memory) env' h')
    clocked_alike = record {
      words = λ n. registered_same u h.memories h'.memories (reads_of h h' same) env env' lines same_signal
          (find (λ r. same_signal r.name n) (map (register m) (register_names m))) (h.words n) (h'.words n) (same.words n);
      code = same.code;
      memory = through (store_port m m.data_words (same_op Stw)) (h.memories Data) (h'.memories Data) same.memory;
      frame = through (store_port m m.frame_words (same_op Stf)) (h.memories Frame) (h'.memories Frame) same.frame;
    }

  powered_alike : (powers : Named → ℕ)
      → SameHeld (powered same_signal same_store (circuit_with m ws memory) powers)
      (powered same_signal same_store (circuit_with m (filled m ws) memory) powers)
  powered_alike powers = record {
    words = λ n. refl;
    code = filled_reads ws (2 ^ m.control.address - length ws);
    memory = refl;
    frame = refl;
  }

  held_alike : (powers : Named → ℕ) (inputs : ℕ → Named → ℕ) (t : ℕ)
      → SameHeld (held_at u (circuit_with m ws memory) powers inputs t) (held_at u (circuit_with m (filled m ws) memory) powers inputs t)
  held_alike powers inputs zero = powered_alike powers
  held_alike powers inputs (suc t) =
      clocked_alike (held_at u (circuit_with m ws memory) powers inputs t) (held_at u (circuit_with m (filled m ws) memory) powers inputs t)
      (held_alike powers inputs t) (inputs t)

pub filled_runs : FilledRuns
filled_runs u m ws memory powers inputs t =
    let same = held_alike u m ws memory powers inputs t in
    record {
      settled = lines u m ws memory (held_at u (circuit_with m ws memory) powers inputs t)
          (held_at u (circuit_with m (filled m ws) memory) powers inputs t) same (inputs t);
      held = same.words;
      data_space = same.memory;
      frame_space = same.frame;
    }
