-- What a circuit that tells the first fault holds at any time: the words of its code, and as many words of its spaces as these have.
use Rattle.std.proofs.Common.{◌≡◌, ℕ, zero, suc, Bool, true, false, List, length, refl, ap, ◌∙◌}
use Rattle.std.specs.Prelude.{if◌then◌else◌, replicate, slice_set}
use Rattle.std.proofs.lemmas.List.{length-replicate, length-set}
use Rattle.tta_circuit.specs.Meaning.{clocked}
use Rattle.tta_trap.specs.Cited.{Units, Machine, powered, same_signal, same_store, Hardware, HoldsWords, held_at, signals_at}
use Rattle.tta_code.specs.declared.code.Code.{Code as Program}
use Rattle.tta_hardware.specs.Signals.{Signal as Named}
use Rattle.tta_hardware.specs.Laws.{HasStored}
use Rattle.tta_trap.specs.Trap.{trap_circuit}
use Rattle.tta_trap.specs.Theorem.{TrapHoldsCode}

-- what it holds when the power comes
pub powered_holds : (m : Machine) (code : Program) (memory : List ℕ) (powers : Named → ℕ) → length memory ≡ m.data_words
    → HoldsWords m code memory (replicate m.frame_words 0) (powered same_signal same_store (trap_circuit m code memory) powers)
powered_holds m code memory powers sized = record {
  rom = refl;
  data_has = refl;
  frame_has = refl;
  memory_size = sized;
  frame_size = length-replicate m.frame_words 0;
}

-- what a clock stores, whatever the words of signals are
stored : (u : Units) (m : Machine) (code : Program) (memory : List ℕ) (h : Hardware) (env : Named → ℕ)
    → HasStored u m h env (clocked same_signal same_store u (trap_circuit m code memory) env h).memories
stored u m code memory h env = record {
  memory = refl;
  frame = refl;
  rom = refl;
}

-- a word that is stored or not leaves as many words
store_sized : (b : Bool) (xs : List ℕ) (k x : ℕ) → length (if b then slice_set xs k x else xs) ≡ length xs
store_sized true xs k x = length-set xs k x
store_sized false xs k x = refl

pub trap_holds_code : TrapHoldsCode
trap_holds_code u m code memory powers inputs sized zero = powered_holds m code memory powers sized
trap_holds_code u m code memory powers inputs sized (suc t) =
    let old = trap_holds_code u m code memory powers inputs sized t in
    let now =
    stored u m code memory (held_at u (trap_circuit m code memory) powers inputs t)
    (signals_at u (trap_circuit m code memory) powers inputs t) in record {
      rom = now.rom ∙ old.rom;
      data_has = refl;
      frame_has = refl;
      memory_size = ap length now.memory ∙ store_sized _ _ _ _ ∙ old.memory_size;
      frame_size = ap length now.frame ∙ store_sized _ _ _ _ ∙ old.frame_size;
    }
