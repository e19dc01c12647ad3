-- What a circuit holds at any time: the words of its code, and as many words of its spaces as these have.
use Rattle.std.proofs.Common.{◌≡◌, ℕ, zero, suc, Bool, true, false, List, length, refl, ap, ◌∙◌}
use Rattle.std.specs.Prelude.{if◌then◌else◌, replicate, slice_set}
use Rattle.std.proofs.lemmas.List.{length-replicate, length-set}
use Rattle.tta_hardware.specs.Cited.{Machine, powered}
use Rattle.tta_code.specs.declared.code.Code.{Code as Program}
use Rattle.tta_hardware.specs.Signals.{Signal as Named, same_signal, same_store}
use Rattle.tta_hardware.specs.Hardware.{circuit_of}
use Rattle.tta_hardware.specs.Runs.{hardware, HoldsWords, HoldsCode}
use Rattle.tta_hardware.proofs.Circuits.{has_stored}

-- what a circuit holds when the power comes
pub powered_holds : (m : Machine) (code : Program) (memory : List ℕ) (powers : Named → ℕ) → length memory ≡ m.data_words
    → HoldsWords m code memory (replicate m.frame_words 0) (powered same_signal same_store (circuit_of m code memory) powers)
powered_holds m code memory powers sized = record {
  rom = refl;
  data_has = refl;
  frame_has = refl;
  memory_size = sized;
  frame_size = length-replicate m.frame_words 0;
}

-- a word that is stored or not leaves as many words
store_sized : (b : Bool) (xs : List ℕ) (k x : ℕ) → length (if b then slice_set xs k x else xs) ≡ length xs
store_sized true xs k x = length-set xs k x
store_sized false xs k x = refl

pub holds_code : HoldsCode
holds_code u m code memory powers inputs sized zero = powered_holds m code memory powers sized
holds_code u m code memory powers inputs sized (suc t) =
    let old = holds_code u m code memory powers inputs sized t in
    let stored = has_stored u m code memory (hardware u m code memory powers inputs t) (inputs t) in record {
      rom = stored.rom ∙ old.rom;
      data_has = refl;
      frame_has = refl;
      memory_size = ap length stored.memory ∙ store_sized _ _ _ _ ∙ old.memory_size;
      frame_size = ap length stored.frame ∙ store_sized _ _ _ _ ∙ old.frame_size;
    }
