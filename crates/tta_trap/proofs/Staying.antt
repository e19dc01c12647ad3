-- The words of a circuit that tells the first fault stay within their widths.
use Rattle.std.proofs.Common.{◌≡◌, ℕ, ◌<◌, ◌^◌, true, [], ◌∷◌}
use Rattle.std.proofs.lemmas.Bool.{false≢true}
use Rattle.tta_trap.specs.Cited.{Machine, powered, IsReady, IsReset, IsOffered, Store, same_signal, same_store, AreInputs, store_width}
use Rattle.tta_circuit.specs.Meaning.{is_input}
use Rattle.tta_circuit.proofs.Within.{stays_within}
use Rattle.tta_hardware.specs.Signals.{Signal as Named, Offer}
use Rattle.tta_hardware.proofs.Named.{tells}
use Rattle.tta_hardware.proofs.Staying.{stores_narrow, tells_store}
use Rattle.tta_trap.specs.Trap.{trap_circuit}
use Rattle.tta_trap.specs.Sized.{trap_signal_width}
use Rattle.tta_trap.specs.Within.{TrapWordsStay}
use Rattle.tta_trap.proofs.Widths.{trap_is_plain}

-- an input has the width of its word
fed : (m : Machine) (words : Named → ℕ) → AreInputs words → (n : Named)
    → is_input same_signal ((IsOffered, 1) ∷ (Offer, 32) ∷ (IsReady, 1) ∷ (IsReset, 1) ∷ []) n ≡ true → words n < 2 ^ trap_signal_width m n
fed m words are IsOffered is = are.offered
fed m words are Offer is = are.offer
fed m words are IsReady is = are.ready
fed m words are IsReset is = are.reset
fed m words are n is = absurd (false≢true is)

pub trap_words_stay : TrapWordsStay
trap_words_stay u m code memory powers inputs rules legal words narrow are t =
    stays_within Named Store same_signal tells same_store tells_store (trap_signal_width m) (store_width m) u (trap_circuit m code memory)
    (powered same_signal same_store (trap_circuit m code memory) powers) inputs (trap_is_plain m code memory rules legal).0
    (record { words = narrow; memories = stores_narrow m code memory powers legal words }) (λ t n is. fed m (inputs t) (are t) n is) t
