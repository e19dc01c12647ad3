-- The words of a machine's circuit stay within their widths.
use Rattle.std.proofs.Common.{◌≡◌, ℕ, zero, suc, ◌<◌, ◌^◌, true, List, [], ◌∷◌, map, replicate, IsTrue, refl}
use Rattle.std.specs.Prelude.{slice_index}
use Rattle.std.specs.List.{AllByRecursion}
use Rattle.std.proofs.lemmas.Nat.{pow_pos}
use Rattle.std.proofs.lemmas.Bool.{false≢true}
use Rattle.tta_hardware.specs.Cited.{Machine, word_width, Instruction, is_legal, IsLegalCode, is_input, powered, TellsApart}
use Rattle.tta_code.specs.declared.code.Code.{Code as Program}
use Rattle.tta_circuit.proofs.Within.{stays_within}
use Rattle.tta_hardware.specs.Signals.{Store, Code, Data, Frame, Signal as Named, IsOffered, Offer, IsReady, IsReset, same_store, same_signal}
use Rattle.tta_hardware.specs.Fields.{word_of}
use Rattle.tta_hardware.specs.Hardware.{circuit_of}
use Rattle.tta_hardware.specs.Sized.{signal_width, store_width}
use Rattle.tta_hardware.specs.Within.{AreInputs, WordsStay}
use Rattle.tta_hardware.proofs.Named.{tells}
use Rattle.tta_hardware.proofs.Kept.{word_narrow}
use Rattle.tta_hardware.proofs.Plainly.{plain}

-- ---- words of memories

small_at : (most : ℕ) (xs : List ℕ) (k : ℕ) → 0 < most → AllByRecursion (λ w. w < most) xs → slice_index xs k < most
small_at most [] k some all = some
small_at most (x ∷ xs) zero some all = all.0
small_at most (x ∷ xs) (suc k) some all = small_at most xs k some all.1

narrow_code : (m : Machine) (is : List Instruction) → AllByRecursion (λ i. IsTrue (is_legal m i)) is
    → AllByRecursion (λ w. w < 2 ^ word_width m) (map (word_of m) is)
narrow_code m [] legal = tt
narrow_code m (i ∷ is) legal = (word_narrow m i legal.0, narrow_code m is legal.1)

zeros : (k : ℕ) → AllByRecursion (λ w. w < 2 ^ 32) (replicate k 0)
zeros zero = tt
zeros (suc k) = (pow_pos 32, zeros k)

-- ---- memories are told apart

store_is : (a b : Store) → same_store a b ≡ true → a ≡ b
store_is Code Code h = refl
store_is Data Data h = refl
store_is Frame Frame h = refl
store_is Code Data h = absurd (false≢true h)
store_is Code Frame h = absurd (false≢true h)
store_is Data Code h = absurd (false≢true h)
store_is Data Frame h = absurd (false≢true h)
store_is Frame Code h = absurd (false≢true h)
store_is Frame Data h = absurd (false≢true h)

store_itself : (a : Store) → same_store a a ≡ true
store_itself Code = refl
store_itself Data = refl
store_itself Frame = refl

pub tells_store : TellsApart same_store
tells_store = record { is = store_is; itself = store_itself }

-- ---- the circuit

-- the words that memories begin with are narrow
pub stores_narrow : (m : Machine) (code : Program) (memory : List ℕ) (powers : Named → ℕ) → IsLegalCode m code
    → AllByRecursion (λ w. w < 2 ^ 32) memory → (s : Store) (k : ℕ)
    → slice_index ((powered same_signal same_store (circuit_of m code memory) powers).memories s) k < 2 ^ store_width m s
stores_narrow m code memory powers legal words Code k =
    small_at (2 ^ word_width m) (map (word_of m) code.words) k (pow_pos (word_width m)) (narrow_code m code.words legal.words)
stores_narrow m code memory powers legal words Data k = small_at (2 ^ 32) memory k (pow_pos 32) words
stores_narrow m code memory powers legal words Frame k = small_at (2 ^ 32) (replicate m.frame_words 0) k (pow_pos 32) (zeros m.frame_words)

-- an input has the width of its word
fed : (m : Machine) (words : Named → ℕ) → AreInputs words → (n : Named)
    → is_input same_signal ((IsOffered, 1) ∷ (Offer, 32) ∷ (IsReady, 1) ∷ (IsReset, 1) ∷ []) n ≡ true → words n < 2 ^ signal_width m n
fed m words are IsOffered is = are.offered
fed m words are Offer is = are.offer
fed m words are IsReady is = are.ready
fed m words are IsReset is = are.reset
fed m words are n is = absurd (false≢true is)

pub words_stay : WordsStay
words_stay u m code memory powers inputs rules legal words narrow are t =
    stays_within Named Store same_signal tells same_store tells_store (signal_width m) (store_width m) u (circuit_of m code memory)
    (powered same_signal same_store (circuit_of m code memory) powers) inputs (plain m rules code memory)
    (record { words = narrow; memories = stores_narrow m code memory powers legal words }) (λ t n is. fed m (inputs t) (are t) n is) t
