-- The words of code in a memory.
use Rattle.std.proofs.Common.{◌≡◌, ℕ, zero, suc, ◌-◌, ◌^◌, ◌<◌, true, List, [], ◌∷◌, ◌++◌, length, map, replicate, get_or, slice_get, IsTrue, Some, refl, ap, ◌∙◌, arith}
use Rattle.std.specs.Prelude.{slice_index, option_map}
use Rattle.std.specs.List.{AllByRecursion}
use Rattle.std.proofs.lemmas.Nat.{pow_pos}
use Rattle.std.proofs.lemmas.Option.{slice_get-map, get_or_from_slice_get}
use Rattle.std.proofs.lemmas.List.{length-append, length-map, length-replicate}
use Rattle.tta_hardware.specs.Cited.{Machine, word_width, Instruction, is_legal, instruction_bits}
use Rattle.tta_image.proofs.Numbers.{number_of-below}
use Rattle.tta_image.proofs.InstructionLemmas.{length-instruction_bits}
use Rattle.tta_hardware.specs.Fields.{word_of}
use Rattle.tta_hardware.specs.Hardware.{code_words}
use Rattle.tta_hardware.specs.Words.{WordsKept}

-- ---- lists

zero_at : (k j : ℕ) → get_or {A = ℕ} (replicate k 0) j 0 ≡ 0
zero_at zero j = refl
zero_at (suc k) zero = refl
zero_at (suc k) (suc j) = zero_at k j

-- zeros past a list change nothing that is read of it
pub filled_reads : (xs : List ℕ) (n k : ℕ) → slice_index (xs ++ replicate n 0) k ≡ slice_index xs k
filled_reads [] n k = zero_at n k
filled_reads (x ∷ xs) n zero = refl
filled_reads (x ∷ xs) n (suc k) = filled_reads xs n k

mapped : {A : Type 0} (f : A → ℕ) (xs : List A) (k : ℕ) (x : A) → slice_get xs k ≡ Some x → get_or (map f xs) k 0 ≡ f x
mapped f xs k x at = get_or_from_slice_get (map f xs) k (f x) 0 (slice_get-map f xs k ∙ ap (option_map f) at)

-- ---- the memory of code

pub word_narrow : (m : Machine) (i : Instruction) → is_legal m i ≡ true → word_of m i < 2 ^ word_width m
word_narrow m i h =
    let small = number_of-below (instruction_bits m i) in
    let e : 2 ^ length (instruction_bits m i) ≡ 2 ^ word_width m = ap (λ (k : ℕ). 2 ^ k) (length-instruction_bits m i h) in
    omega arith

narrow_zeros : (w k : ℕ) → AllByRecursion (λ x. x < 2 ^ w) (replicate k 0)
narrow_zeros w zero = tt
narrow_zeros w (suc k) = (pow_pos w, narrow_zeros w k)

pub narrow_words : (m : Machine) (is : List Instruction) (k : ℕ) → AllByRecursion (λ i. IsTrue (is_legal m i)) is
    → AllByRecursion (λ x. x < 2 ^ word_width m) (map (word_of m) is ++ replicate k 0)
narrow_words m [] k legal = narrow_zeros (word_width m) k
narrow_words m (i ∷ is) k legal = (word_narrow m i legal.0, narrow_words m is k legal.1)

pub words_kept : WordsKept
words_kept m code legal = record {
  many =
      let zeros : List ℕ = replicate (2 ^ m.control.address - length (code_words m code)) 0 in
      let l = length-append (code_words m code) zeros in
      let a = length-map code.words (word_of m) in
      let b : length zeros ≡ 2 ^ m.control.address - length (code_words m code) =
      length-replicate {A = ℕ} (2 ^ m.control.address - length (code_words m code)) 0 in
      let room = legal.room in
      omega arith;
  narrow = narrow_words m code.words (2 ^ m.control.address - length (code_words m code)) legal.words;
  at = λ address i at.
      filled_reads (code_words m code) (2 ^ m.control.address - length (code_words m code)) address
      ∙ mapped (word_of m) code.words address i at;
}
