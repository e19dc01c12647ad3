-- The words of the code's memory with those past the end of the code.
use Rattle.std.proofs.Common.{◌≡◌, ℕ, zero, suc, ◌+◌, ◌-◌, ◌^◌, List, [], ◌∷◌, ◌++◌, length, replicate, refl, arith}
use Rattle.std.specs.Prelude.{slice_index}
use Rattle.std.proofs.lemmas.List.{length-append, length-replicate}
use Rattle.tta_list.proofs.Lists.{map_count, zeros}
use Rattle.tta_rtl.specs.Cited.{Machine, Code, code_words}
use Rattle.tta_code.specs.Legal.{IsLegalCode}
use Rattle.tta_rtl.specs.CodeFile.{memory_words}

-- words past the end of others are 0, as where there are none
pub reads_alike : (words : List ℕ) (n k : ℕ) → slice_index (words ++ replicate n 0) k ≡ slice_index words k
reads_alike [] n k = zeros n k
reads_alike (w ∷ words) n zero = refl
reads_alike (w ∷ words) n (suc k) = reads_alike words n k

-- there is a word for each address
pub is_full : (m : Machine) (code : Code) → IsLegalCode m code → length (memory_words m code) ≡ 2 ^ m.control.address
is_full m code legal =
    let n : ℕ = 2 ^ m.control.address - length code.words in
    let own : length (code_words m code) ≡ length code.words = map_count _ code.words in
    let all : length (memory_words m code) ≡ length (code_words m code) + length (replicate {A = ℕ} n 0) = length-append (code_words m code) (replicate n 0) in
    let rest : length (replicate {A = ℕ} n 0) ≡ n = length-replicate n 0 in
    let room = legal.room in
    omega (arith, own, all, rest, room)
