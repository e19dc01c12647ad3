-- How a memory fills line by line.
use Rattle.std.proofs.Common.{◌≡◌, ℕ, ◌+◌, ◌-◌, ◌≤◌, ◌<◌, List, [], ◌∷◌, ◌++◌, length, replicate, Some, None, Result, Ok, Err, refl, sym, ap, ◌∙◌, arith, length-append}
use Rattle.std.proofs.lemmas.List.{append_assoc}
use Rattle.tta_input.specs.Input.{word_of, words_taken, memory_of}

-- a memory that goes on after these words
abbrev pub behind : List ℕ → Result (List ℕ) ℕ → Result (List ℕ) ℕ
behind words (Ok memory) = Ok (words ++ memory)
behind words (Err line) = Err (length words + line)

-- no line is left: zeros fill up what is left
pub memory_of-end : (space : ℕ) → memory_of space [] ≡ Ok (replicate space 0)
unfolding memory_of words_taken
memory_of-end space = grind (arith)

-- a word goes to the start
pub memory_of-word : (space word : ℕ) (line : List ℕ) (lines : List (List ℕ)) → 0 < space → word_of line ≡ Some word
    → memory_of space (line ∷ lines) ≡ behind (word ∷ []) (memory_of (space - 1) lines)
unfolding memory_of words_taken
memory_of-word space word line lines room is = grind (arith)

-- a line that is no word is refused
pub memory_of-other : (space : ℕ) (line : List ℕ) (lines : List (List ℕ)) → word_of line ≡ None → memory_of space (line ∷ lines) ≡ Err 1
unfolding memory_of words_taken
memory_of-other space line lines is = grind (arith)

-- a line that finds no room is refused
pub memory_of-full : (line : List ℕ) (lines : List (List ℕ)) → memory_of 0 (line ∷ lines) ≡ Err 1
unfolding memory_of words_taken
memory_of-full line lines = grind (arith)

-- ---- the same after words that are taken already

behind-behind : (words : List ℕ) (word : ℕ) (rest : Result (List ℕ) ℕ) → behind words (behind (word ∷ []) rest) ≡ behind (words ++ word ∷ []) rest
behind-behind words word (Ok memory) = ap Ok (sym (append_assoc words (word ∷ []) memory))
behind-behind words word (Err line) =
    let n : length words + (1 + line) ≡ length words + 1 + line = omega arith in
    ap Err (n ∙ ap (λ k. k + line) (sym (length-append words (word ∷ []))))

module _ (words : List ℕ) (space : ℕ) (line : List ℕ) (lines : List (List ℕ)) where
  -- a word takes the next place
  pub taken : (word : ℕ) → word_of line ≡ Some word → length words < space
      → behind words (memory_of (space - length words) (line ∷ lines))
      ≡ behind (words ++ word ∷ []) (memory_of (space - length (words ++ word ∷ [])) lines)
  taken word is room =
      let left : space - length words - 1 ≡ space - length (words ++ word ∷ []) = rw length-append (omega arith) in
      ap (behind words) (memory_of-word (space - length words) word line lines (omega arith) is)
      ∙ behind-behind words word (memory_of (space - length words - 1) lines)
      ∙ ap (λ k. behind (words ++ word ∷ []) (memory_of k lines)) left

  -- a line that is no word is refused
  pub refused_other : word_of line ≡ None → behind words (memory_of (space - length words) (line ∷ lines)) ≡ Err (length words + 1)
  refused_other is = ap (behind words) (memory_of-other (space - length words) line lines is)

  -- and so is one that finds no room
  pub refused_full : space ≤ length words → behind words (memory_of (space - length words) (line ∷ lines)) ≡ Err (length words + 1)
  refused_full full =
      let none : space - length words ≡ 0 = omega arith in
      ap (λ k. behind words (memory_of k (line ∷ lines))) none ∙ ap (behind words) (memory_of-full line lines)

-- after the last line there are zeros
pub ended : (words : List ℕ) (space : ℕ) → behind words (memory_of (space - length words) []) ≡ Ok (words ++ replicate (space - length words) 0)
ended words space = ap (behind words) (memory_of-end (space - length words))

-- no word is taken at the start
pub started : (space : ℕ) (lines : List (List ℕ)) → behind [] (memory_of (space - 0) lines) ≡ memory_of space lines
started space lines =
    let none : space - 0 ≡ space = omega arith in
    ap (λ k. behind [] (memory_of k lines)) none ∙ behind-none (memory_of space lines)
  where
    behind-none : (rest : Result (List ℕ) ℕ) → behind [] rest ≡ rest
    behind-none (Ok memory) = refl
    behind-none (Err line) = let n : 0 + line ≡ line = omega arith in ap Err n
