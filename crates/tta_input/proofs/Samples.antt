-- Small files and what they give, computed.
use Rattle.std.proofs.Common.{◌≡◌, [], ◌∷◌, ◌++◌, Ok, Err, refl}
use Rattle.std.specs.Prelude.{codes}
use Rattle.tta_input.specs.Lines.{lines_of}
use Rattle.tta_input.specs.Input.{is_word, value_of, words_taken, memory_of, input_of}

-- digits of either case, a carriage return before a newline, and no newline at the end
two_words : input_of 3 (codes "0000002A" ++ 13 ∷ 10 ∷ codes "ffffffff") ≡ Ok (42 ∷ 4294967295 ∷ 0 ∷ [])
unfolding input_of memory_of words_taken is_word value_of lines_of
two_words = refl

-- an empty file
no_words : input_of 2 [] ≡ Ok (0 ∷ 0 ∷ [])
unfolding input_of memory_of words_taken is_word value_of lines_of
no_words = refl

-- a digit that is none
no_digit : input_of 2 (codes "0000000g") ≡ Err 1
unfolding input_of memory_of words_taken is_word value_of lines_of
no_digit = refl

-- one word more than the space has
no_room : input_of 1 (codes "00000001" ++ 10 ∷ codes "00000002" ++ 10 ∷ []) ≡ Err 2
unfolding input_of memory_of words_taken is_word value_of lines_of
no_room = refl

-- an empty line, also where the space has no words
empty_line : input_of 0 (10 ∷ []) ≡ Err 1
unfolding input_of memory_of words_taken is_word value_of lines_of
empty_line = refl

-- a carriage return that no newline follows
lone_return : input_of 2 (codes "00000001" ++ 13 ∷ []) ≡ Err 1
unfolding input_of memory_of words_taken is_word value_of lines_of
lone_return = refl
