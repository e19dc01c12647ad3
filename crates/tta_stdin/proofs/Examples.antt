-- The definitions at small values.
use Rattle.std.proofs.Common.{◌≡◌, true, [], ◌∷◌, Some, None, Ok, Err, refl}
use Rattle.tta_stdin.specs.declared.error.LineError.TheVariants.{Failed, TooLong}
use Rattle.tta_stdin.specs.Queue.{Queue, new_queue, line_answer}

-- two lines, the second of two bytes
two : Queue
two = record (new_queue (2 ∷ [])) { all = (97 ∷ []) ∷ (98 ∷ 99 ∷ []) ∷ [] }

first_line : line_answer two 2 ≡ Ok (Some (97 ∷ []))
unfolding two
first_line = refl

-- the newline counts
no_room_for_the_newline : line_answer two 1 ≡ Err TooLong
unfolding two
no_room_for_the_newline = refl

fails_at_its_number : line_answer (record two { calls = 1; at = 1 }) 9 ≡ Err Failed
unfolding two
fails_at_its_number = refl

past_the_last : line_answer (record two { calls = 2; at = 2 }) 9 ≡ Ok None
unfolding two
past_the_last = refl

after_the_end : line_answer (record two { calls = 1; ended = true }) 9 ≡ Ok None
unfolding two
after_the_end = refl
