-- Small texts with data: the whole that they are, or where they are refused.
use Rattle.std.specs.Fmt.{digits}
use Rattle.std.specs.Prelude.{◌≡◌, ℕ, List, [], ◌∷◌, Some, None, Ok, Err, codes, refl}
use Rattle.tta_asm.specs.Cited.{tokens_of, tokens_from, piece_at, number_piece, negative_piece, mark_piece, number_of, negative_of, digits_of, value_below, Units, can_move, Dest, Machine, Code, Instruction, Datum, is_legal}
use Rattle.tta_arch.specs.declared.ends.Source.TheVariants as source
use Rattle.tta_arch.specs.declared.ends.Dest.TheVariants as dest
use Rattle.tta_arch.proofs.Samples.{one_bus}
use Rattle.tta_asm.specs.declared.refusal.AsmRefusal.TheVariants.{Syntax, Data}
use Rattle.tta_asm.specs.Pieces.{pieces_of}
use Rattle.tta_asm.specs.Syntax.{source_form, dest_form, guard_form, move_form, slot_form, long_form, piece_form}
use Rattle.tta_asm.specs.Labels.{labels_of}
use Rattle.tta_asm.specs.Parts.{parts_of, ops_of}
use Rattle.tta_asm.specs.Resolving.{move_of, long_of}
use Rattle.tta_asm.specs.Init.{datum_form, datum_of}
use Rattle.tta_asm.specs.Assembly.{instruction_of, take_piece, assembled}
use Rattle.tta_disasm.specs.Canonical.{instruction_text, canonical}

-- the machine of one bus with a data space of four words
abbrev four_words : Machine
four_words = record one_bus { data_words = 4 }

-- a move of this word
abbrev moves_to : Dest → (word : ℕ) → Instruction
moves_to dst word = record { moves = Some (record { guard = None; src = source.Value word; dst = dst }) ∷ []; long = None }

-- a datum
abbrev datum : (address value : ℕ) → Datum
datum address value = record { address = address; value = value }

-- the code that outputs a word and halts
abbrev put_code : Code
put_code = record { words = moves_to (dest.Trigger 0 0) 7 ∷ moves_to dest.Halt 0 ∷ [] }

-- a datum before code, as the canonical text has both
abbrev put_text : List ℕ
put_text = codes "data 2 9 ;\n7 -> OUT.t.out ;\n0 -> gcu.t.halt ;\n"

-- it is read
put-read : (u : Units) → assembled u four_words put_text ≡ Ok (record { code = put_code; init = datum 2 9 ∷ [] })
unfolding tokens_of tokens_from piece_at number_piece negative_piece mark_piece number_of negative_of digits_of value_below pieces_of source_form dest_form guard_form move_form slot_form long_form piece_form labels_of parts_of ops_of move_of long_of instruction_of take_piece datum_form datum_of assembled is_legal can_move
put-read u = refl

-- and printed
put-shown : (u : Units) → canonical u four_words (record { code = put_code; init = datum 2 9 ∷ [] }) ≡ put_text
unfolding canonical instruction_text digits
put-shown u = refl

-- neither data nor instructions are no text
nothing-shown : (u : Units) → canonical u four_words (record { code = record { words = [] }; init = [] }) ≡ []
unfolding canonical
nothing-shown u = refl

-- data alone, with a line end within a declaration, and a negative
data-alone : (u : Units) → assembled u four_words (codes "data 0x0 -1 ; data 3\n5 ;") ≡ Ok (record { code = record { words = [] }; init = datum 0 4294967295 ∷ datum 3 5 ∷ [] })
unfolding tokens_of tokens_from piece_at number_piece negative_piece mark_piece number_of negative_of digits_of value_below pieces_of source_form dest_form guard_form move_form slot_form long_form piece_form labels_of parts_of ops_of move_of long_of instruction_of take_piece datum_form datum_of assembled is_legal can_move
data-alone u = refl

-- a label counts no declarations
data-labels : (u : Units) → assembled u four_words (codes "data 2 9 ; a: a -> gcu.t.jump ;") ≡ Ok (record { code = record { words = moves_to dest.Jump 0 ∷ [] }; init = datum 2 9 ∷ [] })
unfolding tokens_of tokens_from piece_at number_piece negative_piece mark_piece number_of negative_of digits_of value_below pieces_of source_form dest_form guard_form move_form slot_form long_form piece_form labels_of parts_of ops_of move_of long_of instruction_of take_piece datum_form datum_of assembled is_legal can_move
data-labels u = refl

-- a name like others where no number follows
data-label : (u : Units) → assembled u four_words (codes "data : data -> gcu.t.jump ;") ≡ Ok (record { code = record { words = moves_to dest.Jump 0 ∷ [] }; init = [] })
unfolding tokens_of tokens_from piece_at number_piece negative_piece mark_piece number_of negative_of digits_of value_below pieces_of source_form dest_form guard_form move_form slot_form long_form piece_form labels_of parts_of ops_of move_of long_of instruction_of take_piece datum_form datum_of assembled is_legal can_move
data-label u = refl

-- past the data space
data-past : (u : Units) → assembled u four_words (codes "data 4 1 ;") ≡ Err (1, Data)
unfolding tokens_of tokens_from piece_at number_piece negative_piece mark_piece number_of negative_of digits_of value_below pieces_of source_form dest_form guard_form move_form slot_form long_form piece_form labels_of parts_of ops_of move_of long_of instruction_of take_piece datum_form datum_of assembled is_legal can_move
data-past u = refl

-- the same address again
data-twice : (u : Units) → assembled u four_words (codes "data 2 9 ;\ndata 2 8 ;") ≡ Err (2, Data)
unfolding tokens_of tokens_from piece_at number_piece negative_piece mark_piece number_of negative_of digits_of value_below pieces_of source_form dest_form guard_form move_form slot_form long_form piece_form labels_of parts_of ops_of move_of long_of instruction_of take_piece datum_form datum_of assembled is_legal can_move
data-twice u = refl

-- a lower address, on the line of the first word
data-lower : (u : Units) → assembled u four_words (codes "data 2 9 ;\ndata\n1 8 ;") ≡ Err (2, Data)
unfolding tokens_of tokens_from piece_at number_piece negative_piece mark_piece number_of negative_of digits_of value_below pieces_of source_form dest_form guard_form move_form slot_form long_form piece_form labels_of parts_of ops_of move_of long_of instruction_of take_piece datum_form datum_of assembled is_legal can_move
data-lower u = refl

-- before what comes after it
data-first : (u : Units) → assembled u four_words (codes "data 9 9 ; $") ≡ Err (1, Data)
unfolding tokens_of tokens_from piece_at number_piece negative_piece mark_piece number_of negative_of digits_of value_below pieces_of source_form dest_form guard_form move_form slot_form long_form piece_form labels_of parts_of ops_of move_of long_of instruction_of take_piece datum_form datum_of assembled is_legal can_move
data-first u = refl

-- after its own syntax
data-syntax : (u : Units) → assembled u four_words (codes "data 9\n; data 9 9 ;") ≡ Err (2, Syntax)
unfolding tokens_of tokens_from piece_at number_piece negative_piece mark_piece number_of negative_of digits_of value_below pieces_of source_form dest_form guard_form move_form slot_form long_form piece_form labels_of parts_of ops_of move_of long_of instruction_of take_piece datum_form datum_of assembled is_legal can_move
data-syntax u = refl

-- one word too many
data-more : (u : Units) → assembled u four_words (codes "data 1 2\n3 ;") ≡ Err (2, Syntax)
unfolding tokens_of tokens_from piece_at number_piece negative_piece mark_piece number_of negative_of digits_of value_below pieces_of source_form dest_form guard_form move_form slot_form long_form piece_form labels_of parts_of ops_of move_of long_of instruction_of take_piece datum_form datum_of assembled is_legal can_move
data-more u = refl

-- a comma
data-comma : (u : Units) → assembled u four_words (codes "data 1 2 , 3 ;") ≡ Err (1, Syntax)
unfolding tokens_of tokens_from piece_at number_piece negative_piece mark_piece number_of negative_of digits_of value_below pieces_of source_form dest_form guard_form move_form slot_form long_form piece_form labels_of parts_of ops_of move_of long_of instruction_of take_piece datum_form datum_of assembled is_legal can_move
data-comma u = refl

-- no end
data-open : (u : Units) → assembled u four_words (codes "data 1 2\n") ≡ Err (2, Syntax)
unfolding tokens_of tokens_from piece_at number_piece negative_piece mark_piece number_of negative_of digits_of value_below pieces_of source_form dest_form guard_form move_form slot_form long_form piece_form labels_of parts_of ops_of move_of long_of instruction_of take_piece datum_form datum_of assembled is_legal can_move
data-open u = refl

-- after an instruction
data-behind : (u : Units) → assembled u four_words (codes "7 -> OUT.t.out ; data\n2 9 ;") ≡ Err (2, Syntax)
unfolding tokens_of tokens_from piece_at number_piece negative_piece mark_piece number_of negative_of digits_of value_below pieces_of source_form dest_form guard_form move_form slot_form long_form piece_form labels_of parts_of ops_of move_of long_of instruction_of take_piece datum_form datum_of assembled is_legal can_move
data-behind u = refl

-- after a label
data-late : (u : Units) → assembled u four_words (codes "a: data\n2 9 ;") ≡ Err (2, Syntax)
unfolding tokens_of tokens_from piece_at number_piece negative_piece mark_piece number_of negative_of digits_of value_below pieces_of source_form dest_form guard_form move_form slot_form long_form piece_form labels_of parts_of ops_of move_of long_of instruction_of take_piece datum_form datum_of assembled is_legal can_move
data-late u = refl
