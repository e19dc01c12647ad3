-- Small texts: the code that they are, without data, or where they are refused.
use Rattle.std.specs.Prelude.{◌≡◌, ℕ, List, [], ◌∷◌, true, Some, None, Ok, Err, codes, refl}
use Rattle.tta_asm.specs.Cited.{tokens_of, tokens_from, piece_at, number_piece, negative_piece, mark_piece, number_of, negative_of, digits_of, value_below, Units, can_move, Code, Whole, is_legal}
use Rattle.tta_arch.specs.declared.ends.Source.TheVariants as source
use Rattle.tta_arch.specs.declared.ends.Dest.TheVariants as dest
use Rattle.tta_arch.proofs.Samples.{one_bus, three_buses}
use Rattle.tta_asm.specs.declared.refusal.AsmRefusal.TheVariants.{Syntax, Unknown, NoConnection, Illegal, Slots, Label, Range}
use Rattle.tta_asm.specs.Pieces.{pieces_of}
use Rattle.tta_asm.specs.Syntax.{source_form, dest_form, guard_form, move_form, slot_form, long_form, piece_form}
use Rattle.tta_asm.specs.Labels.{labels_of}
use Rattle.tta_asm.specs.Parts.{parts_of, ops_of}
use Rattle.tta_asm.specs.Resolving.{move_of, long_of}
use Rattle.tta_asm.specs.Init.{datum_form, datum_of}
use Rattle.tta_asm.specs.Assembly.{instruction_of, take_piece, assembled}

-- code without data
abbrev bare : Code → Whole
bare code = record { code = code; init = [] }

-- the number of slots
slots : (u : Units) → assembled u one_bus (codes "7 -> OUT.t.out , ... ;") ≡ Err (1, Slots)
unfolding tokens_of tokens_from piece_at number_piece negative_piece mark_piece number_of negative_of digits_of value_below pieces_of source_form dest_form guard_form move_form slot_form long_form piece_form labels_of parts_of ops_of move_of long_of instruction_of take_piece datum_form datum_of assembled
slots u = refl

-- a word that the field does not hold
range : (u : Units) → assembled u one_bus (codes "256 -> OUT.t.out ;") ≡ Err (1, Range)
unfolding tokens_of tokens_from piece_at number_piece negative_piece mark_piece number_of negative_of digits_of value_below pieces_of source_form dest_form guard_form move_form slot_form long_form piece_form labels_of parts_of ops_of move_of long_of instruction_of take_piece datum_form datum_of assembled
range u = refl

-- a name that is no label
label : (u : Units) → assembled u one_bus (codes "x -> OUT.t.out ;") ≡ Err (1, Label)
unfolding tokens_of tokens_from piece_at number_piece negative_piece mark_piece number_of negative_of digits_of value_below pieces_of source_form dest_form guard_form move_form slot_form long_form piece_form labels_of parts_of ops_of move_of long_of instruction_of take_piece datum_form datum_of assembled
label u = refl

-- an operation that the unit has not
unknown : (u : Units) → assembled u one_bus (codes "7 -> OUT.t.add ;") ≡ Err (1, Unknown)
unfolding tokens_of tokens_from piece_at number_piece negative_piece mark_piece number_of negative_of digits_of value_below pieces_of source_form dest_form guard_form move_form slot_form long_form piece_form labels_of parts_of ops_of move_of long_of instruction_of take_piece datum_form datum_of assembled
unknown u = refl

-- no arrow
syntax : (u : Units) → assembled u one_bus (codes "7 OUT.t.out ;") ≡ Err (1, Syntax)
unfolding tokens_of tokens_from piece_at number_piece negative_piece mark_piece number_of negative_of digits_of value_below pieces_of source_form dest_form guard_form move_form slot_form long_form piece_form labels_of parts_of ops_of move_of long_of instruction_of take_piece datum_form datum_of assembled
syntax u = refl

-- a label before and after its uses, a line end within an instruction, and a comment
abbrev loop_code : Code
loop_code = record {
  words = record { moves = Some (record { guard = None; src = source.Value 7; dst = dest.Trigger 0 0 }) ∷ []; long = None }
      ∷ record { moves = Some (record { guard = None; src = source.Value 2; dst = dest.Jump }) ∷ []; long = None }
      ∷ record { moves = Some (record { guard = None; src = source.Value 0; dst = dest.Jump }) ∷ []; long = None }
      ∷ [];
}

labels : (u : Units) → assembled u one_bus (codes "again: 7\n -> OUT.t.out ; # out\non -> gcu.t.jump ; on : again -> gcu.t.jump ;") ≡ Ok (bare loop_code)
unfolding tokens_of tokens_from piece_at number_piece negative_piece mark_piece number_of negative_of digits_of value_below pieces_of source_form dest_form guard_form move_form slot_form long_form piece_form labels_of parts_of ops_of move_of long_of instruction_of take_piece datum_form datum_of assembled is_legal can_move
labels u = refl

-- a label that stands before
twice : (u : Units) → assembled u one_bus (codes "a: 7 -> OUT.t.out ;\na: a: 7 -> OUT.t.out ;") ≡ Err (2, Label)
unfolding tokens_of tokens_from piece_at number_piece negative_piece mark_piece number_of negative_of digits_of value_below pieces_of source_form dest_form guard_form move_form slot_form long_form piece_form labels_of parts_of ops_of move_of long_of instruction_of take_piece datum_form datum_of assembled is_legal can_move
twice u = refl

-- a text that ends within an instruction
early : (u : Units) → assembled u one_bus (codes "7 -> OUT.t.out ;\n7 ->\n") ≡ Err (3, Syntax)
unfolding tokens_of tokens_from piece_at number_piece negative_piece mark_piece number_of negative_of digits_of value_below pieces_of source_form dest_form guard_form move_form slot_form long_form piece_form labels_of parts_of ops_of move_of long_of instruction_of take_piece datum_form datum_of assembled is_legal can_move
early u = refl

-- a guard that is not written for the bus
no-guard : (u : Units) → assembled u three_buses (codes "... , ... , ?G.0 1 -> R.1 ;") ≡ Err (1, NoConnection)
unfolding tokens_of tokens_from piece_at number_piece negative_piece mark_piece number_of negative_of digits_of value_below pieces_of source_form dest_form guard_form move_form slot_form long_form piece_form labels_of parts_of ops_of move_of long_of instruction_of take_piece datum_form datum_of assembled is_legal can_move
no-guard u = refl

-- a file that is written once a cycle
one-write : (u : Units) → assembled u three_buses (codes "R.1 -> S.1 , R.2 -> S.2 , ... ;") ≡ Err (1, Illegal)
unfolding tokens_of tokens_from piece_at number_piece negative_piece mark_piece number_of negative_of digits_of value_below pieces_of source_form dest_form guard_form move_form slot_form long_form piece_form labels_of parts_of ops_of move_of long_of instruction_of take_piece datum_form datum_of assembled is_legal can_move
one-write u = refl

-- a move on a bus that the template takes
taken-bus : (u : Units) → assembled u three_buses (codes "... , 1 -> R.1 , ... [L=5] ;") ≡ Err (1, Illegal)
unfolding tokens_of tokens_from piece_at number_piece negative_piece mark_piece number_of negative_of digits_of value_below pieces_of source_form dest_form guard_form move_form slot_form long_form piece_form labels_of parts_of ops_of move_of long_of instruction_of take_piece datum_form datum_of assembled is_legal can_move
taken-bus u = refl

-- code of a long immediate, a guard, a register of each kind and both ends of a unit, as it is read
abbrev sample : Code
sample = record {
  words = record {
    moves = Some (record { guard = Some (record { file = 2; index = 0; inverted = true }); src = source.Reg 0 1; dst = dest.Reg 1 7 })
        ∷ None ∷ None ∷ [];
    long = Some (record { template = 0; value = 2147483648 });
  }
      ∷ record {
        moves = Some (record { guard = None; src = source.Imm 0 0; dst = dest.Operand 0 })
            ∷ Some (record { guard = None; src = source.Shown 1; dst = dest.Trigger 3 0 })
            ∷ Some (record { guard = None; src = source.Ra; dst = dest.Call }) ∷ [];
        long = None;
      }
      ∷ [];
}

-- the assembly text of this code, a line for each instruction
abbrev sample_text : List ℕ
sample_text = codes "!G.0 R.1 -> S.7 , ... , ... [L=2147483648] ;\nI.0 -> ALU.o , MUL.r -> IO.t.out , gcu.ra -> gcu.t.call ;\n"

sample-read : (u : Units) → assembled u three_buses sample_text ≡ Ok (bare sample)
unfolding tokens_of tokens_from piece_at number_piece negative_piece mark_piece number_of negative_of digits_of value_below pieces_of source_form dest_form guard_form move_form slot_form long_form piece_form labels_of parts_of ops_of move_of long_of instruction_of take_piece datum_form datum_of assembled is_legal can_move
sample-read u = refl
