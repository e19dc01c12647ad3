-- The rules and the choice on machines of one bus and of three.
use Rattle.std.specs.Prelude.{◌≡◌, [], ◌∷◌, ◌++◌, Some, None, false, refl}
use Rattle.tta_select.specs.Cited.{Machine, Choice, failed_rule, registers_from, Port, Move, Long, Frame}
use Rattle.tta_arch.specs.declared.ends.Source.TheVariants as source
use Rattle.tta_arch.specs.declared.ends.Dest.TheVariants as dest
use Rattle.tta_arch.proofs.Samples.{three_buses}
use Rattle.tta_moves.specs.declared.items.LongValue.TheVariants as long
use Rattle.tta_lir.specs.declared.code.RSrc.TheVariants as rsrc
use Rattle.tta_select.specs.Select.{constant, value}

-- with the second condition's guards in place of the first one's inverted
abbrev other_guards : Machine
other_guards = record three_buses {
  guards = record { bus = 0; on = record { file = 2; index = 0; inverted = false } } ∷ record { bus = 0; on = record { file = 2; index = 1; inverted = false } }
      ∷ record { bus = 1; on = record { file = 2; index = 0; inverted = false } } ∷ record { bus = 1; on = record { file = 2; index = 1; inverted = false } } ∷ [];
}

other_guards-fails : failed_rule other_guards ≡ Some 3
other_guards-fails = refl

-- the choice: the units with the numbers 0 to 3 are usable
abbrev chosen : Choice
chosen = record { hub = 0; guard_file = 2; guard_index = 0; homes = registers_from 0 3 5 ++ registers_from 1 0 8; usable = 15 }

-- a word that fits a short field goes at once, and another by the immediate register
short-word : constant three_buses chosen None (long.Word 7) (dest.Reg 1 0) ≡ Move None (Port (source.Value 7)) (dest.Reg 1 0) ∷ []
short-word = refl

long-word : constant three_buses chosen None (long.Word 100000) (dest.Reg 1 0) ≡ Long 0 0 (long.Word 100000) ∷ Move None (Port (source.Imm 0 0)) (dest.Reg 1 0) ∷ []
long-word = refl

-- a slot is loaded by its number
slot-word : value three_buses chosen None (rsrc.At (Frame 5)) (dest.Reg 1 0)
    ≡ Move None (Port (source.Value 5)) (dest.Trigger 2 2) ∷ Move None (Port (source.Shown 2)) (dest.Reg 1 0) ∷ []
slot-word = refl
