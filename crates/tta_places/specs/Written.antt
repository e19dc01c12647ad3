-- Which places a move can write.
use Rattle.std.specs.Prelude.{Bool, true, Option}
use Rattle.std.specs.Option.{option_map_or}
use Rattle.tta_places.specs.Cited.{Dest, KeptReg, KeptOperand, Move, is_place}
use Rattle.tta_arch.specs.declared.ends.Dest.TheVariants as dest

-- a destination whose place, if it has one, is there
abbrev pub is_written_to : Dest → Bool
is_written_to (dest.Reg file index) = is_place (KeptReg file index)
is_written_to (dest.Operand unit) = is_place (KeptOperand unit)
is_written_to (dest.Trigger unit op) = true
is_written_to dest.Jump = true
is_written_to dest.Call = true
is_written_to dest.Halt = true

-- a slot that is empty, or whose move has such a destination
abbrev pub is_slot_written_to : Option Move → Bool
is_slot_written_to slot = option_map_or (λ v. is_written_to v.dst) slot true
