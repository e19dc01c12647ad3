-- The bits and the bytes of small images.
use Rattle.std.specs.Prelude.{◌≡◌, [], ◌∷◌, ◌++◌, false, None, Some, refl, replicate}
use Rattle.std.proofs.Common.{lit≤}
use Rattle.std.specs.List.{flat_map}
use Rattle.tta_arch.specs.declared.ends.Source.TheVariants as source
use Rattle.tta_arch.specs.declared.ends.Dest.TheVariants as dest
use Rattle.tta_image.specs.Cited.{width_for, can_move, Code, is_legal, IsLegalCode}
use Rattle.tta_arch.proofs.Samples.{one_bus, three_buses}
use Rattle.tta_code.proofs.Rows.{wide}
use Rattle.tta_image.specs.Bits.{bits_of, instruction_bits, code_bits}
use Rattle.tta_image.specs.Image.{header}

-- a word of -1 in a field of nine bits, and a long immediate of 2 ^ 31 over two buses
wide-bits : code_bits three_buses wide ++ replicate 4 false
    ≡ flat_map (bits_of 8) (0x1f ∷ 0xf0 ∷ 0x80 ∷ 0x00 ∷ 0x00 ∷ 0x00 ∷ 0x20 ∷ 0x00 ∷ 0x08 ∷ 0x00 ∷ 0x00 ∷ 0x00 ∷ 0x00 ∷ [])
unfolding width_for instruction_bits
wide-bits = refl

-- one word output, and the end
abbrev pub seven : Code
seven = record {
  words = record { moves = Some (record { guard = None; src = source.Value 7; dst = dest.Trigger 0 0 }) ∷ []; long = None }
      ∷ record { moves = Some (record { guard = None; src = source.Value 0; dst = dest.Halt }) ∷ []; long = None }
      ∷ [];
}

seven-bits : code_bits one_bus seven ≡ flat_map (bits_of 8) (0x83 ∷ 0x98 ∷ 0x04 ∷ [])
unfolding width_for instruction_bits
seven-bits = refl

seven-header : header one_bus [] 1 2 ≡ 0x54 ∷ 0x54 ∷ 0x41 ∷ 0x49 ∷ 0 ∷ 0 ∷ 0 ∷ 1 ∷ 0 ∷ 0 ∷ 0 ∷ 0x0c ∷ 0 ∷ 0 ∷ 0 ∷ 2 ∷ []
unfolding width_for
seven-header = refl

-- the machine can carry it out
seven-legal : IsLegalCode one_bus seven
unfolding is_legal can_move
seven-legal = record { words = (refl, (refl, tt)); room = lit≤ tt }
