-- What the bytes of small images decode to, and of bytes that are nearly images.
use Rattle.std.specs.Prelude.{◌≡◌, ℕ, List, [], ◌∷◌, ◌++◌, replicate, true, None, Some, Ok, Err, refl}
use Rattle.tta_image.specs.Cited.{width_for, layout_of, can_move, Instruction, Machine, Code, Whole, is_legal}
use Rattle.tta_arch.proofs.Samples.{one_bus, three_buses}
use Rattle.tta_arch.specs.declared.ends.Source.TheVariants as source
use Rattle.tta_arch.specs.declared.ends.Dest.TheVariants as dest
use Rattle.tta_code.proofs.Rows.{wide}
use Rattle.tta_image.specs.declared.refusal.ImageRefusal.TheVariants.{Magic, Version, WrongMachine, Length, Field, Illegal, Padding, Data}
use Rattle.tta_image.specs.Bits.{instruction_bits}
use Rattle.tta_image.specs.Image.{header}
use Rattle.tta_image.specs.Refusals.{of_all, of_word}
use Rattle.tta_image.specs.Decoding.{decoded_instruction}
use Rattle.tta_image.specs.Reading.{decoded_header, decoded_words, decoded_image}
use Rattle.tta_image.proofs.Rows.{seven}

-- some digest
abbrev digest : List ℕ
digest = replicate 32 7

-- code without data
abbrev bare : Code → Whole
bare code = record { code = code; init = [] }

-- two words of 12 bits after their header
abbrev two_words : List ℕ → List ℕ
two_words body = header one_bus digest 1 2 ++ body

seven-decoded : decoded_image one_bus digest (two_words (0x83 ∷ 0x98 ∷ 0x04 ∷ [])) ≡ Ok (bare seven)
unfolding width_for decoded_header decoded_instruction decoded_image is_legal can_move
seven-decoded = refl

-- a destination's code that is not used, in the second word
unused-code : decoded_image one_bus digest (two_words (0x83 ∷ 0x98 ∷ 0x05 ∷ [])) ≡ Err (of_word 1 Field 0)
unfolding width_for decoded_header decoded_instruction decoded_image is_legal can_move
unused-code = refl

-- one byte less
cut-short : decoded_image one_bus digest (two_words (0x83 ∷ 0x98 ∷ [])) ≡ Err (of_all Length)
unfolding width_for decoded_header decoded_image
cut-short = refl

-- nothing, and less than a header
nothing : decoded_image one_bus digest [] ≡ Err (of_all Magic)
unfolding decoded_header decoded_image
nothing = refl

no-version : decoded_image one_bus digest (0x54 ∷ 0x54 ∷ 0x41 ∷ 0x49 ∷ 0 ∷ 0 ∷ 0 ∷ []) ≡ Err (of_all Version)
unfolding decoded_header decoded_image
no-version = refl

no-digest : decoded_image one_bus digest (0x54 ∷ 0x54 ∷ 0x41 ∷ 0x49 ∷ 0 ∷ 0 ∷ 0 ∷ 1 ∷ 0 ∷ 0 ∷ 0 ∷ 13 ∷ []) ≡ Err (of_all WrongMachine)
unfolding decoded_header decoded_image
no-digest = refl

-- a word of -1 in a field of nine bits, and a long immediate of 2 ^ 31 over two buses
wide-decoded : decoded_image three_buses digest (header three_buses digest 1 2 ++ (0x1f ∷ 0xf0 ∷ 0x80 ∷ 0x00 ∷ 0x00 ∷ 0x00 ∷ 0x20 ∷ 0x00 ∷ 0x08 ∷ 0x00 ∷ 0x00 ∷ 0x00 ∷ 0x00 ∷ [])) ≡ Ok (bare wide)
unfolding width_for decoded_header decoded_instruction decoded_image is_legal can_move
wide-decoded = refl

-- a bit that fills up the last byte
filled-up : decoded_image three_buses digest (header three_buses digest 1 2 ++ (0x1f ∷ 0xf0 ∷ 0x80 ∷ 0x00 ∷ 0x00 ∷ 0x00 ∷ 0x20 ∷ 0x00 ∷ 0x08 ∷ 0x00 ∷ 0x00 ∷ 0x00 ∷ 0x01 ∷ [])) ≡ Err (of_all Padding)
unfolding width_for decoded_header decoded_instruction decoded_image is_legal can_move
filled-up = refl

-- two moves into a file that is written once a cycle
abbrev twice : Instruction
twice = record {
  moves = Some (record { guard = None; src = source.Reg 0 1; dst = dest.Reg 1 1 })
      ∷ Some (record { guard = None; src = source.Reg 0 2; dst = dest.Reg 1 2 })
      ∷ None
      ∷ [];
  long = None;
}

-- a field without a meaning, and an illegal instruction before it, which is reported first
wrong-field : decoded_words three_buses (layout_of three_buses) 1 0 (replicate 50 true) ≡ Err (of_word 0 Field 0)
unfolding width_for decoded_instruction is_legal can_move
wrong-field = refl

illegal-first : decoded_words three_buses (layout_of three_buses) 2 0 (instruction_bits three_buses twice ++ replicate 50 true) ≡ Err (of_word 0 Illegal 0)
unfolding width_for decoded_instruction instruction_bits is_legal can_move
illegal-first = refl

-- ---- data

-- the machine of one bus with a data space of four words
abbrev with_space : Machine
with_space = record one_bus { data_words = 4 }

-- data and two words of 12 bits after their header
abbrev with_data : List ℕ → List ℕ
with_data section = header with_space digest 2 2 ++ (section ++ (0x83 ∷ 0x98 ∷ 0x04 ∷ []))

-- the word 9 at address 2
nine-decoded : decoded_image with_space digest (with_data (0 ∷ 0 ∷ 0 ∷ 1 ∷ 0 ∷ 0 ∷ 0 ∷ 2 ∷ 0 ∷ 0 ∷ 0 ∷ 9 ∷ []))
    ≡ Ok (record { code = seven; init = record { address = 2; value = 9 } ∷ [] })
unfolding width_for decoded_header decoded_instruction decoded_image is_legal can_move
nine-decoded = refl

-- no data where there are to be some
no-data : decoded_image with_space digest (with_data (0 ∷ 0 ∷ 0 ∷ 0 ∷ [])) ≡ Err (of_word 0 Data 0)
unfolding width_for decoded_header decoded_image
no-data = refl

-- an address past the data space, and one that stands twice
past-space : decoded_image with_space digest (with_data (0 ∷ 0 ∷ 0 ∷ 1 ∷ 0 ∷ 0 ∷ 0 ∷ 4 ∷ 0 ∷ 0 ∷ 0 ∷ 9 ∷ [])) ≡ Err (of_word 0 Data 0)
unfolding width_for decoded_header decoded_image
past-space = refl

address-twice : decoded_image with_space digest (with_data (
    0 ∷ 0 ∷ 0 ∷ 2 ∷ 0 ∷ 0 ∷ 0 ∷ 2 ∷ 0 ∷ 0 ∷ 0 ∷ 9 ∷ 0 ∷ 0 ∷ 0 ∷ 2 ∷ 0 ∷ 0 ∷ 0 ∷ 8 ∷ [])) ≡ Err (of_word 1 Data 0)
unfolding width_for decoded_header decoded_image
address-twice = refl

-- a number of data that is cut short
cut-number : decoded_image with_space digest (header with_space digest 2 2 ++ (0x83 ∷ 0x98 ∷ 0x04 ∷ [])) ≡ Err (of_all Length)
unfolding width_for decoded_header decoded_image
cut-number = refl
