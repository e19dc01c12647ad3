-- Bytes are the image of at most one code with data.
use Rattle.std.proofs.Common.{◌≡◌, ℕ, ◌^◌, ◌<◌, false, List, [], ◌∷◌, ◌++◌, length, replicate, codes, refl, sym, ap, ◌∙◌, arith}
use Rattle.std.specs.Int.{w32, to_be_bytes}
use Rattle.std.specs.List.{flat_map}
use Rattle.tta_image.specs.Cited.{Machine, word_width, IsMachine, Instruction, Datum, Whole}
use Rattle.tta_image.specs.Bits.{bits_of, code_bits}
use Rattle.tta_image.specs.Image.{Image, header, version_of, data_section}
use Rattle.tta_image.proofs.Unique.{split_same}
use Rattle.tta_image.proofs.ImageLemmas.{words_fit}
use Rattle.tta_image.proofs.PairsDecoded.{number_told, sections_tell}
use Rattle.tta_image.proofs.InstructionLemmas.{words_tell}

-- the header says the version and how many instructions there are, and the rest follows it
header_tells : (m : Machine) (digest : List ℕ) (v v' n n' : ℕ) (rest rest' : List ℕ) → v < 2 ^ 32 → v' < 2 ^ 32 → n < 2 ^ 32 → n' < 2 ^ 32
    → header m digest v n ++ rest ≡ header m digest v' n' ++ rest' → (v ≡ v') × (n ≡ n') × (rest ≡ rest')
header_tells m digest v v' n n' rest rest' small small' few few' same =
    let wide : List ℕ = to_be_bytes w32 (word_width m) in
    let last : List ℕ = to_be_bytes w32 n ++ (digest ++ rest) in
    let last' : List ℕ = to_be_bytes w32 n' ++ (digest ++ rest') in
    let joined : codes "TTAI" ++ (to_be_bytes w32 v ++ (wide ++ last)) ≡ codes "TTAI" ++ (to_be_bytes w32 v' ++ (wide ++ last')) = same in
    let zero = split_same (codes "TTAI") (codes "TTAI") (to_be_bytes w32 v ++ (wide ++ last)) (to_be_bytes w32 v' ++ (wide ++ last')) refl joined in
    let one = split_same (to_be_bytes w32 v) (to_be_bytes w32 v') (wide ++ last) (wide ++ last') refl zero.1 in
    let two = split_same wide wide last last' refl one.1 in
    let three = split_same (to_be_bytes w32 n) (to_be_bytes w32 n') (digest ++ rest) (digest ++ rest') refl two.1 in
    let four = split_same digest digest rest rest' refl three.1 in
    (number_told v v' small small' one.0, number_told n n' few few' three.0, four.1)

small_version : (init : List Datum) → version_of init < 2 ^ 32
small_version [] = omega arith
small_version (d ∷ ds) = omega arith

whole_from : (a b : Whole) → a.code.words ≡ b.code.words → a.init ≡ b.init → a ≡ b
whole_from a b e f =
    ap (λ (l : List Instruction). let c : Whole = record { code = record { words = l }; init = a.init } in c) e
    ∙ ap (λ (l : List Datum). let c : Whole = record { code = b.code; init = l } in c) f

-- bytes are the image of at most one code with data
pub has_one_code : (m : Machine) (digest : List ℕ) (whole whole' : Whole) (bytes : List ℕ) → IsMachine m → Image m digest whole bytes → Image m digest whole' bytes → whole ≡ whole'
has_one_code m digest whole whole' bytes rules h h' =
    let told = header_tells m digest (version_of whole.init) (version_of whole'.init) (length whole.code.words) (length whole'.code.words)
    (data_section whole.init ++ h.body) (data_section whole'.init ++ h'.body) (small_version whole.init) (small_version whole'.init)
    (words_fit m whole.code rules h.legal) (words_fit m whole'.code rules h'.legal) (sym h.parts ∙ h'.parts) in
    let words = rules.limits.data_words in
    let laid = sections_tell m.data_words whole.init whole'.init h.body h'.body (omega arith) h.rises h'.rises h.fits h'.fits told.0 told.2 in
    let a = h.words in let b = h'.words in
    let bits : code_bits m whole.code ++ replicate a.filling false ≡ code_bits m whole'.code ++ replicate b.filling false =
    sym a.same_bits ∙ ap (λ (l : List ℕ). flat_map (bits_of 8) l) laid.1 ∙ b.same_bits in
    whole_from whole whole'
    (words_tell m whole.code.words whole'.code.words (replicate a.filling false) (replicate b.filling false) rules h.legal.words h'.legal.words told.1 bits) laid.0
