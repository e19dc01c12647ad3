-- How many bytes an image has.
use Rattle.std.proofs.Common.{◌≡◌, ℕ, ◌+◌, ◌*◌, ◌/◌, nat_lt, Bool, true, false, List, [], ◌∷◌, ◌++◌, length, replicate, refl, sym, ap, ◌∙◌, arith}
use Rattle.std.specs.List.{flat_map}
use Rattle.std.proofs.lemmas.Bool.{lt-ltb}
use Rattle.std.proofs.lemmas.List.{length-append, length-replicate}
use Rattle.tta_inspect.specs.Cited.{Machine, word_width, Datum, Whole, instruction_bits, Image, data_section, data_bytes, image_bytes}
use Rattle.tta_image.proofs.Unique.{length-bytes}
use Rattle.tta_image.proofs.ImageDecoded.{length-words_bits}
use Rattle.tta_image.proofs.PairsDecoded.{length-pairs as length-data}

-- how many bytes data take
length-section : (ds : List Datum) → length (data_section ds) ≡ data_bytes (length ds)
length-section [] = refl
length-section (d ∷ ds) =
    let all = length-data (d ∷ ds) in
    let some : nat_lt 0 (length (d ∷ ds)) ≡ true = lt-ltb 0 (length (d ∷ ds)) (omega arith) in
    let is : data_bytes (length (d ∷ ds)) ≡ 4 + 8 * length (d ∷ ds) = rw some refl in
    omega arith

-- how many bytes an image has
pub image_size : (m : Machine) (digest : List ℕ) (whole : Whole) (bytes : List ℕ) → length digest ≡ 32 → Image m digest whole bytes
    → length bytes ≡ image_bytes (word_width m) (length whole.code.words) (length whole.init)
image_size m digest whole bytes many h =
    let n : ℕ = length whole.code.words in
    let w : ℕ = word_width m in
    let bits : List Bool = flat_map (instruction_bits m) whole.code.words in
    let size : 8 * length h.body ≡ n * w + h.words.filling =
    sym (length-bytes h.body) ∙ ap length h.words.same_bits ∙ length-append bits (replicate h.words.filling false)
    ∙ ap (λ (k : ℕ). length bits + k) (length-replicate h.words.filling false) ∙ ap (λ (k : ℕ). k + h.words.filling) (length-words_bits m whole.code.words h.legal.words) in
    let short = h.words.short in
    let product : n * w ≡ w * n = grind arith in
    let body_size : length h.body ≡ (w * n + 7) / 8 = omega arith in
    let l1 = length-append digest (data_section whole.init ++ h.body) in
    let l2 = length-append (data_section whole.init) h.body in
    let section = length-section whole.init in
    let all = ap length h.parts in
    omega arith
