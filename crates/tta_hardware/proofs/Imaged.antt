-- The words of code among the bits of its image.
use Rattle.std.proofs.Common.{◌≡◌, ℕ, zero, suc, ◌+◌, ◌*◌, Bool, false, List, [], ◌∷◌, ◌++◌, length, map, take, replicate, slice_get, IsTrue, Some, refl, sym, ap, ◌∙◌, arith}
use Rattle.std.specs.List.{flat_map, range_with_len, AllByRecursion}
use Rattle.std.proofs.lemmas.Option.{none-some, same_Some}
use Rattle.std.proofs.lemmas.List.{append_assoc, drop-drop, drop_at, take_at}
use Rattle.tta_hardware.specs.Cited.{Machine, numbers, word_width, Instruction, is_legal, instruction_bits, header, version_of, data_section, number_of, field, word_count}
use Rattle.tta_image.proofs.ImageLemmas.{words_fit}
use Rattle.tta_image.proofs.InstructionLemmas.{length-instruction_bits}
use Rattle.tta_image.proofs.PairsDecoded.{data_stands}
use Rattle.tta_hardware.specs.Fields.{word_of}
use Rattle.tta_hardware.specs.Words.{word_in, image_words, ImageKept}
use Rattle.std.proofs.lemmas.Nat.{from_be_bytes-to_be_bytes_4}

-- a word of bits that begin with those of instructions
field_word : (m : Machine) (is : List Instruction) (k : ℕ) (i : Instruction) (rest : List Bool)
    → AllByRecursion (λ i. IsTrue (is_legal m i)) is → slice_get is k ≡ Some i
    → field (k * word_width m) (word_width m) (flat_map (instruction_bits m) is ++ rest) ≡ word_of m i
field_word m [] k i rest legal at = absurd (none-some i at)
field_word m (x ∷ xs) zero i rest legal at =
    let w : ℕ = word_width m in
    let own : List Bool = instruction_bits m x in
    let after : List Bool = flat_map (instruction_bits m) xs ++ rest in
    let none : 0 * w ≡ 0 = omega arith in
    ap (λ (n : ℕ). field n w (flat_map (instruction_bits m) (x ∷ xs) ++ rest)) none
    ∙ ap (λ (l : List Bool). number_of (take w l)) (append_assoc own (flat_map (instruction_bits m) xs) rest)
    ∙ ap number_of (take_at own after w (length-instruction_bits m x legal.0)) ∙ ap (word_of m) (same_Some x i at)
field_word m (x ∷ xs) (suc k) i rest legal at =
    let w : ℕ = word_width m in
    let own : List Bool = instruction_bits m x in
    let after : List Bool = flat_map (instruction_bits m) xs ++ rest in
    let e : suc k * w ≡ w + k * w = grind arith in
    ap (λ (n : ℕ). field n w ((own ++ flat_map (instruction_bits m) xs) ++ rest)) e
    ∙ ap (λ (l : List Bool). field (w + k * w) w l) (append_assoc own (flat_map (instruction_bits m) xs) rest)
    ∙ ap (λ (l : List Bool). number_of (take w l)) (sym (drop-drop (k * w) w (own ++ after)))
    ∙ ap (λ (l : List Bool). field (k * w) w l) (drop_at own after w (length-instruction_bits m x legal.0))
    ∙ field_word m xs k i rest legal.1 at

numbered : {A : Type 0} (f : ℕ → ℕ) (g : A → ℕ) (a : ℕ) (xs : List A) → ((k : ℕ) (x : A) → slice_get xs k ≡ Some x → f (a + k) ≡ g x)
    → map f (range_with_len a (length xs)) ≡ map g xs
numbered f g a [] same = refl
numbered f g a (x ∷ xs) same =
    let e : a ≡ a + 0 = omega arith in
    ap (λ (n : ℕ). n ∷ map f (range_with_len (a + 1) (length xs))) (ap f e ∙ same 0 x refl)
    ∙ ap (λ (l : List ℕ). g x ∷ l)
    (numbered f g (a + 1) xs (λ k y at. let s : a + 1 + k ≡ a + suc k = omega arith in ap f s ∙ same (suc k) y at))

-- the memory of code is read off its image
pub image_kept : ImageKept
image_kept m digest whole bytes rules many h =
    let is : List Instruction = whole.code.words in
    let n : ℕ = length is in
    let all : List ℕ = header m digest (version_of whole.init) n ++ (data_section whole.init ++ h.body) in
    let stands = data_stands m digest n whole.init h.body rules many h.rises h.fits in
    let count : word_count all ≡ n = from_be_bytes-to_be_bytes_4 n (words_fit m whole.code rules h.legal) in
    let words : map (word_in m h.body) (numbers n) ≡ map (word_of m) is =
    numbered (word_in m h.body) (word_of m) 0 is (λ k i at.
    let e : 0 + k ≡ k = omega arith in
    ap (word_in m h.body) e
    ∙ ap (λ (l : List Bool). field (k * word_width m) (word_width m) l) h.words.same_bits
    ∙ field_word m is k i (replicate h.words.filling false) h.legal.words at) in
    ap (image_words m) h.parts
    ∙ ap (λ (b : List ℕ). map (word_in m b) (numbers (word_count all))) stands.body
    ∙ ap (λ (k : ℕ). map (word_in m h.body) (numbers k)) count ∙ words
