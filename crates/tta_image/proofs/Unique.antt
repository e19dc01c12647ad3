-- What bits determine: a number, bytes, and how many zeros fill up the last byte.
use Rattle.std.proofs.Common.{◌≡◌, ℕ, zero, suc, ◌+◌, ◌*◌, ◌/◌, ◌%◌, ◌^◌, ◌<◌, ◌==◌, Bool, false, List, [], ◌∷◌, ◌++◌, length, replicate, take, drop, refl, sym, ap, ◌∙◌, inl, inr, arith}
use Rattle.std.specs.List.{flat_map, AllByRecursion}
use Rattle.std.proofs.lemmas.List.{same_from_push, take_at, drop_at, length-append, length-replicate}
use Rattle.std.proofs.lemmas.Bool.{cases_eq, eq-eqb, ne_eqb}
use Rattle.tta_image.specs.Cited.{Machine, Whole}
use Rattle.tta_image.specs.Bits.{bits_of, code_bits}
use Rattle.tta_image.specs.Image.{AreBytesOf, Image, header, version_of, data_section}
use Rattle.tta_image.specs.Sink.{bit_value}
use Rattle.tta_image.proofs.BitLemmas.{bits_of-with_bit}

-- two lists that begin with parts of one length
pub split_same : {A : Type 0} (p p' r r' : List A) → length p ≡ length p' → p ++ r ≡ p' ++ r' → (p ≡ p') × (r ≡ r')
split_same p p' r r' same joined = (
  sym (take_at p r (length p) refl) ∙ ap (λ l. take (length p) l) joined ∙ take_at p' r' (length p) (sym same),
  sym (drop_at p r (length p) refl) ∙ ap (λ l. drop (length p) l) joined ∙ drop_at p' r' (length p) (sym same),
)

pub length-bits_of : (w n : ℕ) → length (bits_of w n) ≡ w
length-bits_of zero n = refl
length-bits_of (suc w) n = ap suc (length-bits_of w n)

halved : (n : ℕ) → n ≡ 2 * (n / 2) + bit_value (n % 2 == 1)
halved n = elim (cases_eq (n % 2) 1) [
  | inl odd ↦ let v : bit_value (n % 2 == 1) ≡ 1 = ap bit_value (eq-eqb (n % 2) 1 odd) in omega arith
  | inr even ↦ let v : bit_value (n % 2 == 1) ≡ 0 = ap bit_value (ne_eqb (n % 2) 1 even) in omega arith
]

-- a number's bits but its last one, and its last one
bits_of-split : (w n : ℕ) → bits_of (suc w) n ≡ bits_of w (n / 2) ++ (n % 2 == 1) ∷ []
bits_of-split w n = ap (λ (k : ℕ). bits_of (suc w) k) (halved n) ∙ bits_of-with_bit w (n / 2) (n % 2 == 1)

-- numbers of so many bits with the same bits are one
pub same_number : (w n n' : ℕ) → n < 2 ^ w → n' < 2 ^ w → bits_of w n ≡ bits_of w n' → n ≡ n'
same_number zero n n' small small' same = let one : 2 ^ 0 ≡ 1 = refl in omega arith
same_number (suc w) n n' small small' same =
    let p : 2 ^ suc w ≡ 2 * 2 ^ w = omega arith in
    let parts = same_from_push (bits_of w (n / 2)) (bits_of w (n' / 2)) (n % 2 == 1) (n' % 2 == 1) (sym (bits_of-split w n) ∙ same ∙ bits_of-split w n') in
    let high : n / 2 ≡ n' / 2 = same_number w (n / 2) (n' / 2) (omega arith) (omega arith) parts.0 in
    halved n ∙ ap (λ (k : ℕ). 2 * k + bit_value (n % 2 == 1)) high ∙ ap (λ (b : Bool). 2 * (n' / 2) + bit_value b) parts.1 ∙ sym (halved n')

pub length-bytes : (bytes : List ℕ) → length (flat_map (bits_of 8) bytes) ≡ 8 * length bytes
length-bytes [] = refl
length-bytes (b ∷ bs) =
    let step = length-append (bits_of 8 b) (flat_map (bits_of 8) bs) in
    let eight = length-bits_of 8 b in
    let rest = length-bytes bs in
    omega arith

-- bytes with the same bits are the same
pub same_bytes : (bytes bytes' : List ℕ) → AllByRecursion (λ b. b < 256) bytes → AllByRecursion (λ b. b < 256) bytes'
    → flat_map (bits_of 8) bytes ≡ flat_map (bits_of 8) bytes' → bytes ≡ bytes'
same_bytes [] [] h h' same = refl
same_bytes [] (b' ∷ bs') h h' same = absurd (omega (arith, ap length same, length-bytes (b' ∷ bs')))
same_bytes (b ∷ bs) [] h h' same = absurd (omega (arith, ap length same, length-bytes (b ∷ bs)))
same_bytes (b ∷ bs) (b' ∷ bs') h h' same =
    let parts = split_same (bits_of 8 b) (bits_of 8 b') (flat_map (bits_of 8) bs) (flat_map (bits_of 8) bs') refl same in
    let first : b ≡ b' = same_number 8 b b' h.0 h'.0 parts.0 in
    ap (λ x. x ∷ bs) first ∙ ap (λ l. b' ∷ l) (same_bytes bs bs' h.1 h'.1 parts.1)

-- bits have one list of bytes
pub one_filling : (bits : List Bool) (bytes bytes' : List ℕ) → AreBytesOf bits bytes → AreBytesOf bits bytes' → bytes ≡ bytes'
one_filling bits bytes bytes' h h' =
    let many : 8 * length bytes ≡ length bits + h.filling =
    sym (length-bytes bytes) ∙ ap length h.same_bits ∙ length-append bits (replicate h.filling false) ∙ ap (λ (k : ℕ). length bits + k) (length-replicate h.filling false) in
    let many' : 8 * length bytes' ≡ length bits + h'.filling =
    sym (length-bytes bytes') ∙ ap length h'.same_bits ∙ length-append bits (replicate h'.filling false) ∙ ap (λ (k : ℕ). length bits + k) (length-replicate h'.filling false) in
    let short = h.short in let short' = h'.short in
    let same : h.filling ≡ h'.filling = omega arith in
    same_bytes bytes bytes' h.are_bytes h'.are_bytes (h.same_bits ∙ ap (λ (k : ℕ). bits ++ replicate k false) same ∙ sym h'.same_bits)

-- code with data has one image
pub has_one_image : (m : Machine) (digest : List ℕ) (whole : Whole) (bytes bytes' : List ℕ) → Image m digest whole bytes → Image m digest whole bytes' → bytes ≡ bytes'
has_one_image m digest whole bytes bytes' h h' =
    h.parts
    ∙ ap (λ (l : List ℕ). header m digest (version_of whole.init) (length whole.code.words) ++ (data_section whole.init ++ l)) (one_filling (code_bits m whole.code) h.body h'.body h.words h'.words)
    ∙ sym h'.parts
