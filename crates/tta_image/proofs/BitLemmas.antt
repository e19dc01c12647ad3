-- What bits of numbers do when a bit, a byte or a run of zeros is put after them.
use Rattle.std.proofs.Common.{◌≡◌, ℕ, zero, suc, ◌+◌, ◌-◌, ◌*◌, ◌/◌, ◌%◌, ◌^◌, ◌<◌, ◌≤◌, ◌==◌, Bool, true, false, List, [], ◌∷◌, ◌++◌, replicate, take, drop, refl, sym, ap, ◌∙◌, arith, add-one}
use Rattle.std.proofs.lemmas.List.{append_assoc, append-nil, replicate_more}
use Rattle.std.proofs.lemmas.List.Concat.{flat_map-append}
use Rattle.std.proofs.lemmas.Nat.{shr-shr, shr_split}
use Rattle.std.specs.List.{flat_map, AllByRecursion}
use Rattle.tta_image.specs.Bits.{bits_of}
use Rattle.tta_image.specs.Image.{AreBytesOf}
use Rattle.tta_image.specs.Sink.{bit_value}
use Rattle.tta_arch.proofs.Widths.{no_high}

half : (n : ℕ) (b : Bool) → (2 * n + bit_value b) / 2 ≡ n
half n true = omega arith
half n false = omega arith

odd : (n : ℕ) (b : Bool) → ((2 * n + bit_value b) / 2 ^ 0 % 2 == 1) ≡ b
odd n true = let e : (2 * n + 1) / 1 % 2 ≡ 1 = omega arith in rw e
odd n false = let e : (2 * n + 0) / 1 % 2 ≡ 0 = omega arith in rw e

halves : (n k : ℕ) (b : Bool) → (2 * n + bit_value b) / 2 ^ suc k ≡ n / 2 ^ k
halves n k b =
    let split = shr-shr (2 * n + bit_value b) 1 k in
    let e : 1 + k ≡ suc k = omega arith in
    ap (λ j. (2 * n + bit_value b) / 2 ^ j) (sym e) ∙ sym split ∙ ap (λ m. m / 2 ^ k) (half n b)

-- a number with one more bit after its bits
pub bits_of-with_bit : (k n : ℕ) (b : Bool) → bits_of (suc k) (2 * n + bit_value b) ≡ bits_of k n ++ b ∷ []
bits_of-with_bit zero n b = ap (λ c. c ∷ []) (odd n b)
bits_of-with_bit (suc k) n b =
    ap (λ m. (m % 2 == 1) ∷ bits_of (suc k) (2 * n + bit_value b)) (halves n k b) ∙ ap (λ l. (n / 2 ^ k % 2 == 1) ∷ l) (bits_of-with_bit k n b)

-- ---- what a sink shows

-- a bit that makes the last byte full
pub shows_full : (bytes bytes' : List ℕ) (filled last last' : ℕ) (shown : List Bool) (b : Bool)
    → filled ≡ 7 → last' ≡ 2 * last + bit_value b → bytes' ≡ bytes ++ last' ∷ [] → flat_map (bits_of 8) bytes ++ bits_of filled last ≡ shown
    → flat_map (bits_of 8) bytes' ++ bits_of 0 0 ≡ shown ++ b ∷ []
shows_full bytes bytes' filled last last' shown b seven twice full was =
    append-nil (flat_map (bits_of 8) bytes') ∙ ap (λ l. flat_map (bits_of 8) l) full
    ∙ flat_map-append (bits_of 8) bytes (last' ∷ [])
    ∙ ap (λ l. flat_map (bits_of 8) bytes ++ l) (append-nil (bits_of 8 last') ∙ ap (λ n. bits_of 8 n) twice ∙ bits_of-with_bit 7 last b)
    ∙ sym (append_assoc (flat_map (bits_of 8) bytes) (bits_of 7 last) (b ∷ []))
    ∙ ap (λ l. l ++ b ∷ []) (ap (λ n. flat_map (bits_of 8) bytes ++ bits_of n last) (sym seven) ∙ was)

-- a bit that does not
pub shows_more : (bytes : List ℕ) (filled last last' : ℕ) (shown : List Bool) (b : Bool)
    → last' ≡ 2 * last + bit_value b → flat_map (bits_of 8) bytes ++ bits_of filled last ≡ shown
    → flat_map (bits_of 8) bytes ++ bits_of (filled + 1) last' ≡ shown ++ b ∷ []
shows_more bytes filled last last' shown b twice was =
    ap (λ l. flat_map (bits_of 8) bytes ++ l) (ap (λ n. bits_of (filled + 1) n) twice ∙ ap (λ w. bits_of w (2 * last + bit_value b)) (add-one filled) ∙ bits_of-with_bit filled last b)
    ∙ sym (append_assoc (flat_map (bits_of 8) bytes) (bits_of filled last) (b ∷ []))
    ∙ ap (λ l. l ++ b ∷ []) was

-- a number's bits with zeros after them
pub bits_of-shifted : (f z n : ℕ) → bits_of (f + z) (n * 2 ^ z) ≡ bits_of f n ++ replicate z false
bits_of-shifted f zero n =
    let e : f + 0 ≡ f = omega arith in let d : n * 2 ^ 0 ≡ n = omega arith in
    ap (λ w. bits_of w (n * 2 ^ 0)) e ∙ ap (λ m. bits_of f m) d ∙ sym (append-nil (bits_of f n))
bits_of-shifted f (suc z) n =
    let e : f + suc z ≡ suc (f + z) = omega arith in
    let p : 2 ^ suc z ≡ 2 * 2 ^ z = omega arith in
    let d : n * (2 * 2 ^ z) ≡ 2 * (n * 2 ^ z) + bit_value false = omega arith in
    let z1 : z + 1 ≡ suc z = omega arith in
    ap (λ w. bits_of w (n * 2 ^ suc z)) e ∙ ap (λ m. bits_of (suc (f + z)) (n * m)) p ∙ ap (λ m. bits_of (suc (f + z)) m) d
    ∙ bits_of-with_bit (f + z) (n * 2 ^ z) false ∙ ap (λ l. l ++ false ∷ []) (bits_of-shifted f z n)
    ∙ append_assoc (bits_of f n) (replicate z false) (false ∷ []) ∙ ap (λ l. bits_of f n ++ l) (replicate_more z false ∙ ap (λ k. replicate k false) z1)

pub bytes_push : (bytes : List ℕ) (b : ℕ) → AllByRecursion (λ x. x < 256) bytes → b < 256 → AllByRecursion (λ x. x < 256) (bytes ++ b ∷ [])
bytes_push [] b all h = (h, tt)
bytes_push (x ∷ xs) b all h = (all.0, bytes_push xs b all.1 h)

-- a sink with no bits after its full bytes
pub bytes_of_full : (bytes : List ℕ) (filled last : ℕ) (shown : List Bool) → filled ≡ 0 → AllByRecursion (λ x. x < 256) bytes
    → flat_map (bits_of 8) bytes ++ bits_of filled last ≡ shown → AreBytesOf shown bytes
bytes_of_full bytes filled last shown none all was = record {
  are_bytes = all;
  filling = 0;
  short = omega arith;
  same_bits = sym (append-nil (flat_map (bits_of 8) bytes)) ∙ ap (λ w. flat_map (bits_of 8) bytes ++ bits_of w last) (sym none) ∙ was ∙ sym (append-nil shown);
}

-- a sink whose last byte is filled up
pub bytes_of_filled : (bytes bytes' : List ℕ) (filled last last' : ℕ) (shown : List Bool) → 0 < filled → filled < 8 → last < 2 ^ filled
    → last' ≡ last * 2 ^ (8 - filled) → last' < 256 → bytes' ≡ bytes ++ last' ∷ [] → AllByRecursion (λ x. x < 256) bytes
    → flat_map (bits_of 8) bytes ++ bits_of filled last ≡ shown → AreBytesOf shown bytes'
bytes_of_filled bytes bytes' filled last last' shown some below small shifted fits pushed all was =
    let e : 8 ≡ filled + (8 - filled) = omega arith in
    record {
      are_bytes = rw pushed (bytes_push bytes last' all fits);
      filling = 8 - filled;
      short = omega arith;
      same_bits =
          ap (λ l. flat_map (bits_of 8) l) pushed ∙ flat_map-append (bits_of 8) bytes (last' ∷ [])
          ∙ ap (λ l. flat_map (bits_of 8) bytes ++ l)
          (append-nil (bits_of 8 last') ∙ ap (λ n. bits_of 8 n) shifted ∙ ap (λ w. bits_of w (last * 2 ^ (8 - filled))) e ∙ bits_of-shifted filled (8 - filled) last)
          ∙ sym (append_assoc (flat_map (bits_of 8) bytes) (bits_of filled last) (replicate (8 - filled) false))
          ∙ ap (λ l. l ++ replicate (8 - filled) false) was;
    }

-- a number without the bits above its own
pub low_whole : (n w k : ℕ) → n < 2 ^ w → w ≤ k → n % 2 ^ k ≡ n
low_whole n w k small h =
    let split = shr_split n k in
    let product : n / 2 ^ k * 2 ^ k ≡ 0 * 2 ^ k = ap (λ q. q * 2 ^ k) (no_high n w k small h) in
    omega arith

-- the low bits of a number without its low bits
pub shifted_bit : (n k v : ℕ) → n / 2 ^ (k + v) ≡ n / 2 ^ k / 2 ^ v
shifted_bit n k v = sym (shr-shr n k v)

-- the highest bits of a number are those of the number without its low bits
pub take-bits_of : (w k n : ℕ) → take w (bits_of (w + k) n) ≡ bits_of w (n / 2 ^ k)
take-bits_of zero k n = refl
take-bits_of (suc w) k n =
    let e : suc w + k ≡ suc (w + k) = omega arith in
    let f : w + k ≡ k + w = omega arith in
    ap (λ x. take (suc w) (bits_of x n)) e
    ∙ ap (λ x. (n / 2 ^ x % 2 == 1) ∷ take w (bits_of (w + k) n)) f
    ∙ ap (λ x. (x % 2 == 1) ∷ take w (bits_of (w + k) n)) (shifted_bit n k w)
    ∙ ap (λ l. (n / 2 ^ k / 2 ^ w % 2 == 1) ∷ l) (take-bits_of w k n)

-- the others are its low bits
pub drop-bits_of : (w k n : ℕ) → drop w (bits_of (w + k) n) ≡ bits_of k n
drop-bits_of zero k n = let e : 0 + k ≡ k = omega arith in ap (λ x. bits_of x n) e
drop-bits_of (suc w) k n =
    let e : suc w + k ≡ suc (w + k) = omega arith in ap (λ x. drop (suc w) (bits_of x n)) e ∙ drop-bits_of w k n

-- both, where so many bits are left
pub take_left : (w left n : ℕ) → w ≤ left → take w (bits_of left n) ≡ bits_of w (n / 2 ^ (left - w))
take_left w left n h =
    let e : left ≡ w + (left - w) = omega arith in
    ap (λ x. take w (bits_of x n)) e ∙ take-bits_of w (left - w) n

pub drop_left : (w left n : ℕ) → w ≤ left → drop w (bits_of left n) ≡ bits_of (left - w) n
drop_left w left n h =
    let e : left ≡ w + (left - w) = omega arith in
    ap (λ x. drop w (bits_of x n)) e ∙ drop-bits_of w (left - w) n
