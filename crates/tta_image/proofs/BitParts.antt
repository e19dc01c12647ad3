-- Bits of a number, several at a time.
use Rattle.std.proofs.Common.{◌≡◌, ℕ, zero, suc, ◌+◌, ◌-◌, ◌*◌, ◌/◌, ◌%◌, ◌^◌, ◌<◌, ◌≤◌, Bool, false, List, [], ◌∷◌, ◌++◌, replicate, drop, refl, sym, ap, ◌∙◌, lit<, arith}
use Rattle.std.specs.List.{flat_map}
use Rattle.std.proofs.lemmas.List.{append_assoc, append-nil, take-append-drop}
use Rattle.std.proofs.lemmas.List.Concat.{flat_map-append}
use Rattle.std.proofs.lemmas.Nat.{shr_high, mod_low, mod_below, pow_pos, pow-add}
use Rattle.tta_arch.proofs.Widths.{no_high}
use Rattle.tta_image.specs.Bits.{bits_of}
use Rattle.tta_image.proofs.BitLemmas.{low_whole, take-bits_of, drop-bits_of, take_left, drop_left}
use Rattle.tta_image.proofs.Unique.{length-bits_of}
use Rattle.tta_image.proofs.Numbers.{number_of-bits_of, same_bits}

-- the bits above so many low ones are left out
bits_of-low : (k n : ℕ) → bits_of k (n % 2 ^ k) ≡ bits_of k n
bits_of-low k n =
    let p = pow_pos k in
    same_bits (bits_of k (n % 2 ^ k)) (bits_of k n) (length-bits_of k (n % 2 ^ k) ∙ sym (length-bits_of k n))
    (number_of-bits_of k (n % 2 ^ k) ∙ low_whole (n % 2 ^ k) k k (mod_below n (2 ^ k) p) (omega arith) ∙ sym (number_of-bits_of k n))

-- bits, and more bits after them
bits_of-joined : (f k high low : ℕ) → low < 2 ^ k → bits_of (f + k) (high * 2 ^ k + low) ≡ bits_of f high ++ bits_of k low
bits_of-joined f k high low small =
    let n = high * 2 ^ k + low in
    sym (take-append-drop f (bits_of (f + k) n))
    ∙ ap (λ (l : List Bool). l ++ drop f (bits_of (f + k) n)) (take-bits_of f k n ∙ ap (bits_of f) (shr_high high k low small))
    ∙ ap (λ (l : List Bool). bits_of f high ++ l) (drop-bits_of f k n ∙ sym (bits_of-low k n) ∙ ap (bits_of k) (mod_low high k low small))

-- the highest bits, and those after them
bits_of-front : (left k n : ℕ) → k ≤ left → bits_of left n ≡ bits_of k (n / 2 ^ (left - k)) ++ bits_of (left - k) n
bits_of-front left k n h =
    sym (take-append-drop k (bits_of left n))
    ∙ ap (λ (l : List Bool). l ++ drop k (bits_of left n)) (take_left k left n h)
    ∙ ap (λ (l : List Bool). bits_of k (n / 2 ^ (left - k)) ++ l) (drop_left k left n h)

-- what is shown once the highest bits of a number stand after the last ones
shows_front : (front shown : List Bool) (filled last last' left k n : ℕ) → k ≤ left → last' ≡ last * 2 ^ k + n / 2 ^ (left - k) % 2 ^ k
    → front ++ bits_of filled last ≡ shown → (front ++ bits_of (filled + k) last') ++ bits_of (left - k) n ≡ shown ++ bits_of left n
shows_front front shown filled last last' left k n h is was =
    let high = n / 2 ^ (left - k) in
    let p = pow_pos k in
    let more : bits_of (filled + k) last' ≡ bits_of filled last ++ bits_of k high =
    ap (bits_of (filled + k)) is ∙ bits_of-joined filled k last (high % 2 ^ k) (mod_below high (2 ^ k) p)
    ∙ ap (λ (l : List Bool). bits_of filled last ++ l) (bits_of-low k high) in
    ap (λ (l : List Bool). (front ++ l) ++ bits_of (left - k) n) more
    ∙ ap (λ (l : List Bool). l ++ bits_of (left - k) n) (sym (append_assoc front (bits_of filled last) (bits_of k high)) ∙ ap (λ (l : List Bool). l ++ bits_of k high) was)
    ∙ append_assoc shown (bits_of k high) (bits_of (left - k) n)
    ∙ ap (λ (l : List Bool). shown ++ l) (sym (bits_of-front left k n h))

-- bits that fill up the last byte
pub front_full : (bytes bytes' : List ℕ) (shown : List Bool) (filled last last' left k n : ℕ) → filled + k ≡ 8 → k ≤ left → last' ≡ last * 2 ^ k + n / 2 ^ (left - k) % 2 ^ k
    → bytes' ≡ bytes ++ last' ∷ [] → flat_map (bits_of 8) bytes ++ bits_of filled last ≡ shown
    → (flat_map (bits_of 8) bytes' ++ bits_of 0 0) ++ bits_of (left - k) n ≡ shown ++ bits_of left n
front_full bytes bytes' shown filled last last' left k n eight h is full was =
    ap (λ (l : List Bool). l ++ bits_of (left - k) n)
    (append-nil (flat_map (bits_of 8) bytes') ∙ ap (flat_map (bits_of 8)) full ∙ flat_map-append (bits_of 8) bytes (last' ∷ [])
    ∙ ap (λ (l : List Bool). flat_map (bits_of 8) bytes ++ l) (append-nil (bits_of 8 last') ∙ ap (λ (w : ℕ). bits_of w last') (sym eight)))
    ∙ shows_front (flat_map (bits_of 8) bytes) shown filled last last' left k n h is was

-- bits that do not
pub front_more : (bytes : List ℕ) (shown : List Bool) (filled last last' left k n : ℕ) → k ≤ left → last' ≡ last * 2 ^ k + n / 2 ^ (left - k) % 2 ^ k
    → flat_map (bits_of 8) bytes ++ bits_of filled last ≡ shown
    → (flat_map (bits_of 8) bytes ++ bits_of (filled + k) last') ++ bits_of (left - k) n ≡ shown ++ bits_of left n
front_more bytes shown filled last last' left k n h is was = shows_front (flat_map (bits_of 8) bytes) shown filled last last' left k n h is was

-- a byte's bits and more of them are below what so many bits tell apart
pub more_below : (filled k last part : ℕ) → last < 2 ^ filled → part < 2 ^ k → last * 2 ^ k + part < 2 ^ (filled + k)
more_below filled k last part small few =
    let d = 2 ^ filled - last - 1 in
    let e : 2 ^ filled ≡ last + 1 + d = omega arith in
    let product : 2 ^ (filled + k) ≡ (last + 1 + d) * 2 ^ k = pow-add 2 filled k ∙ ap (λ (x : ℕ). x * 2 ^ k) e in
    let parts : (last + 1 + d) * 2 ^ k ≡ last * 2 ^ k + 2 ^ k + d * 2 ^ k = grind arith in
    omega arith

pub bits_of-zero : (w : ℕ) → bits_of w 0 ≡ replicate w false
bits_of-zero zero = refl
bits_of-zero (suc w) =
    let none : 0 / 2 ^ w ≡ 0 = no_high 0 0 w (lit< tt) (omega arith) in
    rw none (ap (λ (l : List Bool). false ∷ l) (bits_of-zero w))
