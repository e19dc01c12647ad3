-- What eight hexadecimal digits are to the decoder of hex text.
use Rattle.std.proofs.Common.{◌≡◌, ℕ, ◌+◌, ◌-◌, ◌*◌, ◌/◌, ◌%◌, ◌≤◌, ◌<◌, ◌==◌, Bool, true, false, ◌&&◌, if◌then◌else◌, List, [], ◌∷◌, length, Option, Some, None, Result, Ok, Err, refl, sym, ap, ◌∙◌, arith, ◌⊎◌}
use Rattle.std.specs.Prelude.{nat_le, ⊤, MatchResult}
use Rattle.std.specs.List.{list_all}
use Rattle.std.specs.Char.{is_ascii_hexdigit, digit_value}
use Rattle.std.specs.Str.Parse.{digits_value_after}
use Rattle.std.specs.Int.{w32, from_be_bytes}
use Rattle.hex.specs.Hex.{hex_digit_value, digit_or_error, decode_pairs, decode_sized, ◌>>=◌}
use Rattle.hex.specs.declared.error.FromHexError.{FromHexError}
use Rattle.hex.specs.declared.error.FromHexError.TheVariants.{OddLength, InvalidStringLength}
use Rattle.tta_input.specs.Input.{is_word, value_of, word_of}

-- the number that bytes write after those of n, the most significant first
abbrev pub bytes_value_after : ℕ → List ℕ → ℕ
bytes_value_after n [] = n
bytes_value_after n (byte ∷ bytes) = bytes_value_after (n * 256 + byte) bytes

in_range : (low high c : ℕ) → (nat_le low c && nat_le c high) ≡ true → (low ≤ c) × (c ≤ high)
in_range low high c h = grind (arith)

upper : (c : ℕ) → 65 ≤ c → c ≤ 70 → (is_ascii_hexdigit c ≡ true) × (digit_value c ≡ c - 55)
upper c low high = (grind (arith), grind (arith))

lower : (c : ℕ) → 97 ≤ c → c ≤ 102 → (is_ascii_hexdigit c ≡ true) × (digit_value c ≡ c - 87)
lower c low high = (grind (arith), grind (arith))

decimal : (c : ℕ) → 48 ≤ c → c ≤ 57 → (is_ascii_hexdigit c ≡ true) × (digit_value c ≡ c - 48)
decimal c low high = (grind (arith), grind (arith))

-- a byte is a digit exactly where it is read, and then as its value
pub record ReadsAs (c : ℕ) (read : Option ℕ) : Type 0 where
  pub digit : (v : ℕ) → read ≡ Some v → (is_ascii_hexdigit c ≡ true) × (digit_value c ≡ v)
  pub other : read ≡ None → is_ascii_hexdigit c ≡ false

module _ (c : ℕ) where
  not_in : (low high : ℕ) → (nat_le low c && nat_le c high) ≡ false → (c < low) ⊎ (high < c)
  not_in low high h = grind (arith)

  by_class : (a b d : Bool) → (nat_le 65 c && nat_le c 70) ≡ a → (nat_le 97 c && nat_le c 102) ≡ b → (nat_le 48 c && nat_le c 57) ≡ d
      → ReadsAs c (if a then Some (c - 55) else if b then Some (c - 87) else if d then Some (c - 48) else None)
  by_class true b d is_a is_b is_d =
      let r = in_range 65 70 c is_a in let u = upper c r.0 r.1 in
      record { digit = λ v h. (u.0, cc (u.1, h)); other = λ h. cc h }
  by_class false true d is_a is_b is_d =
      let r = in_range 97 102 c is_b in let u = lower c r.0 r.1 in
      record { digit = λ v h. (u.0, cc (u.1, h)); other = λ h. cc h }
  by_class false false true is_a is_b is_d =
      let r = in_range 48 57 c is_d in let u = decimal c r.0 r.1 in
      record { digit = λ v h. (u.0, cc (u.1, h)); other = λ h. cc h }
  by_class false false false is_a is_b is_d =
      record { digit = λ v h. cc h; other = λ h. rw (is_a, is_b, is_d) refl }

  reads_as : ReadsAs c (hex_digit_value c)
  reads_as = by_class (nat_le 65 c && nat_le c 70) (nat_le 97 c && nat_le c 102) (nat_le 48 c && nat_le c 57) refl refl refl

-- what a decoder of pairs of digits shows of them
pub record Decodes (digits : List ℕ) (read : Result (List ℕ) FromHexError) : Type 0 where
  pub all : (bytes : List ℕ) → read ≡ Ok bytes → list_all is_ascii_hexdigit digits ≡ true
  pub value : (bytes : List ℕ) → read ≡ Ok bytes → (n : ℕ) → digits_value_after 16 n digits ≡ bytes_value_after n bytes
  pub count : (bytes : List ℕ) → read ≡ Ok bytes → length digits ≡ 2 * length bytes
  pub other : (e : FromHexError) → read ≡ Err e → length digits % 2 ≡ 0 → list_all is_ascii_hexdigit digits ≡ false

-- the bytes that digits were decoded to, or no bytes where they were refused
abbrev bytes_of : Result (List ℕ) FromHexError → List ℕ
bytes_of (Ok bytes) = bytes
bytes_of (Err e) = []

module _ (high low i : ℕ) (rest : List ℕ) where
  by_digits : (h l : Option ℕ) → ReadsAs high h → ReadsAs low l → (r : Result (List ℕ) FromHexError) → Decodes rest r
      → Decodes (high ∷ low ∷ rest) (((digit_or_error high i h) >>= (λ a. (digit_or_error low (i + 1) l) >>= (λ b. Ok (a * 16 + b))))
      >>= (λ byte. r >>= (λ bytes. Ok (byte ∷ bytes))))
  by_digits None l is_h is_l r is_r = record {
    all = λ bytes h. cc h;
    value = λ bytes h n. cc h;
    count = λ bytes h. cc h;
    other = λ e h even. rw (is_h.other refl) refl;
  }
  by_digits (Some a) None is_h is_l r is_r = record {
    all = λ bytes h. cc h;
    value = λ bytes h n. cc h;
    count = λ bytes h. cc h;
    other = λ e h even. rw ((is_h.digit a refl).0, is_l.other refl) refl;
  }
  by_digits (Some a) (Some b) is_h is_l (Err d) is_r = record {
    all = λ bytes h. cc h;
    value = λ bytes h n. cc h;
    count = λ bytes h. cc h;
    other = λ e h even. rw ((is_h.digit a refl).0, (is_l.digit b refl).0) (is_r.other d refl (omega arith));
  }
  by_digits (Some a) (Some b) is_h is_l (Ok bs) is_r =
      let x = is_h.digit a refl in
      let y = is_l.digit b refl in
      let same : (bytes : List ℕ) → ◌≡◌ {A = Result (List ℕ) FromHexError} (Ok ((a * 16 + b) ∷ bs)) (Ok bytes) → (a * 16 + b) ∷ bs ≡ bytes = λ bytes h. ap bytes_of h in
      record {
        all = λ bytes h. rw (x.0, y.0) (is_r.all bs refl);
        value = λ bytes h n.
            let n16 : (n * 16 + a) * 16 + b ≡ n * 256 + (a * 16 + b) = omega arith in
            rw (x.1, y.1, n16) (is_r.value bs refl (n * 256 + (a * 16 + b))) ∙ ap (bytes_value_after n) (same bytes h);
        count = λ bytes h. let some = is_r.count bs refl in let s = same bytes h in rw (sym s) (omega arith);
        other = λ e h even. cc h;
      }

-- the decoder of pairs
pub decodes : (i : ℕ) (digits : List ℕ) → Decodes digits (decode_pairs i digits)
unfolding decode_pairs
decodes i [] = record {
  all = λ bytes h. refl;
  value = λ bytes h n. ap (bytes_value_after n) (ap bytes_of h);
  count = λ bytes h. ap (λ b. 2 * length b) (ap bytes_of h);
  other = λ e h even. cc h;
}
decodes i (digit ∷ []) = record {
  all = λ bytes h. cc h;
  value = λ bytes h n. cc h;
  count = λ bytes h. cc h;
  other = λ e h even. absurd (omega arith);
}
decodes i (high ∷ low ∷ rest) =
    by_digits high low i rest (hex_digit_value high) (hex_digit_value low) (reads_as high) (reads_as low) (decode_pairs (i + 2) rest) (decodes (i + 2) rest)

-- four bytes are the word that they write
four_bytes : (a b c d : ℕ) → from_be_bytes w32 (a ∷ b ∷ c ∷ d ∷ []) ≡ bytes_value_after 0 (a ∷ b ∷ c ∷ d ∷ [])
four_bytes a b c d = omega arith

pub from_be_bytes-value : (bytes : List ℕ) → length bytes ≡ 4 → from_be_bytes w32 bytes ≡ bytes_value_after 0 bytes
from_be_bytes-value [] n = absurd (omega arith)
from_be_bytes-value (a ∷ []) n = absurd (omega arith)
from_be_bytes-value (a ∷ b ∷ []) n = absurd (omega arith)
from_be_bytes-value (a ∷ b ∷ c ∷ []) n = absurd (omega arith)
from_be_bytes-value (a ∷ b ∷ c ∷ d ∷ []) n = four_bytes a b c d
from_be_bytes-value (a ∷ b ∷ c ∷ d ∷ e ∷ rest) n = absurd (omega arith)

module _ (line : List ℕ) where
  decoded_by : (odd four : Bool) → (length line % 2 == 1) ≡ odd → (length line / 2 == 4) ≡ four → (bytes : List ℕ)
      → (if odd then Err OddLength else if four then decode_pairs 0 line else Err InvalidStringLength) ≡ Ok bytes
      → word_of line ≡ Some (from_be_bytes w32 bytes)
  unfolding is_word value_of
  decoded_by true four is_odd is_four bytes h = cc h
  decoded_by false false is_odd is_four bytes h = cc h
  decoded_by false true is_odd is_four bytes h =
      let read = decodes 0 line in
      let count = read.count bytes h in
      let eight : length line ≡ 8 = grind (arith) in
      let four_long : length bytes ≡ 4 = omega arith in
      rw (eight, read.all bytes h, from_be_bytes-value bytes four_long, read.value bytes h 0) refl

  refused_by : (odd four : Bool) → (length line % 2 == 1) ≡ odd → (length line / 2 == 4) ≡ four → (e : FromHexError)
      → (if odd then Err OddLength else if four then decode_pairs 0 line else Err InvalidStringLength) ≡ Err e
      → word_of line ≡ None
  unfolding is_word value_of
  refused_by true four is_odd is_four e h = let not_eight : (length line == 8) ≡ false = grind (arith) in rw not_eight refl
  refused_by false false is_odd is_four e h = let not_eight : (length line == 8) ≡ false = grind (arith) in rw not_eight refl
  refused_by false true is_odd is_four e h =
      let eight : length line ≡ 8 = grind (arith) in
      rw (eight, (decodes 0 line).other e h (omega arith)) refl

  -- what is decoded into four bytes is a word
  pub word_of-decoded : (bytes : List ℕ) → decode_sized line 4 ≡ Ok bytes → word_of line ≡ Some (from_be_bytes w32 bytes)
  word_of-decoded bytes h = decoded_by (length line % 2 == 1) (length line / 2 == 4) refl refl bytes h

  -- and nothing else is
  pub word_of-refused : (e : FromHexError) → decode_sized line 4 ≡ Err e → word_of line ≡ None
  word_of-refused e h = refused_by (length line % 2 == 1) (length line / 2 == 4) refl refl e h

-- what the decoder's answer for four bytes shows
pub read_as : (line out : List ℕ) (answer : Result ⊤ FromHexError) (read : Result (List ℕ) FromHexError) → decode_sized line 4 ≡ read
    → MatchResult read (λ bytes. (answer ≡ Ok tt) × (out ≡ bytes)) (λ e. answer ≡ Err e)
    → MatchResult answer (λ _. word_of line ≡ Some (from_be_bytes w32 out)) (λ _. word_of line ≡ None)
read_as line out (Ok u) (Ok bytes) is m = rw m.1 (word_of-decoded line bytes is)
read_as line out (Ok u) (Err e) is m = cc m
read_as line out (Err d) (Ok bytes) is m = cc m.0
read_as line out (Err d) (Err e) is m = word_of-refused line e is
