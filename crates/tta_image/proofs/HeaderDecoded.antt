-- The header of an image, and what the first bytes decode to.
use Rattle.std.proofs.Common.{◌≡◌, ℕ, zero, suc, ◌+◌, ◌*◌, ◌^◌, ◌<◌, ◌≤◌, ◌==◌, Bool, true, false, not, ◌&&◌, ◌||◌, if◌then◌else◌, nat_le, List, [], ◌∷◌, ◌++◌, length, get_or, take, drop, codes, Result, Ok, refl, sym, ap, ◌∙◌, arith}
use Rattle.std.specs.Int.{w32, to_be_bytes}
use Rattle.std.specs.List.{AllByRecursion}
use Rattle.std.specs.Cmp.Lexicographic.{bytes_decides}
use Rattle.std.proofs.lemmas.Bool.{and_parts, and_from, leb-true, le-leb, eqb-true, eq-eqb, not-false}
use Rattle.std.proofs.lemmas.List.{length-drop, length-take-le, drop-drop, take-append-drop, take_at}
use Rattle.std.proofs.lemmas.Nat.{from_be_bytes-to_be_bytes_4, be_bytes_4}
use Rattle.tta_image.specs.Cited.{refuse_if, Machine, word_width}
use Rattle.tta_parse.proofs.Steps.{refuse_if-ok}
use Rattle.tta_image.specs.declared.refusal.ImageError.{ImageError}
use Rattle.tta_image.specs.declared.refusal.ImageRefusal.TheVariants.{Magic, Version, WrongMachine, Width, Length}
use Rattle.tta_image.specs.Refusals.{of_all}
use Rattle.tta_image.specs.Image.{header}
use Rattle.tta_image.specs.Reading.{stands_at, has_data, is_version, data_told, section_length, bytes_for, word_count, has_length, decoded_header}

-- ---- pieces

-- a piece that stands somewhere
pub piece_there : (at : ℕ) (piece bytes : List ℕ) → stands_at at piece bytes ≡ true → take (length piece) (drop at bytes) ≡ piece
piece_there at piece bytes h = sym ((bytes_decides piece (take (length piece) (drop at bytes))).0 h)

pub piece_stands : (at : ℕ) (piece bytes : List ℕ) → take (length piece) (drop at bytes) ≡ piece → stands_at at piece bytes ≡ true
piece_stands at piece bytes h = (bytes_decides piece (take (length piece) (drop at bytes))).1 (sym h)

-- a piece, and what comes after it
cut_at : (at n next : ℕ) (piece bytes : List ℕ) → take n (drop at bytes) ≡ piece → at + n ≡ next → drop at bytes ≡ piece ++ drop next bytes
cut_at at n next piece bytes h e =
    sym (take-append-drop n (drop at bytes)) ∙ ap (λ (l : List ℕ). l ++ drop n (drop at bytes)) h
    ∙ ap (λ (l : List ℕ). piece ++ l) (drop-drop n at bytes ∙ ap (λ (k : ℕ). drop k bytes) e)

pub small_at : (bytes : List ℕ) → AllByRecursion (λ b. b < 256) bytes → (i : ℕ) → get_or bytes i 0 < 256
small_at [] all i = omega arith
small_at (b ∷ bs) all zero = all.0
small_at (b ∷ bs) all (suc i) = small_at bs all.1 i

pub small_take : (n : ℕ) (bytes : List ℕ) → AllByRecursion (λ b. b < 256) bytes → AllByRecursion (λ b. b < 256) (take n bytes)
small_take zero bytes all = tt
small_take (suc n) [] all = tt
small_take (suc n) (b ∷ bs) all = (all.0, small_take n bs all.1)

pub small_drop : (n : ℕ) (bytes : List ℕ) → AllByRecursion (λ b. b < 256) bytes → AllByRecursion (λ b. b < 256) (drop n bytes)
small_drop zero bytes all = all
small_drop (suc n) [] all = tt
small_drop (suc n) (b ∷ bs) all = small_drop n bs all.1

-- ---- both ways

-- the version that bytes have, where it is one of the two
abbrev pub version_in : List ℕ → ℕ
version_in bytes = if has_data bytes then 2 else 1

version_stands : (bytes : List ℕ) → is_version bytes ≡ true → stands_at 4 (to_be_bytes w32 (version_in bytes)) bytes ≡ true
version_stands bytes good = by (stands_at 4 (to_be_bytes w32 1) bytes) (has_data bytes) refl refl good where
  by : (a b : Bool) → stands_at 4 (to_be_bytes w32 1) bytes ≡ a → has_data bytes ≡ b → (a || b) ≡ true
      → stands_at 4 (to_be_bytes w32 (if b then 2 else 1)) bytes ≡ true
  by a true e f h = f
  by true false e f h = e
  by false false e f h = cc

number_there : (b : Bool) (n : ℕ) → (not b || nat_le 52 n) ≡ true → b ≡ true → 52 ≤ n
number_there true n h is = leb-true 52 n h
number_there false n h is = cc

-- every check of a header that is taken
pub record Checked (m : Machine) (digest bytes : List ℕ) (words : ℕ) : Type 0 where
  pub magic : stands_at 0 (codes "TTAI") bytes ≡ true
  pub version : stands_at 4 (to_be_bytes w32 (version_in bytes)) bytes ≡ true
  pub machine : stands_at 16 digest bytes ≡ true
  pub width : stands_at 8 (to_be_bytes w32 (word_width m)) bytes ≡ true
  pub count : word_count bytes ≡ words
  pub room : words ≤ 2 ^ m.control.address
  pub number : has_data bytes ≡ true → 52 ≤ length bytes
  pub long : length bytes ≡ 48 + section_length bytes + bytes_for (words * word_width m)

pub all_checked : (m : Machine) (digest bytes : List ℕ) (words : ℕ) → decoded_header m digest bytes ≡ Ok words → Checked m digest bytes words
unfolding decoded_header
all_checked m digest bytes words decoded =
    let length_ok : Bool = has_length m bytes (word_count bytes) in
    let four : Result ℕ ImageError = refuse_if (not length_ok) (of_all Length) (Ok (word_count bytes)) in
    let three : Result ℕ ImageError = refuse_if (not (stands_at 8 (to_be_bytes w32 (word_width m)) bytes)) (of_all Width) four in
    let two : Result ℕ ImageError = refuse_if (not (stands_at 16 digest bytes)) (of_all WrongMachine) three in
    let one : Result ℕ ImageError = refuse_if (not (is_version bytes)) (of_all Version) two in
    let magic = refuse_if-ok (not (stands_at 0 (codes "TTAI") bytes)) (of_all Magic) one words decoded in
    let version = refuse_if-ok (not (is_version bytes)) (of_all Version) two words magic.1 in
    let machine = refuse_if-ok (not (stands_at 16 digest bytes)) (of_all WrongMachine) three words version.1 in
    let wide = refuse_if-ok (not (stands_at 8 (to_be_bytes w32 (word_width m)) bytes)) (of_all Width) four words machine.1 in
    let long = refuse_if-ok (not length_ok) (of_all Length) (Ok (word_count bytes)) words wide.1 in
    let is : word_count bytes ≡ words = let e = long.1 in cc in
    let both = and_parts (nat_le (word_count bytes) (2 ^ m.control.address) && (not (has_data bytes) || nat_le 52 (length bytes))) (length bytes == 48 + section_length bytes + bytes_for (word_count bytes * word_width m)) (not-false length_ok long.0) in
    let first = and_parts (nat_le (word_count bytes) (2 ^ m.control.address)) (not (has_data bytes) || nat_le 52 (length bytes)) both.0 in
    record {
      magic = not-false (stands_at 0 (codes "TTAI") bytes) magic.0;
      version = version_stands bytes (not-false (is_version bytes) version.0);
      machine = not-false (stands_at 16 digest bytes) machine.0;
      width = not-false (stands_at 8 (to_be_bytes w32 (word_width m)) bytes) wide.0;
      count = is;
      room = let le = leb-true (word_count bytes) (2 ^ m.control.address) first.0 in omega arith;
      number = number_there (has_data bytes) (length bytes) first.1;
      long = eqb-true (length bytes) (48 + section_length bytes + bytes_for (word_count bytes * word_width m)) both.1
          ∙ ap (λ (n : ℕ). 48 + section_length bytes + bytes_for (n * word_width m)) is;
    }

-- the section of data is within the bytes
pub section_there : (bytes : List ℕ) (more : ℕ) → has_data bytes ≡ true → length bytes ≡ 48 + section_length bytes + more → 52 + 8 * data_told bytes ≤ length bytes
section_there bytes more some long =
    let whole : section_length bytes ≡ 4 + 8 * data_told bytes = ap (λ (t : Bool). if t then 4 + 8 * data_told bytes else 0) some in
    omega arith

-- what is taken as a header is the header of so many words
pub header_has : (m : Machine) (digest bytes : List ℕ) (words : ℕ) → length digest ≡ 32 → AllByRecursion (λ b. b < 256) bytes
    → Checked m digest bytes words → bytes ≡ header m digest (version_in bytes) words ++ drop 48 bytes
header_has m digest bytes words many small h =
    let long = h.long in
    let p0 = piece_there 0 (codes "TTAI") bytes h.magic in
    let p4 = piece_there 4 (to_be_bytes w32 (version_in bytes)) bytes h.version in
    let p8 = piece_there 8 (to_be_bytes w32 (word_width m)) bytes h.width in
    let p16 = piece_there 16 digest bytes h.machine in
    let d12 = length-drop 12 bytes in
    let four_bytes : length (take 4 (drop 12 bytes)) ≡ 4 = length-take-le 4 (drop 12 bytes) (omega arith) in
    let p12 : take 4 (drop 12 bytes) ≡ to_be_bytes w32 words =
    sym (be_bytes_4 (take 4 (drop 12 bytes)) words four_bytes (small_at (take 4 (drop 12 bytes)) (small_take 4 (drop 12 bytes) (small_drop 12 bytes small))) (sym h.count)) in
    let c0 : bytes ≡ codes "TTAI" ++ drop 4 bytes = cut_at 0 4 4 (codes "TTAI") bytes p0 refl in
    let c4 : drop 4 bytes ≡ to_be_bytes w32 (version_in bytes) ++ drop 8 bytes = cut_at 4 4 8 (to_be_bytes w32 (version_in bytes)) bytes p4 refl in
    let c8 : drop 8 bytes ≡ to_be_bytes w32 (word_width m) ++ drop 12 bytes = cut_at 8 4 12 (to_be_bytes w32 (word_width m)) bytes p8 refl in
    let c12 : drop 12 bytes ≡ to_be_bytes w32 words ++ drop 16 bytes = cut_at 12 4 16 (to_be_bytes w32 words) bytes p12 refl in
    let c16 : drop 16 bytes ≡ digest ++ drop 48 bytes = cut_at 16 (length digest) 48 digest bytes p16 (omega arith) in
    c0 ∙ ap (λ (l : List ℕ). codes "TTAI" ++ l) (c4 ∙ ap (λ (l : List ℕ). to_be_bytes w32 (version_in bytes) ++ l)
    (c8 ∙ ap (λ (l : List ℕ). to_be_bytes w32 (word_width m) ++ l) (c12 ∙ ap (λ (l : List ℕ). to_be_bytes w32 words ++ l) c16)))

-- a header with as many bytes after it as its data and its words take says the number of the words
pub decoded_header-header : (m : Machine) (digest body : List ℕ) (version words : ℕ) → length digest ≡ 32 → words < 2 ^ 32 → words ≤ 2 ^ m.control.address
    → is_version (header m digest version words ++ body) ≡ true
    → (not (has_data (header m digest version words ++ body)) || nat_le 52 (length (header m digest version words ++ body))) ≡ true
    → length (header m digest version words ++ body) ≡ 48 + section_length (header m digest version words ++ body) + bytes_for (words * word_width m)
    → decoded_header m digest (header m digest version words ++ body) ≡ Ok words
unfolding decoded_header
decoded_header-header m digest body version words many fits room good number all =
    let bytes : List ℕ = header m digest version words ++ body in
    let wide : List ℕ = to_be_bytes w32 (word_width m) in
    let count : word_count bytes ≡ words = from_be_bytes-to_be_bytes_4 words fits in
    let s8 : stands_at 8 wide bytes ≡ true = piece_stands 8 wide bytes refl in
    let s16 : stands_at 16 digest bytes ≡ true = piece_stands 16 digest bytes (take_at digest body (length digest) refl) in
    let first : (nat_le words (2 ^ m.control.address) && (not (has_data bytes) || nat_le 52 (length bytes))) ≡ true =
    and_from (nat_le words (2 ^ m.control.address)) (not (has_data bytes) || nat_le 52 (length bytes)) (le-leb words (2 ^ m.control.address) room) number in
    let long : has_length m bytes words ≡ true =
    and_from (nat_le words (2 ^ m.control.address) && (not (has_data bytes) || nat_le 52 (length bytes))) (length bytes == 48 + section_length bytes + bytes_for (words * word_width m))
    first (eq-eqb (length bytes) (48 + section_length bytes + bytes_for (words * word_width m)) all) in
    ap (λ (b : Bool). refuse_if (not b) (of_all Version) (refuse_if (not (stands_at 16 digest bytes)) (of_all WrongMachine) (refuse_if (not (stands_at 8 wide bytes)) (of_all Width) (refuse_if (not (has_length m bytes (word_count bytes))) (of_all Length) (Ok (word_count bytes)))))) good
    ∙ ap (λ (b : Bool). refuse_if (not b) (of_all WrongMachine) (refuse_if (not (stands_at 8 wide bytes)) (of_all Width) (refuse_if (not (has_length m bytes (word_count bytes))) (of_all Length) (Ok (word_count bytes))))) s16
    ∙ ap (λ (b : Bool). refuse_if (not b) (of_all Width) (refuse_if (not (has_length m bytes (word_count bytes))) (of_all Length) (Ok (word_count bytes)))) s8
    ∙ ap (λ (n : ℕ). refuse_if (not (has_length m bytes n)) (of_all Length) (Ok n)) count
    ∙ ap (λ (b : Bool). refuse_if (not b) (of_all Length) (Ok words)) long

-- numbers that are all bytes, place by place
pub small_bytes : (bytes : List ℕ) → ((i : ℕ) → get_or bytes i 0 < 256) → AllByRecursion (λ b. b < 256) bytes
small_bytes [] small = tt
small_bytes (b ∷ bs) small = (small 0, small_bytes bs (λ i. small (suc i)))

-- ---- check by check

-- the answer of all checks, the first that fails before the others
abbrev pub checked : (magic version machine width length : Bool) → ℕ → Result ℕ ImageError
checked magic version machine width long words =
    refuse_if (not magic) (of_all Magic) (refuse_if (not version) (of_all Version) (refuse_if (not machine) (of_all WrongMachine) (
    refuse_if (not width) (of_all Width) (refuse_if (not long) (of_all Length) (Ok words)))))

-- a header decodes to what the checks say
pub header_checked : (m : Machine) (digest bytes : List ℕ) (magic version machine width long : Bool) → magic ≡ stands_at 0 (codes "TTAI") bytes
    → version ≡ is_version bytes → machine ≡ stands_at 16 digest bytes → width ≡ stands_at 8 (to_be_bytes w32 (word_width m)) bytes
    → long ≡ has_length m bytes (word_count bytes) → checked magic version machine width long (word_count bytes) ≡ decoded_header m digest bytes
unfolding decoded_header
header_checked m digest bytes magic version machine width long a b c d e =
    ap (λ (x : Bool). checked x version machine width long (word_count bytes)) a
    ∙ ap (λ (x : Bool). checked (stands_at 0 (codes "TTAI") bytes) x machine width long (word_count bytes)) b
    ∙ ap (λ (x : Bool). checked (stands_at 0 (codes "TTAI") bytes) (is_version bytes) x width long (word_count bytes)) c
    ∙ ap (λ (x : Bool). checked (stands_at 0 (codes "TTAI") bytes) (is_version bytes) (stands_at 16 digest bytes) x long (word_count bytes)) d
    ∙ ap (λ (x : Bool). checked (stands_at 0 (codes "TTAI") bytes) (is_version bytes) (stands_at 16 digest bytes)
    (stands_at 8 (to_be_bytes w32 (word_width m)) bytes) x (word_count bytes)) e
