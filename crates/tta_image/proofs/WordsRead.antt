-- The words of an image, read one after another.
use Rattle.std.proofs.Common.{◌≡◌, ℕ, suc, ◌+◌, ◌*◌, ◌/◌, ◌^◌, ◌<◌, ◌≤◌, ◌==◌, Bool, true, false, not, List, [], ◌∷◌, ◌++◌, length, drop, Result, Ok, Err, refl, sym, ap, ◌∙◌, arith}
use Rattle.std.specs.List.{list_any}
use Rattle.std.proofs.lemmas.Bool.{eqb-true}
use Rattle.std.proofs.lemmas.List.{append-nil, length-drop, take_all}
use Rattle.std.proofs.lemmas.Nat.{mul-le}
use Rattle.tta_image.specs.Cited.{refuse_if, Layout, Machine, word_width, layout_of, IsMachine, Instruction, Datum, Whole}
use Rattle.tta_parse.specs.Steps.{◌>>=◌}
use Rattle.tta_image.specs.declared.refusal.ImageError.{ImageError}
use Rattle.tta_image.specs.declared.refusal.ImageError.TheVariants.{Refused, NoMemory}
use Rattle.tta_image.specs.declared.refusal.ImageRefusal.TheVariants.{Padding}
use Rattle.tta_image.specs.Refusals.{of_all, Answers}
use Rattle.tta_image.specs.Decoding.{bits_in, number_of, field}
use Rattle.tta_image.specs.Reading.{section_length, decoded_header, decoded_data, decoded_word, decoded_words, whole_of, body_in, decoded_image}
use Rattle.tta_image.proofs.ImageLemmas.{short_address, pow_most}
use Rattle.tta_image.proofs.Numbers.{some_from_number, none_from_number}
use Rattle.tta_image.proofs.Walks.{answers_same, with_front, front_more}
use Rattle.tta_image.proofs.HeaderDecoded.{Checked}

-- ---- word by word

-- one word more
pub words_more : (m : Machine) (l : Layout) (left left' word : ℕ) (bits : List Bool) (i : Instruction) (words words' : List Instruction)
    (all : Result (List Instruction) ImageError) → left ≡ suc left' → decoded_word m l word bits ≡ Ok i → words' ≡ words ++ i ∷ []
    → with_front words (decoded_words m l left word bits) ≡ all → with_front words' (decoded_words m l left' (word + 1) (drop l.width bits)) ≡ all
words_more m l left left' word bits i words words' all more said pushed was =
    let rest : Result (List Instruction) ImageError = decoded_words m l left' (word + 1) (drop l.width bits) in
    ap (λ (is : List Instruction). with_front is rest) pushed ∙ sym (front_more words i rest)
    ∙ ap (λ (r : Result Instruction ImageError). with_front words (r >>= λ i. rest >>= λ is. Ok (i ∷ is))) (sym said)
    ∙ ap (λ (n : ℕ). with_front words (decoded_words m l n word bits)) (sym more) ∙ was

-- a word that is refused
pub words_stop : (m : Machine) (l : Layout) (left left' word : ℕ) (bits : List Bool) (e : ImageError) (words : List Instruction)
    (all : Result (List Instruction) ImageError) → left ≡ suc left' → decoded_word m l word bits ≡ Err e
    → with_front words (decoded_words m l left word bits) ≡ all → all ≡ Err e
words_stop m l left left' word bits e words all more said was =
    sym was ∙ ap (λ (n : ℕ). with_front words (decoded_words m l n word bits)) more
    ∙ ap (λ (r : Result Instruction ImageError). with_front words (r >>= λ i. decoded_words m l left' (word + 1) (drop l.width bits) >>= λ is. Ok (i ∷ is))) said

pub words_refused : (m : Machine) (l : Layout) (left left' word : ℕ) (bits : List Bool) (e : ImageError) (words : List Instruction)
    (all : Result (List Instruction) ImageError) → left ≡ suc left' → Answers {A = Instruction} (Err e) (decoded_word m l word bits)
    → with_front words (decoded_words m l left word bits) ≡ all → Answers {A = List Instruction} (Err e) all
words_refused m l left left' word bits NoMemory words all more said was = tt
words_refused m l left left' word bits (Refused code w bus) words all more said was = words_stop m l left left' word bits (Refused code w bus) words all more said was

-- no word is left
pub words_end : (m : Machine) (l : Layout) (left word : ℕ) (bits : List Bool) (words : List Instruction) (all : Result (List Instruction) ImageError) → left ≡ 0
    → list_any (λ b. b) bits ≡ false → with_front words (decoded_words m l left word bits) ≡ all → all ≡ Ok words
words_end m l left word bits words all none zeros was =
    sym was ∙ ap (λ (n : ℕ). with_front words (decoded_words m l n word bits)) none
    ∙ ap (λ (b : Bool). with_front words (refuse_if b (of_all Padding) (Ok []))) zeros ∙ ap (λ (is : List Instruction). Ok is) (append-nil words)

-- no word is left, and a bit is set after the last one
pub words_filled : (m : Machine) (l : Layout) (left word : ℕ) (bits : List Bool) (words : List Instruction) (all : Result (List Instruction) ImageError) → left ≡ 0
    → list_any (λ b. b) bits ≡ true → with_front words (decoded_words m l left word bits) ≡ all → all ≡ Err (of_all Padding)
words_filled m l left word bits words all none some was =
    sym was ∙ ap (λ (n : ℕ). with_front words (decoded_words m l n word bits)) none
    ∙ ap (λ (b : Bool). with_front words (refuse_if b (of_all Padding) (Ok []))) some

-- a bit is set just where the number of the bits is not 0
pub set_bit : (bits : List Bool) (at width n : ℕ) → n ≡ field at width bits → length bits ≤ at + width → not (n == 0) ≡ list_any (λ b. b) (drop at bits)
set_bit bits at width n is all =
    let d = length-drop at bits in
    let own : n ≡ number_of (drop at bits) = is ∙ ap number_of (take_all width (drop at bits) (omega arith)) in
    by (n == 0) refl own where
      by : (b : Bool) → (n == 0) ≡ b → n ≡ number_of (drop at bits) → not b ≡ list_any (λ b. b) (drop at bits)
      by true zero_is same = sym (none_from_number (drop at bits) (sym same ∙ eqb-true n 0 zero_is))
      by false some same = sym (some_from_number (drop at bits) (ap (λ (k : ℕ). k == 0) (sym same) ∙ some))

-- ---- the whole image

-- what is said of the words is the answer
pub image_answer : (m : Machine) (digest bytes body : List ℕ) (l : Layout) (count : ℕ) (init : List Datum) (r : Result (List Instruction) ImageError) → l ≡ layout_of m → body ≡ body_in bytes
    → decoded_header m digest bytes ≡ Ok count → decoded_data m bytes ≡ Ok init → Answers r (decoded_words m l count 0 (bits_in body))
    → Answers (r >>= λ words. Ok (whole_of init words)) (decoded_image m digest bytes)
unfolding decoded_image
image_answer m digest bytes body l count init r layout tail head given said =
    let whole : decoded_image m digest bytes ≡ (decoded_words m l count 0 (bits_in body) >>= λ words. Ok (whole_of init words)) =
    ap (λ (h : Result ℕ ImageError). h >>= λ count. decoded_data m bytes >>= λ init. decoded_words m (layout_of m) count 0 (bits_in (body_in bytes)) >>= λ words. Ok (whole_of init words)) head
    ∙ ap (λ (h : Result (List Datum) ImageError). h >>= λ init. decoded_words m (layout_of m) count 0 (bits_in (body_in bytes)) >>= λ words. Ok (whole_of init words)) given
    ∙ ap (λ (x : Layout). decoded_words m x count 0 (bits_in (body_in bytes)) >>= λ words. Ok (whole_of init words)) (sym layout)
    ∙ ap (λ (b : List ℕ). decoded_words m l count 0 (bits_in b) >>= λ words. Ok (whole_of init words)) (sym tail) in
    by r said whole where
      by : (x : Result (List Instruction) ImageError) → Answers x (decoded_words m l count 0 (bits_in body))
          → decoded_image m digest bytes ≡ (decoded_words m l count 0 (bits_in body) >>= λ words. Ok (whole_of init words))
          → Answers (x >>= λ words. Ok (whole_of init words)) (decoded_image m digest bytes)
      by (Ok words) h whole = whole ∙ ap (λ (y : Result (List Instruction) ImageError). y >>= λ words. Ok (whole_of init words)) h
      by (Err NoMemory) h whole = tt
      by (Err (Refused code word bus)) h whole = whole ∙ ap (λ (y : Result (List Instruction) ImageError). y >>= λ words. Ok (whole_of init words)) h

-- data that are refused
pub data_answer : (m : Machine) (digest bytes : List ℕ) (count : ℕ) (e : ImageError) → decoded_header m digest bytes ≡ Ok count
    → Answers {A = List Datum} (Err e) (decoded_data m bytes) → Answers {A = Whole} (Err e) (decoded_image m digest bytes)
unfolding decoded_image
data_answer m digest bytes count NoMemory head said = tt
data_answer m digest bytes count (Refused code word bus) head said =
    ap (λ (h : Result ℕ ImageError). h >>= λ count. decoded_data m bytes >>= λ init. decoded_words m (layout_of m) count 0 (bits_in (body_in bytes)) >>= λ words. Ok (whole_of init words)) head
    ∙ ap (λ (h : Result (List Datum) ImageError). h >>= λ init. decoded_words m (layout_of m) count 0 (bits_in (body_in bytes)) >>= λ words. Ok (whole_of init words)) said

-- the words have their bits in the bytes after the header
pub words_room : (m : Machine) (digest bytes body : List ℕ) (count width : ℕ) → Checked m digest bytes count → body ≡ body_in bytes → width ≡ word_width m
    → (count * width ≤ 8 * length body) × (8 * length body < count * width + 8)
words_room m digest bytes body count width room tail wide =
    let d = ap length tail ∙ length-drop (48 + section_length bytes) bytes in
    let long = room.long in
    let product : count * width ≡ count * word_width m = ap (λ (w : ℕ). count * w) wide in
    let all : length body ≡ (count * word_width m + 7) / 8 = omega arith in
    (omega arith, omega arith)

-- these bits are few enough to be counted
pub words_few : (m : Machine) (digest bytes body : List ℕ) (count width : ℕ) → IsMachine m → Checked m digest bytes count → body ≡ body_in bytes → width ≡ word_width m → width < 2 ^ 32
    → 8 * length body < 2 ^ 64
words_few m digest bytes body count width rules room tail wide small =
    let fits = words_room m digest bytes body count width room tail wide in
    let most = fits.1 in
    let address = pow_most m.control.address (short_address m.sockets m.control rules.control) in
    let few = room.room in
    let product : count * width ≤ 2 ^ 17 * 2 ^ 32 = mul-le count width (2 ^ 17) (2 ^ 32) (omega arith) (omega arith) in
    omega arith

-- a header that is refused
pub header_answer : (m : Machine) (digest bytes : List ℕ) (e : ImageError) → decoded_header m digest bytes ≡ Err e → Answers {A = Whole} (Err e) (decoded_image m digest bytes)
unfolding decoded_image
header_answer m digest bytes e head =
    answers_same (Err e) (decoded_image m digest bytes)
    (sym (ap (λ (h : Result ℕ ImageError). h >>= λ count. decoded_data m bytes >>= λ init. decoded_words m (layout_of m) count 0 (bits_in (body_in bytes)) >>= λ words. Ok (whole_of init words)) head))
