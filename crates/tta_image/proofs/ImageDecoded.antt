-- Bytes are the image of code with data just where they decode to it.
use Rattle.std.proofs.Common.{◌≡◌, ℕ, ◌+◌, ◌-◌, ◌*◌, ◌/◌, ◌<◌, Bool, false, List, [], ◌∷◌, ◌++◌, length, replicate, drop, Result, Ok, Err, refl, sym, ap, ◌∙◌, subst, arith}
use Rattle.std.specs.List.{flat_map, AllByRecursion}
use Rattle.std.proofs.lemmas.List.{length-append, length-replicate, length-drop}
use Rattle.tta_parse.specs.Steps.{◌>>=◌}
use Rattle.tta_parse.proofs.Steps.{same_ok, then-ok}
use Rattle.tta_image.specs.Cited.{Machine, word_width, layout_of, IsMachine, Instruction, Datum, Whole}
use Rattle.tta_image.specs.declared.refusal.ImageError.{ImageError}
use Rattle.tta_image.specs.declared.refusal.ImageError.TheVariants.{Refused, NoMemory}
use Rattle.tta_image.specs.Refusals.{Answers}
use Rattle.tta_image.specs.Bits.{instruction_bits}
use Rattle.tta_image.specs.Decoding.{bits_in}
use Rattle.tta_image.specs.Image.{Image, IsNoImage, header, version_of, data_section}
use Rattle.tta_image.specs.Reading.{bytes_for, section_length, decoded_header, decoded_data, decoded_words, whole_of, body_in, decoded_image}
use Rattle.tta_image.proofs.Unique.{length-bytes}
use Rattle.tta_image.proofs.ImageLemmas.{words_fit}
use Rattle.tta_image.proofs.InstructionLemmas.{length-instruction_bits}
use Rattle.tta_image.proofs.WordsDecoded.{AreLegalWords, words_have, decoded_words-bits}
use Rattle.tta_image.proofs.PairsDecoded.{data_has, data_stands}
use Rattle.tta_image.proofs.HeaderDecoded.{all_checked, header_has, decoded_header-header, small_drop}

pub length-words_bits : (m : Machine) (is : List Instruction) → AreLegalWords m is → length (flat_map (instruction_bits m) is) ≡ length is * word_width m
length-words_bits m [] legal = omega arith
length-words_bits m (i ∷ is) legal =
    let w : ℕ = word_width m in
    let own = length-instruction_bits m i legal.0 in
    let rest = length-words_bits m is legal.1 in
    let both = length-append (instruction_bits m i) (flat_map (instruction_bits m) is) in
    let more : length (i ∷ is) * w ≡ w + length is * w = grind arith in
    omega arith

-- the bytes of an image decode to its code with its data
pub decoded_of_image : (m : Machine) (digest : List ℕ) (whole : Whole) (bytes : List ℕ) → IsMachine m → length digest ≡ 32 → Image m digest whole bytes → decoded_image m digest bytes ≡ Ok whole
unfolding decoded_image
decoded_of_image m digest whole bytes rules many h =
    let n : ℕ = length whole.code.words in
    let w : ℕ = word_width m in
    let all : List ℕ = header m digest (version_of whole.init) n ++ (data_section whole.init ++ h.body) in
    let bits : List Bool = flat_map (instruction_bits m) whole.code.words in
    let fits = words_fit m whole.code rules h.legal in
    let stands = data_stands m digest n whole.init h.body rules many h.rises h.fits in
    let size : 8 * length h.body ≡ n * w + h.words.filling =
    sym (length-bytes h.body) ∙ ap length h.words.same_bits ∙ length-append bits (replicate h.words.filling false)
    ∙ ap (λ (k : ℕ). length bits + k) (length-replicate h.words.filling false) ∙ ap (λ (k : ℕ). k + h.words.filling) (length-words_bits m whole.code.words h.legal.words) in
    let short = h.words.short in
    let body_size : length h.body ≡ (n * w + 7) / 8 = omega arith in
    let l1 = length-append digest (data_section whole.init ++ h.body) in
    let l2 = length-append (data_section whole.init) h.body in
    let sect = stands.section in
    let long : length all ≡ 48 + section_length all + bytes_for (n * w) = omega arith in
    let head : decoded_header m digest all ≡ Ok n =
    decoded_header-header m digest (data_section whole.init ++ h.body) (version_of whole.init) n many fits h.legal.room stands.good stands.number long in
    ap (decoded_image m digest) h.parts
    ∙ ap (λ (r : Result ℕ ImageError). r >>= λ count. decoded_data m all >>= λ init. decoded_words m (layout_of m) count 0 (bits_in (body_in all)) >>= λ words. Ok (whole_of init words)) head
    ∙ ap (λ (r : Result (List Datum) ImageError). r >>= λ init. decoded_words m (layout_of m) n 0 (bits_in (body_in all)) >>= λ words. Ok (whole_of init words)) stands.init
    ∙ ap (λ (l : List ℕ). decoded_words m (layout_of m) n 0 (bits_in l) >>= λ words. Ok (whole_of whole.init words)) stands.body
    ∙ ap (λ (l : List Bool). decoded_words m (layout_of m) n 0 l >>= λ words. Ok (whole_of whole.init words)) h.words.same_bits
    ∙ ap (λ (r : Result (List Instruction) ImageError). r >>= λ words. Ok (whole_of whole.init words))
    (decoded_words-bits m 0 h.words.filling whole.code.words rules h.legal.words)

-- what bytes decode to has them as its image
pub image_of_decoded : (m : Machine) (digest : List ℕ) (whole : Whole) (bytes : List ℕ) → IsMachine m → length digest ≡ 32 → AllByRecursion (λ b. b < 256) bytes
    → decoded_image m digest bytes ≡ Ok whole → Image m digest whole bytes
unfolding decoded_image
image_of_decoded m digest whole bytes rules many small said =
    let body : List ℕ = body_in bytes in
    let bits : List Bool = bits_in body in
    let count = then-ok (decoded_header m digest bytes) (λ count. decoded_data m bytes >>= λ init. decoded_words m (layout_of m) count 0 bits >>= λ words. Ok (whole_of init words)) whole said in
    let init = then-ok (decoded_data m bytes) (λ init. decoded_words m (layout_of m) count.0 0 bits >>= λ words. Ok (whole_of init words)) whole count.2 in
    let words = then-ok (decoded_words m (layout_of m) count.0 0 bits) (λ words. Ok (whole_of init.0 words)) whole init.2 in
    let c : Whole = whole_of init.0 words.0 in
    let e : c ≡ whole = same_ok c whole words.2 in
    let head = all_checked m digest bytes count.0 count.1 in
    let long = head.long in
    let d = length-drop (48 + section_length bytes) bytes in
    let size = length-bytes body in
    let product : ℕ = count.0 * word_width m in
    let bytes_long : length body ≡ (count.0 * word_width m + 7) / 8 = omega arith in
    let have = words_have m count.0 0 bits words.0 rules (omega arith) words.1 in
    let laid = data_has m bytes init.0 small (omega arith) init.1 in
    subst (λ (x : Whole). Image m digest x bytes) e (record {
      body = body;
      parts = header_has m digest bytes count.0 many small head
          ∙ ap (λ (v : ℕ). header m digest v count.0 ++ drop 48 bytes) laid.version
          ∙ ap (λ (l : List ℕ). header m digest (version_of init.0) count.0 ++ l) laid.section
          ∙ ap (λ (n : ℕ). header m digest (version_of init.0) n ++ (data_section init.0 ++ body)) (sym have.many);
      words = record {
        are_bytes = small_drop (48 + section_length bytes) bytes small;
        filling = length bits - count.0 * word_width m;
        short = omega arith;
        same_bits = have.same;
      };
      legal = record { words = have.legal; room = let r = head.room in let l = have.many in omega arith };
      rises = laid.rise;
      fits = laid.fit;
    })

-- bytes that are refused are no image
pub no_image : (m : Machine) (digest bytes : List ℕ) (e : ImageError) → IsMachine m → length digest ≡ 32 → Answers {A = Whole} (Err e) (decoded_image m digest bytes)
    → (e ≡ NoMemory → ⊥) → IsNoImage m digest bytes
no_image m digest bytes NoMemory rules many said apart = absurd (apart refl)
no_image m digest bytes (Refused code word bus) rules many said apart = λ c h. absurd (let again = decoded_of_image m digest c bytes rules many h in cc)
