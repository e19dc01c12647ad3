-- What the bits of words decode to is the instructions that have these bits, and the bits of legal instructions decode to these.
use Rattle.std.proofs.Common.{◌≡◌, ℕ, zero, suc, ◌+◌, ◌-◌, ◌*◌, ◌≤◌, Bool, false, not, List, [], ◌∷◌, ◌++◌, length, replicate, drop, Result, Ok, IsTrue, refl, sym, ap, ◌∙◌, subst, arith}
use Rattle.std.specs.List.{flat_map, list_any, AllByRecursion}
use Rattle.std.proofs.lemmas.Bool.{not-false}
use Rattle.std.proofs.lemmas.List.{append_assoc, length-drop, drop_at, take-append-drop}
use Rattle.tta_image.specs.Cited.{refuse_if, Machine, word_width, layout_of, IsMachine, Instruction, is_legal}
use Rattle.tta_parse.specs.Steps.{◌>>=◌}
use Rattle.tta_parse.proofs.Steps.{same_ok, refuse_if-ok, then-ok}
use Rattle.tta_image.specs.declared.refusal.ImageError.{ImageError}
use Rattle.tta_image.specs.declared.refusal.ImageRefusal.TheVariants.{Illegal, Padding}
use Rattle.tta_image.specs.Refusals.{of_all, of_word}
use Rattle.tta_image.specs.Bits.{instruction_bits}
use Rattle.tta_image.specs.Decoding.{decoded_instruction}
use Rattle.tta_image.specs.Reading.{decoded_word, decoded_words}
use Rattle.tta_image.proofs.Numbers.{list_any-zeros, zeros_from}
use Rattle.tta_image.proofs.InstructionLemmas.{length-instruction_bits}
use Rattle.tta_image.proofs.InstructionDecoded.{instruction_has}
use Rattle.tta_image.proofs.InstructionEncoded.{decoded_instruction-bits}

-- a machine can carry out each of these instructions
abbrev pub AreLegalWords : Machine → List Instruction → Type 0
AreLegalWords m is = AllByRecursion (λ i. IsTrue (is_legal m i)) is

-- what is said of words: so many legal instructions, whose bits are those that are there, up to zeros
pub record WordsHave (m : Machine) (count : ℕ) (bits : List Bool) (is : List Instruction) : Type 0 where
  pub many : length is ≡ count
  pub legal : AreLegalWords m is
  pub same : bits ≡ flat_map (instruction_bits m) is ++ replicate (length bits - count * word_width m) false

pub words_have : (m : Machine) (count word : ℕ) (bits : List Bool) (is : List Instruction) → IsMachine m → count * word_width m ≤ length bits
    → decoded_words m (layout_of m) count word bits ≡ Ok is → WordsHave m count bits is
words_have m zero word bits is rules enough said =
    let p = refuse_if-ok (list_any (λ b. b) bits) (of_all Padding) (Ok []) is said in
    let e : [] ≡ is = same_ok [] is p.1 in
    rw (← e) (record { many = refl; legal = tt; same = zeros_from bits (length bits - 0 * word_width m) (omega arith) p.0 })
words_have m (suc count) word bits is rules enough said =
    let w : ℕ = word_width m in
    let more : suc count * w ≡ w + count * w = grind arith in
    let first = then-ok (decoded_word m (layout_of m) word bits) (λ i. decoded_words m (layout_of m) count (word + 1) (drop w bits) >>= λ is. Ok (i ∷ is)) is said in
    let rest = then-ok (decoded_words m (layout_of m) count (word + 1) (drop w bits)) (λ is. Ok (first.0 ∷ is)) is first.2 in
    let e : first.0 ∷ rest.0 ≡ is = same_ok (first.0 ∷ rest.0) is rest.2 in
    let own = then-ok (decoded_instruction m (layout_of m) word bits) (λ i. refuse_if (not (is_legal m i)) (of_word word Illegal 0) (Ok i)) first.0 first.1 in
    let legal = refuse_if-ok (not (is_legal m own.0)) (of_word word Illegal 0) (Ok own.0) first.0 own.2 in
    let i : own.0 ≡ first.0 = same_ok own.0 first.0 legal.1 in
    let bits_own = instruction_has m word bits own.0 rules (omega arith) own.1 in
    let d = length-drop w bits in
    let after = words_have m count (word + 1) (drop w bits) rest.0 rules (omega arith) rest.1 in
    let many = after.many in
    let left : length (drop w bits) - count * w ≡ length bits - suc count * w = omega arith in
    subst (λ (l : List Instruction). WordsHave m (suc count) bits l) e
    (subst (λ (x : Instruction). WordsHave m (suc count) bits (x ∷ rest.0)) i
    (record {
      many = omega arith;
      legal = (not-false (is_legal m own.0) legal.0, after.legal);
      same = sym (take-append-drop w bits) ∙ ap (λ (l : List Bool). l ++ drop w bits) (sym bits_own)
          ∙ ap (λ (l : List Bool). instruction_bits m own.0 ++ l) (after.same ∙ ap (λ (n : ℕ). flat_map (instruction_bits m) rest.0 ++ replicate n false) left)
          ∙ sym (append_assoc (instruction_bits m own.0) (flat_map (instruction_bits m) rest.0) (replicate (length bits - suc count * w) false));
    }))

-- the bits of legal instructions with zeros after them decode to the instructions
pub decoded_words-bits : (m : Machine) (word k : ℕ) (is : List Instruction) → IsMachine m → AreLegalWords m is
    → decoded_words m (layout_of m) (length is) word (flat_map (instruction_bits m) is ++ replicate k false) ≡ Ok is
decoded_words-bits m word k [] rules legal = rw (list_any-zeros k) refl
decoded_words-bits m word k (i ∷ is) rules legal =
    let w : ℕ = word_width m in
    let own : List Bool = instruction_bits m i in
    let after : List Bool = flat_map (instruction_bits m) is ++ replicate k false in
    let cut : (own ++ flat_map (instruction_bits m) is) ++ replicate k false ≡ own ++ after = append_assoc own (flat_map (instruction_bits m) is) (replicate k false) in
    let more : decoded_words m (layout_of m) (length is) (word + 1) (drop w (own ++ after)) ≡ Ok is =
    ap (λ (l : List Bool). decoded_words m (layout_of m) (length is) (word + 1) l) (drop_at own after w (length-instruction_bits m i legal.0))
    ∙ decoded_words-bits m (word + 1) k is rules legal.1 in
    ap (λ (l : List Bool). decoded_word m (layout_of m) word l >>= λ i. decoded_words m (layout_of m) (length is) (word + 1) (drop w l) >>= λ is. Ok (i ∷ is)) cut
    ∙ ap (λ (r : Result Instruction ImageError). (r >>= λ i. refuse_if (not (is_legal m i)) (of_word word Illegal 0) (Ok i)) >>= λ i.
    decoded_words m (layout_of m) (length is) (word + 1) (drop w (own ++ after)) >>= λ is. Ok (i ∷ is)) (decoded_instruction-bits m word i after rules legal.0)
    ∙ ap (λ (b : Bool). refuse_if (not b) (of_word word Illegal 0) (Ok i) >>= λ i. decoded_words m (layout_of m) (length is) (word + 1) (drop w (own ++ after)) >>= λ is. Ok (i ∷ is)) legal.0
    ∙ ap (λ (r : Result (List Instruction) ImageError). r >>= λ is. Ok (i ∷ is)) more
