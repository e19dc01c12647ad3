-- The text of the whole module, from its parts.
use Rattle.std.proofs.Common.{◌≡◌, ℕ, zero, suc, ◌+◌, ◌*◌, ◌<◌, ◌≤◌, ◌^◌, ◌==◌, Bool, false, List, [], ◌∷◌, ◌++◌, length, map, drop, replicate, refl, sym, ap, ◌∙◌, append_assoc, arith}
use Rattle.std.specs.Prelude.{codes}
use Rattle.std.specs.List.{flat_map, enumerate_from}
use Rattle.std.proofs.lemmas.List.{length-append, length-replicate, append-nil}
use Rattle.std.proofs.lemmas.Bool.{ne_eqb}
use Rattle.std.proofs.lemmas.Nat.{from_be_bytes-to_be_bytes_4}
use Rattle.std.proofs.Math.Nat.{mul-le-mul}
use Rattle.tta_list.proofs.Sets.{over-length}
use Rattle.tta_rtl.specs.Cited.{Machine, numbers, word_width, IsMachine, same_op, Op, Stw, Stf, Datum, data_in, instruction_bits, Image, header, version_of, data_section, word_count, section_length, body_in, Fetched, Port, Controls, GoalNow, EndsNow, Lands, Asks, Gives, Goes, NextPc, Puts, PutWord, all_ops, all_fields, bus_wires, unit_wires, unit_registers, wire_names, register_names, code_words, circuit_with, store_port, first_line, store_text, names_of}
use Rattle.tta_code.specs.Whole.{Whole}
use Rattle.tta_image.proofs.ImageDecoded.{length-words_bits}
use Rattle.tta_image.proofs.ImageLemmas.{words_fit, short_address, pow_most}
use Rattle.tta_image.proofs.PairsDecoded.{data_stands, few_data, length-pairs}
use Rattle.tta_image.proofs.Unique.{length-bytes}
use Rattle.tta_hardware.specs.Signals.{Signal as Named}
use Rattle.tta_hardware.proofs.Imaged.{image_kept}
use Rattle.tta_rtl.specs.Kept.{registers_of_file, registers_of_imm, underways, fixed}
use Rattle.tta_rtl.specs.Memories.{bytes_before, words_in, stored}
use Rattle.tta_rtl.specs.Module.{first_words, store_line, stores_text}
use Rattle.tta_rtl.specs.Texts.{registers_text, wires_text}
use Rattle.tta_rtl.proofs.RegisterTexts.{registers_append}
use Rattle.tta_rtl.proofs.Texts.{wires_append}

-- ---- registers and wires

-- the registers of files and of immediate units
abbrev pub kept_names : Machine → List Named
kept_names m =
    flat_map (λ f. registers_of_file f.0 f.1.size) (enumerate_from 0 m.files) ++ flat_map (λ i. registers_of_imm i.0 i.1.size) (enumerate_from 0 m.imms)

-- all registers
pub registers_parts : (m : Machine) (declares : Bool)
    → registers_text m declares (register_names m)
    ≡ registers_text m declares (kept_names m) ++ (registers_text m declares (flat_map (unit_registers m) (enumerate_from 0 m.units))
    ++ registers_text m declares (underways m ++ fixed))
registers_parts m declares =
    let kept = kept_names m in
    let units = flat_map (unit_registers m) (enumerate_from 0 m.units) in
    let text : List Named → List ℕ = registers_text m declares in
    ap text (append_assoc (kept ++ units) (underways m) fixed)
    ∙ registers_append m declares (kept ++ units) (underways m ++ fixed)
    ∙ ap (λ (t : List ℕ). t ++ text (underways m ++ fixed)) (registers_append m declares kept units)
    ∙ append_assoc (text kept) (text units) (text (underways m ++ fixed))

-- the wires of control
abbrev pub control_names : List Named
control_names = Controls ∷ GoalNow ∷ EndsNow ∷ Lands ∷ Asks ∷ Gives ∷ Goes ∷ NextPc ∷ Puts ∷ PutWord ∷ []

-- all wires
pub wires_parts : (m : Machine)
    → wires_text m (wire_names m)
    ≡ wires_text m (map Fetched (all_fields m)) ++ (wires_text m (map Port (numbers (length m.units)))
    ++ (wires_text m (flat_map bus_wires (numbers (length m.buses)))
    ++ (wires_text m (flat_map unit_wires (enumerate_from 0 m.units)) ++ wires_text m control_names)))
wires_parts m =
    let fields : List Named = map Fetched (all_fields m) in
    let ports : List Named = map Port (numbers (length m.units)) in
    let buses = flat_map bus_wires (numbers (length m.buses)) in
    let units = flat_map unit_wires (enumerate_from 0 m.units) in
    let text : List Named → List ℕ = wires_text m in
    wires_append m (((fields ++ ports) ++ buses) ++ units) control_names
    ∙ ap (λ (t : List ℕ). t ++ text control_names) (wires_append m ((fields ++ ports) ++ buses) units)
    ∙ ap (λ (t : List ℕ). (t ++ text units) ++ text control_names) (wires_append m (fields ++ ports) buses)
    ∙ ap (λ (t : List ℕ). ((t ++ text buses) ++ text units) ++ text control_names) (wires_append m fields ports)
    ∙ append_assoc ((text fields ++ text ports) ++ text buses) (text units) (text control_names)
    ∙ append_assoc (text fields ++ text ports) (text buses) (text units ++ text control_names)
    ∙ append_assoc (text fields) (text ports) (text buses ++ (text units ++ text control_names))

-- ---- memories

-- words that are 0 have no lines
pub no_lines : (name : List ℕ) (a n : ℕ) → flat_map (λ k. first_line name 32 k.0 k.1) (enumerate_from a (replicate n 0)) ≡ []
unfolding first_line
no_lines name a zero = refl
no_lines name a (suc n) = no_lines name (a + 1) n

-- where a space is written by the operations that store
pub stored_is : (m : Machine) (size : ℕ) (store : Op) (places : List (ℕ × ℕ)) → places ≡ all_ops m (same_op store)
    → stored size places ≡ store_port m size (same_op store)
stored_is m size store places is = ap (stored size) is

-- where the memories of a circuit are written
pub stores_parts : (m : Machine) (words memory : List ℕ) → flat_map (store_text (names_of m)) (circuit_with m words memory).memories ≡ stores_text m
stores_parts m words memory =
    let first = store_line m (codes "data") (store_port m m.data_words (same_op Stw)) in
    let frame = store_line m (codes "frame") (store_port m m.frame_words (same_op Stf)) in
    ap (λ (t : List ℕ). first ++ t) (append-nil frame)

-- the data space begins with as many words as it has
pub first_count : (m : Machine) (whole : Whole) → length (first_words m whole) ≡ m.data_words
first_count m whole = over-length (data_in whole) (replicate m.data_words 0) ∙ length-replicate m.data_words 0

-- ---- the words of code

section_length_of : (ds : List Datum) → 48 + length (data_section ds) ≡ bytes_before (length ds)
section_length_of [] = refl
section_length_of (d ∷ ds) =
    let all = length-pairs (d ∷ ds) in
    let some : (length (d ∷ ds) == 0) ≡ false = ne_eqb (length (d ∷ ds)) 0 (λ e. omega (arith, e)) in
    let is : bytes_before (length (d ∷ ds)) ≡ 52 + 8 * length (d ∷ ds) = rw some refl in
    omega arith

-- The bytes of the instructions in an image: they begin after the data, have room for all words, and these are the words of code.
pub record HasBody (m : Machine) (whole : Whole) (bytes : List ℕ) : Type 0 where
  pub few : length whole.init < 2 ^ 32
  pub words : words_in m (drop (bytes_before (length whole.init)) bytes) (length whole.code.words) ≡ code_words m whole.code
  pub inside : length whole.code.words * word_width m ≤ 8 * length (drop (bytes_before (length whole.init)) bytes)
  pub short : 8 * length (drop (bytes_before (length whole.init)) bytes) < length whole.code.words * word_width m + 8
  pub some_words : length whole.code.words < 2 ^ 17

pub has_body : (m : Machine) (digest : List ℕ) (whole : Whole) (bytes : List ℕ) → IsMachine m → length digest ≡ 32 → Image m digest whole bytes
    → HasBody m whole bytes
has_body m digest whole bytes rules many h =
    let n : ℕ = length whole.code.words in
    let w : ℕ = word_width m in
    let bits = flat_map (instruction_bits m) whole.code.words in
    let all : List ℕ = header m digest (version_of whole.init) n ++ (data_section whole.init ++ h.body) in
    let stands = data_stands m digest n whole.init h.body rules many h.rises h.fits in
    let size : 8 * length h.body ≡ n * w + h.words.filling =
    sym (length-bytes h.body) ∙ ap length h.words.same_bits ∙ length-append bits (replicate h.words.filling false)
    ∙ ap (λ (k : ℕ). length bits + k) (length-replicate h.words.filling false) ∙ ap (λ (k : ℕ). k + h.words.filling) (length-words_bits m whole.code.words h.legal.words) in
    let short = h.words.short in
    let section : section_length bytes ≡ length (data_section whole.init) = ap section_length h.parts ∙ stands.section in
    let before : 48 + section_length bytes ≡ bytes_before (length whole.init) = ap (λ (k : ℕ). 48 + k) section ∙ section_length_of whole.init in
    let body : drop (bytes_before (length whole.init)) bytes ≡ body_in bytes = ap (λ (k : ℕ). drop k bytes) (sym before) in
    let is : drop (bytes_before (length whole.init)) bytes ≡ h.body = body ∙ ap body_in h.parts ∙ stands.body in
    let count : word_count bytes ≡ n = ap word_count h.parts ∙ from_be_bytes-to_be_bytes_4 n (words_fit m whole.code rules h.legal) in
    let long : 8 * length (drop (bytes_before (length whole.init)) bytes) ≡ n * w + h.words.filling =
    ap (λ (l : List ℕ). 8 * length l) is ∙ size in
    let room = h.legal.room in
    let p = pow_most m.control.address (short_address m.sockets m.control rules.control) in
    let data_words = rules.limits.data_words in
    record {
      few = few_data m.data_words whole.init (omega arith) h.rises h.fits;
      words =
          ap (λ (l : List ℕ). words_in m l n) body ∙ ap (words_in m (body_in bytes)) (sym count)
          ∙ image_kept m digest whole bytes rules many h;
      inside = omega arith;
      short = omega arith;
      some_words = omega arith;
    }

-- what follows of the bytes that the code takes
pub inside_body : (m : Machine) (whole : Whole) (bytes : List ℕ) → HasBody m whole bytes → (words width : ℕ) (body : List ℕ)
    → words ≡ length whole.code.words → width ≡ word_width m → body ≡ drop (bytes_before (length whole.init)) bytes → words * width ≤ 8 * length body
inside_body m whole bytes b words width body many wide is = rw (many, wide, is) b.inside

pub few_body : (m : Machine) (whole : Whole) (bytes : List ℕ) → HasBody m whole bytes → (width : ℕ) (body : List ℕ)
    → width ≡ word_width m → width < 2 ^ 32 → body ≡ drop (bytes_before (length whole.init)) bytes → 8 * length body < 2 ^ 64
few_body m whole bytes b width body wide narrow is =
    let n : ℕ = length whole.code.words in
    let w : ℕ = word_width m in
    let less : n ≤ 131072 = let some = b.some_words in omega arith in
    let small : w ≤ 4294967296 = omega (arith, wide, narrow) in
    let product : n * w ≤ 131072 * 4294967296 = mul-le-mul less small in
    let short = b.short in
    let size : length body ≡ length (drop (bytes_before (length whole.init)) bytes) = ap length is in
    omega (arith, product, short, size)
