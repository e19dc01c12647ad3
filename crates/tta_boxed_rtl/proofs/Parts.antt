-- The text of the whole module, from its parts.
use Rattle.std.proofs.Common.{◌≡◌, ◌++◌, ℕ, List, Bool, true, false, length, refl, ap, sym, ◌∙◌, append_assoc}
use Rattle.std.specs.List.{flat_map}
use Rattle.tta_code.specs.declared.code.Code.{Code as Program}
use Rattle.tta_boxed_rtl.specs.Cited.{Machine, Units, Rom, boxed, circuit_for, circuit_with, code_words, memories_text, names_of, register_text, store_text}
use Rattle.tta_boxed_rtl.specs.Left.{functions_text}
use Rattle.tta_boxed_rtl.specs.Beside.{made_lines, module_lines}
use Rattle.tta_boxed_rtl.specs.Parts.{circuit_by, first_parts, registers_lines, wires_lines}
use Rattle.tta_boxed_rtl.specs.Module.{core_text}
use Rattle.tta_boxed_rtl.proofs.Lines.{registers_are}

module _ (u : Units) (m : Machine) (r : Rom) (leaves : ℕ → Bool) (count : ℕ) (words memory : List ℕ) where
  -- the text after the functions
  abbrev late : (faults : Bool) → (next : List ℕ) → List ℕ
  late faults next =
      wires_lines m faults count
      ++ (module_lines u m leaves ++ (next ++ flat_map (store_text (names_of m)) (circuit_with m words memory).memories))

  first_together : (rest : List ℕ)
      → memories_text m r (circuit_with m words memory) ++ (functions_text u m leaves ++ (made_lines m leaves ++ rest))
      ≡ first_parts u m r leaves words memory ++ rest
  first_together rest =
      let memories = memories_text m r (circuit_with m words memory) in
      let functions = functions_text u m leaves in
      let made = made_lines m leaves in
      ap (λ (t : List ℕ). memories ++ t) (sym (append_assoc functions made rest)) ∙ sym (append_assoc memories (functions ++ made) rest)

  all_together : (faults : Bool) (declared next : List ℕ) → declared ≡ registers_lines m leaves faults true
      → next ≡ registers_lines m leaves faults false
      → declared ++ (memories_text m r (circuit_with m words memory)
      ++ (functions_text u m leaves ++ (made_lines m leaves ++ late faults next)))
      ≡ registers_lines m leaves faults true
      ++ (first_parts u m r leaves words memory ++ late faults (registers_lines m leaves faults false))
  all_together faults declared next first second =
      ap (λ (t : List ℕ). declared ++ t) (first_together (late faults next))
      ∙ ap (λ (t : List ℕ). t ++ (first_parts u m r leaves words memory ++ late faults next)) first
      ∙ ap (λ (t : List ℕ). registers_lines m leaves faults true ++ (first_parts u m r leaves words memory ++ late faults t)) second

  -- the parts of the circuit, in the order in which they are written
  pub parts_are : (faults : Bool)
      → core_text u m r leaves (boxed m leaves (circuit_by faults m count words memory))
      ≡ registers_lines m leaves faults true
      ++ (first_parts u m r leaves words memory ++ (wires_lines m faults count ++ (module_lines u m leaves
      ++ (registers_lines m leaves faults false ++ flat_map (store_text (names_of m)) (circuit_with m words memory).memories))))
  parts_are true =
      all_together true (flat_map (register_text (names_of m) true) (boxed m leaves (circuit_by true m count words memory)).registers)
      (flat_map (register_text (names_of m) false) (boxed m leaves (circuit_by true m count words memory)).registers)
      (registers_are m leaves true true count words memory) (registers_are m leaves true false count words memory)
  parts_are false =
      all_together false (flat_map (register_text (names_of m) true) (boxed m leaves (circuit_by false m count words memory)).registers)
      (flat_map (register_text (names_of m) false) (boxed m leaves (circuit_by false m count words memory)).registers)
      (registers_are m leaves false true count words memory) (registers_are m leaves false false count words memory)

-- the circuit by the words of its code is that of its code
pub circuit_is : (faults : Bool) (m : Machine) (code : Program) (memory : List ℕ)
    → circuit_by faults m (length code.words) (code_words m code) memory ≡ circuit_for faults m code memory
circuit_is true m code memory = refl
circuit_is false m code memory = refl
