-- No two places of a machine are one.
use Rattle.std.proofs.Common.{◌≡◌, ℕ, ◌<◌, ◌≤◌, List, [], ◌∷◌, ◌++◌, length, map, refl, arith}
use Rattle.std.specs.List.{flat_map, enumerate_from, AllByRecursion}
use Rattle.tta_arch.specs.declared.parts.File.{File}
use Rattle.tta_arch.specs.declared.parts.ImmUnit.{ImmUnit}
use Rattle.tta_trap.specs.Cited.{Machine, Place, KeptReg, KeptImm, KeptOperand, KeptRa, KeptPort, numbers}
use Rattle.tta_hardware.proofs.WiresFit.{both_lists}
use Rattle.tta_hardware.proofs.PlainWires.{all_made, every_piece}
use Rattle.tta_hardware.proofs.Different.{Apart, split, risen, numbers_rise, enumerated_rise, pieces, mapped}
use Rattle.tta_trap.specs.Memory.{places}

-- kinds of places, whose they are, and their numbers there
abbrev sort : Place → ℕ
sort (KeptReg file index) = 0
sort (KeptImm unit index) = 1
sort (KeptOperand unit) = 2
sort (KeptPort unit) = 2
sort KeptRa = 3

abbrev place_of : Place → ℕ
place_of (KeptReg file index) = file
place_of (KeptImm unit index) = unit
place_of (KeptOperand unit) = unit
place_of (KeptPort unit) = unit
place_of KeptRa = 0

abbrev index_of : Place → ℕ
index_of (KeptReg file index) = index
index_of (KeptImm unit index) = index
index_of (KeptPort unit) = 1
index_of p = 0

module _ (m : Machine) where
  abbrev file_places : List Place
  file_places = flat_map (λ f. map (KeptReg f.0) (numbers f.1.size)) (enumerate_from 0 m.files)

  abbrev imm_places : List Place
  imm_places = flat_map (λ i. map (KeptImm i.0) (numbers i.1.size)) (enumerate_from 0 m.imms)

  abbrev ports_of : ℕ → List Place
  ports_of unit = KeptOperand unit ∷ KeptPort unit ∷ []

  abbrev port_places : List Place
  port_places = flat_map ports_of (numbers (length m.units))

  of_file_places : (P : Place → Type 0) → ((file index : ℕ) → P (KeptReg file index)) → AllByRecursion P file_places
  of_file_places P each =
      every_piece P (λ f. map (KeptReg f.0) (numbers f.1.size)) (enumerate_from 0 m.files)
      (λ f. all_made P (KeptReg f.0) (numbers f.1.size) (each f.0))

  of_imm_places : (P : Place → Type 0) → ((unit index : ℕ) → P (KeptImm unit index)) → AllByRecursion P imm_places
  of_imm_places P each =
      every_piece P (λ i. map (KeptImm i.0) (numbers i.1.size)) (enumerate_from 0 m.imms)
      (λ i. all_made P (KeptImm i.0) (numbers i.1.size) (each i.0))

  of_port_places : (P : Place → Type 0) → ((unit : ℕ) → P (KeptOperand unit)) → ((unit : ℕ) → P (KeptPort unit))
      → AllByRecursion P port_places
  of_port_places P operand port = every_piece P ports_of (numbers (length m.units)) (λ unit. (operand unit, (port unit, tt)))

  indices : (f : ℕ → Place) → ((i : ℕ) → index_of (f i) ≡ i) → (n : ℕ) → Apart (map f (numbers n))
  indices f is n = mapped f index_of is (numbers n) (risen (λ (i : ℕ). i) 0 (numbers n) (numbers_rise 0 n))

  pub places_apart : Apart (places m)
  places_apart =
      split sort 2 (file_places ++ imm_places ++ port_places) (KeptRa ∷ [])
      (both_lists (λ p. sort p ≤ 2) (file_places ++ imm_places) port_places
      (both_lists (λ p. sort p ≤ 2) file_places imm_places (of_file_places (λ p. sort p ≤ 2) (λ f i. omega arith))
      (of_imm_places (λ p. sort p ≤ 2) (λ k i. omega arith)))
      (of_port_places (λ p. sort p ≤ 2) (λ k. omega arith) (λ k. omega arith)))
      (omega arith, tt)
      (split sort 1 (file_places ++ imm_places) port_places
      (both_lists (λ p. sort p ≤ 1) file_places imm_places (of_file_places (λ p. sort p ≤ 1) (λ f i. omega arith))
      (of_imm_places (λ p. sort p ≤ 1) (λ k i. omega arith)))
      (of_port_places (λ p. 1 < sort p) (λ k. omega arith) (λ k. omega arith))
      (split sort 0 file_places imm_places (of_file_places (λ p. sort p ≤ 0) (λ f i. omega arith))
      (of_imm_places (λ p. 0 < sort p) (λ k i. omega arith))
      (pieces (λ (f : ℕ × File). f.0) place_of (λ f. map (KeptReg f.0) (numbers f.1.size)) 0 (enumerate_from 0 m.files)
      (enumerated_rise 0 m.files) (λ f. all_made (λ p. place_of p ≡ f.0) (KeptReg f.0) (numbers f.1.size) (λ i. refl))
      (λ f. indices (KeptReg f.0) (λ i. refl) f.1.size))
      (pieces (λ (f : ℕ × ImmUnit). f.0) place_of (λ i. map (KeptImm i.0) (numbers i.1.size)) 0 (enumerate_from 0 m.imms)
      (enumerated_rise 0 m.imms) (λ f. all_made (λ p. place_of p ≡ f.0) (KeptImm f.0) (numbers f.1.size) (λ i. refl))
      (λ f. indices (KeptImm f.0) (λ i. refl) f.1.size)))
      (pieces (λ (i : ℕ). i) place_of ports_of 0 (numbers (length m.units)) (numbers_rise 0 (length m.units)) (λ unit. (refl, (refl, tt)))
      (λ unit. risen index_of 0 (ports_of unit) refl)))
      (tt, tt)
