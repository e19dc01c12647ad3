-- No two wires of a machine are one.
use Rattle.std.proofs.Common.{◌≡◌, ℕ, ◌<◌, ◌≤◌, List, [], ◌∷◌, ◌++◌, length, map, refl, arith}
use Rattle.std.specs.List.{flat_map, enumerate_from, AllByRecursion}
use Rattle.tta_arch.specs.declared.parts.Unit.{Unit as OpUnit}
use Rattle.tta_hardware.specs.Cited.{Machine, numbers}
use Rattle.tta_hardware.specs.Signals.{Field, Signal as Named, Port, Fetched, Word, Acts, Starts, Trigger, Operand, Controls, GoalNow, EndsNow, Lands, Asks, Gives, Goes, NextPc, Puts, PutWord}
use Rattle.tta_hardware.specs.Hardware.{all_fields, bus_wires, unit_wires, first_wires, wire_names}
use Rattle.tta_hardware.proofs.WiresFit.{both_lists}
use Rattle.tta_hardware.proofs.PlainWires.{all_made, every_piece}
use Rattle.tta_hardware.proofs.Different.{Apart, split, risen, numbers_rise, enumerated_rise, pieces, mapped}
use Rattle.tta_hardware.proofs.TellingApart.{group, part, owner, made_apart, field_of}
use Rattle.tta_hardware.proofs.FieldsApart.{fields_apart}

module _ (m : Machine) where
  -- ---- wires

  first_apart : Apart (first_wires m)
  first_apart =
      split group 1 (map Fetched (all_fields m)) (map Port (numbers (length m.units)))
      (all_made (λ n. group n ≤ 1) Fetched (all_fields m) (λ f. omega arith))
      (all_made (λ n. 1 < group n) Port (numbers (length m.units)) (λ k. omega arith))
      (mapped Fetched field_of (λ f. refl) (all_fields m) (fields_apart m)) (made_apart Port (λ i. refl) 0 (length m.units))

  unit_apart : (x : ℕ × OpUnit) → Apart (unit_wires x)
  unit_apart x =
      split part 0 (map (Starts x.0) (numbers (length x.1.ops))) (Trigger x.0 ∷ Operand x.0 ∷ [])
      (all_made (λ n. part n ≤ 0) (Starts x.0) (numbers (length x.1.ops)) (λ op. omega arith)) (omega arith, (omega arith, tt))
      (made_apart (Starts x.0) (λ i. refl) 0 (length x.1.ops)) (risen part 0 (Trigger x.0 ∷ Operand x.0 ∷ []) refl)

  abbrev pub last : List Named
  last = Controls ∷ GoalNow ∷ EndsNow ∷ Lands ∷ Asks ∷ Gives ∷ Goes ∷ NextPc ∷ Puts ∷ PutWord ∷ []

  -- all wires have a kind from 1 to 5
  pub of_wires : (P : Named → Type 0) → ((f : Field) → P (Fetched f)) → ((unit : ℕ) → P (Port unit)) → AllByRecursion P (first_wires m)
  of_wires P field port =
      both_lists P (map Fetched (all_fields m)) (map Port (numbers (length m.units))) (all_made P Fetched (all_fields m) field)
      (all_made P Port (numbers (length m.units)) port)

  pub of_buses : (P : Named → Type 0) → ((bus : ℕ) → P (Acts bus)) → ((bus : ℕ) → P (Word bus))
      → AllByRecursion P (flat_map bus_wires (numbers (length m.buses)))
  of_buses P acts word = every_piece P bus_wires (numbers (length m.buses)) (λ bus. (acts bus, (word bus, tt)))

  pub of_units : (P : Named → Type 0) → ((unit op : ℕ) → P (Starts unit op)) → ((unit : ℕ) → P (Trigger unit)) → ((unit : ℕ) → P (Operand unit))
      → AllByRecursion P (flat_map unit_wires (enumerate_from 0 m.units))
  of_units P starts trigger operand =
      every_piece P unit_wires (enumerate_from 0 m.units)
      (λ x. both_lists P (map (Starts x.0) (numbers (length x.1.ops))) (Trigger x.0 ∷ Operand x.0 ∷ [])
      (all_made P (Starts x.0) (numbers (length x.1.ops)) (starts x.0)) (trigger x.0, (operand x.0, tt)))

  abbrev pub buses : List Named
  buses = flat_map bus_wires (numbers (length m.buses))

  abbrev pub units : List Named
  units = flat_map unit_wires (enumerate_from 0 m.units)

  pub wires_apart : Apart (wire_names m)
  wires_apart =
      split group 4 (first_wires m ++ buses ++ units) last
      (both_lists (λ n. group n ≤ 4) (first_wires m ++ buses) units
      (both_lists (λ n. group n ≤ 4) (first_wires m) buses (of_wires (λ n. group n ≤ 4) (λ f. omega arith) (λ k. omega arith))
      (of_buses (λ n. group n ≤ 4) (λ b. omega arith) (λ b. omega arith)))
      (of_units (λ n. group n ≤ 4) (λ k op. omega arith) (λ k. omega arith) (λ k. omega arith))) (
        omega arith,
        (
          omega arith,
          (omega arith, (omega arith, (omega arith, (omega arith, (omega arith, (omega arith, (omega arith, (omega arith, tt)))))))),
        ),
      )
      (split group 3 (first_wires m ++ buses) units
      (both_lists (λ n. group n ≤ 3) (first_wires m) buses (of_wires (λ n. group n ≤ 3) (λ f. omega arith) (λ k. omega arith))
      (of_buses (λ n. group n ≤ 3) (λ b. omega arith) (λ b. omega arith)))
      (of_units (λ n. 3 < group n) (λ k op. omega arith) (λ k. omega arith) (λ k. omega arith))
      (split group 2 (first_wires m) buses (of_wires (λ n. group n ≤ 2) (λ f. omega arith) (λ k. omega arith))
      (of_buses (λ n. 2 < group n) (λ b. omega arith) (λ b. omega arith)) first_apart
      (pieces (λ (i : ℕ). i) owner bus_wires 0 (numbers (length m.buses)) (numbers_rise 0 (length m.buses)) (λ bus. (refl, (refl, tt)))
      (λ bus. risen part 0 (Acts bus ∷ Word bus ∷ []) refl)))
      (pieces (λ (x : ℕ × OpUnit). x.0) owner unit_wires 0 (enumerate_from 0 m.units) (enumerated_rise 0 m.units)
      (λ x. both_lists (λ n. owner n ≡ x.0) (map (Starts x.0) (numbers (length x.1.ops))) (Trigger x.0 ∷ Operand x.0 ∷ [])
      (all_made (λ n. owner n ≡ x.0) (Starts x.0) (numbers (length x.1.ops)) (λ op. refl)) (refl, (refl, tt))) unit_apart))
      (risen part 0 last refl)
