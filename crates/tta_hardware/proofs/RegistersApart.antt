-- No two registers of a machine are one.
use Rattle.std.proofs.Common.{◌≡◌, ℕ, ◌-◌, ◌<◌, ◌≤◌, Bool, true, false, List, [], ◌∷◌, ◌++◌, map, refl, arith}
use Rattle.std.specs.Prelude.{if◌then◌else◌}
use Rattle.std.specs.List.{flat_map, enumerate_from, range_with_len, AllByRecursion}
use Rattle.tta_arch.specs.declared.parts.Unit.{Unit as OpUnit}
use Rattle.tta_hardware.specs.Cited.{UnitOp, File, ImmUnit, Machine, numbers, KeptReg, KeptImm, KeptOperand, KeptRa, KeptPort}
use Rattle.tta_hardware.specs.Signals.{Signal as Named, Pc, HasHalted, Underway, Goal, Ends, Keeps, IsDue, Due, HasBegun, Raw, IsInside, Whole}
use Rattle.tta_hardware.specs.Wires.{is_load, longest}
use Rattle.tta_hardware.specs.Hardware.{result_registers, load_registers, unit_registers, register_names}
use Rattle.tta_hardware.proofs.WiresFit.{both_lists}
use Rattle.tta_hardware.proofs.PlainWires.{all_made, every_piece}
use Rattle.tta_hardware.proofs.Different.{Apart, split, risen, enumerated_rise, pieces}
use Rattle.tta_hardware.proofs.TellingApart.{group, part, owner, inner, made_apart}

module _ (m : Machine) where
  -- ---- registers

  load_apart : (unit : ℕ) (x : ℕ × UnitOp) → Apart (load_registers unit x)
  load_apart unit x = by (is_load x.1.op) where
    by : (b : Bool) → Apart (if b then HasBegun unit x.0 ∷ Raw unit x.0 ∷ IsInside unit x.0 ∷ [] else [])
    by true = risen part 0 (HasBegun unit x.0 ∷ Raw unit x.0 ∷ IsInside unit x.0 ∷ []) refl
    by false = tt

  of_load : (P : Named → Type 0) (unit : ℕ) → ((op : ℕ) → P (HasBegun unit op)) → ((op : ℕ) → P (Raw unit op))
      → ((op : ℕ) → P (IsInside unit op))
      → (x : ℕ × UnitOp) → AllByRecursion P (load_registers unit x)
  of_load P unit begun raw inside x = by (is_load x.1.op) where
    by : (b : Bool) → AllByRecursion P (if b then HasBegun unit x.0 ∷ Raw unit x.0 ∷ IsInside unit x.0 ∷ [] else [])
    by true = (begun x.0, (raw x.0, (inside x.0, tt)))
    by false = tt

  -- what holds of all registers of a unit
  of_unit : (P : Named → Type 0) (x : ℕ × OpUnit) → P (Keeps (KeptOperand x.0)) → P (Keeps (KeptPort x.0)) → ((d : ℕ) → P (IsDue x.0 d))
      → ((d : ℕ) → P (Due x.0 d)) → ((op : ℕ) → P (HasBegun x.0 op)) → ((op : ℕ) → P (Raw x.0 op)) → ((op : ℕ) → P (IsInside x.0 op))
      → AllByRecursion P (unit_registers m x)
  of_unit P x operand port is_due due begun raw inside =
      both_lists P (result_registers m x.0) (flat_map (load_registers x.0) (enumerate_from 0 x.1.ops))
      (both_lists P (Keeps (KeptOperand x.0) ∷ Keeps (KeptPort x.0) ∷ map (IsDue x.0) (range_with_len 1 (longest m x.0 - 1)))
      (map (Due x.0) (range_with_len 1 (longest m x.0 - 1)))
      (operand, (port, all_made P (IsDue x.0) (range_with_len 1 (longest m x.0 - 1)) is_due))
      (all_made P (Due x.0) (range_with_len 1 (longest m x.0 - 1)) due))
      (every_piece P (load_registers x.0) (enumerate_from 0 x.1.ops) (of_load P x.0 begun raw inside))

  unit_registers_apart : (x : ℕ × OpUnit) → Apart (unit_registers m x)
  unit_registers_apart x =
      split part 3 (result_registers m x.0) loads
      (both_lists (λ n. part n ≤ 3) ports words (omega arith, (omega arith, all_made (λ n. part n ≤ 3) (IsDue x.0) dues (λ d. omega arith)))
      (all_made (λ n. part n ≤ 3) (Due x.0) dues (λ d. omega arith)))
      (every_piece (λ n. 3 < part n) (load_registers x.0) (enumerate_from 0 x.1.ops)
      (of_load (λ n. 3 < part n) x.0 (λ op. omega arith) (λ op. omega arith) (λ op. omega arith)))
      (split part 2 ports words (omega arith, (omega arith, all_made (λ n. part n ≤ 2) (IsDue x.0) dues (λ d. omega arith)))
      (all_made (λ n. 2 < part n) (Due x.0) dues (λ d. omega arith))
      (split part 1 (Keeps (KeptOperand x.0) ∷ Keeps (KeptPort x.0) ∷ []) (map (IsDue x.0) dues) (omega arith, (omega arith, tt))
      (all_made (λ n. 1 < part n) (IsDue x.0) dues (λ d. omega arith))
      (risen part 0 (Keeps (KeptOperand x.0) ∷ Keeps (KeptPort x.0) ∷ []) refl)
      (made_apart (IsDue x.0) (λ i. refl) 1 (longest m x.0 - 1)))
      (made_apart (Due x.0) (λ i. refl) 1 (longest m x.0 - 1)))
      (pieces (λ (o : ℕ × UnitOp). o.0) inner (load_registers x.0) 0 (enumerate_from 0 x.1.ops) (enumerated_rise 0 x.1.ops)
      (λ o. of_inner o) (load_apart x.0))
    where
      dues : List ℕ
      dues = range_with_len 1 (longest m x.0 - 1)

      ports : List Named
      ports = Keeps (KeptOperand x.0) ∷ Keeps (KeptPort x.0) ∷ map (IsDue x.0) dues

      words : List Named
      words = map (Due x.0) dues

      loads : List Named
      loads = flat_map (load_registers x.0) (enumerate_from 0 x.1.ops)

      of_inner : (o : ℕ × UnitOp) → AllByRecursion (λ n. inner n ≡ o.0) (load_registers x.0 o)
      of_inner o = by (is_load o.1.op) where
        by : (b : Bool)
            → AllByRecursion (λ n. inner n ≡ o.0) (if b then HasBegun x.0 o.0 ∷ Raw x.0 o.0 ∷ IsInside x.0 o.0 ∷ [] else [])
        by true = (refl, (refl, (refl, tt)))
        by false = tt

  abbrev pub files : List Named
  files = flat_map (λ f. map (λ index. Keeps (KeptReg f.0 index)) (numbers f.1.size)) (enumerate_from 0 m.files)

  abbrev pub imms : List Named
  imms = flat_map (λ i. map (λ index. Keeps (KeptImm i.0 index)) (numbers i.1.size)) (enumerate_from 0 m.imms)

  abbrev pub results : List Named
  results = flat_map (unit_registers m) (enumerate_from 0 m.units)

  abbrev pub steps : List Named
  steps = map Underway (range_with_len 1 m.control.delay)

  pub of_files : (P : Named → Type 0) → ((file index : ℕ) → P (Keeps (KeptReg file index))) → AllByRecursion P files
  of_files P each =
      every_piece P (λ f. map (λ index. Keeps (KeptReg f.0 index)) (numbers f.1.size)) (enumerate_from 0 m.files)
      (λ f. all_made P (λ index. Keeps (KeptReg f.0 index)) (numbers f.1.size) (each f.0))

  pub of_imms : (P : Named → Type 0) → ((unit index : ℕ) → P (Keeps (KeptImm unit index))) → AllByRecursion P imms
  of_imms P each =
      every_piece P (λ i. map (λ index. Keeps (KeptImm i.0 index)) (numbers i.1.size)) (enumerate_from 0 m.imms)
      (λ i. all_made P (λ index. Keeps (KeptImm i.0 index)) (numbers i.1.size) (each i.0))

  pub of_results : (P : ℕ → Type 0) → P 8 → AllByRecursion (λ n. P (group n)) results
  of_results P is =
      every_piece (λ n. P (group n)) (unit_registers m) (enumerate_from 0 m.units)
      (λ x. of_unit (λ n. P (group n)) x is is (λ d. is) (λ d. is) (λ op. is) (λ op. is) (λ op. is))

  abbrev pub alone : List Named
  alone = Keeps KeptRa ∷ Pc ∷ Whole ∷ HasHalted ∷ Goal ∷ Ends ∷ []

  pub registers_apart : Apart (register_names m)
  registers_apart =
      split group 9 (files ++ imms ++ results ++ steps) alone
      (both_lists (λ n. group n ≤ 9) (files ++ imms ++ results) steps
      (both_lists (λ n. group n ≤ 9) (files ++ imms) results
      (both_lists (λ n. group n ≤ 9) files imms (of_files (λ n. group n ≤ 9) (λ f i. omega arith))
      (of_imms (λ n. group n ≤ 9) (λ f i. omega arith)))
      (of_results (λ k. k ≤ 9) (omega arith)))
      (all_made (λ n. group n ≤ 9) Underway (range_with_len 1 m.control.delay) (λ d. omega arith)))
      (omega arith, (omega arith, (omega arith, (omega arith, (omega arith, (omega arith, tt))))))
      (split group 8 (files ++ imms ++ results) steps
      (both_lists (λ n. group n ≤ 8) (files ++ imms) results
      (both_lists (λ n. group n ≤ 8) files imms (of_files (λ n. group n ≤ 8) (λ f i. omega arith))
      (of_imms (λ n. group n ≤ 8) (λ f i. omega arith)))
      (of_results (λ k. k ≤ 8) (omega arith)))
      (all_made (λ n. 8 < group n) Underway (range_with_len 1 m.control.delay) (λ d. omega arith))
      (split group 7 (files ++ imms) results
      (both_lists (λ n. group n ≤ 7) files imms (of_files (λ n. group n ≤ 7) (λ f i. omega arith))
      (of_imms (λ n. group n ≤ 7) (λ f i. omega arith)))
      (of_results (λ k. 7 < k) (omega arith))
      (split group 6 files imms (of_files (λ n. group n ≤ 6) (λ f i. omega arith)) (of_imms (λ n. 6 < group n) (λ f i. omega arith))
      (pieces (λ (f : ℕ × File). f.0) owner (λ f. map (λ index. Keeps (KeptReg f.0 index)) (numbers f.1.size)) 0 (enumerate_from 0 m.files)
      (enumerated_rise 0 m.files) (λ f. all_made (λ n. owner n ≡ f.0) (λ index. Keeps (KeptReg f.0 index)) (numbers f.1.size) (λ i. refl))
      (λ f. made_apart (λ index. Keeps (KeptReg f.0 index)) (λ i. refl) 0 f.1.size))
      (pieces (λ (f : ℕ × ImmUnit). f.0) owner (λ i. map (λ index. Keeps (KeptImm i.0 index)) (numbers i.1.size)) 0
      (enumerate_from 0 m.imms)
      (enumerated_rise 0 m.imms) (λ f. all_made (λ n. owner n ≡ f.0) (λ index. Keeps (KeptImm f.0 index)) (numbers f.1.size) (λ i. refl))
      (λ f. made_apart (λ index. Keeps (KeptImm f.0 index)) (λ i. refl) 0 f.1.size)))
      (pieces (λ (x : ℕ × OpUnit). x.0) owner (unit_registers m) 0 (enumerate_from 0 m.units) (enumerated_rise 0 m.units)
      (λ x. of_unit (λ n. owner n ≡ x.0) x refl refl (λ d. refl) (λ d. refl) (λ op. refl) (λ op. refl) (λ op. refl)) unit_registers_apart))
      (made_apart Underway (λ i. refl) 1 m.control.delay))
      (risen part 0 alone refl)
