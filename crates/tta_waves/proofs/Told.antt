-- Every signal of a machine can be told.
use Rattle.std.proofs.Common.{◌≡◌, ℕ, zero, suc, ◌+◌, ◌<◌, ◌≤◌, Bool, true, List, [], ◌∷◌, length, map, IsTrue, refl, arith}
use Rattle.std.specs.List.{AllByRecursion, flat_map, enumerate_from, range_with_len, list_all}
use Rattle.std.proofs.lemmas.Bool.{and_parts, lt-ltb}
use Rattle.tta_list.proofs.Lists.{all_append}
use Rattle.tta_waves.specs.Cited.{File, ImmUnit, Machine, IsMachine, is_bus, is_file, is_imm, is_unit}
use Rattle.tta_arch.specs.declared.parts.Unit.{Unit as OpUnit}
use Rattle.tta_arch.proofs.Sizes.{small_file, small_imm}
use Rattle.tta_waves.specs.declared.signal.Signal.{Signal}
use Rattle.tta_waves.specs.declared.signal.Signal.TheVariants.{Starts, Register, Immediate}
use Rattle.tta_waves.specs.Signals.{bus_signals, unit_signals, file_signals, imm_signals, signals_of}
use Rattle.tta_waves.specs.Told.{is_told}

-- what holds of each number below a bound holds of each that a range gives
all_range : (P : Signal → Type 0) (f : ℕ → Signal) (first count bound : ℕ) → ((k : ℕ) → k < bound → P (f k)) → first + count ≤ bound
    → AllByRecursion P (map f (range_with_len first count))
all_range P f first zero bound each within = tt
all_range P f first (suc count) bound each within = (each first (omega (arith, within)), all_range P f (first + 1) count bound each (omega (arith, within)))

-- what holds of the signals of each part holds of all of them
all_parts : {X : Type 0} (P : Signal → Type 0) (f : ℕ × X → List Signal) (test : X → Bool) (bound : ℕ)
    → ((k : ℕ) (x : X) → k < bound → test x ≡ true → AllByRecursion P (f (k, x))) → (k : ℕ) (xs : List X) → k + length xs ≤ bound → list_all test xs ≡ true
    → AllByRecursion P (flat_map f (enumerate_from k xs))
all_parts P f test bound each k [] within all = tt
all_parts P f test bound each k (x ∷ xs) within all =
    let parts = and_parts (test x) (list_all test xs) all in
    all_append P (f (k, x)) (flat_map f (enumerate_from (k + 1) xs)) (each k x (omega (arith, within)) parts.0)
    (all_parts P f test bound each (k + 1) xs (omega (arith, within)) parts.1)

module _ (m : Machine) (rules : IsMachine m) where
  abbrev P : Signal → Type 0
  P g = IsTrue (is_told (length m.units) g)

  buses : AllByRecursion P (flat_map bus_signals (enumerate_from 0 m.buses))
  buses = all_parts P bus_signals is_bus 16 (λ k b below is. (refl, (refl, tt))) 0 m.buses (let few = rules.limits.buses in omega (arith, few)) rules.buses

  of_unit : (k : ℕ) (q : OpUnit) → k < length m.units → is_unit m.sockets q ≡ true → AllByRecursion P (unit_signals (k, q))
  of_unit k q below is =
      let few = rules.limits.units in
      all_append P (map (λ op. Starts k op) (range_with_len 0 (length q.ops))) _
      (all_range P (λ op. Starts k op) 0 (length q.ops) (length q.ops) (λ op within. refl) (omega arith))
      (lt-ltb k 32 (omega (arith, below, few)), (lt-ltb k (length m.units) below, tt))

  units : AllByRecursion P (flat_map unit_signals (enumerate_from 0 m.units))
  units = all_parts P unit_signals (is_unit m.sockets) (length m.units) of_unit 0 m.units (omega arith) rules.units

  of_file : (k : ℕ) (f : File) → k < 8 → is_file m.sockets f ≡ true → AllByRecursion P (file_signals (k, f))
  of_file k f below is =
      all_range P (λ index. Register k index) 0 f.size 64 (λ index within. rw (lt-ltb k 8 below, lt-ltb index 64 within) refl) (let small = small_file m.sockets f is in omega (arith, small))

  files : AllByRecursion P (flat_map file_signals (enumerate_from 0 m.files))
  files = all_parts P file_signals (is_file m.sockets) 8 of_file 0 m.files (let few = rules.limits.files in omega (arith, few)) rules.files

  of_imm : (k : ℕ) (i : ImmUnit) → k < 4 → is_imm m.sockets i ≡ true → AllByRecursion P (imm_signals (k, i))
  of_imm k i below is =
      all_range P (λ index. Immediate k index) 0 i.size 16 (λ index within. rw (lt-ltb k 4 below, lt-ltb index 16 within) refl) (let small = small_imm m.sockets i is in omega (arith, small))

  imms : AllByRecursion P (flat_map imm_signals (enumerate_from 0 m.imms))
  imms = all_parts P imm_signals (is_imm m.sockets) 4 of_imm 0 m.imms (let few = rules.limits.imms in omega (arith, few)) rules.imms

  -- each signal of the machine
  pub all_told : AllByRecursion P (signals_of m)
  all_told = (
    refl,
    (
      refl,
      all_append P (flat_map bus_signals (enumerate_from 0 m.buses)) _ buses
          (all_append P (flat_map unit_signals (enumerate_from 0 m.units)) _ units
          (all_append P (flat_map file_signals (enumerate_from 0 m.files)) _ files
          (all_append P (flat_map imm_signals (enumerate_from 0 m.imms)) _ imms (refl, tt)))),
    ),
  )
