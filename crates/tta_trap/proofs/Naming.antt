-- No two signals of a circuit that tells the first fault have one name.
use Rattle.std.proofs.Common.{◌≡◌, ℕ, ◌*◌, ◌<◌, ◌≤◌, List, [], ◌∷◌, ◌++◌, length, map, refl, sym, ap, ◌∙◌, subst, arith}
use Rattle.std.proofs.lemmas.List.{append_assoc}
use Rattle.std.specs.List.{flat_map, enumerate_from, range_with_len, AllByRecursion}
use Rattle.tta_trap.specs.Cited.{Machine, Place, KeptRa, numbers, IsOffered, IsReady, IsReset, Goes, NextPc, Puts, PutWord, Underway, Watch, HasWord, IsPast, LacksRegister, LacksPort, LacksOperand, Clashes, FaultNow, Watches, same_signal, signals_of, first_wires, bus_wires, unit_wires, register, register_names}
use Rattle.tta_hardware.specs.Signals.{Signal as Named, Offer}
use Rattle.tta_hardware.proofs.Named.{tells}
use Rattle.tta_hardware.proofs.WiresFit.{both_lists, all_map}
use Rattle.tta_hardware.proofs.RegistersFit.{weaker}
use Rattle.tta_hardware.proofs.PlainWires.{all_made, every_piece}
use Rattle.tta_hardware.proofs.Different.{Apart, split, risen, numbers_rise, pieces, mapped, tested}
use Rattle.tta_hardware.proofs.TellingApart.{group, part}
use Rattle.tta_hardware.proofs.WiresApart.{of_wires, of_buses, of_units, wires_apart}
use Rattle.tta_hardware.proofs.RegistersApart.{files, imms, results, steps, alone, of_files, of_imms, of_results, registers_apart}
use Rattle.tta_trap.specs.Memory.{watch_register, watch_registers, places}
use Rattle.tta_trap.specs.Watches.{bus_watches, unit_watches, watch_wires}
use Rattle.tta_trap.specs.Trap.{trap_wire, early_wires, late_wires, trap_wires, trap_circuit}
use Rattle.tta_trap.specs.Sized.{TrapNamesDiffer}
use Rattle.tta_trap.proofs.Listed.{first, control, bus_ones, unit_ones}
use Rattle.tta_trap.proofs.Kept.{plain, watching}
use Rattle.tta_trap.proofs.PlaceNames.{places_apart}

-- ---- lists

-- what is apart is so in each part
apart_parts : {A : Type 0} (xs ys : List A) → Apart (xs ++ ys) → Apart xs × Apart ys
apart_parts [] ys apart = (tt, apart)
apart_parts {A = A} (x ∷ xs) ys apart =
    let rest = apart_parts xs ys apart.1 in ((first_part xs ys apart.0, rest.0), rest.1)
  where
    first_part : (xs ys : List A) → AllByRecursion (λ y. x ≡ y → ⊥) (xs ++ ys) → AllByRecursion (λ y. x ≡ y → ⊥) xs
    first_part [] ys all = tt
    first_part (z ∷ xs) ys all = (all.0, first_part xs ys all.1)

-- ---- what tells them apart

-- kinds of signals, in the order in which they stand
abbrev kind : Named → ℕ
kind (Watches (LacksRegister bus)) = 26
kind (Watches (LacksPort bus)) = 26
kind (Watches (LacksOperand unit)) = 27
kind (Watches (Clashes unit)) = 27
kind (Watches FaultNow) = 28
kind Goes = 29
kind NextPc = 29
kind Puts = 29
kind PutWord = 29
kind n = 5 * group n

-- the bus or unit of a wire that tells a fault, and where it stands among those of it
abbrev whose : Named → ℕ
whose (Watches (LacksRegister bus)) = bus
whose (Watches (LacksPort bus)) = bus
whose (Watches (LacksOperand unit)) = unit
whose (Watches (Clashes unit)) = unit
whose n = 0

abbrev turn : Named → ℕ
turn (Watches (LacksPort bus)) = 1
turn (Watches (Clashes unit)) = 1
turn n = 0

abbrev kept_of : Watch → Place
kept_of (HasWord p) = p
kept_of w = KeptRa

abbrev watch_of : Named → Watch
watch_of (Watches w) = w
watch_of n = IsPast

abbrev is_past : Watch → ℕ
is_past IsPast = 1
is_past w = 0

-- a register without a watch has the kind of its group
kind_is : (n : Named) → 5 < group n → group n ≤ 10 → kind n ≡ 5 * group n
kind_is (Watches w) more few = absurd (omega (arith, few))
kind_is Goes more few = absurd (omega (arith, more))
kind_is NextPc more few = absurd (omega (arith, more))
kind_is Puts more few = absurd (omega (arith, more))
kind_is PutWord more few = absurd (omega (arith, more))
kind_is n more few = refl

module _ (m : Machine) where
  -- ---- the watch

  bus_apart : Apart (bus_ones m)
  bus_apart =
      pieces (λ (i : ℕ). i) whose bus_watches 0 (numbers (length m.buses)) (numbers_rise 0 (length m.buses)) (λ bus. (refl, (refl, tt)))
      (λ bus. risen turn 0 (bus_watches bus) refl)

  unit_apart : Apart (unit_ones m)
  unit_apart =
      pieces (λ (i : ℕ). i) whose unit_watches 0 (numbers (length m.units)) (numbers_rise 0 (length m.units)) (λ unit. (refl, (refl, tt)))
      (λ unit. risen turn 0 (unit_watches unit) refl)

  watch_apart : Apart (watch_wires m)
  watch_apart =
      split kind 27 (bus_ones m ++ unit_ones m) (Watches FaultNow ∷ [])
      (both_lists (λ n. kind n ≤ 27) (bus_ones m) (unit_ones m)
      (every_piece (λ n. kind n ≤ 27) bus_watches (numbers (length m.buses)) (λ bus. (omega arith, (omega arith, tt))))
      (every_piece (λ n. kind n ≤ 27) unit_watches (numbers (length m.units)) (λ unit. (omega arith, (omega arith, tt)))))
      (omega arith, tt)
      (split kind 26 (bus_ones m) (unit_ones m)
      (every_piece (λ n. kind n ≤ 26) bus_watches (numbers (length m.buses)) (λ bus. (omega arith, (omega arith, tt))))
      (every_piece (λ n. 26 < kind n) unit_watches (numbers (length m.units)) (λ unit. (omega arith, (omega arith, tt)))) bus_apart
      unit_apart)
      (tt, tt)

  memory_apart : Apart (map Watches (watch_registers m))
  memory_apart =
      mapped Watches watch_of (λ w. refl) (watch_registers m)
      (split is_past 0 (map HasWord (places m)) (IsPast ∷ []) (all_made (λ w. is_past w ≤ 0) HasWord (places m) (λ p. omega arith))
      (omega arith, tt) (mapped HasWord kept_of (λ p. refl) (places m) (places_apart m)) (tt, tt))

  -- ---- all

  abbrev inputs : List Named
  inputs = IsOffered ∷ Offer ∷ IsReady ∷ IsReset ∷ []

  abbrev buses : List Named
  buses = flat_map bus_wires (numbers (length m.buses))

  abbrev units : List Named
  units = flat_map unit_wires (enumerate_from 0 m.units)

  early_kinds : (P : ℕ → Type 0) → P 5 → P 10 → P 15 → P 20 → P 25 → AllByRecursion (λ n. P (kind n)) (early_wires m)
  early_kinds P a b c d e =
      both_lists (λ n. P (kind n)) (first_wires m ++ buses ++ units) (control m)
      (both_lists (λ n. P (kind n)) (first_wires m ++ buses) units
      (both_lists (λ n. P (kind n)) (first_wires m) buses (of_wires m (λ n. P (kind n)) (λ f. a) (λ k. b))
      (of_buses m (λ n. P (kind n)) (λ bus. c) (λ bus. c))) (of_units m (λ n. P (kind n)) (λ k op. d) (λ k. d) (λ k. d)))
      (e, (e, (e, (e, (e, (e, tt))))))

  watch_kinds : (P : ℕ → Type 0) → P 26 → P 27 → P 28 → AllByRecursion (λ n. P (kind n)) (watch_wires m)
  watch_kinds P a b c =
      both_lists (λ n. P (kind n)) (bus_ones m ++ unit_ones m) (Watches FaultNow ∷ [])
      (both_lists (λ n. P (kind n)) (bus_ones m) (unit_ones m)
      (every_piece (λ n. P (kind n)) bus_watches (numbers (length m.buses)) (λ bus. (a, (a, tt))))
      (every_piece (λ n. P (kind n)) unit_watches (numbers (length m.units)) (λ unit. (b, (b, tt))))) (c, tt)

  wire_kinds : (P : ℕ → Type 0) → P 5 → P 10 → P 15 → P 20 → P 25 → P 26 → P 27 → P 28 → P 29
      → AllByRecursion (λ n. P (kind n)) (trap_wires m)
  wire_kinds P a b c d e f g h i =
      both_lists (λ n. P (kind n)) (early_wires m ++ watch_wires m) late_wires
      (both_lists (λ n. P (kind n)) (early_wires m) (watch_wires m) (early_kinds P a b c d e) (watch_kinds P f g h))
      (i, (i, (i, (i, tt))))

  register_groups : (P : ℕ → Type 0) → P 6 → P 7 → P 8 → P 9 → P 10 → AllByRecursion (λ n. P (group n)) (register_names m)
  register_groups P a b c d e =
      both_lists (λ n. P (group n)) (files m ++ imms m ++ results m ++ steps m) (alone m)
      (both_lists (λ n. P (group n)) (files m ++ imms m ++ results m) (steps m)
      (both_lists (λ n. P (group n)) (files m ++ imms m) (results m)
      (both_lists (λ n. P (group n)) (files m) (imms m) (of_files m (λ n. P (group n)) (λ f i. a))
      (of_imms m (λ n. P (group n)) (λ f i. b))) (of_results m P c))
      (all_made (λ n. P (group n)) Underway (range_with_len 1 m.control.delay) (λ i. d)))
      (e, (e, (e, (e, (e, (e, tt))))))

  register_kinds : AllByRecursion (λ n. (29 < kind n) × (kind n ≤ 54)) (register_names m)
  register_kinds =
      weaker (λ n. (5 < group n) × (group n ≤ 10)) (λ n. (29 < kind n) × (kind n ≤ 54)) (register_names m)
      (λ n p. let e = kind_is n p.0 p.1 in let low = p.0 in let high = p.1 in (omega (arith, e, low), omega (arith, e, high)))
      (register_groups (λ k. (5 < k) × (k ≤ 10)) (omega arith, omega arith) (omega arith, omega arith) (omega arith, omega arith)
      (omega arith, omega arith) (omega arith, omega arith))

  memory_kinds : AllByRecursion (λ n. 54 < kind n) (map Watches (watch_registers m))
  memory_kinds =
      all_map (λ n. 54 < kind n) Watches (watch_registers m)
      (both_lists (λ w. 54 < kind (Watches w)) (map HasWord (places m)) (IsPast ∷ [])
      (all_made (λ w. 54 < kind (Watches w)) HasWord (places m) (λ p. omega arith)) (omega arith, tt))

  wires_are_apart : Apart (trap_wires m)
  wires_are_apart =
      let parts = apart_parts (first m) (control m ++ late_wires) (wires_apart m) in
      split kind 28 (early_wires m ++ watch_wires m) late_wires
      (both_lists (λ n. kind n ≤ 28) (early_wires m) (watch_wires m)
      (early_kinds (λ k. k ≤ 28) (omega arith) (omega arith) (omega arith) (omega arith) (omega arith))
      (watch_kinds (λ k. k ≤ 28) (omega arith) (omega arith) (omega arith)))
      (omega arith, (omega arith, (omega arith, (omega arith, tt))))
      (split kind 25 (early_wires m) (watch_wires m)
      (early_kinds (λ k. k ≤ 25) (omega arith) (omega arith) (omega arith) (omega arith) (omega arith))
      (watch_kinds (λ k. 25 < k) (omega arith) (omega arith) (omega arith)) early_apart watch_apart)
      (apart_parts (control m) late_wires parts.1).1
    where
      early_apart : Apart (early_wires m)
      early_apart =
          (apart_parts (early_wires m) late_wires
          (subst (λ l. Apart l) (sym (append_assoc (first m) (control m) late_wires)) (wires_apart m))).0

  registers_are_apart : Apart (register_names m ++ map Watches (watch_registers m))
  registers_are_apart =
      split kind 54 (register_names m) (map Watches (watch_registers m))
      (weaker (λ n. (29 < kind n) × (kind n ≤ 54)) (λ n. kind n ≤ 54) (register_names m) (λ n p. p.1) register_kinds) memory_kinds
      (registers_apart m) memory_apart

  all_apart : Apart (inputs ++ trap_wires m ++ (register_names m ++ map Watches (watch_registers m)))
  all_apart =
      split kind 29 (inputs ++ trap_wires m) (register_names m ++ map Watches (watch_registers m))
      (both_lists (λ n. kind n ≤ 29) inputs (trap_wires m) (omega arith, (omega arith, (omega arith, (omega arith, tt))))
      (wire_kinds (λ k. k ≤ 29) (omega arith) (omega arith) (omega arith) (omega arith) (omega arith) (omega arith) (omega arith)
      (omega arith) (omega arith)))
      (both_lists (λ n. 29 < kind n) (register_names m) (map Watches (watch_registers m))
      (weaker (λ n. (29 < kind n) × (kind n ≤ 54)) (λ n. 29 < kind n) (register_names m) (λ n p. p.0) register_kinds)
      (weaker (λ n. 54 < kind n) (λ n. 29 < kind n) (map Watches (watch_registers m)) (λ n more. omega (arith, more)) memory_kinds))
      (split kind 0 inputs (trap_wires m) (omega arith, (omega arith, (omega arith, (omega arith, tt))))
      (wire_kinds (λ k. 0 < k) (omega arith) (omega arith) (omega arith) (omega arith) (omega arith) (omega arith) (omega arith)
      (omega arith) (omega arith)) (risen part 0 inputs refl) wires_are_apart)
      registers_are_apart

-- ---- their names

-- names of what is made of names
names_back : {A : Type 0} (name : A → Named) (make : Named → A) → ((n : Named) → name (make n) ≡ n) → (ns : List Named)
    → map name (map make ns) ≡ ns
names_back name make is [] = refl
names_back name make is (n ∷ ns) = ap (λ k. k ∷ map name (map make ns)) (is n) ∙ ap (λ l. n ∷ l) (names_back name make is ns)

register_back : (m : Machine) (ns : List Named) (ws : List Watch)
    → map (λ r. r.name) (map (register m) ns ++ map (watch_register m) ws) ≡ ns ++ map Watches ws
register_back m [] [] = refl
register_back m [] (w ∷ ws) = ap (λ l. Watches w ∷ l) (register_back m [] ws)
register_back m (n ∷ ns) ws = ap (λ l. n ∷ l) (register_back m ns ws)

pub trap_names_differ : TrapNamesDiffer
trap_names_differ m code memory =
    tested same_signal tells (signals_of (trap_circuit m code memory))
    (subst (λ (l : List Named). Apart (inputs m ++ l ++ map (λ r. r.name) (plain m ++ watching m)))
    (sym (names_back (λ w. w.name) (trap_wire m (length code.words)) (λ n. refl) (trap_wires m)))
    (subst (λ (l : List Named). Apart (inputs m ++ trap_wires m ++ l)) (sym (register_back m (register_names m) (watch_registers m)))
    (all_apart m)))
