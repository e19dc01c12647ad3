-- No two signals of a machine's circuit have one name.
use Rattle.std.proofs.Common.{◌≡◌, ℕ, ◌<◌, ◌≤◌, List, [], ◌∷◌, ◌++◌, map, refl, sym, ap, subst, arith}
use Rattle.std.specs.List.{range_with_len, AllByRecursion}
use Rattle.tta_hardware.specs.Cited.{Machine}
use Rattle.tta_hardware.specs.Signals.{Signal as Named, Underway, IsOffered, Offer, IsReady, IsReset, same_signal}
use Rattle.tta_hardware.specs.Registers.{register}
use Rattle.tta_hardware.specs.Hardware.{first_wires, wire_names, register_names, wire}
use Rattle.tta_hardware.specs.Sized.{NamesDiffer}
use Rattle.tta_hardware.proofs.Named.{tells}
use Rattle.tta_hardware.proofs.WiresFit.{both_lists}
use Rattle.tta_hardware.proofs.PlainWires.{all_made}
use Rattle.tta_hardware.proofs.Different.{Apart, split, risen, tested}
use Rattle.tta_hardware.proofs.TellingApart.{group, part}
use Rattle.tta_hardware.proofs.WiresApart.{last, buses, units, of_wires, of_buses, of_units, wires_apart}
use Rattle.tta_hardware.proofs.RegistersApart.{files, imms, results, steps, of_files, of_imms, of_results, alone, registers_apart}

module _ (m : Machine) where
  -- ---- all

  abbrev inputs : List Named
  inputs = IsOffered ∷ Offer ∷ IsReady ∷ IsReset ∷ []

  wires_from : (P : ℕ → Type 0) → P 1 → P 2 → P 3 → P 4 → P 5 → AllByRecursion (λ n. P (group n)) (wire_names m)
  wires_from P a b c d e =
      both_lists (λ n. P (group n)) (first_wires m ++ buses m ++ units m) (last m)
      (both_lists (λ n. P (group n)) (first_wires m ++ buses m) (units m)
      (both_lists (λ n. P (group n)) (first_wires m) (buses m) (of_wires m (λ n. P (group n)) (λ f. a) (λ k. b))
      (of_buses m (λ n. P (group n)) (λ bus. c) (λ bus. c))) (of_units m (λ n. P (group n)) (λ k op. d) (λ k. d) (λ k. d)))
      (e, (e, (e, (e, (e, (e, (e, (e, (e, (e, tt))))))))))

  registers_from : AllByRecursion (λ n. 5 < group n) (register_names m)
  registers_from =
      both_lists (λ n. 5 < group n) (files m ++ imms m ++ results m ++ steps m) (alone m)
      (both_lists (λ n. 5 < group n) (files m ++ imms m ++ results m) (steps m)
      (both_lists (λ n. 5 < group n) (files m ++ imms m) (results m)
      (both_lists (λ n. 5 < group n) (files m) (imms m) (of_files m (λ n. 5 < group n) (λ f i. omega arith))
      (of_imms m (λ n. 5 < group n) (λ f i. omega arith)))
      (of_results m (λ k. 5 < k) (omega arith)))
      (all_made (λ n. 5 < group n) Underway (range_with_len 1 m.control.delay) (λ d. omega arith)))
      (omega arith, (omega arith, (omega arith, (omega arith, (omega arith, (omega arith, tt))))))

  all_apart : Apart (inputs ++ wire_names m ++ register_names m)
  all_apart =
      split group 5 (inputs ++ wire_names m) (register_names m)
      (both_lists (λ n. group n ≤ 5) inputs (wire_names m) (omega arith, (omega arith, (omega arith, (omega arith, tt))))
      (wires_from (λ k. k ≤ 5) (omega arith) (omega arith) (omega arith) (omega arith) (omega arith))) registers_from
      (split group 0 inputs (wire_names m) (omega arith, (omega arith, (omega arith, (omega arith, tt))))
      (wires_from (λ k. 0 < k) (omega arith) (omega arith) (omega arith) (omega arith) (omega arith)) (risen part 0 inputs refl)
      (wires_apart m))
      (registers_apart m)

  wire_names_back : (ns : List Named) → map (λ w. w.name) (map (wire m) ns) ≡ ns
  wire_names_back [] = refl
  wire_names_back (n ∷ ns) = ap (λ l. n ∷ l) (wire_names_back ns)

  register_names_back : (ns : List Named) → map (λ r. r.name) (map (register m) ns) ≡ ns
  register_names_back [] = refl
  register_names_back (n ∷ ns) = ap (λ l. n ∷ l) (register_names_back ns)

pub names_differ : NamesDiffer
names_differ m code memory = (
  tested same_signal tells (inputs m ++ map (λ w. w.name) (map (wire m) (wire_names m))
      ++ map (λ r. r.name) (map (register m) (register_names m)))
      (subst (λ (l : List Named). Apart (inputs m ++ l ++ map (λ r. r.name) (map (register m) (register_names m))))
      (sym (wire_names_back m (wire_names m)))
      (subst (λ (l : List Named). Apart (inputs m ++ wire_names m ++ l)) (sym (register_names_back m (register_names m))) (all_apart m))),
  refl,
)
