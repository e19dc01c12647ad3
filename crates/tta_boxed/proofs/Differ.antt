-- The names of both circuits that make all operations themselves are no modules', so modules' names are others.
use Rattle.std.proofs.Common.{◌≡◌, ℕ, ◌≤◌, Bool, true, false, List, [], ◌∷◌, ◌++◌, length, map, refl, ap, ◌∙◌, arith}
use Rattle.std.specs.List.{range_with_len, AllByRecursion}
use Rattle.tta_boxed.specs.Cited.{Machine, Boxes, signals_of}
use Rattle.tta_code.specs.declared.code.Code.{Code as Program}
use Rattle.tta_hardware.specs.Signals.{Signal as Named, Underway, Watches}
use Rattle.tta_hardware.specs.Registers.{register}
use Rattle.tta_hardware.specs.Hardware.{first_wires, wire, wire_names, register_names}
use Rattle.tta_hardware.proofs.TellingApart.{group}
use Rattle.tta_hardware.proofs.NamesApart.{names_differ}
use Rattle.tta_hardware.proofs.WiresApart as wires
use Rattle.tta_hardware.proofs.RegistersApart as registers
use Rattle.tta_hardware.proofs.WiresFit.{both_lists, all_map}
use Rattle.tta_hardware.proofs.RegistersFit.{weaker}
use Rattle.tta_hardware.proofs.PlainWires.{all_made, every_piece}
use Rattle.tta_arch.specs.Fields.{numbers}
use Rattle.tta_trap.specs.Memory.{watch_register, watch_registers}
use Rattle.tta_trap.specs.Watches.{bus_watches, unit_watches, watch_wires}
use Rattle.tta_trap.specs.Trap.{trap_wire, early_wires, late_wires, trap_wires}
use Rattle.tta_trap.proofs.Listed.{all_parts, first, control, bus_ones, unit_ones}
use Rattle.tta_trap.proofs.Naming.{trap_names_differ}
use Rattle.tta_boxed.specs.Sized.{BoxedNamesDiffer}
use Rattle.tta_boxed.specs.Theorem.{whole}
use Rattle.tta_boxed.proofs.Wholes.{is_box}
use Rattle.tta_boxed.proofs.Names.{all_apart}

module _ (m : Machine) where
  abbrev Plain : Named → Type 0
  Plain n = is_box n ≡ false

  early : (n : Named) → group n ≤ 10 → is_box n ≡ false
  early (Boxes b) few = absurd (omega (arith, few))
  early n few = refl

  wires_plain : AllByRecursion (λ n. is_box n ≡ false) (wire_names m)
  wires_plain =
      both_lists Plain (first_wires m ++ wires.buses m ++ wires.units m) (wires.last m)
      (both_lists Plain (first_wires m ++ wires.buses m) (wires.units m)
      (both_lists Plain (first_wires m) (wires.buses m) (wires.of_wires m Plain (λ f. refl) (λ unit. refl))
      (wires.of_buses m Plain (λ bus. refl) (λ bus. refl))) (wires.of_units m Plain (λ k op. refl) (λ k. refl) (λ k. refl)))
      (refl, (refl, (refl, (refl, (refl, (refl, (refl, (refl, (refl, (refl, tt))))))))))

  trap_plain : AllByRecursion (λ n. is_box n ≡ false) (trap_wires m)
  trap_plain =
      let plain = all_parts Plain (first m) (control m ++ late_wires) wires_plain in
      let ends = all_parts Plain (control m) late_wires plain.1 in
      both_lists Plain (early_wires m ++ watch_wires m) late_wires
      (both_lists Plain (early_wires m) (watch_wires m) (both_lists Plain (first m) (control m) plain.0 ends.0)
      (both_lists Plain (bus_ones m ++ unit_ones m) (Watches _ ∷ [])
      (both_lists Plain (bus_ones m) (unit_ones m)
      (every_piece Plain bus_watches (numbers (length m.buses)) (λ bus. (refl, (refl, tt))))
      (every_piece Plain unit_watches (numbers (length m.units)) (λ unit. (refl, (refl, tt))))) (refl, tt))) ends.1

  registers_plain : AllByRecursion (λ n. is_box n ≡ false) (register_names m)
  registers_plain =
      weaker (λ n. group n ≤ 10) Plain (register_names m) early
      (both_lists (λ n. group n ≤ 10) (registers.files m ++ registers.imms m ++ registers.results m ++ registers.steps m)
      (registers.alone m)
      (both_lists (λ n. group n ≤ 10) (registers.files m ++ registers.imms m ++ registers.results m) (registers.steps m)
      (both_lists (λ n. group n ≤ 10) (registers.files m ++ registers.imms m) (registers.results m)
      (both_lists (λ n. group n ≤ 10) (registers.files m) (registers.imms m)
      (registers.of_files m (λ n. group n ≤ 10) (λ f i. omega arith)) (registers.of_imms m (λ n. group n ≤ 10) (λ f i. omega arith)))
      (registers.of_results m (λ k. k ≤ 10) (omega arith)))
      (all_made (λ n. group n ≤ 10) Underway (range_with_len 1 m.control.delay) (λ d. omega arith)))
      (omega arith, (omega arith, (omega arith, (omega arith, (omega arith, (omega arith, tt)))))))

  -- names of what is made of names
  named : {A : Type 0} (name : A → Named) (make : Named → A) → ((n : Named) → name (make n) ≡ n) → (ns : List Named)
      → AllByRecursion (λ n. is_box n ≡ false) ns → AllByRecursion (λ n. is_box n ≡ false) (map name (map make ns))
  named name make is [] all = tt
  named name make is (n ∷ ns) all = (ap is_box (is n) ∙ all.0, named name make is ns all.1)

  all_plain : (faults : Bool) (code : Program) (memory : List ℕ)
      → AllByRecursion (λ n. is_box n ≡ false) (signals_of (whole faults m code memory))
  all_plain true code memory =
      both_lists Plain (ins ++ map (λ w. w.name) (map (trap_wire m (length code.words)) (trap_wires m)))
      (map (λ r. r.name) (map (register m) (register_names m) ++ map (watch_register m) (watch_registers m)))
      (both_lists Plain ins (map (λ w. w.name) (map (trap_wire m (length code.words)) (trap_wires m))) (refl, (refl, (refl, (refl, tt))))
      (named (λ w. w.name) (trap_wire m (length code.words)) (λ n. refl) (trap_wires m) trap_plain))
      (all_map Plain (λ r. r.name) (map (register m) (register_names m) ++ map (watch_register m) (watch_registers m))
      (both_lists (λ r. is_box r.name ≡ false) (map (register m) (register_names m)) (map (watch_register m) (watch_registers m))
      (all_map (λ r. is_box r.name ≡ false) (register m) (register_names m) registers_plain)
      (all_made (λ r. is_box r.name ≡ false) (watch_register m) (watch_registers m) (λ w. refl))))
    where
      ins : List Named
      ins = map (λ i. i.0) (whole true m code memory).inputs
  all_plain false code memory =
      both_lists Plain (ins ++ map (λ w. w.name) (map (wire m) (wire_names m))) (map (λ r. r.name) (map (register m) (register_names m)))
      (both_lists Plain ins (map (λ w. w.name) (map (wire m) (wire_names m))) (refl, (refl, (refl, (refl, tt))))
      (named (λ w. w.name) (wire m) (λ n. refl) (wire_names m) wires_plain))
      (named (λ r. r.name) (register m) (λ n. refl) (register_names m) registers_plain)
    where
      ins : List Named
      ins = map (λ i. i.0) (whole false m code memory).inputs

pub boxed_names_differ : BoxedNamesDiffer
boxed_names_differ m leaves true code memory =
    all_apart m leaves (whole true m code memory) (trap_names_differ m code memory) (all_plain m true code memory)
boxed_names_differ m leaves false code memory =
    all_apart m leaves (whole false m code memory) (names_differ m code memory).0 (all_plain m false code memory)
