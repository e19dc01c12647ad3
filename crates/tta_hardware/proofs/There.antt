-- Which signals a machine's circuit has.
use Rattle.std.proofs.Common.{◌≡◌, ℕ, zero, suc, ◌+◌, ◌-◌, ◌<◌, ◌≤◌, Bool, true, false, ◌&&◌, ◌||◌, List, [], ◌∷◌, ◌++◌, length, map, slice_get, Option, Some, None, refl, sym, ap, ◌∙◌, arith}
use Rattle.std.specs.Prelude.{is_some, if◌then◌else◌, nat_lt, nat_le, option_and_then}
use Rattle.std.specs.Option.{option_map_or}
use Rattle.std.specs.List.{list_any, flat_map, enumerate_from, range_with_len, AllByRecursion}
use Rattle.std.proofs.lemmas.Bool.{and_parts, and_from, or_left, or_right, ltb-true, lt-ltb, leb-true, le-leb, false≢true}
use Rattle.tta_arch.specs.declared.parts.Unit.{Unit as OpUnit}
use Rattle.tta_hardware.specs.Cited.{UnitOp, File, ImmUnit, Machine, IsMachine, numbers, KeptReg, KeptImm, KeptOperand, KeptRa, KeptPort, op_at, has_signal}
use Rattle.tta_code.specs.declared.code.Code.{Code as Program}
use Rattle.tta_hardware.specs.Signals.{Signal as Named, Pc, HasHalted, Underway, Goal, Ends, Keeps, IsDue, Due, HasBegun, Raw, IsInside, Port, IsOffered, Offer, IsReady, IsReset, Whole, Fetched, Word, Acts, Starts, Trigger, Operand, Controls, GoalNow, EndsNow, Lands, Asks, Gives, Goes, NextPc, Puts, PutWord, Watches, Boxes, same_signal}
use Rattle.tta_hardware.specs.Wires.{is_load, longest}
use Rattle.tta_hardware.specs.Registers.{register}
use Rattle.tta_hardware.specs.Hardware.{all_fields, bus_wires, unit_wires, first_wires, wire_names, result_registers, load_registers, unit_registers, register_names, wire, circuit_of}
use Rattle.tta_hardware.specs.Stands.{has_place, has_field}
use Rattle.tta_hardware.proofs.Bringing.{within_list}
use Rattle.tta_hardware.proofs.Named.{signal_is, signal_itself}
use Rattle.tta_hardware.proofs.Members.{any_made, alone_there, underway_there, load_there, is_due_there, due_there, place_there, last_there, bus_there, port_there, starts_there, trigger_there, operand_there, fetched_there}
use Rattle.tta_hardware.proofs.WiresFit.{both_lists, all_map}
use Rattle.tta_hardware.proofs.RegistersFit.{weaker}
use Rattle.tta_hardware.proofs.PlainWires.{below_all, all_pieces, fields_have}

-- whether there is a load of a unit
abbrev pub is_load_at : Machine → (unit op : ℕ) → Bool
is_load_at m unit op = option_map_or (λ o. is_load o.op) (op_at m unit op) false

-- whether a result can be due in so many cycles
abbrev pub can_be_due : Machine → (unit delay : ℕ) → Bool
can_be_due m unit delay = nat_lt unit (length m.units) && (nat_lt 0 delay && nat_lt delay (longest m unit))

-- whether a signal is there
abbrev pub is_there : Machine → Named → Bool
is_there m (Underway delay) = nat_lt 0 delay && nat_le delay m.control.delay
is_there m (Keeps p) = has_place m p
is_there m (IsDue unit delay) = can_be_due m unit delay
is_there m (Due unit delay) = can_be_due m unit delay
is_there m (HasBegun unit op) = is_load_at m unit op
is_there m (Raw unit op) = is_load_at m unit op
is_there m (IsInside unit op) = is_load_at m unit op
is_there m (Port unit) = nat_lt unit (length m.units)
is_there m (Fetched f) = has_field m f
is_there m (Word bus) = nat_lt bus (length m.buses)
is_there m (Acts bus) = nat_lt bus (length m.buses)
is_there m (Starts unit op) = is_some (op_at m unit op)
is_there m (Trigger unit) = nat_lt unit (length m.units)
is_there m (Operand unit) = nat_lt unit (length m.units)
is_there m (Watches w) = false
is_there m (Boxes b) = false
is_there m n = true

-- ---- the circuit has it

module _ (m : Machine) (code : Program) (memory : List ℕ) where
  turned : (n k : Named) → same_signal n k ≡ true → same_signal k n ≡ true
  turned n k is = ap (λ (x : Named). same_signal x n) (sym (signal_is n k is)) ∙ signal_itself n

  as_wire : (n : Named) → list_any (same_signal n) (wire_names m) ≡ true → has_signal same_signal (circuit_of m code memory) n ≡ true
  as_wire n any =
      or_right _ _
      (or_left (list_any (λ w. same_signal w.name n) (map (wire m) (wire_names m))) _
      (any_made (λ w. same_signal w.name n) (same_signal n) (wire m) (wire_names m) (turned n) any))

  as_register : (n : Named) → list_any (same_signal n) (register_names m) ≡ true → has_signal same_signal (circuit_of m code memory) n
      ≡ true
  as_register n any =
      or_right _ _
      (or_right _ (list_any (λ r. same_signal r.name n) (map (register m) (register_names m)))
      (any_made (λ r. same_signal r.name n) (same_signal n) (register m) (register_names m) (turned n) any))

  load_has : (unit op : ℕ) → is_load_at m unit op ≡ true → (n : Named)
      → list_any (same_signal n) (HasBegun unit op ∷ Raw unit op ∷ IsInside unit op ∷ []) ≡ true
      → has_signal same_signal (circuit_of m code memory) n ≡ true
  load_has unit op is n any = by (op_at m unit op) refl is where
    by : (o : Option UnitOp) → op_at m unit op ≡ o → option_map_or (λ o. is_load o.op) o false ≡ true
        → has_signal same_signal (circuit_of m code memory) n ≡ true
    by None at is = absurd (false≢true is)
    by (Some o) at is = as_register n (load_there m unit op o at is n any)

  due_parts : (unit delay : ℕ) → can_be_due m unit delay ≡ true → (unit < length m.units) × ((0 < delay) × (delay < longest m unit))
  due_parts unit delay is =
      let p = and_parts (nat_lt unit (length m.units)) (nat_lt 0 delay && nat_lt delay (longest m unit)) is in
      let q = and_parts (nat_lt 0 delay) (nat_lt delay (longest m unit)) p.1 in
      (ltb-true unit (length m.units) p.0, (ltb-true 0 delay q.0, ltb-true delay (longest m unit) q.1))

  pub has_it : (n : Named) → is_there m n ≡ true → has_signal same_signal (circuit_of m code memory) n ≡ true
  has_it Pc is = as_register Pc (alone_there m Pc refl)
  has_it Whole is = as_register Whole (alone_there m Whole refl)
  has_it HasHalted is = as_register HasHalted (alone_there m HasHalted refl)
  has_it (Underway delay) is =
      let p = and_parts (nat_lt 0 delay) (nat_le delay m.control.delay) is in
      as_register (Underway delay) (underway_there m delay (ltb-true 0 delay p.0) (leb-true delay m.control.delay p.1))
  has_it Goal is = as_register Goal (alone_there m Goal refl)
  has_it Ends is = as_register Ends (alone_there m Ends refl)
  has_it (Keeps p) is = as_register (Keeps p) (place_there m p is)
  has_it (IsDue unit delay) is =
      let p = due_parts unit delay is in as_register (IsDue unit delay) (is_due_there m unit delay p.0 p.1.0 p.1.1)
  has_it (Due unit delay) is =
      let p = due_parts unit delay is in as_register (Due unit delay) (due_there m unit delay p.0 p.1.0 p.1.1)
  has_it (HasBegun unit op) is =
      load_has unit op is (HasBegun unit op)
      (or_left (same_signal (HasBegun unit op) (HasBegun unit op)) false (signal_itself (HasBegun unit op)))
  has_it (Raw unit op) is =
      load_has unit op is (Raw unit op) (or_left (same_signal (Raw unit op) (Raw unit op)) false (signal_itself (Raw unit op)))
  has_it (IsInside unit op) is =
      load_has unit op is (IsInside unit op)
      (or_left (same_signal (IsInside unit op) (IsInside unit op)) false (signal_itself (IsInside unit op)))
  has_it IsOffered is = refl
  has_it Offer is = refl
  has_it IsReady is = refl
  has_it IsReset is = refl
  has_it (Port unit) is = as_wire (Port unit) (port_there m unit (ltb-true unit (length m.units) is))
  has_it (Fetched f) is = as_wire (Fetched f) (fetched_there m f is)
  has_it (Word bus) is =
      as_wire (Word bus) (bus_there m bus (ltb-true bus (length m.buses) is) (Word bus) (ap (λ b. b || false) (signal_itself (Word bus))))
  has_it (Acts bus) is =
      as_wire (Acts bus) (bus_there m bus (ltb-true bus (length m.buses) is) (Acts bus)
      (ap (λ b. b || list_any (same_signal (Acts bus)) (Word bus ∷ [])) (signal_itself (Acts bus))))
  has_it (Starts unit op) is = as_wire (Starts unit op) (starts_there m unit op is)
  has_it (Trigger unit) is = as_wire (Trigger unit) (trigger_there m unit (ltb-true unit (length m.units) is))
  has_it (Operand unit) is = as_wire (Operand unit) (operand_there m unit (ltb-true unit (length m.units) is))
  has_it Controls is = as_wire Controls (last_there m Controls refl)
  has_it GoalNow is = as_wire GoalNow (last_there m GoalNow refl)
  has_it EndsNow is = as_wire EndsNow (last_there m EndsNow refl)
  has_it Lands is = as_wire Lands (last_there m Lands refl)
  has_it Asks is = as_wire Asks (last_there m Asks refl)
  has_it Gives is = as_wire Gives (last_there m Gives refl)
  has_it Goes is = as_wire Goes (last_there m Goes refl)
  has_it NextPc is = as_wire NextPc (last_there m NextPc refl)
  has_it Puts is = as_wire Puts (last_there m Puts refl)
  has_it PutWord is = as_wire PutWord (last_there m PutWord refl)
  has_it (Watches w) is = absurd (false≢true is)
  has_it (Boxes b) is = absurd (false≢true is)

-- ---- and what it has is there

-- numbered elements stand at their numbers
pub enumerated_at : {A : Type 0} (at : ℕ → Option A) (j : ℕ) (xs : List A) → ((k : ℕ) → at (j + k) ≡ slice_get xs k)
    → AllByRecursion (λ (t : ℕ × A). at t.0 ≡ Some t.1) (enumerate_from j xs)
enumerated_at at j [] same = tt
enumerated_at at j (x ∷ xs) same =
    let e : j ≡ j + 0 = omega arith in
    (ap at e ∙ same 0, enumerated_at at (j + 1) xs (λ k. let s : j + 1 + k ≡ j + suc k = omega arith in ap at s ∙ same (suc k)))

module _ (m : Machine) (rules : IsMachine m) where
  abbrev There : Named → Type 0
  There n = is_there m n ≡ true

  pub units_at : AllByRecursion (λ (x : ℕ × OpUnit). slice_get m.units x.0 ≡ Some x.1) (enumerate_from 0 m.units)
  units_at = enumerated_at (slice_get m.units) 0 m.units (λ k. let e : 0 + k ≡ k = omega arith in ap (slice_get m.units) e)

  pub unit_less : (unit : ℕ) (x : OpUnit) → slice_get m.units unit ≡ Some x → nat_lt unit (length m.units) ≡ true
  unit_less unit x at = lt-ltb unit (length m.units) (within_list m.units unit (ap is_some at))

  pub op_is : (unit op : ℕ) (x : OpUnit) → slice_get m.units unit ≡ Some x → op_at m unit op ≡ slice_get x.ops op
  op_is unit op x at = ap (λ o. option_and_then (λ x. slice_get x.ops op) o) at

  pub some_at : {A : Type 0} (xs : List A) (k : ℕ) → k < length xs → is_some (slice_get xs k) ≡ true
  some_at [] k less = absurd (omega (arith, less))
  some_at (x ∷ xs) zero less = refl
  some_at (x ∷ xs) (suc k) less = some_at xs k (omega (arith, less))

  unit_names : (x : ℕ × OpUnit) → slice_get m.units x.0 ≡ Some x.1 → AllByRecursion There (unit_wires x)
  unit_names x at =
      both_lists There (map (Starts x.0) (numbers (length x.1.ops))) (Trigger x.0 ∷ Operand x.0 ∷ [])
      (all_map There (Starts x.0) (numbers (length x.1.ops))
      (weaker (λ op. op < length x.1.ops) (λ op. There (Starts x.0 op)) (numbers (length x.1.ops))
      (λ op less. ap is_some (op_is x.0 op x.1 at) ∙ some_at x.1.ops op less)
      (below_all (length x.1.ops) 0 (length x.1.ops) (omega arith))))
      (unit_less x.0 x.1 at, (unit_less x.0 x.1 at, tt))

  pub wires_there : AllByRecursion There (wire_names m)
  wires_there =
      both_lists There (first_wires m ++ flat_map bus_wires (numbers (length m.buses)) ++ flat_map unit_wires (enumerate_from 0 m.units)) _
      (both_lists There (first_wires m ++ flat_map bus_wires (numbers (length m.buses))) (flat_map unit_wires (enumerate_from 0 m.units))
      (both_lists There (first_wires m) (flat_map bus_wires (numbers (length m.buses)))
      (both_lists There (map Fetched (all_fields m)) (map Port (numbers (length m.units)))
      (all_map There Fetched (all_fields m) (fields_have m rules))
      (all_map There Port (numbers (length m.units))
      (weaker (λ unit. unit < length m.units) (λ unit. There (Port unit)) (numbers (length m.units))
      (λ unit less. lt-ltb unit (length m.units) less)
      (below_all (length m.units) 0 (length m.units) (omega arith)))))
      (all_pieces (λ bus. bus < length m.buses) There bus_wires (numbers (length m.buses))
      (below_all (length m.buses) 0 (length m.buses) (omega arith))
      (λ bus less. (lt-ltb bus (length m.buses) less, (lt-ltb bus (length m.buses) less, tt)))))
      (all_pieces (λ x. slice_get m.units x.0 ≡ Some x.1) There unit_wires (enumerate_from 0 m.units) units_at unit_names))
      (refl, (refl, (refl, (refl, (refl, (refl, (refl, (refl, (refl, (refl, tt))))))))))

  -- ---- registers

  load_names : (unit : ℕ) (x : ℕ × UnitOp) → op_at m unit x.0 ≡ Some x.1 → AllByRecursion There (load_registers unit x)
  load_names unit x at = by (is_load x.1.op) refl where
    by : (b : Bool) → is_load x.1.op ≡ b
        → AllByRecursion There (if b then HasBegun unit x.0 ∷ Raw unit x.0 ∷ IsInside unit x.0 ∷ [] else [])
    by true is = (it, (it, (it, tt))) where
      it : is_load_at m unit x.0 ≡ true
      it = ap (λ o. option_map_or (λ o. is_load o.op) o false) at ∙ is
    by false is = tt

  delays : (unit : ℕ) → AllByRecursion (λ d. (0 < d) × (d < longest m unit)) (range_with_len 1 (longest m unit - 1))
  delays unit = from 1 (longest m unit - 1) (omega arith) (λ d low high. (low, omega (arith, high))) where
    from : (a k : ℕ) → 1 ≤ a → ((d : ℕ) → 0 < d → d < a + k → (0 < d) × (d < longest m unit))
        → AllByRecursion (λ d. (0 < d) × (d < longest m unit)) (range_with_len a k)
    from a zero low each = tt
    from a (suc k) low each =
        (each a (omega (arith, low)) (omega arith), from (a + 1) k (omega (arith, low)) (λ d some less. each d some (omega (arith, less))))

  unit_registered : (x : ℕ × OpUnit) → slice_get m.units x.0 ≡ Some x.1 → AllByRecursion There (unit_registers m x)
  unit_registered x at =
      both_lists There (result_registers m x.0) (flat_map (load_registers x.0) (enumerate_from 0 x.1.ops))
      (both_lists There (Keeps (KeptOperand x.0) ∷ Keeps (KeptPort x.0) ∷ map (IsDue x.0) (range_with_len 1 (longest m x.0 - 1)))
      (map (Due x.0) (range_with_len 1 (longest m x.0 - 1)))
      (ap is_some at, (ap is_some at, all_map There (IsDue x.0) (range_with_len 1 (longest m x.0 - 1)) due))
      (all_map There (Due x.0) (range_with_len 1 (longest m x.0 - 1)) due))
      (all_pieces (λ o. op_at m x.0 o.0 ≡ Some o.1) There (load_registers x.0) (enumerate_from 0 x.1.ops)
      (enumerated_at (op_at m x.0) 0 x.1.ops (λ k. let e : 0 + k ≡ k = omega arith in ap (op_at m x.0) e ∙ op_is x.0 k x.1 at))
      (load_names x.0))
    where
      due : AllByRecursion (λ d. can_be_due m x.0 d ≡ true) (range_with_len 1 (longest m x.0 - 1))
      due =
          weaker (λ d. (0 < d) × (d < longest m x.0)) (λ d. can_be_due m x.0 d ≡ true) (range_with_len 1 (longest m x.0 - 1))
          (λ d p. and_from (nat_lt x.0 (length m.units)) (nat_lt 0 d && nat_lt d (longest m x.0)) (unit_less x.0 x.1 at)
          (and_from (nat_lt 0 d) (nat_lt d (longest m x.0)) (lt-ltb 0 d p.0) (lt-ltb d (longest m x.0) p.1))) (delays x.0)

  steps_there : (a k : ℕ) → 1 ≤ a → a + k ≤ m.control.delay + 1 → AllByRecursion There (map Underway (range_with_len a k))
  steps_there a zero low high = tt
  steps_there a (suc k) low high = (
    and_from (nat_lt 0 a) (nat_le a m.control.delay) (lt-ltb 0 a (omega (arith, low))) (le-leb a m.control.delay (omega (arith, high))),
    steps_there (a + 1) k (omega (arith, low)) (omega (arith, high)),
  )

  pub registers_there : AllByRecursion There (register_names m)
  registers_there =
      both_lists There _ (Keeps KeptRa ∷ Pc ∷ Whole ∷ HasHalted ∷ Goal ∷ Ends ∷ [])
      (both_lists There _ (map Underway (range_with_len 1 m.control.delay))
      (both_lists There _ (flat_map (unit_registers m) (enumerate_from 0 m.units))
      (both_lists There _ (flat_map (λ i. map (λ index. Keeps (KeptImm i.0 index)) (numbers i.1.size)) (enumerate_from 0 m.imms))
      (all_pieces (λ f. slice_get m.files f.0 ≡ Some f.1) There (λ f. map (λ index. Keeps (KeptReg f.0 index)) (numbers f.1.size))
      (enumerate_from 0 m.files)
      (enumerated_at (slice_get m.files) 0 m.files (λ k. let e : 0 + k ≡ k = omega arith in ap (slice_get m.files) e)) of_file)
      (all_pieces (λ i. slice_get m.imms i.0 ≡ Some i.1) There (λ i. map (λ index. Keeps (KeptImm i.0 index)) (numbers i.1.size))
      (enumerate_from 0 m.imms)
      (enumerated_at (slice_get m.imms) 0 m.imms (λ k. let e : 0 + k ≡ k = omega arith in ap (slice_get m.imms) e)) of_imm))
      (all_pieces (λ x. slice_get m.units x.0 ≡ Some x.1) There (unit_registers m) (enumerate_from 0 m.units) units_at unit_registered))
      (steps_there 1 m.control.delay (omega arith) (omega arith)))
      (refl, (refl, (refl, (refl, (refl, (refl, tt))))))
    where
      of_file : (f : ℕ × File) → slice_get m.files f.0 ≡ Some f.1
          → AllByRecursion There (map (λ index. Keeps (KeptReg f.0 index)) (numbers f.1.size))
      of_file f at =
          all_map There (λ index. Keeps (KeptReg f.0 index)) (numbers f.1.size)
          (weaker (λ index. index < f.1.size) (λ index. There (Keeps (KeptReg f.0 index))) (numbers f.1.size)
          (λ index less. ap (λ o. option_map_or (λ f. nat_lt index f.size) o false) at ∙ lt-ltb index f.1.size less)
          (below_all f.1.size 0 f.1.size (omega arith)))

      of_imm : (i : ℕ × ImmUnit) → slice_get m.imms i.0 ≡ Some i.1
          → AllByRecursion There (map (λ index. Keeps (KeptImm i.0 index)) (numbers i.1.size))
      of_imm i at =
          all_map There (λ index. Keeps (KeptImm i.0 index)) (numbers i.1.size)
          (weaker (λ index. index < i.1.size) (λ index. There (Keeps (KeptImm i.0 index))) (numbers i.1.size)
          (λ index less. ap (λ o. option_map_or (λ i. nat_lt index i.size) o false) at ∙ lt-ltb index i.1.size less)
          (below_all i.1.size 0 i.1.size (omega arith)))
