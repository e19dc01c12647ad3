-- The wires and registers that a machine's circuit has.
use Rattle.std.proofs.Common.{◌≡◌, ℕ, zero, suc, ◌+◌, ◌-◌, ◌<◌, ◌≤◌, Bool, true, false, ◌||◌, List, [], ◌∷◌, ◌++◌, length, map, slice_get, Option, Some, None, refl, ap, ◌∙◌, arith}
use Rattle.std.specs.Prelude.{is_some, if◌then◌else◌, nat_lt, option_and_then}
use Rattle.std.specs.Option.{option_map_or}
use Rattle.std.specs.List.{list_any, flat_map, enumerate_from, range_with_len}
use Rattle.std.proofs.lemmas.Option.{none-some}
use Rattle.tta_hardware.specs.Cited.{UnitOp, File, ImmUnit, Machine, numbers, guard_width, dest_width, template_width, Place, KeptReg, KeptImm, KeptOperand, KeptRa, KeptPort, op_at}
use Rattle.std.proofs.lemmas.Bool.{and_parts, or_left, or_right, false≢true, ltb-true}
use Rattle.tta_arch.specs.declared.parts.Unit.{Unit as OpUnit}
use Rattle.tta_image.proofs.Places.{any_left, any_right, any_pieces, any_numbered}
use Rattle.tta_hardware.specs.Signals.{Field, GuardOf, IsShort, SourceOf, ShortOf, DestOf, TemplateOf, LongOf, Signal as Named, Pc, HasHalted, Underway, Goal, Ends, Keeps, IsDue, Due, HasBegun, Raw, IsInside, Port, Whole, Fetched, Starts, Trigger, Operand, Controls, GoalNow, EndsNow, Lands, Asks, Gives, Goes, NextPc, Puts, PutWord, same_signal, same_field}
use Rattle.tta_hardware.specs.Wires.{longest, is_load}
use Rattle.tta_hardware.specs.Hardware.{with_bits, bus_fields, all_fields, bus_wires, unit_wires, wire_names, first_wires, result_registers, load_registers, unit_registers, register_names}
use Rattle.tta_hardware.specs.Stands.{has_place, has_field}
use Rattle.tta_hardware.proofs.Bringing.{within_list}
use Rattle.tta_hardware.proofs.Named.{signal_itself, field_itself}

-- an element that is there
some_of : {A : Type 0} (o : Option A) → is_some o ≡ true → (x : A) × (o ≡ Some x)
some_of None is = absurd (false≢true is)
some_of (Some x) is = (x, refl)

pub at_some : {A : Type 0} (xs : List A) (k : ℕ) → k < length xs → (x : A) × (slice_get xs k ≡ Some x)
at_some [] k less = absurd (omega (arith, less))
at_some (x ∷ xs) zero less = (x, refl)
at_some (x ∷ xs) (suc k) less = at_some xs k (omega (arith, less))

-- what each number below n gives
any_of_numbers : {A : Type 0} (q : A → Bool) (f : ℕ → List A) (a n k j : ℕ) → a + k ≡ j → k < n → list_any q (f j) ≡ true
    → list_any q (flat_map f (range_with_len a n)) ≡ true
any_of_numbers q f a zero k j e less any = absurd (omega (arith, less))
any_of_numbers q f a (suc n) zero j e less any =
    let same : a ≡ j = omega (arith, e) in any_left q (f a) (flat_map f (range_with_len (a + 1) n)) (ap (λ i. list_any q (f i)) same ∙ any)
any_of_numbers q f a (suc n) (suc k) j e less any =
    any_right q (f a) (flat_map f (range_with_len (a + 1) n))
    (any_of_numbers q f (a + 1) n k j (omega (arith, e)) (omega (arith, less)) any)

-- an element of a list that is made of another
pub any_made : {A B : Type 0} (q : B → Bool) (p : A → Bool) (f : A → B) (xs : List A) → ((x : A) → p x ≡ true → q (f x) ≡ true)
    → list_any p xs ≡ true → list_any q (map f xs) ≡ true
any_made q p f [] more any = any
any_made q p f (x ∷ xs) more any = by (p x) refl any (any_made q p f xs more) where
  by : (b : Bool) → p x ≡ b → (b || list_any p xs) ≡ true → (list_any p xs ≡ true → list_any q (map f xs) ≡ true)
      → (q (f x) || list_any q (map f xs)) ≡ true
  by true is any rest = or_left (q (f x)) (list_any q (map f xs)) (more x is)
  by false is any rest = or_right (q (f x)) (list_any q (map f xs)) (rest any)

module _ (m : Machine) where
  -- ---- registers

  abbrev files : List Named
  files = flat_map (λ f. map (λ index. Keeps (KeptReg f.0 index)) (numbers f.1.size)) (enumerate_from 0 m.files)

  abbrev imms : List Named
  imms = flat_map (λ i. map (λ index. Keeps (KeptImm i.0 index)) (numbers i.1.size)) (enumerate_from 0 m.imms)

  abbrev units : List Named
  units = flat_map (unit_registers m) (enumerate_from 0 m.units)

  abbrev steps : List Named
  steps = map Underway (range_with_len 1 m.control.delay)

  abbrev alone : List Named
  alone = Keeps KeptRa ∷ Pc ∷ Whole ∷ HasHalted ∷ Goal ∷ Ends ∷ []

  in_units : (n : Named) → list_any (same_signal n) units ≡ true → list_any (same_signal n) (register_names m) ≡ true
  in_units n any =
      any_left (same_signal n) (files ++ imms ++ units ++ steps) alone
      (any_left (same_signal n) (files ++ imms ++ units) steps (any_right (same_signal n) (files ++ imms) units any))

  -- those that stand alone
  pub alone_there : (n : Named) → list_any (same_signal n) alone ≡ true → list_any (same_signal n) (register_names m) ≡ true
  alone_there n any = any_right (same_signal n) (files ++ imms ++ units ++ steps) alone any

  pub underway_there : (delay : ℕ) → 0 < delay → delay ≤ m.control.delay → list_any (same_signal (Underway delay)) (register_names m) ≡ true
  underway_there delay some most =
      any_left (same_signal (Underway delay)) (files ++ imms ++ units ++ steps) alone
      (any_right (same_signal (Underway delay)) (files ++ imms ++ units) steps
      (any_numbered (same_signal (Underway delay)) Underway 1 m.control.delay (delay - 1) delay (omega (arith, some))
      (omega (arith, some, most)) (signal_itself (Underway delay))))

  of_unit : (unit : ℕ) → unit < length m.units → (n : Named)
      → list_any (same_signal n)
      (Keeps (KeptOperand unit) ∷ Keeps (KeptPort unit) ∷ map (IsDue unit) (range_with_len 1 (longest m unit - 1))
      ++ map (Due unit) (range_with_len 1 (longest m unit - 1))) ≡ true → list_any (same_signal n) (register_names m) ≡ true
  of_unit unit less n any =
      let x = at_some m.units unit less in
      in_units n (any_pieces (same_signal n) (unit_registers m) m.units 0 unit unit x.0 (omega arith) x.1
      (any_left (same_signal n) (result_registers m unit) (flat_map (load_registers unit) (enumerate_from 0 x.0.ops)) any))

  pub load_there : (unit op : ℕ) (o : UnitOp) → op_at m unit op ≡ Some o → is_load o.op ≡ true → (n : Named)
      → list_any (same_signal n) (HasBegun unit op ∷ Raw unit op ∷ IsInside unit op ∷ []) ≡ true
      → list_any (same_signal n) (register_names m) ≡ true
  load_there unit op o here load n any = by (slice_get m.units unit) refl here where
    by : (q : Option OpUnit) → slice_get m.units unit ≡ q → option_and_then (λ x. slice_get x.ops op) q ≡ Some o
        → list_any (same_signal n) (register_names m) ≡ true
    by None at here = absurd (none-some o here)
    by (Some x) at here =
        in_units n (any_pieces (same_signal n) (unit_registers m) m.units 0 unit unit x (omega arith) at
        (any_right (same_signal n) (result_registers m unit) (flat_map (load_registers unit) (enumerate_from 0 x.ops))
        (any_pieces (same_signal n) (load_registers unit) x.ops 0 op op o (omega arith) here
        (ap (λ b. list_any (same_signal n) (if b then HasBegun unit op ∷ Raw unit op ∷ IsInside unit op ∷ [] else [])) load ∙ any))))

  pub is_due_there : (unit delay : ℕ) → unit < length m.units → 0 < delay → delay < longest m unit
      → list_any (same_signal (IsDue unit delay)) (register_names m) ≡ true
  is_due_there unit delay less some soon =
      of_unit unit less (IsDue unit delay)
      (any_left (same_signal (IsDue unit delay)) (map (IsDue unit) (range_with_len 1 (longest m unit - 1)))
      (map (Due unit) (range_with_len 1 (longest m unit - 1)))
      (any_numbered (same_signal (IsDue unit delay)) (IsDue unit) 1 (longest m unit - 1) (delay - 1) delay (omega (arith, some))
      (omega (arith, some, soon)) (signal_itself (IsDue unit delay))))

  pub due_there : (unit delay : ℕ) → unit < length m.units → 0 < delay → delay < longest m unit
      → list_any (same_signal (Due unit delay)) (register_names m) ≡ true
  due_there unit delay less some soon =
      of_unit unit less (Due unit delay)
      (any_right (same_signal (Due unit delay)) (map (IsDue unit) (range_with_len 1 (longest m unit - 1)))
      (map (Due unit) (range_with_len 1 (longest m unit - 1)))
      (any_numbered (same_signal (Due unit delay)) (Due unit) 1 (longest m unit - 1) (delay - 1) delay (omega (arith, some))
      (omega (arith, some, soon)) (signal_itself (Due unit delay))))

  pub place_there : (p : Place) → has_place m p ≡ true → list_any (same_signal (Keeps p)) (register_names m) ≡ true
  place_there (KeptReg file index) has = by (slice_get m.files file) refl has where
    by : (o : Option File) → slice_get m.files file ≡ o → option_map_or (λ f. nat_lt index f.size) o false ≡ true
        → list_any (same_signal (Keeps (KeptReg file index))) (register_names m) ≡ true
    by None at has = absurd (false≢true has)
    by (Some f) at has =
        any_left (same_signal (Keeps (KeptReg file index))) (files ++ imms ++ units ++ steps) alone
        (any_left (same_signal (Keeps (KeptReg file index))) (files ++ imms ++ units) steps
        (any_left (same_signal (Keeps (KeptReg file index))) (files ++ imms) units
        (any_left (same_signal (Keeps (KeptReg file index))) files imms
        (any_pieces (same_signal (Keeps (KeptReg file index))) (λ f. map (λ index. Keeps (KeptReg f.0 index)) (numbers f.1.size)) m.files 0
        file file f (omega arith) at
        (any_numbered (same_signal (Keeps (KeptReg file index))) (λ index. Keeps (KeptReg file index)) 0 f.size index index (omega arith)
        (ltb-true index f.size has)
        (signal_itself (Keeps (KeptReg file index))))))))
  place_there (KeptImm unit index) has = by (slice_get m.imms unit) refl has where
    by : (o : Option ImmUnit) → slice_get m.imms unit ≡ o → option_map_or (λ f. nat_lt index f.size) o false ≡ true
        → list_any (same_signal (Keeps (KeptImm unit index))) (register_names m) ≡ true
    by None at has = absurd (false≢true has)
    by (Some f) at has =
        any_left (same_signal (Keeps (KeptImm unit index))) (files ++ imms ++ units ++ steps) alone
        (any_left (same_signal (Keeps (KeptImm unit index))) (files ++ imms ++ units) steps
        (any_left (same_signal (Keeps (KeptImm unit index))) (files ++ imms) units
        (any_right (same_signal (Keeps (KeptImm unit index))) files imms
        (any_pieces (same_signal (Keeps (KeptImm unit index))) (λ i. map (λ index. Keeps (KeptImm i.0 index)) (numbers i.1.size)) m.imms 0
        unit unit f (omega arith) at
        (any_numbered (same_signal (Keeps (KeptImm unit index))) (λ index. Keeps (KeptImm unit index)) 0 f.size index index (omega arith)
        (ltb-true index f.size has)
        (signal_itself (Keeps (KeptImm unit index))))))))
  place_there (KeptOperand unit) has =
      of_unit unit (within_list m.units unit has) (Keeps (KeptOperand unit))
      (or_left (same_signal (Keeps (KeptOperand unit)) (Keeps (KeptOperand unit)))
      (list_any (same_signal (Keeps (KeptOperand unit))) (Keeps (KeptPort unit)
      ∷ map (IsDue unit) (range_with_len 1 (longest m unit - 1)) ++ map (Due unit) (range_with_len 1 (longest m unit - 1))))
      (signal_itself (Keeps (KeptOperand unit))))
  place_there KeptRa has = alone_there (Keeps KeptRa) refl
  place_there (KeptPort unit) has =
      of_unit unit (within_list m.units unit has) (Keeps (KeptPort unit))
      (or_left (same_signal (Keeps (KeptPort unit)) (Keeps (KeptPort unit))) (list_any (same_signal (Keeps (KeptPort unit)))
      (map (IsDue unit) (range_with_len 1 (longest m unit - 1)) ++ map (Due unit) (range_with_len 1 (longest m unit - 1))))
      (signal_itself (Keeps (KeptPort unit))))

  -- ---- wires

  abbrev fields : List Named
  fields = first_wires m

  abbrev buses : List Named
  buses = flat_map bus_wires (numbers (length m.buses))

  abbrev unit_all : List Named
  unit_all = flat_map unit_wires (enumerate_from 0 m.units)

  abbrev last : List Named
  last = Controls ∷ GoalNow ∷ EndsNow ∷ Lands ∷ Asks ∷ Gives ∷ Goes ∷ NextPc ∷ Puts ∷ PutWord ∷ []

  pub last_there : (n : Named) → list_any (same_signal n) last ≡ true → list_any (same_signal n) (wire_names m) ≡ true
  last_there n any = (any_right (same_signal n) (fields ++ buses ++ unit_all) last any)

  pub bus_there : (bus : ℕ) → bus < length m.buses → (n : Named) → list_any (same_signal n) (bus_wires bus) ≡ true
      → list_any (same_signal n) (wire_names m) ≡ true
  bus_there bus less n any =
      (any_left (same_signal n) (fields ++ buses ++ unit_all) last
      (any_left (same_signal n) (fields ++ buses) unit_all (any_right (same_signal n) fields buses
      (any_of_numbers (same_signal n) bus_wires 0 (length m.buses) bus bus (omega arith) less any))))

  pub unit_there : (unit : ℕ) (x : OpUnit) → slice_get m.units unit ≡ Some x → (n : Named)
      → list_any (same_signal n) (unit_wires (unit, x)) ≡ true → list_any (same_signal n) (wire_names m) ≡ true
  unit_there unit x at n any =
      (any_left (same_signal n) (fields ++ buses ++ unit_all) last (any_right (same_signal n) (fields ++ buses) unit_all
      (any_pieces (same_signal n) unit_wires m.units 0 unit unit x (omega arith) at any)))

  pub port_there : (unit : ℕ) → unit < length m.units → list_any (same_signal (Port unit)) (wire_names m) ≡ true
  port_there unit less =
      any_left (same_signal (Port unit)) (fields ++ buses ++ unit_all) last
      (any_left (same_signal (Port unit)) (fields ++ buses) unit_all (any_left (same_signal (Port unit)) fields buses
      (any_right (same_signal (Port unit)) (map Fetched (all_fields m)) (map Port (numbers (length m.units)))
      (any_numbered (same_signal (Port unit)) Port 0 (length m.units) unit unit (omega arith) less (signal_itself (Port unit))))))

  pub starts_there : (unit op : ℕ) → is_some (op_at m unit op) ≡ true → list_any (same_signal (Starts unit op)) (wire_names m) ≡ true
  starts_there unit op some = by (slice_get m.units unit) refl some where
    by : (o : Option OpUnit) → slice_get m.units unit ≡ o → is_some (option_and_then (λ x. slice_get x.ops op) o) ≡ true
        → list_any (same_signal (Starts unit op)) (wire_names m) ≡ true
    by None at some = absurd (false≢true some)
    by (Some x) at some =
        unit_there unit x at (Starts unit op)
        (any_left (same_signal (Starts unit op)) (map (Starts unit) (numbers (length x.ops))) (Trigger unit ∷ Operand unit ∷ [])
        (any_numbered (same_signal (Starts unit op)) (Starts unit) 0 (length x.ops) op op (omega arith) (within_list x.ops op some)
        (signal_itself (Starts unit op))))

  pub trigger_there : (unit : ℕ) → unit < length m.units → list_any (same_signal (Trigger unit)) (wire_names m) ≡ true
  trigger_there unit less =
      let x = at_some m.units unit less in
      unit_there unit x.0 x.1 (Trigger unit)
      (any_right (same_signal (Trigger unit)) (map (Starts unit) (numbers (length x.0.ops))) (Trigger unit ∷ Operand unit ∷ [])
      (or_left (same_signal (Trigger unit) (Trigger unit)) (list_any (same_signal (Trigger unit)) (Operand unit ∷ []))
      (signal_itself (Trigger unit))))

  pub operand_there : (unit : ℕ) → unit < length m.units → list_any (same_signal (Operand unit)) (wire_names m) ≡ true
  operand_there unit less =
      let x = at_some m.units unit less in
      unit_there unit x.0 x.1 (Operand unit)
      (any_right (same_signal (Operand unit)) (map (Starts unit) (numbers (length x.0.ops))) (Trigger unit ∷ Operand unit ∷ [])
      (or_left (same_signal (Operand unit) (Operand unit)) false (signal_itself (Operand unit))))

  -- the fields of an instruction
  abbrev at_buses : List Field
  at_buses = flat_map (bus_fields m) (numbers (length m.buses))

  -- a field that has bits
  bits_there : (q : Field → Bool) (width : ℕ) (f : Field) → nat_lt 0 width ≡ true → q f ≡ true → list_any q (with_bits width f) ≡ true
  bits_there q width f some is = ap (λ b. list_any q (if b then f ∷ [] else [])) some ∙ or_left (q f) false is

  of_bus : (bus : ℕ) → nat_lt bus (length m.buses) ≡ true → (f : Field) → list_any (same_field f) (bus_fields m bus) ≡ true
      → list_any (same_field f) (all_fields m) ≡ true
  of_bus bus less f any =
      any_left (same_field f) (at_buses ++ with_bits (template_width m) TemplateOf) (LongOf ∷ [])
      (any_left (same_field f) at_buses (with_bits (template_width m) TemplateOf)
      (any_of_numbers (same_field f) (bus_fields m) 0 (length m.buses) bus bus (omega arith) (ltb-true bus (length m.buses) less) any))

  -- those that each bus has
  abbrev plain_fields : ℕ → List Field
  plain_fields bus = IsShort bus ∷ SourceOf bus ∷ ShortOf bus ∷ with_bits (dest_width m bus) (DestOf bus)

  of_plain : (bus : ℕ) → nat_lt bus (length m.buses) ≡ true → (f : Field) → list_any (same_field f) (plain_fields bus) ≡ true
      → list_any (same_field f) (all_fields m) ≡ true
  of_plain bus less f any =
      of_bus bus less f (any_right (same_field f) (with_bits (guard_width m bus) (GuardOf bus)) (plain_fields bus) any)

  pub field_there : (f : Field) → has_field m f ≡ true → list_any (same_field f) (all_fields m) ≡ true
  field_there (GuardOf bus) has =
      let p = and_parts (nat_lt bus (length m.buses)) (nat_lt 0 (guard_width m bus)) has in
      of_bus bus p.0 (GuardOf bus)
      (any_left (same_field (GuardOf bus)) (with_bits (guard_width m bus) (GuardOf bus)) (plain_fields bus)
      (bits_there (same_field (GuardOf bus)) (guard_width m bus) (GuardOf bus) p.1 (field_itself (GuardOf bus))))
  field_there (IsShort bus) has =
      of_plain bus has (IsShort bus)
      (or_left (same_field (IsShort bus) (IsShort bus)) (list_any (same_field (IsShort bus)) (with_bits (dest_width m bus) (DestOf bus)))
      (field_itself (IsShort bus)))
  field_there (SourceOf bus) has =
      of_plain bus has (SourceOf bus)
      (or_left (same_field (SourceOf bus) (SourceOf bus)) (list_any (same_field (SourceOf bus)) (with_bits (dest_width m bus) (DestOf bus)))
      (field_itself (SourceOf bus)))
  field_there (ShortOf bus) has =
      of_plain bus has (ShortOf bus)
      (or_left (same_field (ShortOf bus) (ShortOf bus)) (list_any (same_field (ShortOf bus)) (with_bits (dest_width m bus) (DestOf bus)))
      (field_itself (ShortOf bus)))
  field_there (DestOf bus) has =
      let p = and_parts (nat_lt bus (length m.buses)) (nat_lt 0 (dest_width m bus)) has in
      of_plain bus p.0 (DestOf bus) (bits_there (same_field (DestOf bus)) (dest_width m bus) (DestOf bus) p.1 (field_itself (DestOf bus)))
  field_there TemplateOf has =
      any_left (same_field TemplateOf) (at_buses ++ with_bits (template_width m) TemplateOf) (LongOf ∷ [])
      (any_right (same_field TemplateOf) at_buses (with_bits (template_width m) TemplateOf)
      (bits_there (same_field TemplateOf) (template_width m) TemplateOf has refl))
  field_there LongOf has = any_right (same_field LongOf) (at_buses ++ with_bits (template_width m) TemplateOf) (LongOf ∷ []) refl

  pub fetched_there : (f : Field) → has_field m f ≡ true → list_any (same_signal (Fetched f)) (wire_names m) ≡ true
  fetched_there f has =
      (any_left (same_signal (Fetched f)) (fields ++ buses ++ unit_all) last
      (any_left (same_signal (Fetched f)) (fields ++ buses) unit_all (any_left (same_signal (Fetched f)) fields buses
      (any_left (same_signal (Fetched f)) (map Fetched (all_fields m)) (map Port (numbers (length m.units)))
      (any_made (same_signal (Fetched f)) (same_field f) Fetched (all_fields m) (λ x is. is) (field_there f has))))))
