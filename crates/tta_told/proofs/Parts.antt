-- The signals of the circuits of a machine with its code have names, and their numbers are narrow.
use Rattle.std.proofs.Common.{◌≡◌, ℕ, ◌-◌, ◌<◌, ◌≤◌, ◌^◌, ◌==◌, Bool, true, false, nat_lt, List, length, map, Some, refl, ap, ◌∙◌, arith}
use Rattle.std.specs.List.{flat_map, enumerate_from, range_with_len, AllByRecursion}
use Rattle.std.proofs.lemmas.Bool.{and_parts, lt-ltb, ltb-true, eqb-true}
use Rattle.tta_ops.specs.Units.{Units}
use Rattle.tta_arch.specs.Machine.{Machine}
use Rattle.tta_arch.specs.Rules.{IsMachine}
use Rattle.tta_arch.specs.Effects.{width_of, KeptReg, KeptPort, op_at}
use Rattle.tta_arch.specs.Fields.{template_width, guard_width, payload_width, dest_width}
use Rattle.tta_arch.specs.declared.parts.UnitOp.{UnitOp}
use Rattle.tta_arch.proofs.Facts.{address_most}
use Rattle.tta_code.specs.declared.code.Code.{Code as Program}
use Rattle.tta_image.proofs.NarrowFields.{narrow as narrow_fields, narrow_template}
use Rattle.tta_circuit.specs.Circuit.{Register, Circuit}
use Rattle.tta_hardware.specs.Cited.{word_width}
use Rattle.tta_hardware.specs.Signals.{Field, GuardOf, IsShort, SourceOf, ShortOf, DestOf, TemplateOf, LongOf, Store, Signal as Named, Pc, Whole, IsOffered, Offer, IsReady, IsReset, Keeps, Due, Fetched, NextPc, FaultNow, Watches, Shows, IsFrom, Boxes}
use Rattle.tta_hardware.specs.Registers.{register_width, register}
use Rattle.tta_hardware.specs.Hardware.{wire, wire_width, wire_names, register_names, circuit_of}
use Rattle.tta_hardware.specs.Fields.{field_width}
use Rattle.tta_hardware.specs.Stands.{has_field}
use Rattle.tta_hardware.proofs.There.{is_there, wires_there, registers_there}
use Rattle.tta_hardware.proofs.WiresFit.{both_lists, all_map, wide_file}
use Rattle.tta_hardware.proofs.RegistersFit.{weaker}
use Rattle.tta_hardware.proofs.PlainWires.{all_pieces, every_piece}
use Rattle.tta_trap.specs.Memory.{watch_register, watch_registers}
use Rattle.tta_trap.specs.Trap.{trap_width, trap_wire, trap_wires, trap_circuit}
use Rattle.tta_trap.proofs.Present.{trap_there}
use Rattle.tta_trap.proofs.Listed.{trap_wires_there}
use Rattle.tta_trap.proofs.Closing.{watches_there}
use Rattle.tta_boxed.specs.Boxed.{is_left, left_ops, boxed_register, from_register, op_registers, box_registers, box_inputs, boxed}
use Rattle.tta_boxed.proofs.Registers.{left_there, same_name, same_enable}
use Rattle.tta_told.specs.Laws.{IsProgrammed}
use Rattle.tta_told.proofs.Narrow.{narrow, word_most}
use Rattle.tta_told.proofs.WireConstants.{wire_narrow}
use Rattle.tta_told.proofs.RegisterConstants.{enabled_narrow, register_narrow}
use Rattle.tta_told.proofs.WatchConstants.{trap_narrow, watch_narrow}
use Rattle.tta_told.proofs.BoxConstants.{from_narrow, boxed_narrow}
use Rattle.tta_told.proofs.HasName.{is_named}
use Rattle.tta_told.proofs.Ranges.{there_named, trap_named, shown_named, from_named}
use Rattle.tta_told.proofs.Here.{InputHere, WireHere, RegisterHere, AreHere}

-- whether a signal has a name that tells it among those of a machine
abbrev pub own : Machine → Named → Bool
own m n = is_named (length m.buses) (length m.files) (length m.imms) (length m.units) n

pub small : (n most : ℕ) → n ≤ most → most < 2 ^ 64 → nat_lt n (2 ^ 64) ≡ true
small n most p q = lt-ltb n (2 ^ 64) (omega (arith, p, q))

module _ (u : Units) (m : Machine) (code : Program) (memory : List ℕ) (p : IsProgrammed u m code memory) (has : Named → Bool)
    (wider : (n : Named) → own m n ≡ true → has n ≡ true) where
  abbrev rules : IsMachine m
  rules = p.rules

  abbrev c : Circuit Named Store
  c = circuit_of m code memory

  -- ---- widths

  pub word_short : nat_lt (word_width m) (2 ^ 64) ≡ true
  word_short = small (word_width m) 884 (word_most m rules) (omega arith)

  address_short : nat_lt m.control.address (2 ^ 64) ≡ true
  address_short = small m.control.address 16 (address_most m rules) (omega arith)

  field_short : (f : Field) → has_field m f ≡ true → nat_lt (field_width m f) (2 ^ 64) ≡ true
  field_short (GuardOf bus) is =
      small (guard_width m bus) 7 (narrow_fields m bus rules (ltb-true bus (length m.buses) (and_parts (nat_lt bus (length m.buses)) _ is).0)).guard
      (omega arith)
  field_short (SourceOf bus) is =
      small (payload_width m bus) 32 (narrow_fields m bus rules (ltb-true bus (length m.buses) is)).payload (omega arith)
  field_short (DestOf bus) is =
      small (dest_width m bus) 15 (narrow_fields m bus rules (ltb-true bus (length m.buses) (and_parts (nat_lt bus (length m.buses)) _ is).0)).dest
      (omega arith)
  field_short TemplateOf is = small (template_width m) 4 (narrow_template m rules) (omega arith)
  field_short (IsShort bus) is = refl
  field_short (ShortOf bus) is = refl
  field_short LongOf is = refl

  wire_short : (n : Named) → is_there m n ≡ true → nat_lt (wire_width m n) (2 ^ 64) ≡ true
  wire_short (Fetched f) is = field_short f is
  wire_short NextPc is = address_short
  wire_short n is = refl

  file_short : (file : ℕ) → nat_lt (width_of m file) (2 ^ 64) ≡ true
  file_short file = by (width_of m file == 1) refl where
    by : (b : Bool) → (width_of m file == 1) ≡ b → nat_lt (width_of m file) (2 ^ 64) ≡ true
    by true is = small (width_of m file) 1 (let e = eqb-true (width_of m file) 1 is in omega (arith, e)) (omega arith)
    by false is = small (width_of m file) 32 (let e = wide_file m rules file is in omega (arith, e)) (omega arith)

  register_short : (n : Named) → nat_lt (register_width m n) (2 ^ 64) ≡ true
  register_short Pc = address_short
  register_short Whole = word_short
  register_short (Keeps (KeptReg file index)) = file_short file
  register_short n = refl

  -- ---- a circuit that neither tells faults nor leaves operations

  given_here : AllByRecursion (InputHere m has) c.inputs
  given_here =
      ((wider IsOffered refl, refl), ((wider Offer refl, refl), ((wider IsReady refl, refl), ((wider IsReset refl, refl), tt))))

  registers_here : AllByRecursion (RegisterHere m has) c.registers
  registers_here =
      all_map (RegisterHere m has) (register m) (register_names m)
      (weaker (λ n. is_there m n ≡ true) (λ n. RegisterHere m has (register m n)) (register_names m)
      (λ n is. (
        wider n (there_named m rules n is),
        (register_short n, (enabled_narrow u m rules p.over n, register_narrow u m rules p.over n)),
      )) (registers_there m rules))

  pub plain_here : AreHere m has c
  plain_here = record {
    inputs = given_here;
    wires = all_map (WireHere m has) (wire m) (wire_names m)
        (weaker (λ n. is_there m n ≡ true) (λ n. WireHere m has (wire m n)) (wire_names m)
        (λ n is. (wider n (there_named m rules n is), (wire_short n is, wire_narrow u m rules p.over n is))) (wires_there m rules));
    registers = registers_here;
  }

  -- ---- one that tells the first fault

  trap_short : (n : Named) → trap_there m n ≡ true → nat_lt (trap_width m n) (2 ^ 64) ≡ true
  trap_short (Watches FaultNow) is = refl
  trap_short (Watches w) is = refl
  trap_short n is = wire_short n is

  pub trap_here : AreHere m has (trap_circuit m code memory)
  trap_here =
      let count = length code.words in record {
        inputs = given_here;
        wires = all_map (WireHere m has) (trap_wire m count) (trap_wires m)
            (weaker (λ n. trap_there m n ≡ true) (λ n. WireHere m has (trap_wire m count n)) (trap_wires m)
            (λ n is. (wider n (trap_named m rules n is), (trap_short n is, trap_narrow u m rules p.over count n is))) (trap_wires_there m rules));
        registers = both_lists (RegisterHere m has) (map (register m) (register_names m)) (map (watch_register m) (watch_registers m))
            registers_here
            (all_map (RegisterHere m has) (watch_register m) (watch_registers m)
            (weaker (λ w. trap_there m (Watches w) ≡ true) (λ w. RegisterHere m has (watch_register m w)) (watch_registers m)
            (λ w is. (wider (Watches w) (trap_named m rules (Watches w) is), (refl, (refl, watch_narrow u m rules p.over w))))
            (watches_there m rules)));
      }

  -- ---- one that leaves operations to modules

  module _ (leaves : ℕ → Bool) where
    abbrev IsLeft : ℕ → ℕ × UnitOp → Type 0
    IsLeft unit o = (op_at m unit o.0 ≡ Some o.1) × (is_left m leaves o.1 ≡ true)

    pub shown_here : AllByRecursion (InputHere m has) (box_inputs m leaves)
    shown_here =
        every_piece (InputHere m has) (λ u. map (λ o. (Boxes (Shows u.0 o.0), 32)) (left_ops m leaves u.0)) (enumerate_from 0 m.units)
        (λ x. all_map (InputHere m has) (λ (o : ℕ × UnitOp). (Boxes (Shows x.0 o.0), 32)) (left_ops m leaves x.0)
        (weaker (IsLeft x.0) (λ o. InputHere m has (Boxes (Shows x.0 o.0), 32)) (left_ops m leaves x.0)
        (λ o is. (wider (Boxes (Shows x.0 o.0)) (shown_named m rules x.0 o.0 o.1 is.0), refl)) (left_there m leaves x.0)))

    same_width : (r : Register Named Store) → (boxed_register m leaves r).width ≡ r.width
    same_width r = by r.name where
      by : (n : Named) → (boxed_register m leaves (record r { name = n })).width ≡ r.width
      by (Keeps (KeptPort unit)) = refl
      by (Due unit delay) = refl
      by n = refl

    changed_here : (r : Register Named Store) → RegisterHere m has r → RegisterHere m has (boxed_register m leaves r)
    changed_here r h = (
      ap has (same_name m leaves r) ∙ h.0,
      (
        ap (λ w. nat_lt w (2 ^ 64)) (same_width r) ∙ h.1.0,
        (ap (narrow m) (same_enable m leaves r) ∙ h.1.1.0, boxed_narrow u m rules p.over leaves r h.1.1.1),
      ),
    )

    of_op : (unit : ℕ) (o : ℕ × UnitOp) → IsLeft unit o → AllByRecursion (RegisterHere m has) (op_registers m leaves unit o)
    of_op unit o is =
        all_map (RegisterHere m has) (from_register m leaves unit o.0 o.1.latency) (range_with_len 1 (o.1.latency - 1))
        (weaker (λ d. own m (Boxes (IsFrom unit o.0 d)) ≡ true) (λ d. RegisterHere m has (from_register m leaves unit o.0 o.1.latency d))
        (range_with_len 1 (o.1.latency - 1))
        (λ d named. (wider (Boxes (IsFrom unit o.0 d)) named, (refl, (refl, from_narrow u m rules p.over leaves unit o.0 o.1.latency d))))
        (from_named m rules unit o.0 o.1 is.0))

    boxes_here : AllByRecursion (RegisterHere m has) (box_registers m leaves)
    boxes_here =
        every_piece (RegisterHere m has) (λ u. flat_map (op_registers m leaves u.0) (left_ops m leaves u.0)) (enumerate_from 0 m.units)
        (λ x. all_pieces (IsLeft x.0) (RegisterHere m has) (op_registers m leaves x.0) (left_ops m leaves x.0) (left_there m leaves x.0)
        (of_op x.0))

    pub boxed_here : (d : Circuit Named Store) → AreHere m has d → AreHere m has (boxed m leaves d)
    boxed_here d here = record {
      inputs = both_lists (InputHere m has) d.inputs (box_inputs m leaves) here.inputs shown_here;
      wires = here.wires;
      registers = both_lists (RegisterHere m has) (map (boxed_register m leaves) d.registers) (box_registers m leaves)
          (all_map (RegisterHere m has) (boxed_register m leaves) d.registers
          (weaker (RegisterHere m has) (λ r. RegisterHere m has (boxed_register m leaves r)) d.registers changed_here here.registers))
          boxes_here;
    }
