-- What is in the circuit of a machine has a name.
use Rattle.std.proofs.Common.{◌≡◌, ℕ, ◌-◌, ◌<◌, ◌≤◌, ◌^◌, Bool, true, false, ◌&&◌, nat_lt, nat_le, List, [], ◌∷◌, length, slice_get, Option, Some, None, refl, ap, arith}
use Rattle.std.specs.Prelude.{is_some, option_and_then}
use Rattle.std.specs.Option.{option_map_or}
use Rattle.std.specs.List.{list_all, range_with_len, AllByRecursion}
use Rattle.std.proofs.lemmas.Bool.{and_parts, and_from, lt-ltb, ltb-true, leb-true, false≢true}
use Rattle.tta_list.proofs.Lists.{list_all_one}
use Rattle.tta_arch.specs.Machine.{Machine}
use Rattle.tta_arch.specs.Rules.{IsMachine, is_file, is_imm, is_unit, is_unit_op, fits_kind}
use Rattle.tta_arch.specs.Effects.{KeptReg, KeptImm, KeptOperand, KeptPort, op_at}
use Rattle.tta_arch.specs.declared.parts.File.{File}
use Rattle.tta_arch.specs.declared.parts.ImmUnit.{ImmUnit}
use Rattle.tta_arch.specs.declared.parts.Unit.{Unit as OpUnit}
use Rattle.tta_arch.specs.declared.parts.UnitOp.{UnitOp}
use Rattle.tta_arch.specs.declared.parts.Op.{Op}
use Rattle.tta_arch.specs.declared.parts.Op.TheVariants.{Ldw, Stw, Ldf, Stf, Out, Take, Set}
use Rattle.tta_arch.proofs.Sizes.{small_file, small_imm, small_unit}
use Rattle.tta_hardware.specs.Signals.{GuardOf, IsShort, SourceOf, ShortOf, DestOf, Signal as Named, Underway, Keeps, IsDue, Due, HasBegun, Raw, IsInside, Port, Fetched, Word, Acts, Starts, Trigger, Operand, HasWord, IsPast, LacksRegister, LacksPort, LacksOperand, Clashes, FaultNow, Watches, Shows, IsFrom, Boxes}
use Rattle.tta_hardware.specs.Wires.{longest, longest_in}
use Rattle.tta_hardware.proofs.Bits.{delay_few}
use Rattle.tta_hardware.proofs.Bringing.{within_list}
use Rattle.tta_hardware.proofs.There.{is_there, is_load_at, can_be_due}
use Rattle.tta_hardware.proofs.OnlyThere.{load_of, unit_of}
use Rattle.tta_hardware.proofs.RegistersFit.{weaker}
use Rattle.tta_hardware.proofs.PlainWires.{below_all}
use Rattle.tta_trap.proofs.Present.{trap_there}
use Rattle.tta_boxed.proofs.Registers.{unit_of as found_unit}
use Rattle.tta_told.proofs.HasName.{is_named}

latency_few : (o : UnitOp) → fits_kind o ≡ true → o.latency ≤ 16
latency_few o fits = by o.op fits where
  by : (p : Op) → fits_kind (record o { op = p }) ≡ true → o.latency ≤ 16
  by Ldw fits = grind arith
  by Stw fits = grind arith
  by Ldf fits = grind arith
  by Stf fits = grind arith
  by Out fits = grind arith
  by Take fits = grind arith
  by (Set id) fits = grind arith

longest_few : (u : OpUnit) (ops : List UnitOp) → list_all (is_unit_op u) ops ≡ true → longest_in ops ≤ 16
longest_few u [] all = omega arith
longest_few u (o ∷ ops) all =
    let p = and_parts (is_unit_op u o) (list_all (is_unit_op u) ops) all in
    let l = latency_few o (and_parts _ _ (and_parts _ _ p.0).0).0 in
    let r = longest_few u ops p.1 in
    omega (arith, l, r)

small : (n most : ℕ) → n < most → most ≤ 65536 → nat_lt n (2 ^ 64) ≡ true
small n most p q = lt-ltb n (2 ^ 64) (omega (arith, p, q))

module _ (m : Machine) (rules : IsMachine m) where
  abbrev has : Named → Bool
  has n = is_named (length m.buses) (length m.files) (length m.imms) (length m.units) n

  reg_named : (file index : ℕ) → (o : Option File) → slice_get m.files file ≡ o → option_map_or (λ f. nat_lt index f.size) o false ≡ true
      → has (Keeps (KeptReg file index)) ≡ true
  reg_named file index None at is = absurd (false≢true is)
  reg_named file index (Some f) at is =
      let few = small_file m.sockets f (list_all_one (is_file m.sockets) m.files file f rules.files at) in
      and_from (nat_lt file (length m.files)) (nat_lt index (2 ^ 64))
      (lt-ltb file (length m.files) (within_list m.files file (ap is_some at)))
      (small index f.size (ltb-true index f.size is) (omega (arith, few)))

  imm_named : (unit index : ℕ) → (o : Option ImmUnit) → slice_get m.imms unit ≡ o → option_map_or (λ i. nat_lt index i.size) o false ≡ true
      → has (Keeps (KeptImm unit index)) ≡ true
  imm_named unit index None at is = absurd (false≢true is)
  imm_named unit index (Some i) at is =
      let few = small_imm m.sockets i (list_all_one (is_imm m.sockets) m.imms unit i rules.imms at) in
      and_from (nat_lt unit (length m.imms)) (nat_lt index (2 ^ 64))
      (lt-ltb unit (length m.imms) (within_list m.imms unit (ap is_some at)))
      (small index i.size (ltb-true index i.size is) (omega (arith, few)))

  latest : (unit : ℕ) → longest m unit ≤ 16
  latest unit = by (slice_get m.units unit) refl where
    by : (o : Option OpUnit) → slice_get m.units unit ≡ o → option_map_or (λ u. longest_in u.ops) o 0 ≤ 16
    by None at = omega arith
    by (Some u) at =
        let unit_is = list_all_one (is_unit m.sockets) m.units unit u rules.units at in
        longest_few u u.ops (and_parts _ _ (and_parts _ _ unit_is).0).1

  due_named : (unit delay : ℕ) → can_be_due m unit delay ≡ true → (nat_lt unit (length m.units) && nat_lt delay (2 ^ 64)) ≡ true
  due_named unit delay is =
      let p = and_parts (nat_lt unit (length m.units)) (nat_lt 0 delay && nat_lt delay (longest m unit)) is in
      let q = and_parts (nat_lt 0 delay) (nat_lt delay (longest m unit)) p.1 in
      let few = latest unit in
      and_from (nat_lt unit (length m.units)) (nat_lt delay (2 ^ 64)) p.0
      (small delay (longest m unit) (ltb-true delay (longest m unit) q.1) (omega (arith, few)))

  op_few : (unit op : ℕ) (o : Option OpUnit) → slice_get m.units unit ≡ o → is_some (option_and_then (λ x. slice_get x.ops op) o) ≡ true
      → nat_lt op (2 ^ 64) ≡ true
  op_few unit op None at is = absurd (false≢true is)
  op_few unit op (Some u) at is =
      let few = small_unit m.sockets u (list_all_one (is_unit m.sockets) m.units unit u rules.units at) in
      small op (length u.ops) (within_list u.ops op is) (omega (arith, few))

  op_named : (unit op : ℕ) → is_some (op_at m unit op) ≡ true → (nat_lt unit (length m.units) && nat_lt op (2 ^ 64)) ≡ true
  op_named unit op is =
      and_from (nat_lt unit (length m.units)) (nat_lt op (2 ^ 64)) (unit_of m unit op is) (op_few unit op (slice_get m.units unit) refl is)

  load_named : (unit op : ℕ) → is_load_at m unit op ≡ true → (nat_lt unit (length m.units) && nat_lt op (2 ^ 64)) ≡ true
  load_named unit op is = op_named unit op (load_of m unit op is)

  pub there_named : (n : Named) → is_there m n ≡ true → has n ≡ true
  there_named (Underway delay) is =
      let p = leb-true delay m.control.delay (and_parts (nat_lt 0 delay) (nat_le delay m.control.delay) is).1 in
      let few = delay_few m rules in
      small delay 5 (omega (arith, p, few)) (omega arith)
  there_named (Keeps (KeptReg file index)) is = reg_named file index (slice_get m.files file) refl is
  there_named (Keeps (KeptImm unit index)) is = imm_named unit index (slice_get m.imms unit) refl is
  there_named (Keeps (KeptOperand unit)) is = lt-ltb unit (length m.units) (within_list m.units unit is)
  there_named (Keeps (KeptPort unit)) is = lt-ltb unit (length m.units) (within_list m.units unit is)
  there_named (IsDue unit delay) is = due_named unit delay is
  there_named (Due unit delay) is = due_named unit delay is
  there_named (HasBegun unit op) is = load_named unit op is
  there_named (Raw unit op) is = load_named unit op is
  there_named (IsInside unit op) is = load_named unit op is
  there_named (Starts unit op) is = op_named unit op is
  there_named (Port unit) is = is
  there_named (Trigger unit) is = is
  there_named (Operand unit) is = is
  there_named (Word bus) is = is
  there_named (Acts bus) is = is
  there_named (Fetched (GuardOf bus)) is = (and_parts (nat_lt bus (length m.buses)) _ is).0
  there_named (Fetched (DestOf bus)) is = (and_parts (nat_lt bus (length m.buses)) _ is).0
  there_named (Fetched (IsShort bus)) is = is
  there_named (Fetched (SourceOf bus)) is = is
  there_named (Fetched (ShortOf bus)) is = is
  there_named (Watches w) is = absurd (false≢true is)
  there_named (Boxes b) is = absurd (false≢true is)
  there_named n is = refl

  -- what a circuit has more that tells the first fault
  pub trap_named : (n : Named) → trap_there m n ≡ true → has n ≡ true
  trap_named (Watches (HasWord p)) is = there_named (Keeps p) is
  trap_named (Watches IsPast) is = refl
  trap_named (Watches (LacksRegister bus)) is = is
  trap_named (Watches (LacksPort bus)) is = is
  trap_named (Watches (LacksOperand unit)) is = is
  trap_named (Watches (Clashes unit)) is = is
  trap_named (Watches FaultNow) is = refl
  trap_named n is = there_named n is

  -- ---- what a circuit has more that leaves operations to modules

  latency_at : (unit op : ℕ) (o : UnitOp) → op_at m unit op ≡ Some o → o.latency ≤ 16
  latency_at unit op o at = found_unit m (λ op. false) (o.latency ≤ 16) unit op o at (λ x unit_at op_is.
      let unit_is = list_all_one (is_unit m.sockets) m.units unit x rules.units unit_at in
      let fits = list_all_one (is_unit_op x) x.ops op o (and_parts _ _ (and_parts _ _ unit_is).0).1 op_is in
      latency_few o (and_parts _ _ (and_parts _ _ fits).0).0)

  pub shown_named : (unit op : ℕ) (o : UnitOp) → op_at m unit op ≡ Some o → has (Boxes (Shows unit op)) ≡ true
  shown_named unit op o at = op_named unit op (ap is_some at)

  pub from_named : (unit op : ℕ) (o : UnitOp) → op_at m unit op ≡ Some o
      → AllByRecursion (λ d. has (Boxes (IsFrom unit op d)) ≡ true) (range_with_len 1 (o.latency - 1))
  from_named unit op o at =
      let few = latency_at unit op o at in
      weaker (λ d. d < 17) (λ d. has (Boxes (IsFrom unit op d)) ≡ true) (range_with_len 1 (o.latency - 1))
      (λ d less. and_from (nat_lt unit (length m.units) && nat_lt op (2 ^ 64)) (nat_lt d (2 ^ 64)) (op_named unit op (ap is_some at))
      (small d 17 less (omega arith)))
      (below_all 17 1 (o.latency - 1) (omega (arith, few)))
