-- A circuit that tells the first fault reads only signals that it has.
use Rattle.std.proofs.Common.{◌≡◌, ℕ, ◌+◌, ◌<◌, Bool, true, false, ◌||◌, List, [], ◌∷◌, ◌++◌, length, map, slice_get, Option, Some, None, refl, ap, ◌∙◌, arith}
use Rattle.std.specs.Prelude.{nat_lt}
use Rattle.std.specs.Option.{option_map_or}
use Rattle.std.specs.List.{list_any, flat_map, enumerate_from, AllByRecursion}
use Rattle.std.proofs.lemmas.Bool.{and_parts, or_left, or_right, ltb-true, lt-ltb}
use Rattle.tta_arch.specs.declared.parts.File.{File}
use Rattle.tta_arch.specs.declared.parts.ImmUnit.{ImmUnit}
use Rattle.tta_image.proofs.Places.{any_left, any_right}
use Rattle.tta_circuit.specs.Circuit.{Memory, WritePort}
use Rattle.tta_circuit.specs.Closed.{reads_only, has_signal, PortReads}
use Rattle.tta_circuit.proofs.Closed.{reads_wider}
use Rattle.tta_trap.specs.Cited.{Machine, IsMachine, Place, KeptReg, KeptImm, KeptOperand, KeptRa, KeptPort, numbers, IsClosed, Select, Either, Signal, Store, IsReset, Goes, Watch, HasWord, IsPast, LacksRegister, LacksPort, LacksOperand, Clashes, FaultNow, Watches, Expression, never, same_signal, register, register_names, has_place}
use Rattle.tta_code.specs.declared.code.Code.{Code as Program}
use Rattle.tta_hardware.specs.Signals.{Signal as Named}
use Rattle.tta_hardware.specs.Hardware.{wire, wire_names, circuit_of}
use Rattle.tta_hardware.proofs.Named.{signal_itself}
use Rattle.tta_hardware.proofs.Members.{any_made}
use Rattle.tta_hardware.proofs.WiresFit.{both_lists, all_map}
use Rattle.tta_hardware.proofs.RegistersFit.{weaker}
use Rattle.tta_hardware.proofs.PlainWires.{below_all, all_pieces}
use Rattle.tta_hardware.proofs.There.{has_it, enumerated_at, some_at}
use Rattle.tta_hardware.proofs.ReadsThere.{closed}
use Rattle.tta_trap.specs.Memory.{watch_next, watch_register, watch_registers, places}
use Rattle.tta_trap.specs.Trap.{trap_made, trap_wire, trap_wires, trap_circuit}
use Rattle.tta_trap.specs.Sized.{trap_rank, TrapIsClosed}
use Rattle.tta_trap.proofs.Present.{trap_there, may, ok}
use Rattle.tta_trap.proofs.MemoryReads.{watch_reads, wire_reads}
use Rattle.tta_trap.proofs.Listed.{plain_in, bus_watch_in, unit_watch_in, fault_in, trap_wires_there}
use Rattle.tta_trap.proofs.Kept.{plain, watching, word_in, past_in}

-- what is in a list that is made of another
any_unmade : {A B : Type 0} (q : B → Bool) (f : A → B) (xs : List A) → list_any q (map f xs) ≡ true → list_any (λ x. q (f x)) xs ≡ true
any_unmade q f [] any = any
any_unmade q f (x ∷ xs) any = by (q (f x)) any (any_unmade q f xs) where
  by : (b : Bool) → (b || list_any q (map f xs)) ≡ true → (list_any q (map f xs) ≡ true → list_any (λ x. q (f x)) xs ≡ true)
      → (b || list_any (λ x. q (f x)) xs) ≡ true
  by true any rest = refl
  by false any rest = rest any

one_of : (a b c b' c' : Bool) → (b ≡ true → b' ≡ true) → (c ≡ true → c' ≡ true) → (a || (b || c)) ≡ true → (a || (b' || c')) ≡ true
one_of true b c b' c' first second is = refl
one_of false true c b' c' first second is = or_left b' c' (first refl)
one_of false false c b' c' first second is = or_right b' c' (second is)

-- ---- that places are there

module _ (m : Machine) (rules : IsMachine m) where
  abbrev There : Place → Type 0
  There p = has_place m p ≡ true

  of_file : (f : ℕ × File) → slice_get m.files f.0 ≡ Some f.1 → AllByRecursion There (map (KeptReg f.0) (numbers f.1.size))
  of_file f at =
      all_map There (KeptReg f.0) (numbers f.1.size)
      (weaker (λ index. index < f.1.size) (λ index. There (KeptReg f.0 index)) (numbers f.1.size)
      (λ index less. ap (λ o. option_map_or (λ f. nat_lt index f.size) o false) at ∙ lt-ltb index f.1.size less)
      (below_all f.1.size 0 f.1.size (omega arith)))

  of_imm : (i : ℕ × ImmUnit) → slice_get m.imms i.0 ≡ Some i.1 → AllByRecursion There (map (KeptImm i.0) (numbers i.1.size))
  of_imm i at =
      all_map There (KeptImm i.0) (numbers i.1.size)
      (weaker (λ index. index < i.1.size) (λ index. There (KeptImm i.0 index)) (numbers i.1.size)
      (λ index less. ap (λ o. option_map_or (λ i. nat_lt index i.size) o false) at ∙ lt-ltb index i.1.size less)
      (below_all i.1.size 0 i.1.size (omega arith)))

  pub places_there : AllByRecursion (λ p. has_place m p ≡ true) (places m)
  places_there =
      both_lists There (files ++ imms ++ ports) (KeptRa ∷ [])
      (both_lists There (files ++ imms) ports
      (both_lists There files imms
      (all_pieces (λ f. slice_get m.files f.0 ≡ Some f.1) There (λ f. map (KeptReg f.0) (numbers f.1.size)) (enumerate_from 0 m.files)
      (enumerated_at (slice_get m.files) 0 m.files (λ k. let e : 0 + k ≡ k = omega arith in ap (slice_get m.files) e)) of_file)
      (all_pieces (λ i. slice_get m.imms i.0 ≡ Some i.1) There (λ i. map (KeptImm i.0) (numbers i.1.size)) (enumerate_from 0 m.imms)
      (enumerated_at (slice_get m.imms) 0 m.imms (λ k. let e : 0 + k ≡ k = omega arith in ap (slice_get m.imms) e)) of_imm))
      (all_pieces (λ unit. unit < length m.units) There unit_places (numbers (length m.units))
      (below_all (length m.units) 0 (length m.units) (omega arith))
      (λ unit less. let some = some_at m rules m.units unit less in (some, (some, tt)))))
      (refl, tt)
    where
      files : List Place
      files = flat_map (λ f. map (KeptReg f.0) (numbers f.1.size)) (enumerate_from 0 m.files)

      imms : List Place
      imms = flat_map (λ i. map (KeptImm i.0) (numbers i.1.size)) (enumerate_from 0 m.imms)

      unit_places : ℕ → List Place
      unit_places unit = KeptOperand unit ∷ KeptPort unit ∷ []

      ports : List Place
      ports = flat_map unit_places (numbers (length m.units))

  pub watches_there : AllByRecursion (λ w. trap_there m (Watches w) ≡ true) (watch_registers m)
  watches_there =
      both_lists (λ w. trap_there m (Watches w) ≡ true) (map HasWord (places m)) (IsPast ∷ [])
      (all_map (λ w. trap_there m (Watches w) ≡ true) HasWord (places m) places_there) (refl, tt)

  -- ---- what the circuit has

  module _ (code : Program) (memory : List ℕ) where
    abbrev count : ℕ
    count = length code.words

    abbrev has : Named → Bool
    has n = has_signal same_signal (trap_circuit m code memory) n

    abbrev had : Named → Bool
    had n = has_signal same_signal (circuit_of m code memory) n

    -- it has what a circuit without a watch has
    pub has_more : (n : Named) → had n ≡ true → has n ≡ true
    has_more n is =
        one_of _ (list_any (λ w. same_signal w.name n) (map (wire m) (wire_names m)))
        (list_any (λ r. same_signal r.name n) (map (register m) (register_names m)))
        (list_any (λ w. same_signal w.name n) (map (trap_wire m count) (trap_wires m)))
        (list_any (λ r. same_signal r.name n) (plain m ++ watching m))
        (λ any. any_made (λ w. same_signal w.name n) (λ k. same_signal k n) (trap_wire m count) (trap_wires m) (λ k here. here)
        (plain_in m (λ k. same_signal k n) (any_unmade (λ w. same_signal w.name n) (wire m) (wire_names m) any)))
        (λ any. any_left (λ r. same_signal r.name n) (plain m) (watching m) any) is

    as_wire : (n : Named) → list_any (λ k. same_signal k n) (trap_wires m) ≡ true → has n ≡ true
    as_wire n any =
        or_right _ _
        (or_left _ _
        (any_made (λ w. same_signal w.name n) (λ k. same_signal k n) (trap_wire m count) (trap_wires m) (λ k here. here) any))

    as_register : (w : Watch) → list_any (λ v. same_signal (Watches v) (Watches w)) (watch_registers m) ≡ true → has (Watches w) ≡ true
    as_register w any =
        or_right (list_any (λ k. same_signal k.name (Watches w)) (map (trap_wire m count) (trap_wires m))) _
        (any_right (λ r. same_signal r.name (Watches w)) (plain m) (watching m)
        (any_made (λ r. same_signal r.name (Watches w)) (λ v. same_signal (Watches v) (Watches w)) (watch_register m) (watch_registers m)
        (λ v here. here) any))

    pub has_it_here : (n : Named) → trap_there m n ≡ true → has n ≡ true
    has_it_here (Watches (HasWord p)) is = as_register (HasWord p) (word_in m p is)
    has_it_here (Watches IsPast) is = as_register IsPast (past_in m)
    has_it_here (Watches (LacksRegister bus)) is =
        as_wire (Watches (LacksRegister bus)) (bus_watch_in m bus (ltb-true bus (length m.buses) is) _
        (or_left _ _ (signal_itself (Watches (LacksRegister bus)))))
    has_it_here (Watches (LacksPort bus)) is =
        as_wire (Watches (LacksPort bus)) (bus_watch_in m bus (ltb-true bus (length m.buses) is) _
        (or_left _ false (signal_itself (Watches (LacksPort bus)))))
    has_it_here (Watches (LacksOperand unit)) is =
        as_wire (Watches (LacksOperand unit)) (unit_watch_in m unit (ltb-true unit (length m.units) is) _
        (or_left _ _ (signal_itself (Watches (LacksOperand unit)))))
    has_it_here (Watches (Clashes unit)) is =
        as_wire (Watches (Clashes unit)) (unit_watch_in m unit (ltb-true unit (length m.units) is) _
        (or_left _ false (signal_itself (Watches (Clashes unit)))))
    has_it_here (Watches FaultNow) is = as_wire (Watches FaultNow) (fault_in m _ refl)
    has_it_here n is = has_more n (has_it m code memory n is)

    -- ---- what it reads

    read : (k : ℕ) (e : Expression) → ok m k e ≡ true → reads_only has e ≡ true
    read k e is =
        reads_wider (may m k) has (λ n here. has_it_here n (and_parts (trap_there m n) (nat_lt (trap_rank n) k) here).0) e is

    ports_read : (p : Option (WritePort Named Store)) → PortReads had p → PortReads has p
    ports_read None is = tt
    ports_read (Some p) is = (
      reads_wider had has has_more p.enable is.0,
      (reads_wider had has has_more p.address is.1.0, reads_wider had has has_more p.word is.1.1),
    )

    pub trap_closed : IsClosed same_signal (trap_circuit m code memory)
    trap_closed =
        let before = closed m rules code memory in record {
          wires = all_map (λ w. reads_only has w.word ≡ true) (trap_wire m count) (trap_wires m)
              (weaker (λ n. trap_there m n ≡ true) (λ n. reads_only has (trap_made m count n) ≡ true) (trap_wires m)
              (λ n is. read (trap_rank n) (trap_made m count n) (wire_reads m rules count n is)) (trap_wires_there m rules));
          registers = both_lists (λ r. (reads_only has r.enable ≡ true) × (reads_only has r.next ≡ true)) (plain m) (watching m)
              (weaker (λ r. (reads_only had r.enable ≡ true) × (reads_only had r.next ≡ true))
              (λ r. (reads_only has r.enable ≡ true) × (reads_only has r.next ≡ true)) (plain m)
              (λ r is. (reads_wider had has has_more r.enable is.0, reads_wider had has has_more r.next is.1)) before.registers)
              (all_map (λ r. (reads_only has r.enable ≡ true) × (reads_only has r.next ≡ true)) (watch_register m) (watch_registers m)
              (weaker (λ w. trap_there m (Watches w) ≡ true)
              (λ w. (reads_only has (watch_register m w).enable ≡ true) × (reads_only has (watch_register m w).next ≡ true))
              (watch_registers m)
              (λ w is. (
                read 9 (Either (Signal IsReset) (Signal Goes)) refl,
                read 6 (Select (Signal IsReset) never (watch_next m w)) (watch_reads m rules w is),
              )) watches_there));
          memories = weaker (λ (x : Memory Named Store). PortReads had x.port) (λ x. PortReads has x.port)
              (circuit_of m code memory).memories (λ x is. ports_read x.port is) before.memories;
        }

pub trap_is_closed : TrapIsClosed
trap_is_closed m code memory rules = trap_closed m rules code memory
