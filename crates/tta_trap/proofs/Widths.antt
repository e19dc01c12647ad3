-- A circuit that tells the first fault keeps its widths and is plain.
use Rattle.std.proofs.Common.{◌≡◌, ℕ, ◌<◌, Bool, true, false, ◌||◌, List, [], ◌∷◌, ◌++◌, length, map, refl, sym, ap, ◌∙◌, arith}
use Rattle.std.specs.List.{list_any, AllByRecursion}
use Rattle.std.proofs.lemmas.Bool.{false≢true}
use Rattle.tta_circuit.specs.Circuit.{Memory}
use Rattle.tta_circuit.specs.Closed.{reads_only, has_signal, PortReads}
use Rattle.tta_circuit.specs.Plain.{IsWritten, IsWrittenWire, IsWrittenRegister, IsWrittenMemory}
use Rattle.tta_trap.specs.Cited.{Machine, IsMachine, IsLegalCode, IsPlain, Register, Store, numbers, Signal, Select, IsReset, Goes, Watch, HasWord, IsPast, LacksRegister, LacksPort, LacksOperand, Clashes, FaultNow, Watches, Expression, never, same_signal, wire_width, register, register_names, made_of, has_place, signal_width, store_width}
use Rattle.tta_code.specs.declared.code.Code.{Code as Program}
use Rattle.tta_hardware.specs.Signals.{Signal as Named}
use Rattle.tta_hardware.specs.Hardware.{wire, wire_names, circuit_of}
use Rattle.tta_hardware.specs.Sized.{Fits}
use Rattle.tta_hardware.proofs.Fitting.{signal, const, select}
use Rattle.tta_hardware.proofs.WiresFit.{both_lists, all_map}
use Rattle.tta_hardware.proofs.RegistersFit.{weaker}
use Rattle.tta_hardware.proofs.PlainWires.{below_all, all_pieces}
use Rattle.tta_hardware.proofs.Plainly.{plain}
use Rattle.tta_hardware.proofs.There.{is_there, wires_there, registers_there}
use Rattle.tta_hardware.proofs.ReadsThere.{closed}
use Rattle.tta_trap.specs.Memory.{watch_next, watch_register, watch_registers, places}
use Rattle.tta_trap.specs.Watches.{bus_watches, unit_watches, watch_wires, watch_made}
use Rattle.tta_trap.specs.Trap.{trap_wire, early_wires, late_wires, trap_wires, trap_circuit}
use Rattle.tta_trap.specs.Sized.{trap_signal_width, TrapIsPlain}
use Rattle.tta_trap.proofs.Present.{trap_there, may, ok}
use Rattle.tta_trap.proofs.WatchReads.{register_wire, port_wire, operand_wire, clashes_wire, fault_wire}
use Rattle.tta_trap.proofs.MemoryReads.{later_too, watch_reads}
use Rattle.tta_trap.proofs.Listed.{all_parts, first, control, bus_ones, unit_ones, in_order}
use Rattle.tta_trap.proofs.Kept.{watching}
use Rattle.tta_trap.proofs.Closing.{places_there}
use Rattle.tta_trap.proofs.Lifting.{lifted, lifted_register, lifted_memory}
use Rattle.tta_trap.proofs.WatchFits.{operand_fits, clashing_fits, register_wire_fits, port_wire_fits, fault_fits, word_fits, past_fits}

-- ---- lists

-- what holds of all elements in two ways
in_both : {A : Type 0} (P Q R : A → Type 0) (xs : List A) → ((x : A) → P x → Q x → R x) → AllByRecursion P xs → AllByRecursion Q xs
    → AllByRecursion R xs
in_both P Q R [] each one two = tt
in_both P Q R (x ∷ xs) each one two = (each x one.0 two.0, in_both P Q R xs each one.1 two.1)

-- what holds of all that a list makes
of_made : {A B : Type 0} (P : B → Type 0) (f : A → B) (xs : List A) → AllByRecursion P (map f xs) → AllByRecursion (λ x. P (f x)) xs
of_made P f [] all = tt
of_made P f (x ∷ xs) all = (all.0, of_made P f xs all.1)

none_made : {A B : Type 0} (q : B → Bool) (f : A → B) (xs : List A) → AllByRecursion (λ x. q (f x) ≡ false) xs
    → list_any q (map f xs) ≡ false
none_made q f [] all = refl
none_made q f (x ∷ xs) all = ap (λ b. b || list_any q (map f xs)) all.0 ∙ none_made q f xs all.1

module _ (m : Machine) (rules : IsMachine m) (code : Program) (legal : IsLegalCode m code) (memory : List ℕ) where
  abbrev count : ℕ
  count = length code.words

  abbrev wide : Named → ℕ
  wide = trap_signal_width m

  -- whether a circuit without a watch has a signal
  abbrev had : Named → Bool
  had n = has_signal same_signal (circuit_of m code memory) n

  other : (n : Named) → is_there m n ≡ true → same_signal n (Watches FaultNow) ≡ false
  other (Watches v) is = absurd (false≢true is)
  other n is = refl

  -- it has no number of a fault
  none_had : had (Watches FaultNow) ≡ false
  none_had =
      ap (λ b. b || list_any (λ r. same_signal r.name (Watches FaultNow)) (map (register m) (register_names m)))
      (none_made (λ w. same_signal w.name (Watches FaultNow)) (wire m) (wire_names m)
      (weaker (λ n. is_there m n ≡ true) (λ n. same_signal n (Watches FaultNow) ≡ false) (wire_names m) other (wires_there m rules)))
      ∙ none_made (λ r. same_signal r.name (Watches FaultNow)) (register m) (register_names m)
      (weaker (λ n. is_there m n ≡ true) (λ n. same_signal n (Watches FaultNow) ≡ false) (register_names m) other
      (registers_there m rules))

  -- all other signals have one width
  had_wide : (n : Named) → had n ≡ true → trap_signal_width m n ≡ signal_width m n
  had_wide (Watches FaultNow) is = absurd (false≢true (sym none_had ∙ is))
  had_wide n is = refl

  early_wide : (n : Named) → may m 6 n ≡ true → trap_signal_width m n ≡ signal_width m n
  early_wide (Watches FaultNow) is = absurd (false≢true is)
  early_wide n is = refl

  there_wide : (n : Named) → is_there m n ≡ true → trap_signal_width m n ≡ signal_width m n
  there_wide (Watches w) is = absurd (false≢true is)
  there_wide n is = refl

  -- ---- wires

  abbrev Written : Named → Type 0
  Written n = IsWrittenWire wide (store_width m) (trap_wire m count n)

  abbrev lift : (e : Expression) (width : ℕ) → reads_only had e ≡ true → IsWritten (signal_width m) (store_width m) e width
      → IsWritten wide (store_width m) e width
  lift e width reads f = lifted (signal_width m) wide (store_width m) had had_wide e width reads f

  abbrev Before : Named → Type 0
  Before n = (reads_only had (made_of m n) ≡ true) × IsWrittenWire (signal_width m) (store_width m) (wire m n)

  one : (n : Named) → is_there m n ≡ true → Before n → Written n
  one (Watches w) there f = absurd (false≢true there)
  one Goes there f =
      let it = lift (made_of m Goes) 1 f.0 f.1.word in record {
        some = omega arith;
        wide = refl;
        word = record { plain = it.plain; sized = it.sized; wide = refl };
      }
  one n there f = record { some = f.1.some; wide = f.1.wide; word = lift (made_of m n) (wire_width m n) f.0 f.1.word }

  plain_written : AllByRecursion Written (wire_names m)
  plain_written =
      in_both (λ n. is_there m n ≡ true) Before Written (wire_names m) one (wires_there m rules)
      (in_both (λ n. reads_only had (made_of m n) ≡ true) (λ n. IsWrittenWire (signal_width m) (store_width m) (wire m n)) Before
      (wire_names m) (λ n a b. (a, b))
      (of_made (λ w. reads_only had w.word ≡ true) (wire m) (wire_names m) (closed m rules code memory).wires)
      (of_made (IsWrittenWire (signal_width m) (store_width m)) (wire m) (wire_names m) (plain m rules code memory).wires))

  -- an expression of the watch
  of_watch : (e : Expression) (width : ℕ) → ok m 6 e ≡ true → Fits m e width → IsWritten wide (store_width m) e width
  of_watch e width reads f =
      lifted (signal_width m) wide (store_width m) (may m 6) early_wide e width reads
      (record { plain = f.plain; sized = f.sized; wide = f.wide })

  bus_written : (bus : ℕ) → bus < length m.buses → AllByRecursion Written (bus_watches bus)
  bus_written bus less = (
    record {
      some = omega arith;
      wide = refl;
      word = of_watch (watch_made m count (LacksRegister bus)) 1
          (later_too m 5 6 (omega arith) (watch_made m count (LacksRegister bus)) (register_wire m rules count bus less))
          (register_wire_fits m rules count bus less);
    },
    (
      record {
        some = omega arith;
        wide = refl;
        word = of_watch (watch_made m count (LacksPort bus)) 1
            (later_too m 5 6 (omega arith) (watch_made m count (LacksPort bus)) (port_wire m rules count bus less))
            (port_wire_fits m rules count bus less);
      },
      tt,
    ),
  )

  unit_written : (unit : ℕ) → unit < length m.units → AllByRecursion Written (unit_watches unit)
  unit_written unit less = (
    record {
      some = omega arith;
      wide = refl;
      word = of_watch (watch_made m count (LacksOperand unit)) 1
          (later_too m 5 6 (omega arith) (watch_made m count (LacksOperand unit)) (operand_wire m rules count unit less))
          (operand_fits m rules unit);
    },
    (
      record {
        some = omega arith;
        wide = refl;
        word = of_watch (watch_made m count (Clashes unit)) 1
            (later_too m 5 6 (omega arith) (watch_made m count (Clashes unit)) (clashes_wire m rules count unit less))
            (clashing_fits m rules unit);
      },
      tt,
    ),
  )

  watch_written : AllByRecursion Written (watch_wires m)
  watch_written =
      both_lists Written (bus_ones m ++ unit_ones m) (Watches FaultNow ∷ [])
      (both_lists Written (bus_ones m) (unit_ones m)
      (all_pieces (λ bus. bus < length m.buses) Written bus_watches (numbers (length m.buses))
      (below_all (length m.buses) 0 (length m.buses) (omega arith)) bus_written)
      (all_pieces (λ unit. unit < length m.units) Written unit_watches (numbers (length m.units))
      (below_all (length m.units) 0 (length m.units) (omega arith)) unit_written)) (
        record {
          some = omega arith;
          wide = refl;
          word = of_watch (watch_made m count FaultNow) 7 (fault_wire m rules count) (fault_fits m rules count legal.room);
        },
        tt,
      )

  wires_written : AllByRecursion Written (trap_wires m)
  wires_written =
      let plain = all_parts Written (first m) (control m ++ late_wires) plain_written in
      let ends = all_parts Written (control m) late_wires plain.1 in
      both_lists Written (early_wires m ++ watch_wires m) late_wires
      (both_lists Written (early_wires m) (watch_wires m) (both_lists Written (first m) (control m) plain.0 ends.0) watch_written) ends.1

  -- ---- registers

  abbrev Registered : Register Named Store → Type 0
  Registered r = IsWrittenRegister wide (store_width m) r

  abbrev Read : Register Named Store → Type 0
  Read r = (reads_only had r.enable ≡ true) × (reads_only had r.next ≡ true)

  plain_registered : AllByRecursion Registered (map (register m) (register_names m))
  plain_registered =
      in_both (λ r. trap_signal_width m r.name ≡ signal_width m r.name) (λ r. Read r × IsWrittenRegister (signal_width m) (store_width m) r)
      Registered (map (register m) (register_names m))
      (λ r name f. lifted_register (signal_width m) wide (store_width m) had had_wide r name f.0 f.1)
      (all_map (λ r. trap_signal_width m r.name ≡ signal_width m r.name) (register m) (register_names m)
      (weaker (λ n. is_there m n ≡ true) (λ n. trap_signal_width m n ≡ signal_width m n) (register_names m) there_wide
      (registers_there m rules)))
      (in_both Read (IsWrittenRegister (signal_width m) (store_width m))
      (λ r. Read r × IsWrittenRegister (signal_width m) (store_width m) r)
      (map (register m) (register_names m)) (λ r a b. (a, b)) (closed m rules code memory).registers (plain m rules code memory).registers)

  -- one that begins with 0
  watch_registered : (w : Watch) → trap_there m (Watches w) ≡ true → trap_signal_width m (Watches w) ≡ 1 → Fits m (watch_next m w) 1
      → Registered (watch_register m w)
  watch_registered w there narrow f = record {
    some = omega arith;
    wide = narrow;
    enable = record { plain = refl; sized = refl; wide = refl };
    next = of_watch (Select (Signal IsReset) never (watch_next m w)) 1 (watch_reads m rules w there)
        (select m 1 _ _ _ (signal m IsReset refl) (const m 1 0 refl (omega arith)) f);
  }

  watches_registered : AllByRecursion Registered (watching m)
  watches_registered =
      all_map Registered (watch_register m) (watch_registers m)
      (both_lists (λ w. Registered (watch_register m w)) (map HasWord (places m)) (IsPast ∷ [])
      (all_map (λ w. Registered (watch_register m w)) HasWord (places m)
      (weaker (λ p. has_place m p ≡ true) (λ p. Registered (watch_register m (HasWord p))) (places m)
      (λ p has. watch_registered (HasWord p) has refl (word_fits m rules p)) (places_there m rules)))
      (watch_registered IsPast refl refl (past_fits m rules), tt))

  pub trap_plain : IsPlain (trap_signal_width m) (store_width m) (trap_circuit m code memory)
  trap_plain = record {
    inputs = (plain m rules code memory).inputs;
    wires = all_map (IsWrittenWire wide (store_width m)) (trap_wire m count) (trap_wires m) wires_written;
    registers = both_lists Registered (map (register m) (register_names m)) (watching m) plain_registered watches_registered;
    memories = in_both (λ (x : Memory Named Store). PortReads had x.port) (IsWrittenMemory (signal_width m) (store_width m))
        (IsWrittenMemory wide (store_width m)) (circuit_of m code memory).memories
        (λ x reads f. lifted_memory (signal_width m) wide (store_width m) had had_wide x reads f)
        (closed m rules code memory).memories (plain m rules code memory).memories;
  }

pub trap_is_plain : TrapIsPlain
trap_is_plain m code memory rules legal = (trap_plain m rules code legal memory, in_order m rules (length code.words))
