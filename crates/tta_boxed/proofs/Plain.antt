-- A circuit that leaves operations to modules keeps its widths and is plain.
use Rattle.std.proofs.Common.{◌≡◌, ℕ, ◌<◌, Bool, true, false, ◌||◌, List, [], ◌∷◌, length, map, refl, sym, ◌∙◌, subst, arith}
use Rattle.std.specs.List.{list_any, AllByRecursion}
use Rattle.std.proofs.lemmas.Bool.{false≢true}
use Rattle.tta_boxed.specs.Cited.{Machine, IsMachine, IsLegalCode, IsPlain, KeptPort, Circuit, Register, Store, Keeps, Due, Boxes, store_width, trap_signal_width, same_signal}
use Rattle.tta_circuit.specs.Circuit.{Memory}
use Rattle.tta_circuit.specs.Closed.{reads_only, has_signal, PortReads}
use Rattle.tta_circuit.specs.Meaning.{is_input}
use Rattle.tta_circuit.specs.Plain.{IsWrittenWire, IsWrittenRegister, IsWrittenMemory}
use Rattle.tta_code.specs.declared.code.Code.{Code as Program}
use Rattle.tta_hardware.specs.Signals.{Signal as Named, Watches}
use Rattle.tta_hardware.specs.Sized.{signal_width}
use Rattle.tta_hardware.specs.Registers.{register}
use Rattle.tta_hardware.specs.Hardware.{wire, wire_names, register_names}
use Rattle.tta_hardware.proofs.Named.{signal_is}
use Rattle.tta_hardware.proofs.Ordered as ordered
use Rattle.tta_hardware.proofs.Plainly.{plain}
use Rattle.tta_hardware.proofs.WiresFit.{both_lists, all_map}
use Rattle.tta_hardware.proofs.RegistersFit.{weaker}
use Rattle.tta_hardware.proofs.PlainWires.{all_made}
use Rattle.tta_hardware.proofs.There.{is_there, wires_there, registers_there}
use Rattle.tta_trap.specs.Memory.{watch_register, watch_registers}
use Rattle.tta_trap.specs.Trap.{trap_wire, trap_wires}
use Rattle.tta_trap.proofs.Lifting.{lifted, lifted_register, lifted_memory}
use Rattle.tta_trap.proofs.Listed.{trap_wires_there, in_order}
use Rattle.tta_trap.proofs.Present.{trap_there}
use Rattle.tta_trap.proofs.Widths.{trap_plain}
use Rattle.tta_boxed.specs.Boxed.{boxed_register, box_registers, box_inputs, boxed}
use Rattle.tta_boxed.specs.Sized.{boxed_signal_width, BoxedIsPlain}
use Rattle.tta_boxed.specs.Theorem.{whole}
use Rattle.tta_boxed.proofs.Early.{is_slow}
use Rattle.tta_boxed.proofs.Wholes.{RegisterEarly, IsWhole, wholes}
use Rattle.tta_boxed.proofs.Registers.{same_register, of_boxes}
use Rattle.tta_boxed.proofs.Inputs.{input_any, of_inputs}
use Rattle.tta_boxed.proofs.Sound.{IsSound, sound}
use Rattle.tta_boxed.proofs.Closed.{three_lists}
use Rattle.tta_boxed.proofs.Written.{port_fits, due_fits, from_fits, enable_fits}

-- what holds of all that lists have holds of each
four_lists : {A : Type 0} (P Q R S T : A → Type 0) (xs : List A) → ((x : A) → P x → Q x → R x → S x → T x) → AllByRecursion P xs
    → AllByRecursion Q xs → AllByRecursion R xs → AllByRecursion S xs → AllByRecursion T xs
four_lists P Q R S T [] each p q r s = tt
four_lists P Q R S T (x ∷ xs) each p q r s = (each x p.0 q.0 r.0 s.0, four_lists P Q R S T xs each p.1 q.1 r.1 s.1)

two_lists : {A : Type 0} (P Q R : A → Type 0) (xs : List A) → ((x : A) → P x → Q x → R x) → AllByRecursion P xs → AllByRecursion Q xs
    → AllByRecursion R xs
two_lists P Q R [] each p q = tt
two_lists P Q R (x ∷ xs) each p q = (each x p.0 q.0, two_lists P Q R xs each p.1 q.1)

named : {A : Type 0} (P : Named → Type 0) (name : A → Named) (xs : List A) (n : Named) → AllByRecursion (λ x. P (name x)) xs
    → list_any (λ x. same_signal (name x) n) xs ≡ true → P n
named P name [] n all any = absurd (false≢true any)
named P name (x ∷ xs) n all any = by (same_signal (name x) n) refl any (named P name xs n all.1) where
  by : (b : Bool) → same_signal (name x) n ≡ b → (b || list_any (λ x. same_signal (name x) n) xs) ≡ true
      → (list_any (λ x. same_signal (name x) n) xs ≡ true → P n) → P n
  by true is any rest = subst P (signal_is (name x) n is) all.0
  by false is any rest = rest any

one_of : (R : Type 0) (a b c : Bool) → (a ≡ true → R) → (b ≡ true → R) → (c ≡ true → R) → (a || (b || c)) ≡ true → R
one_of R true b c first second third is = first refl
one_of R false true c first second third is = second refl
one_of R false false c first second third is = third is

-- A circuit of a machine keeps these widths, which are those that it has beside modules.
pub record IsWide (m : Machine) (d : Circuit Named Store) (width : Named → ℕ) : Type 0 where
  pub plain : IsPlain width (store_width m) d
  pub inputs : AllByRecursion (λ i. boxed_signal_width m i.0 ≡ width i.0) d.inputs
  pub wires : AllByRecursion (λ w. boxed_signal_width m w.name ≡ width w.name) d.wires
  pub registers : AllByRecursion (λ r. boxed_signal_width m r.name ≡ width r.name) d.registers

module _ (m : Machine) (leaves : ℕ → Bool) (d : Circuit Named Store) (w : IsWhole m d) (s : IsSound m d) (width : Named → ℕ)
    (f : IsWide m d width) where
  abbrev wide : Named → ℕ
  wide = boxed_signal_width m

  abbrev had : Named → Bool
  had n = has_signal same_signal d n

  had_wide : (n : Named) → had n ≡ true → boxed_signal_width m n ≡ width n
  had_wide n is =
      one_of (boxed_signal_width m n ≡ width n) (is_input same_signal d.inputs n) (list_any (λ w. same_signal w.name n) d.wires)
      (list_any (λ r. same_signal r.name n) d.registers)
      (λ any. named (λ k. boxed_signal_width m k ≡ width k) (λ i. i.0) d.inputs n f.inputs (sym (input_any d.inputs n) ∙ any))
      (named (λ k. boxed_signal_width m k ≡ width k) (λ w. w.name) d.wires n f.wires)
      (named (λ k. boxed_signal_width m k ≡ width k) (λ r. r.name) d.registers n f.registers) is

  abbrev Registered : Register Named Store → Type 0
  Registered r = IsWrittenRegister (boxed_signal_width m) (store_width m) r

  slow_written : (n : Named) → is_slow n ≡ true → Registered (boxed_register m leaves (register m n))
  slow_written (Keeps (KeptPort unit)) is = record {
    some = omega arith;
    wide = refl;
    enable = record { plain = refl; sized = refl; wide = refl };
    next = port_fits m leaves unit;
  }
  slow_written (Due unit delay) is = record {
    some = omega arith;
    wide = refl;
    enable = record { plain = refl; sized = refl; wide = refl };
    next = due_fits m leaves unit delay;
  }
  slow_written n is = absurd (false≢true is)

  one_written : (r : Register Named Store) → RegisterEarly m r → boxed_signal_width m r.name ≡ width r.name
      → (reads_only had r.enable ≡ true) × (reads_only had r.next ≡ true) → IsWrittenRegister width (store_width m) r
      → Registered (boxed_register m leaves r)
  one_written r early name reads it = by (is_slow r.name) refl where
    by : (b : Bool) → is_slow r.name ≡ b → Registered (boxed_register m leaves r)
    by true slow =
        subst (λ (x : Register Named Store). Registered (boxed_register m leaves x)) (sym (early.1.1 slow)) (slow_written r.name slow)
    by false slow =
        subst Registered (sym (same_register m leaves r slow))
        (lifted_register width (boxed_signal_width m) (store_width m) had had_wide r name reads it)

  pub boxed_plain : IsPlain (boxed_signal_width m) (store_width m) (boxed m leaves d)
  boxed_plain = record {
    inputs = both_lists (λ (i : Named × ℕ). (0 < i.1) × (boxed_signal_width m i.0 ≡ i.1)) d.inputs (box_inputs m leaves)
        (two_lists (λ (i : Named × ℕ). boxed_signal_width m i.0 ≡ width i.0) (λ i. (0 < i.1) × (width i.0 ≡ i.1))
        (λ i. (0 < i.1) × (boxed_signal_width m i.0 ≡ i.1)) d.inputs (λ i name it. (it.0, name ∙ it.1)) f.inputs f.plain.inputs)
        (of_inputs m leaves (λ i. (0 < i.1) × (boxed_signal_width m i.0 ≡ i.1)) (λ unit op. (omega arith, refl)));
    wires = three_lists (λ w. boxed_signal_width m w.name ≡ width w.name) (λ w. reads_only had w.word ≡ true)
        (IsWrittenWire width (store_width m)) (IsWrittenWire (boxed_signal_width m) (store_width m)) d.wires
        (λ w name reads it. record {
          some = it.some;
          wide = name ∙ it.wide;
          word = lifted width (boxed_signal_width m) (store_width m) had had_wide w.word w.width reads it.word;
        }) f.wires s.closed.wires f.plain.wires;
    registers = both_lists Registered (map (boxed_register m leaves) d.registers) (box_registers m leaves)
        (all_map Registered (boxed_register m leaves) d.registers
        (four_lists (RegisterEarly m) (λ r. boxed_signal_width m r.name ≡ width r.name)
        (λ r. (reads_only had r.enable ≡ true) × (reads_only had r.next ≡ true)) (IsWrittenRegister width (store_width m))
        (λ r. Registered (boxed_register m leaves r)) d.registers one_written w.registers f.registers s.closed.registers f.plain.registers))
        (of_boxes m leaves Registered (λ unit op o at left delay. record {
          some = omega arith;
          wide = refl;
          enable = enable_fits m leaves;
          next = from_fits m leaves unit op o.latency delay;
        }));
    memories = two_lists (λ (x : Memory Named Store). PortReads had x.port) (IsWrittenMemory width (store_width m))
        (IsWrittenMemory (boxed_signal_width m) (store_width m)) d.memories
        (λ x reads it. lifted_memory width (boxed_signal_width m) (store_width m) had had_wide x reads it) s.closed.memories
        f.plain.memories;
  }

-- ---- both circuits

module _ (m : Machine) (rules : IsMachine m) (code : Program) (legal : IsLegalCode m code) (memory : List ℕ) where
  plain_wide : (n : Named) → is_there m n ≡ true → boxed_signal_width m n ≡ signal_width m n
  plain_wide (Watches w) is = absurd (false≢true is)
  plain_wide (Boxes b) is = absurd (false≢true is)
  plain_wide n is = refl

  trap_wide : (n : Named) → trap_there m n ≡ true → boxed_signal_width m n ≡ trap_signal_width m n
  trap_wide (Boxes b) is = absurd (false≢true is)
  trap_wide n is = refl

  there_wide : (n : Named) → is_there m n ≡ true → boxed_signal_width m n ≡ trap_signal_width m n
  there_wide (Boxes b) is = absurd (false≢true is)
  there_wide n is = refl

  of_circuit : IsWide m (whole false m code memory) (signal_width m)
  of_circuit = record {
    plain = plain m rules code memory;
    inputs = (refl, (refl, (refl, (refl, tt))));
    wires = all_map (λ w. boxed_signal_width m w.name ≡ signal_width m w.name) (wire m) (wire_names m)
        (weaker (λ n. is_there m n ≡ true) (λ n. boxed_signal_width m n ≡ signal_width m n) (wire_names m) plain_wide
        (wires_there m rules));
    registers = all_map (λ r. boxed_signal_width m r.name ≡ signal_width m r.name) (register m) (register_names m)
        (weaker (λ n. is_there m n ≡ true) (λ n. boxed_signal_width m n ≡ signal_width m n) (register_names m) plain_wide
        (registers_there m rules));
  }

  of_trap : IsWide m (whole true m code memory) (trap_signal_width m)
  of_trap = record {
    plain = trap_plain m rules code legal memory;
    inputs = (refl, (refl, (refl, (refl, tt))));
    wires = all_map (λ w. boxed_signal_width m w.name ≡ trap_signal_width m w.name) (trap_wire m (length code.words)) (trap_wires m)
        (weaker (λ n. trap_there m n ≡ true) (λ n. boxed_signal_width m n ≡ trap_signal_width m n) (trap_wires m) trap_wide
        (trap_wires_there m rules));
    registers = both_lists (λ r. boxed_signal_width m r.name ≡ trap_signal_width m r.name) (map (register m) (register_names m))
        (map (watch_register m) (watch_registers m))
        (all_map (λ r. boxed_signal_width m r.name ≡ trap_signal_width m r.name) (register m) (register_names m)
        (weaker (λ n. is_there m n ≡ true) (λ n. boxed_signal_width m n ≡ trap_signal_width m n) (register_names m) there_wide
        (registers_there m rules)))
        (all_made (λ r. boxed_signal_width m r.name ≡ trap_signal_width m r.name) (watch_register m) (watch_registers m) (λ w. refl));
  }

pub boxed_is_plain : BoxedIsPlain
boxed_is_plain m leaves true code memory rules legal = (
  boxed_plain m leaves (whole true m code memory) (wholes m rules code memory true) (sound m rules code memory true)
      (trap_signal_width m) (of_trap m rules code legal memory),
  in_order m rules (length code.words),
)
boxed_is_plain m leaves false code memory rules legal = (
  boxed_plain m leaves (whole false m code memory) (wholes m rules code memory false) (sound m rules code memory false)
      (signal_width m) (of_circuit m rules code legal memory),
  ordered.in_order m,
)
