-- What is needed of a circuit that makes all operations itself, and that both have it that make it.
use Rattle.std.proofs.Common.{◌≡◌, ℕ, ◌<◌, Bool, true, false, not, ◌&&◌, ◌||◌, List, [], ◌∷◌, ◌++◌, length, map, slice_get, Option, Some, None, refl, sym, ap, ◌∙◌, arith}
use Rattle.std.specs.Prelude.{if◌then◌else◌, is_some}
use Rattle.std.specs.Option.{option_map_or}
use Rattle.std.specs.List.{find, list_any, AllByRecursion}
use Rattle.std.proofs.lemmas.Bool.{false≢true, and_right}
use Rattle.tta_arch.specs.declared.parts.Unit.{Unit as OpUnit}
use Rattle.tta_arch.specs.declared.parts.Op.TheVariants.{Stw, Stf}
use Rattle.tta_arch.specs.Rules.{same_op}
use Rattle.tta_circuit.specs.Circuit.{Circuit, Register, Memory}
use Rattle.tta_circuit.specs.Meaning.{bit, is_set, settle, settled}
use Rattle.tta_circuit.proofs.Settling.{settle_below}
use Rattle.tta_hardware.specs.Cited.{Units, Machine, IsMachine}
use Rattle.tta_code.specs.declared.code.Code.{Code as Program}
use Rattle.tta_hardware.specs.Signals.{Signal as Named, Store, IsDue, Due, IsOffered, Offer, IsReady, IsReset, Goes, Boxes, same_signal}
use Rattle.tta_hardware.specs.Wires.{longest, longest_in, made_of}
use Rattle.tta_hardware.specs.Registers.{register}
use Rattle.tta_hardware.specs.Hardware.{wire, wire_names, register_names, circuit_of}
use Rattle.tta_hardware.specs.Order.{rank}
use Rattle.tta_hardware.specs.Stands.{Hardware}
use Rattle.tta_hardware.proofs.Bringing.{within_list}
use Rattle.tta_hardware.proofs.Named.{tells, signal_is, signal_itself}
use Rattle.tta_hardware.proofs.Members.{any_made, is_due_there, due_there}
use Rattle.tta_hardware.proofs.WiresFit.{both_lists, all_map}
use Rattle.tta_hardware.proofs.RegistersFit.{weaker}
use Rattle.tta_hardware.proofs.PlainWires.{all_made}
use Rattle.tta_hardware.proofs.Ordered.{in_order}
use Rattle.tta_hardware.proofs.There.{is_there, registers_there}
use Rattle.tta_hardware.proofs.Circuits.{goes_not, reset_is}
use Rattle.tta_trap.specs.Memory.{watch_register, watch_registers}
use Rattle.tta_trap.specs.Sized.{trap_rank}
use Rattle.tta_trap.specs.Trap.{trap_made, trap_wire, trap_wires, trap_circuit}
use Rattle.tta_trap.proofs.Listed as listed
use Rattle.tta_trap.proofs.Settled as trapped
use Rattle.tta_boxed.specs.Theorem.{whole}
use Rattle.tta_boxed.proofs.Early.{early, is_slow, wire_early}
use Rattle.tta_boxed.proofs.EarlyRegisters.{PortEarly, enabled_early, becomes_early, port_early}
use Rattle.tta_boxed.proofs.EarlyWatch.{trap_early, kept_early}

-- whether a signal is one of those that say whose results are due
abbrev pub is_box : Named → Bool
is_box (Boxes b) = true
is_box n = false

-- whether a signal is one of those that say what is due
abbrev pub is_held : Named → Bool
is_held (IsDue unit delay) = true
is_held (Due unit delay) = true
is_held (Boxes b) = true
is_held n = false

-- A register reads nothing that is beside, or is a machine's that keeps results.
abbrev pub RegisterEarly : Machine → Register Named Store → Type 0
RegisterEarly m r =
    (early r.enable ≡ true) × ((is_slow r.name ≡ false → early r.next ≡ true) × (is_slow r.name ≡ true → r ≡ register m r.name))

-- A circuit of a machine that makes all operations itself.
pub record IsWhole (m : Machine) (d : Circuit Named Store) : Type 0 where
  pub inputs : d.inputs ≡ (IsOffered, 1) ∷ (Offer, 32) ∷ (IsReady, 1) ∷ (IsReset, 1) ∷ []
  pub wires : AllByRecursion (λ w. early w.word ≡ true) d.wires
  pub keeps : (u : Units) (ms : Store → List ℕ) (env : Named → ℕ) (n : Named) → is_held n ≡ true
      → settle same_signal u ms env d.wires n ≡ env n
  pub registers : AllByRecursion (RegisterEarly m) d.registers
  pub plain : AllByRecursion (λ r. is_box r.name ≡ false) d.registers
  pub is_due : (unit delay : ℕ) → 0 < delay → delay < longest m unit
      → find (λ r. same_signal r.name (IsDue unit delay)) d.registers ≡ Some (register m (IsDue unit delay))
  pub due : (unit delay : ℕ) → 0 < delay → delay < longest m unit
      → find (λ r. same_signal r.name (Due unit delay)) d.registers ≡ Some (register m (Due unit delay))
  pub memories : AllByRecursion (λ (x : Memory Named Store). PortEarly x.port) d.memories
  pub reset : (u : Units) (h : Hardware) (inputs : Named → ℕ) → settled same_signal u d h inputs IsReset ≡ inputs IsReset
  pub stops : (u : Units) (h : Hardware) (inputs : Named → ℕ) → is_set (inputs IsReset) ≡ true
      → is_set (settled same_signal u d h inputs Goes) ≡ false

-- ---- lists

-- what is found where all that pass are one, and there is one
pub found : {A : Type 0} (p : A → Bool) (xs : List A) (y : A) → AllByRecursion (λ x. p x ≡ true → x ≡ y) xs → list_any p xs ≡ true
    → find p xs ≡ Some y
found p [] y all any = absurd (false≢true any)
found p (x ∷ xs) y all any = by (p x) refl any (found p xs y all.1) where
  by : (b : Bool) → p x ≡ b → (b || list_any p xs) ≡ true → (list_any p xs ≡ true → find p xs ≡ Some y)
      → (if b then Some x else find p xs) ≡ Some y
  by true is any rest = ap (λ z. Some z) (all.0 is)
  by false is any rest = rest any

-- what is found in a list is found in a longer one
found_more : {A : Type 0} (p : A → Bool) (xs ys : List A) (x : A) → find p xs ≡ Some x → find p (xs ++ ys) ≡ Some x
found_more p [] ys x is = absurd (false≢true (ap (λ o. is_some o) is))
found_more p (y ∷ xs) ys x is = by (p y) is (found_more p xs ys x) where
  by : (b : Bool) → (if b then Some y else find p xs) ≡ Some x → (find p xs ≡ Some x → find p (xs ++ ys) ≡ Some x)
      → (if b then Some y else find p (xs ++ ys)) ≡ Some x
  by true is rest = is
  by false is rest = rest is

-- a unit with a latency is one of the machine's
pub unit_less : (m : Machine) (unit delay : ℕ) → delay < longest m unit → unit < length m.units
unit_less m unit delay less = by (slice_get m.units unit) refl less where
  by : (o : Option OpUnit) → slice_get m.units unit ≡ o → delay < longest m unit → unit < length m.units
  by None at less =
      let none : longest m unit ≡ 0 = ap (λ (o : Option OpUnit). option_map_or (λ u. longest_in u.ops) o 0) at in
      absurd (omega (arith, less, none))
  by (Some x) at less = within_list m.units unit (ap (λ o. is_some o) at)

-- ---- the registers of a machine

module _ (m : Machine) where
  registers_early : AllByRecursion (RegisterEarly m) (map (register m) (register_names m))
  registers_early =
      all_made (RegisterEarly m) (register m) (register_names m) (λ n. (enabled_early m n, (becomes_early m n, λ is. refl)))

  turned : (n k : Named) → same_signal n k ≡ true → same_signal k n ≡ true
  turned n k is = ap (λ (x : Named). same_signal x n) (sym (signal_is n k is)) ∙ signal_itself n

  register_at : (n : Named) → list_any (same_signal n) (register_names m) ≡ true
      → find (λ r. same_signal r.name n) (map (register m) (register_names m)) ≡ Some (register m n)
  register_at n any =
      found (λ r. same_signal r.name n) (map (register m) (register_names m)) (register m n)
      (all_made (λ r. same_signal r.name n ≡ true → r ≡ register m n) (register m) (register_names m)
      (λ k is. ap (register m) (signal_is k n is)))
      (any_made (λ r. same_signal r.name n) (same_signal n) (register m) (register_names m) (turned n) any)

  is_due_at : (unit delay : ℕ) → 0 < delay → delay < longest m unit
      → find (λ r. same_signal r.name (IsDue unit delay)) (map (register m) (register_names m)) ≡ Some (register m (IsDue unit delay))
  is_due_at unit delay some soon =
      register_at (IsDue unit delay) (is_due_there m unit delay (unit_less m unit delay soon) some soon)

  due_at : (unit delay : ℕ) → 0 < delay → delay < longest m unit
      → find (λ r. same_signal r.name (Due unit delay)) (map (register m) (register_names m)) ≡ Some (register m (Due unit delay))
  due_at unit delay some soon = register_at (Due unit delay) (due_there m unit delay (unit_less m unit delay soon) some soon)

  no_box : (n : Named) → is_there m n ≡ true → is_box n ≡ false
  no_box (Boxes b) is = absurd (false≢true is)
  no_box n is = refl

  registers_plain : IsMachine m → AllByRecursion (λ r. is_box r.name ≡ false) (map (register m) (register_names m))
  registers_plain rules =
      all_map (λ r. is_box r.name ≡ false) (register m) (register_names m)
      (weaker (λ n. is_there m n ≡ true) (λ n. is_box n ≡ false) (register_names m) no_box (registers_there m rules))

-- ---- both circuits

low : (n : Named) → is_held n ≡ true → rank n < 1
low (IsDue unit delay) is = omega arith
low (Due unit delay) is = omega arith
low (Boxes b) is = omega arith
low n is = absurd (false≢true is)

trap_low : (n : Named) → is_held n ≡ true → trap_rank n < 1
trap_low (IsDue unit delay) is = omega arith
trap_low (Due unit delay) is = omega arith
trap_low (Boxes b) is = omega arith
trap_low n is = absurd (false≢true is)

module _ (m : Machine) (rules : IsMachine m) (code : Program) (memory : List ℕ) where
  of_circuit : IsWhole m (circuit_of m code memory)
  of_circuit = record {
    inputs = refl;
    wires = all_made (λ w. early w.word ≡ true) (wire m) (wire_names m) (wire_early m);
    keeps = λ u ms env n is. settle_below same_signal tells rank u ms (made_of m) env 1 (map (wire m) (wire_names m)) (in_order m) n
        (low n is);
    registers = registers_early m;
    plain = registers_plain m rules;
    is_due = is_due_at m;
    due = due_at m;
    memories = (tt, (port_early m m.data_words (same_op Stw), (port_early m m.frame_words (same_op Stf), tt)));
    reset = λ u h inputs. reset_is u m code memory h inputs;
    stops = λ u h inputs is. goes_not u m code memory h inputs (ap is_set (reset_is u m code memory h inputs) ∙ is);
  }

  -- what stands still where a clock begins anew
  still : (w : ℕ) (b c : Bool) → is_set w ≡ true → (b && is_set (bit (is_set (bit (not (is_set w))) && c))) ≡ false
  still w b c is = ap (λ (d : Bool). b && is_set (bit (is_set (bit (not d)) && c))) is ∙ and_right b false refl

  of_trap : IsWhole m (trap_circuit m code memory)
  of_trap = record {
    inputs = refl;
    wires = all_made (λ w. early w.word ≡ true) (trap_wire m (length code.words)) (trap_wires m) (trap_early m (length code.words));
    keeps = λ u ms env n is. settle_below same_signal tells trap_rank u ms (trap_made m (length code.words)) env 1
        (map (trap_wire m (length code.words)) (trap_wires m)) (listed.in_order m rules (length code.words)) n (trap_low n is);
    registers = both_lists (RegisterEarly m) (map (register m) (register_names m)) (map (watch_register m) (watch_registers m))
        (registers_early m)
        (all_made (RegisterEarly m) (watch_register m) (watch_registers m)
        (λ w. (refl, (λ is. kept_early m w, λ is. absurd (false≢true is)))));
    plain = both_lists (λ r. is_box r.name ≡ false) (map (register m) (register_names m)) (map (watch_register m) (watch_registers m))
        (registers_plain m rules) (all_made (λ r. is_box r.name ≡ false) (watch_register m) (watch_registers m) (λ w. refl));
    is_due = λ unit delay some soon. found_more (λ r. same_signal r.name (IsDue unit delay)) (map (register m) (register_names m))
        (map (watch_register m) (watch_registers m)) (register m (IsDue unit delay)) (is_due_at m unit delay some soon);
    due = λ unit delay some soon. found_more (λ r. same_signal r.name (Due unit delay)) (map (register m) (register_names m))
        (map (watch_register m) (watch_registers m)) (register m (Due unit delay)) (due_at m unit delay some soon);
    memories = (tt, (port_early m m.data_words (same_op Stw), (port_early m m.frame_words (same_op Stf), tt)));
    reset = λ u h inputs. trapped.reset_is u m rules code memory h inputs;
    stops = λ u h inputs is. trapped.goes_is u m rules code memory h inputs
        ∙ still (trapped.env u m rules code memory h inputs IsReset) _ _ (ap is_set (trapped.reset_is u m rules code memory h inputs) ∙ is);
  }

  -- a circuit that makes all operations itself is one, whether or not it tells faults
  pub wholes : (faults : Bool) → IsWhole m (whole faults m code memory)
  wholes true = of_trap
  wholes false = of_circuit
