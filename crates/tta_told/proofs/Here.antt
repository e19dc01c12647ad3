-- A circuit of a machine whose signals have names, and whose numbers are narrow, is one that a text tells whole.
use Rattle.std.proofs.Common.{◌≡◌, ℕ, ◌^◌, Bool, true, false, ◌||◌, nat_lt, List, [], ◌∷◌, ◌++◌, Some, ◌⊎◌, inl, inr, refl, sym, ap, subst, ◌∙◌}
use Rattle.std.specs.List.{list_any, AllByRecursion}
use Rattle.std.proofs.lemmas.Bool.{or_cases, false≢true}
use Rattle.tta_list.proofs.Lists.{all_append, all_weaker}
use Rattle.tta_arch.specs.Machine.{Machine}
use Rattle.tta_circuit.specs.Circuit.{Wire, Register, WritePort, Circuit}
use Rattle.tta_circuit.specs.Meaning.{is_input}
use Rattle.tta_circuit.specs.Plain.{IsWrittenWire, IsWrittenRegister, IsWrittenPort, IsPlain}
use Rattle.tta_circuit.specs.Closed.{PortReads, has_signal, IsClosed}
use Rattle.tta_hardware.specs.Signals.{Store, Signal as Named, same_signal, same_store}
use Rattle.tta_hardware.specs.Sized.{store_width}
use Rattle.tta_hardware.proofs.Named.{signal_is}
use Rattle.tta_boxed.proofs.Inputs.{input_any}
use Rattle.tta_names.specs.Names.{names_of}
use Rattle.tta_verilog.specs.Spelling.{tokens_in, wire_tokens, register_tokens, port_tokens, has_token}
use Rattle.tta_verilog.specs.Laws.{AreSpelled, IsToldMemory, IsToldCircuit}
use Rattle.tta_verilog.proofs.Lists.{all_and}
use Rattle.tta_told.proofs.Narrow.{narrow}
use Rattle.tta_told.proofs.Spelled.{scope_of, IsKnown, spelled}

module _ (m : Machine) (has : Named → Bool) where
  -- what is to be known of an input, of a wire, of a register and of a write port
  abbrev pub InputHere : Named × ℕ → Type 0
  InputHere i = (has i.0 ≡ true) × (nat_lt i.1 (2 ^ 64) ≡ true)

  abbrev pub WireHere : Wire Named Store → Type 0
  WireHere w = (has w.name ≡ true) × ((nat_lt w.width (2 ^ 64) ≡ true) × (narrow m w.word ≡ true))

  abbrev pub RegisterHere : Register Named Store → Type 0
  RegisterHere r = (has r.name ≡ true) × ((nat_lt r.width (2 ^ 64) ≡ true) × ((narrow m r.enable ≡ true) × (narrow m r.next ≡ true)))

  abbrev pub PortHere : WritePort Named Store → Type 0
  PortHere p = (narrow m p.enable ≡ true) × ((narrow m p.address ≡ true) × (narrow m p.word ≡ true))

  -- All signals of a circuit have names, and its numbers are narrow.
  pub record AreHere (c : Circuit Named Store) : Type 0 where
    pub inputs : AllByRecursion InputHere c.inputs
    pub wires : AllByRecursion WireHere c.wires
    pub registers : AllByRecursion RegisterHere c.registers

-- what holds of the names of a list holds of one that is among them
among : {A : Type 0} (name : A → Named) (Q : Named → Type 0) (xs : List A) (n : Named) → AllByRecursion (λ x. Q (name x)) xs
    → list_any (λ x. same_signal (name x) n) xs ≡ true → Q n
among name Q [] n all any = absurd (false≢true any)
among name Q (x ∷ xs) n all any = by (same_signal (name x) n) refl any (among name Q xs n all.1) where
  by : (b : Bool) → same_signal (name x) n ≡ b → (b || list_any (λ x. same_signal (name x) n) xs) ≡ true
      → (list_any (λ x. same_signal (name x) n) xs ≡ true → Q n) → Q n
  by true is any rest = subst Q (signal_is (name x) n is) all.0
  by false is any rest = rest any

module _ (m : Machine) (has : Named → Bool) (signal : Named → ℕ) (c : Circuit Named Store) (plain : IsPlain signal (store_width m) c)
    (closed : IsClosed same_signal c) (here : AreHere m has c) where
  abbrev Known : Named → Type 0
  Known n = IsKnown signal has n

  abbrev there : Named → Bool
  there n = has_signal same_signal c n

  of_inputs : AllByRecursion (λ i. Known i.0) c.inputs
  of_inputs =
      all_weaker _ (λ i. Known i.0) c.inputs (λ i h. (h.1.0, ap (λ w. nat_lt w (2 ^ 64)) h.0.1 ∙ h.1.1))
      (all_and _ (InputHere m has) c.inputs plain.inputs here.inputs)

  of_wires : AllByRecursion (λ w. Known w.name) c.wires
  of_wires =
      all_weaker _ (λ w. Known w.name) c.wires (λ w h. (h.1.0, ap (λ w. nat_lt w (2 ^ 64)) h.0.wide ∙ h.1.1.0))
      (all_and (IsWrittenWire signal (store_width m)) (WireHere m has) c.wires plain.wires here.wires)

  of_registers : AllByRecursion (λ r. Known r.name) c.registers
  of_registers =
      all_weaker _ (λ r. Known r.name) c.registers (λ r h. (h.1.0, ap (λ w. nat_lt w (2 ^ 64)) h.0.wide ∙ h.1.1.0))
      (all_and (IsWrittenRegister signal (store_width m)) (RegisterHere m has) c.registers plain.registers here.registers)

  -- a signal that the circuit has
  known : (n : Named) → there n ≡ true → Known n
  known n is = by (or_cases (is_input same_signal c.inputs n) _ is) where
    by : (is_input same_signal c.inputs n ≡ true)
        ⊎ ((list_any (λ w. same_signal w.name n) c.wires || list_any (λ r. same_signal r.name n) c.registers) ≡ true) → Known n
    by (inl any) = among (λ i. i.0) Known c.inputs n of_inputs (sym (input_any c.inputs n) ∙ any)
    by (inr any) = at (or_cases (list_any (λ w. same_signal w.name n) c.wires) _ any) where
      at : (list_any (λ w. same_signal w.name n) c.wires ≡ true) ⊎ (list_any (λ r. same_signal r.name n) c.registers ≡ true) → Known n
      at (inl any) = among (λ w. w.name) Known c.wires n of_wires any
      at (inr any) = among (λ r. r.name) Known c.registers n of_registers any

  told_wires : AllByRecursion (λ w. AreSpelled (scope_of has) (wire_tokens w)) c.wires
  told_wires =
      all_weaker _ (λ w. AreSpelled (scope_of has) (wire_tokens w)) c.wires
      (λ w h. (h.0.1.0, (h.0.1.1.0, spelled m signal there has known w.word h.0.1.1.1 h.0.0.word.sized h.1)))
      (all_and _ _ c.wires (all_and (IsWrittenWire signal (store_width m)) (WireHere m has) c.wires plain.wires here.wires) closed.wires)

  told_registers : AllByRecursion (λ r. AreSpelled (scope_of has) (register_tokens r)) c.registers
  told_registers =
      all_weaker _ (λ r. AreSpelled (scope_of has) (register_tokens r)) c.registers
      (λ r h. (
        h.0.1.0,
        (
          h.0.1.1.0,
          all_append (λ t. has_token (scope_of has) t ≡ true) (tokens_in r.enable) (tokens_in r.next)
              (spelled m signal there has known r.enable h.0.1.1.1.0 h.0.0.enable.sized h.1.0)
              (spelled m signal there has known r.next h.0.1.1.1.1 h.0.0.next.sized h.1.1),
        ),
      ))
      (all_and _ _ c.registers (all_and (IsWrittenRegister signal (store_width m)) (RegisterHere m has) c.registers plain.registers here.registers)
      closed.registers)

  -- a write port
  pub port_spelled : (width : ℕ) (p : WritePort Named Store) → PortHere m has p → IsWrittenPort signal (store_width m) width p
      → PortReads there (Some p) → AreSpelled (scope_of has) (port_tokens (Some p))
  port_spelled width p few is reads =
      all_append (λ t. has_token (scope_of has) t ≡ true) (tokens_in p.enable) (tokens_in p.address ++ tokens_in p.word)
      (spelled m signal there has known p.enable few.0 is.enable.sized reads.0)
      (all_append (λ t. has_token (scope_of has) t ≡ true) (tokens_in p.address) (tokens_in p.word)
      (spelled m signal there has known p.address few.1.0 is.address.sized reads.1.0)
      (spelled m signal there has known p.word few.1.1 is.word.sized reads.1.1))

  -- So a text tells it whole, if it tells its memories.
  pub told_whole : (l : Machine) → ((s : Store) → list_any (λ x. same_store x.name s) c.memories ≡ true)
      → AllByRecursion (IsToldMemory (names_of l) (scope_of has)) c.memories
      → IsToldCircuit (names_of l) (scope_of has) same_signal same_store signal (store_width m) c
  told_whole l stores memories = record {
    plain = plain;
    closed = closed;
    stores = λ s is. stores s;
    wires = told_wires;
    registers = told_registers;
    memories = memories;
  }
