-- The text of a machine with its code as a circuit is that of one circuit.
use Rattle.std.proofs.Common.{◌≡◌, ℕ, zero, suc, ◌<◌, ◌≤◌, ◌^◌, Bool, true, false, nat_lt, List, [], ◌∷◌, ◌++◌, length, replicate, refl, sym, ap, subst, ◌∙◌, arith}
use Rattle.std.specs.List.{list_any, AllByRecursion}
use Rattle.std.proofs.lemmas.Bool.{lt-ltb}
use Rattle.std.proofs.lemmas.List.{length-map, length-replicate}
use Rattle.tta_ops.specs.Units.{Units}
use Rattle.tta_arch.specs.Machine.{Machine}
use Rattle.tta_arch.specs.Rules.{IsMachine, same_op}
use Rattle.tta_arch.specs.declared.parts.Op.{Op}
use Rattle.tta_arch.specs.declared.parts.Op.TheVariants.{Stw, Stf}
use Rattle.tta_arch.proofs.Facts.{address_most}
use Rattle.tta_arch.proofs.Widths.{pow_le}
use Rattle.tta_code.specs.declared.code.Code.{Code as Program}
use Rattle.tta_circuit.specs.Circuit.{Memory, Circuit}
use Rattle.tta_circuit.specs.Plain.{IsWrittenMemory, IsPlain}
use Rattle.tta_circuit.specs.Closed.{PortReads, has_signal, IsClosed}
use Rattle.tta_circuit.specs.Laws.{TellsApart}
use Rattle.tta_hardware.specs.Cited.{word_width}
use Rattle.tta_hardware.specs.Signals.{Store, Code, Data, Frame, Signal as Named, same_signal, same_store}
use Rattle.tta_hardware.specs.Hardware.{store_port, code_words, circuit_of}
use Rattle.tta_hardware.specs.Fields.{word_of}
use Rattle.tta_hardware.specs.Sized.{signal_width, store_width}
use Rattle.tta_hardware.proofs.Named.{tells, store_is}
use Rattle.tta_hardware.proofs.Plainly.{circuit_is_plain}
use Rattle.tta_hardware.proofs.ReadsThere.{circuit_is_closed}
use Rattle.tta_hardware.proofs.Kept.{words_kept}
use Rattle.tta_trap.specs.Trap.{trap_circuit}
use Rattle.tta_trap.specs.Sized.{trap_signal_width}
use Rattle.tta_trap.proofs.Widths.{trap_is_plain}
use Rattle.tta_trap.proofs.Closing.{trap_is_closed}
use Rattle.tta_boxed.specs.Boxed.{box_inputs, boxed}
use Rattle.tta_boxed.specs.Sized.{boxed_signal_width}
use Rattle.tta_boxed.specs.Theorem.{whole}
use Rattle.tta_boxed.proofs.Plain.{boxed_is_plain}
use Rattle.tta_boxed.proofs.Closed.{boxed_is_closed}
use Rattle.tta_names.specs.Names.{names_of}
use Rattle.tta_verilog.specs.Spelling.{Scope}
use Rattle.tta_verilog.specs.Laws.{IsToldMemory, IsToldCircuit, AreDeclared}
use Rattle.tta_verilog.specs.Circuits.{parts_text, parts_beside}
use Rattle.tta_verilog.proofs.Words.{all_halves}
use Rattle.tta_list.proofs.Lists.{all_weaker}
use Rattle.tta_verilog.proofs.OneCircuits.{one_circuit, one_circuit_beside}
use Rattle.tta_told.specs.Laws.{IsProgrammed, AreCalledAlike, OneText, OneTrapText, OneBoxedText}
use Rattle.tta_told.proofs.Alike.{as_many, same_names}
use Rattle.tta_told.proofs.RegisterConstants.{enable_narrow, address_narrow, word_narrow}
use Rattle.tta_told.proofs.Spelled.{scope_of}
use Rattle.tta_told.proofs.NamesGood.{are_names}
use Rattle.tta_told.proofs.HasName.{is_named}
use Rattle.tta_told.proofs.Here.{InputHere, AreHere, PortHere, port_spelled, told_whole}
use Rattle.tta_told.proofs.Parts.{own, small, word_short, plain_here, trap_here, shown_here, boxed_here}

tells_store : TellsApart same_store
tells_store = record { is = store_is; itself = itself } where
  itself : (s : Store) → same_store s s ≡ true
  itself Code = refl
  itself Data = refl
  itself Frame = refl

-- words that are below a number, as a test of each
below_test : (most : ℕ) (ws : List ℕ) → AllByRecursion (λ w. w < most) ws → AllByRecursion (λ w. nat_lt w most ≡ true) ws
below_test most [] h = tt
below_test most (w ∷ ws) h = (lt-ltb w most h.0, below_test most ws h.1)

short_test : (ws : List ℕ) → AllByRecursion (λ w. w < 2 ^ 32) ws → AllByRecursion (λ w. nat_lt w (2 ^ 64) ≡ true) ws
short_test [] h = tt
short_test (w ∷ ws) h = let p = h.0 in (lt-ltb w (2 ^ 64) (omega (arith, p)), short_test ws h.1)

zeros_test : (n : ℕ) → AllByRecursion (λ w. nat_lt w (2 ^ 64) ≡ true) (replicate n 0)
zeros_test zero = tt
zeros_test (suc n) = (refl, zeros_test n)

module _ (u : Units) (l m : Machine) (code : Program) (memory : List ℕ) (p : IsProgrammed u m code memory) (has : Named → Bool)
    (wider : (n : Named) → own m n ≡ true → has n ≡ true) where
  abbrev rules : IsMachine m
  rules = p.rules

  abbrev c : Circuit Named Store
  c = circuit_of m code memory

  abbrev scope : Scope Named Store
  scope = scope_of has

  -- ---- memories

  code_many : nat_lt (length (code_words m code)) (2 ^ 64) ≡ true
  code_many =
      let e = length-map code.words (word_of m) in
      let room = p.legal.room in
      let few : 2 ^ m.control.address ≤ 2 ^ 16 = pow_le m.control.address 16 (address_most m rules) in
      small (length (code_words m code)) 65536 (omega (arith, e, room, few)) (omega arith)

  data_many : nat_lt (length memory) (2 ^ 64) ≡ true
  data_many =
      let e = p.many in
      let few = rules.limits.data_words in
      small (length memory) (2 ^ 20) (omega (arith, e, few)) (omega arith)

  frame_many : nat_lt (length {A = ℕ} (replicate m.frame_words 0)) (2 ^ 64) ≡ true
  frame_many =
      let e = length-replicate {A = ℕ} m.frame_words 0 in
      let few = rules.limits.frame_words in
      small (length {A = ℕ} (replicate m.frame_words 0)) 65536 (omega (arith, e, few)) (omega arith)

  code_fits : AllByRecursion (λ w. nat_lt w (2 ^ word_width m) ≡ true) (code_words m code)
  code_fits =
      below_test (2 ^ word_width m) (code_words m code)
      (all_halves (λ w. w < 2 ^ word_width m) (code_words m code) _ (words_kept m code p.legal).narrow).0

  stores_there : (s : Store) → list_any (λ x. same_store x.name s) c.memories ≡ true
  stores_there Code = refl
  stores_there Data = refl
  stores_there Frame = refl

  port_here : (size : ℕ) (test : Op → Bool) → PortHere m has (store_port m size test)
  port_here size test =
      (enable_narrow u m rules p.over size test, (address_narrow u m rules p.over size test, word_narrow u m rules p.over size test))

  -- A circuit with these memories is one that a text tells whole.
  told_with : (signal : Named → ℕ) (d : Circuit Named Store) → d.memories ≡ c.memories → IsPlain signal (store_width m) d
      → IsClosed same_signal d → AreHere m has d → IsToldCircuit (names_of l) scope same_signal same_store signal (store_width m) d
  told_with signal d same plain closed here =
      told_whole m has signal d plain closed here l
      (λ s. ap (λ (xs : List (Memory Named Store)). list_any (λ x. same_store x.name s) xs) same ∙ stores_there s)
      (subst (AllByRecursion (IsToldMemory (names_of l) scope)) (sym same)
      (memories (subst (AllByRecursion (IsWrittenMemory signal (store_width m))) same plain.memories)
      (subst (AllByRecursion (λ (x : Memory Named Store). PortReads (has_signal same_signal d) x.port)) same closed.memories)))
    where
      memories : AllByRecursion (IsWrittenMemory signal (store_width m)) c.memories
          → AllByRecursion (λ (x : Memory Named Store). PortReads (has_signal same_signal d) x.port) c.memories
          → AllByRecursion (IsToldMemory (names_of l) scope) c.memories
      memories written reads = (
        record { tokens = (refl, (word_short u m code memory p has wider, (code_many, tt))); words = code_fits; kept = refl },
        (
          record {
            tokens = (
              refl,
              (
                refl,
                (
                  data_many,
                  port_spelled m has signal d plain closed here 32 (store_port m m.data_words (same_op Stw))
                      (port_here m.data_words (same_op Stw)) written.1.0.port reads.1.0,
                ),
              ),
            );
            words = short_test memory p.words;
            kept = refl;
          },
          (
            record {
              tokens = (
                refl,
                (
                  refl,
                  (
                    frame_many,
                    port_spelled m has signal d plain closed here 32 (store_port m m.frame_words (same_op Stf))
                        (port_here m.frame_words (same_op Stf)) written.1.1.0.port reads.1.1.0,
                  ),
                ),
              );
              words = zeros_test m.frame_words;
              kept = refl;
            },
            tt,
          ),
        ),
      )

  -- ---- the circuits of the machine

  pub told_circuit : IsToldCircuit (names_of l) scope same_signal same_store (signal_width m) (store_width m) c
  told_circuit =
      told_with (signal_width m) c refl (circuit_is_plain m code memory rules).0 (circuit_is_closed m code memory rules)
      (plain_here u m code memory p has wider)

  pub told_trap : IsToldCircuit (names_of l) scope same_signal same_store (trap_signal_width m) (store_width m) (trap_circuit m code memory)
  told_trap =
      told_with (trap_signal_width m) (trap_circuit m code memory) refl (trap_is_plain m code memory rules p.legal).0
      (trap_is_closed m code memory rules) (trap_here u m code memory p has wider)

  whole_here : (faults : Bool) → AreHere m has (whole faults m code memory)
  whole_here true = trap_here u m code memory p has wider
  whole_here false = plain_here u m code memory p has wider

  same_memories : (faults : Bool) → (whole faults m code memory).memories ≡ c.memories
  same_memories true = refl
  same_memories false = refl

  pub told_boxed : (leaves : ℕ → Bool) (faults : Bool)
      → IsToldCircuit (names_of l) scope same_signal same_store (boxed_signal_width m) (store_width m) (boxed m leaves (whole faults m code memory))
  told_boxed leaves faults =
      told_with (boxed_signal_width m) (boxed m leaves (whole faults m code memory)) (same_memories faults)
      (boxed_is_plain m leaves faults code memory rules p.legal).0 (boxed_is_closed m leaves faults code memory rules)
      (boxed_here u m code memory p has wider leaves (whole faults m code memory) (whole_here faults))

  pub declared_shown : (leaves : ℕ → Bool) → AreDeclared scope (box_inputs m leaves)
  declared_shown leaves =
      all_weaker (InputHere m has) _ (box_inputs m leaves) (λ i h. (h.0, (h.1, tt))) (shown_here u m code memory p has wider leaves)

-- what has a name by so many parts has one by as many
as_named : (m n : Machine) → AreCalledAlike m n → (k : Named) → own n k ≡ true → own m k ≡ true
as_named m n alike k is =
    ap (λ b. is_named b (length m.files) (length m.imms) (length m.units) k) (as_many (λ b. b.name) m.buses n.buses alike.buses)
    ∙ ap (λ f. is_named (length n.buses) f (length m.imms) (length m.units) k) (as_many (λ f. f.name) m.files n.files alike.files)
    ∙ ap (λ i. is_named (length n.buses) (length n.files) i (length m.units) k) (as_many (λ i. i.name) m.imms n.imms alike.imms)
    ∙ ap (λ v. is_named (length n.buses) (length n.files) (length n.imms) v k) (as_many (λ v. v.name) m.units n.units alike.units) ∙ is

-- ---- laws

pub one_text : OneText
one_text u m n code other memory other_memory functions p q alike apart is =
    one_circuit Named Store (names_of m) (scope_of (own m)) (are_names m p.rules) same_signal tells same_store tells_store functions apart
    (signal_width m) (signal_width n) (store_width m) (store_width n) (circuit_of m code memory) (circuit_of n other other_memory)
    (told_circuit u m m code memory p (own m) (λ k named. named)) (told_circuit u m n other other_memory q (own m) (as_named m n alike)) refl refl
    (is ∙ sym (ap (λ names. parts_text names functions (circuit_of n other other_memory)) (same_names m n alike)))

pub one_trap_text : OneTrapText
one_trap_text u m n code other memory other_memory functions p q alike apart is =
    one_circuit Named Store (names_of m) (scope_of (own m)) (are_names m p.rules) same_signal tells same_store tells_store functions apart
    (trap_signal_width m) (trap_signal_width n) (store_width m) (store_width n) (trap_circuit m code memory) (trap_circuit n other other_memory)
    (told_trap u m m code memory p (own m) (λ k named. named)) (told_trap u m n other other_memory q (own m) (as_named m n alike)) refl refl
    (is ∙ sym (ap (λ names. parts_text names functions (trap_circuit n other other_memory)) (same_names m n alike)))

pub one_boxed_text : OneBoxedText
one_boxed_text u m n leaves others faults code other memory other_memory functions modules p q alike apart behind is =
    one_circuit_beside Named Store (names_of m) (scope_of (own m)) (are_names m p.rules) same_signal tells same_store tells_store functions modules
    apart behind (boxed_signal_width m) (boxed_signal_width n) (store_width m) (store_width n)
    (boxed m leaves (whole faults m code memory)) (boxed n others (whole faults n other other_memory))
    (circuit_of m code memory).inputs (box_inputs m leaves) (box_inputs n others)
    (told_boxed u m m code memory p (own m) (λ k named. named) leaves faults)
    (told_boxed u m n other other_memory q (own m) (as_named m n alike) others faults)
    (given m code memory leaves faults) (given n other other_memory others faults)
    (declared_shown u m m code memory p (own m) (λ k named. named) leaves)
    (declared_shown u m n other other_memory q (own m) (as_named m n alike) others) (outputs faults)
    (is ∙ sym (ap (λ names. parts_beside names functions (box_inputs n others) modules (boxed n others (whole faults n other other_memory)))
    (same_names m n alike)))
  where
    given : (m : Machine) (code : Program) (memory : List ℕ) (leaves : ℕ → Bool) (faults : Bool)
        → (boxed m leaves (whole faults m code memory)).inputs ≡ (circuit_of m code memory).inputs ++ box_inputs m leaves
    given m code memory leaves true = refl
    given m code memory leaves false = refl

    outputs : (faults : Bool) → (whole faults m code memory).outputs ≡ (whole faults n other other_memory).outputs
    outputs true = refl
    outputs false = refl
