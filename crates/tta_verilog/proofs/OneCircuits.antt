-- The text of the parts of a circuit is that of one circuit.
use Rattle.std.proofs.Common.{◌≡◌, ℕ, ◌<◌, Bool, true, ◌||◌, List, [], ◌∷◌, ◌++◌, Option, Some, None, ◌⊎◌, inl, inr, refl, sym, ap, subst, ◌∙◌, append-nil}
use Rattle.std.specs.List.{list_any, AllByRecursion}
use Rattle.std.proofs.lemmas.Bool.{or_cases}
use Rattle.tta_list.proofs.Lists.{all_weaker}
use Rattle.tta_circuit.specs.Circuit.{Expr, Wire, Register, WritePort, Memory, Circuit}
use Rattle.tta_circuit.specs.Meaning.{is_input}
use Rattle.tta_circuit.specs.Plain.{IsWritten, IsWrittenAt}
use Rattle.tta_circuit.specs.Closed.{reads_only, PortReads, has_signal}
use Rattle.tta_circuit.specs.Laws.{TellsApart}
use Rattle.tta_verilog.specs.Expressions.{Names}
use Rattle.tta_verilog.specs.Spelling.{Scope, AreNames, tokens_in, port_tokens, has_token}
use Rattle.tta_verilog.specs.Laws.{AreSpelled, IsToldCircuit, OneCircuit, OneCircuitBeside}
use Rattle.tta_verilog.proofs.Words.{all_halves}
use Rattle.tta_verilog.proofs.Bare.{bare}
use Rattle.tta_verilog.proofs.OneExpressions.{same_sized}
use Rattle.tta_verilog.proofs.Lists.{Paired, all_and, one_list, paired_and}
use Rattle.tta_verilog.proofs.Parts.{RegisterIs, WireIs, MemoryIs, LikeRegister, LikeMemory, LikeWire, LikeNext, LikePort}
use Rattle.tta_verilog.proofs.Agreeing.{input_agrees, item_agrees, all_agree}
use Rattle.tta_verilog.proofs.Told.{AreTold, PartsAre, told}

-- what follows of each two items of lists that are alike
paired_taken : {X : Type 0} {A B : X → X → Type 0} → ((x y : X) → A x y → B x y) → (xs ys : List X) → Paired A xs ys → Paired B xs ys
paired_taken f [] [] h = tt
paired_taken f [] (y ∷ ys) h = absurd h
paired_taken f (x ∷ xs) [] h = absurd h
paired_taken f (x ∷ xs) (y ∷ ys) h = (f x y h.0, paired_taken f xs ys h.1)

module _ {N M : Type 0} (names : Names N M) (scope : Scope N M) (good : AreNames names scope) (has : N → Bool) (signal other : N → ℕ)
    (memory other_memory : M → ℕ) (signals : (n : N) → has n ≡ true → other n ≡ signal n)
    (memories : (m : M) → scope.memory m ≡ true → other_memory m ≡ memory m) where
  -- two expressions that are one but for widths
  one_word : (e f : Expr N M) (v w : ℕ) → IsWritten signal memory e v → IsWritten other other_memory f w → reads_only has e ≡ true
      → AreSpelled scope (tokens_in e) → bare e ≡ bare f → e ≡ f
  one_word e f v w p q reads tokens is =
      same_sized signal memory other other_memory e f p.sized q.sized
      (all_agree scope has signal other memory other_memory signals memories e reads tokens) is

  abbrev pub WireHere : Wire N M → Type 0
  WireHere x = WireIs names scope good signal memory x × (reads_only has x.word ≡ true)

  pub one_wire : (x y : Wire N M) → LikeWire names scope good x y → WireHere x → WireIs names scope good other other_memory y → x ≡ y
  one_wire x y like p q =
      let word = one_word x.word y.word x.width y.width p.0.1.word q.1.word p.1 p.0.0.1.1 like.2 in
      λ i. record { name = like.0 i; width = like.1 i; word = word i }

  abbrev pub RegisterHere : Register N M → Type 0
  RegisterHere x = RegisterIs names scope good signal memory x × ((reads_only has x.enable ≡ true) × (reads_only has x.next ≡ true))

  pub one_register : (x y : Register N M) → (LikeRegister names scope good x y × LikeNext names scope good x y) → RegisterHere x
      → RegisterIs names scope good other other_memory y → x ≡ y
  one_register x y like p q =
      let t = all_halves (λ t. has_token scope t ≡ true) (tokens_in x.enable) (tokens_in x.next) p.0.0.1.1 in
      let enable = one_word x.enable y.enable 1 1 p.0.1.enable q.1.enable p.1.0 t.0 like.1.0 in
      let next = one_word x.next y.next x.width y.width p.0.1.next q.1.next p.1.1 t.1 like.1.1 in
      λ i. record { name = like.0.0 i; width = like.0.1 i; enable = enable i; next = next i }

  one_port : (v w : ℕ) (a b : Option (WritePort N M)) → LikePort names scope good a b → IsWrittenAt signal memory v a
      → IsWrittenAt other other_memory w b → PortReads has a → AreSpelled scope (port_tokens a) → a ≡ b
  one_port v w None None like p q reads tokens = refl
  one_port v w None (Some b) like p q reads tokens = absurd like
  one_port v w (Some a) None like p q reads tokens = absurd like
  one_port v w (Some a) (Some b) like p q reads tokens =
      let t = all_halves (λ t. has_token scope t ≡ true) (tokens_in a.enable) (tokens_in a.address ++ tokens_in a.word) tokens in
      let u = all_halves (λ t. has_token scope t ≡ true) (tokens_in a.address) (tokens_in a.word) t.1 in
      let enable = one_word a.enable b.enable 1 1 p.enable q.enable reads.0 t.0 like.0 in
      let address = one_word a.address b.address _ _ p.address q.address reads.1.0 u.0 like.1 in
      let word = one_word a.word b.word v w p.word q.word reads.1.1 u.1 like.2 in
      λ i. Some (record { enable = enable i; address = address i; word = word i })

  abbrev pub MemoryHere : Memory N M → Type 0
  MemoryHere x = MemoryIs names scope good signal memory x × PortReads has x.port

  pub one_memory : (x y : Memory N M) → (LikeMemory names scope good x y × LikePort names scope good x.port y.port) → MemoryHere x
      → MemoryIs names scope good other other_memory y → x ≡ y
  one_memory x y like p q =
      let port = one_port x.width y.width x.port y.port like.1 p.0.1.port q.1.port p.1 p.0.0.tokens.1.1.1 in
      λ i. record { name = like.0.0 i; width = like.0.1 i; words = like.0.2 i; port = port i }

-- what is known of the parts of a circuit that a text tells whole
all_parts : {N M : Type 0} (names : Names N M) (scope : Scope N M) (good : AreNames names scope) (same : N → N → Bool)
    (same_memory : M → M → Bool) (signal : N → ℕ) (memory : M → ℕ) (c : Circuit N M)
    → IsToldCircuit names scope same same_memory signal memory c → PartsAre names scope good signal memory c
all_parts names scope good same same_memory signal memory c p = record {
  registers = all_and _ _ c.registers p.registers p.plain.registers;
  memories = all_and _ _ c.memories p.memories p.plain.memories;
  wires = all_and _ _ c.wires p.wires p.plain.wires;
}

-- how wide the last inputs are
widths_after : {N : Type 0} (signal : N → ℕ) (inputs given shown : List (N × ℕ)) → inputs ≡ given ++ shown
    → AllByRecursion (λ i. (0 < i.1) × (signal i.0 ≡ i.1)) inputs → AllByRecursion (λ i. 0 < i.1) shown
widths_after signal inputs given shown is all =
    all_weaker _ _ shown (λ i h. h.0)
    (all_halves (λ i. (0 < i.1) × (signal i.0 ≡ i.1)) given shown (subst (AllByRecursion (λ i. (0 < i.1) × (signal i.0 ≡ i.1))) is all)).1

module _ {N M : Type 0} (names : Names N M) (scope : Scope N M) (good : AreNames names scope) (same : N → N → Bool) (tells : TellsApart same)
    (same_memory : M → M → Bool) (tells_memory : TellsApart same_memory) (signal other : N → ℕ) (memory other_memory : M → ℕ)
    (c d : Circuit N M) (p : IsToldCircuit names scope same same_memory signal memory c)
    (q : IsToldCircuit names scope same same_memory other other_memory d) (inputs : c.inputs ≡ d.inputs) where
  of_c : PartsAre names scope good signal memory c
  of_c = all_parts names scope good same same_memory signal memory c p

  of_d : PartsAre names scope good other other_memory d
  of_d = all_parts names scope good same same_memory other other_memory d q

  module _ (t : AreTold names scope good c d) where
    -- a signal of the circuits has one width in both
    agrees : (n : N) → has_signal same c n ≡ true → other n ≡ signal n
    agrees n h = by (or_cases (is_input same c.inputs n) _ h) where
      by : (is_input same c.inputs n ≡ true)
          ⊎ ((list_any (λ w. same w.name n) c.wires || list_any (λ r. same r.name n) c.registers) ≡ true) → other n ≡ signal n
      by (inl h) =
          input_agrees same tells signal other n c.inputs p.plain.inputs
          (subst (λ is. AllByRecursion (λ i. (0 < i.1) × (other i.0 ≡ i.1)) is) (sym inputs) q.plain.inputs) h
      by (inr h) = at (or_cases (list_any (λ w. same w.name n) c.wires) _ h) where
        at : (list_any (λ w. same w.name n) c.wires ≡ true) ⊎ (list_any (λ r. same r.name n) c.registers ≡ true) → other n ≡ signal n
        at (inl h) =
            item_agrees same tells signal other (λ w. w.name) (λ w. w.width) n c.wires d.wires
            (paired_taken (λ x y like. (like.0, like.1)) c.wires d.wires t.wires) (all_weaker _ _ c.wires (λ x is. is.wide) p.plain.wires)
            (all_weaker _ _ d.wires (λ x is. is.wide) q.plain.wires) h
        at (inr h) =
            item_agrees same tells signal other (λ r. r.name) (λ r. r.width) n c.registers d.registers t.registers
            (all_weaker _ _ c.registers (λ x is. is.wide) p.plain.registers) (all_weaker _ _ d.registers (λ x is. is.wide) q.plain.registers) h

    -- and so has a memory
    memory_agrees : (m : M) → scope.memory m ≡ true → other_memory m ≡ memory m
    memory_agrees m h =
        item_agrees same_memory tells_memory memory other_memory (λ x. x.name) (λ x. x.width) m c.memories d.memories
        (paired_taken (λ x y like. (like.0, like.1)) c.memories d.memories t.memories) (all_weaker _ _ c.memories (λ x is. is.wide) p.plain.memories)
        (all_weaker _ _ d.memories (λ x is. is.wide) q.plain.memories) (p.stores m h)

    all_one : c.outputs ≡ d.outputs → c ≡ d
    all_one outputs =
        let has : N → Bool = has_signal same c in
        let wires = one_list _ (WireHere names scope good has signal other memory other_memory agrees memory_agrees)
        (WireIs names scope good other other_memory)
        (one_wire names scope good has signal other memory other_memory agrees memory_agrees)
        c.wires d.wires t.wires (all_and _ _ c.wires of_c.wires p.closed.wires) of_d.wires in
        let registers = one_list _ (RegisterHere names scope good has signal other memory other_memory agrees memory_agrees)
        (RegisterIs names scope good other other_memory)
        (one_register names scope good has signal other memory other_memory agrees memory_agrees)
        c.registers d.registers (paired_and _ _ c.registers d.registers t.registers t.nexts)
        (all_and _ _ c.registers of_c.registers p.closed.registers) of_d.registers in
        let stores = one_list _ (MemoryHere names scope good has signal other memory other_memory agrees memory_agrees)
        (MemoryIs names scope good other other_memory)
        (one_memory names scope good has signal other memory other_memory agrees memory_agrees)
        c.memories d.memories (paired_and _ _ c.memories d.memories t.memories t.ports)
        (all_and _ _ c.memories of_c.memories p.closed.memories) of_d.memories in
        λ i. record { inputs = inputs i; wires = wires i; registers = registers i; memories = stores i; outputs = outputs i }

pub one_circuit_beside : (N M : Type 0) → OneCircuitBeside N M
one_circuit_beside N M names scope good same tells same_memory tells_memory functions modules apart behind signal other memory other_memory c d
    given shown others p q c_inputs d_inputs shown_are others_are outputs is =
    let parts = told names scope good functions modules apart behind signal other memory other_memory c d shown others
    (all_parts names scope good same same_memory signal memory c p) (all_parts names scope good same same_memory other other_memory d q)
    (all_and _ _ shown shown_are (widths_after signal c.inputs given shown c_inputs p.plain.inputs))
    (all_and _ _ others others_are (widths_after other d.inputs given others d_inputs q.plain.inputs)) is in
    all_one names scope good same tells same_memory tells_memory signal other memory other_memory c d p q
    (c_inputs ∙ ap (λ is. given ++ is) parts.1 ∙ sym d_inputs) parts.0 outputs

-- Without modules beside them there are no signals that modules show.
pub one_circuit : (N M : Type 0) → OneCircuit N M
one_circuit N M names scope good same tells same_memory tells_memory functions apart signal other memory other_memory c d p q inputs outputs is =
    one_circuit_beside N M names scope good same tells same_memory tells_memory functions [] apart refl signal other memory other_memory c d
    c.inputs [] [] p q (sym (append-nil c.inputs)) (sym inputs ∙ sym (append-nil c.inputs)) tt tt outputs is
