-- What the text of the parts of two circuits tells of each, but for widths within expressions.
use Rattle.std.proofs.Common.{◌≡◌, ℕ, ◌==◌, Bool, true, false, not, List, [], ◌∷◌, ◌++◌, Option, Some, None, refl, sym, ap, ◌∙◌, arith, append_assoc, append-nil}
use Rattle.std.specs.Prelude.{if◌then◌else◌, drop, is_some}
use Rattle.std.specs.List.{flat_map, AllByRecursion}
use Rattle.std.proofs.lemmas.Bool.{and_parts, eqb-true, true≢false, false≢true}
use Rattle.std.proofs.lemmas.List.{append_cancel_left}
use Rattle.tta_circuit.specs.Circuit.{Wire, Register, WritePort, Memory, Circuit}
use Rattle.tta_circuit.specs.Plain.{IsWrittenAt}
use Rattle.tta_verilog.specs.Expressions.{Names}
use Rattle.tta_verilog.specs.Circuits.{wire_line, write_line, register_text, declared, wire_text, memory_text, function_text, array_text, store_text, given_text, parts_beside}
use Rattle.tta_verilog.specs.Spelling.{Scope, AreNames, port_tokens}
use Rattle.tta_verilog.specs.Laws.{AreSpelled, begins_apart, begins_no_wire, begins_behind}
use Rattle.tta_verilog.proofs.Lines.{first, word_alike, range_alike}
use Rattle.tta_verilog.proofs.Memories.{function_text_before}
use Rattle.tta_verilog.proofs.Arrays.{array_text_before}
use Rattle.tta_verilog.proofs.Lists.{Paired, each_alike, each_along}
use Rattle.tta_verilog.proofs.Given.{GivenIs, all_given}
use Rattle.tta_verilog.proofs.Parts.{RegisterIs, WireIs, MemoryIs, LikeRegister, LikeMemory, LikeWire, LikeNext, LikePort, declared_before, declared_alike, memory_alike, wire_alike, next_alike, port_alike, small}

-- whether a text begins as what happens at a clock does, if it begins
abbrev begins_clocked : List ℕ → Bool
begins_clocked [] = true
begins_clocked (b ∷ t) = b == 97

clocked_apart : (t : List ℕ) → begins_clocked t ≡ true → begins_apart t ≡ true
clocked_apart [] h = refl
clocked_apart (b ∷ t) h = ap (λ (k : ℕ). begins_apart (k ∷ t)) (eqb-true b 97 h)

clocked_none : (t : List ℕ) → begins_clocked t ≡ true → begins_no_wire t ≡ true
clocked_none [] h = refl
clocked_none (b ∷ t) h = ap (λ (k : ℕ). begins_no_wire (k ∷ t)) (eqb-true b 97 h)

-- modules before a text that begins as no wire does
no_wire_apart : (modules t : List ℕ) → begins_no_wire modules ≡ true → begins_no_wire t ≡ true → begins_no_wire (modules ++ t) ≡ true
no_wire_apart [] t h k = k
no_wire_apart (b ∷ bs) t h k = h

-- functions before a text that begins apart
functions_apart : (functions t : List ℕ) → begins_apart functions ≡ true → begins_apart t ≡ true → begins_apart (functions ++ t) ≡ true
functions_apart [] t h k = k
functions_apart (b ∷ bs) t h k = h

module _ {N M : Type 0} (names : Names N M) (scope : Scope N M) (good : AreNames names scope) where
  stores_clocked : (ms : List (Memory N M)) → begins_clocked (flat_map (store_text names) ms) ≡ true
  unfolding write_line
  stores_clocked [] = refl
  stores_clocked (m ∷ ms) = by m.port (stores_clocked ms) where
    by : (p : Option (WritePort N M)) → begins_clocked (flat_map (store_text names) ms) ≡ true
        → begins_clocked (store_text names (record m { port = p }) ++ flat_map (store_text names) ms) ≡ true
    by None h = h
    by (Some p) h = refl

  nexts_clocked : (rs : List (Register N M)) (ms : List (Memory N M))
      → begins_clocked (flat_map (register_text names false) rs ++ flat_map (store_text names) ms) ≡ true
  nexts_clocked [] ms = stores_clocked ms
  nexts_clocked (r ∷ rs) ms = refl

  wires_apart : (ws : List (Wire N M)) (t : List ℕ) → begins_apart t ≡ true → begins_apart (flat_map (wire_text names) ws ++ t) ≡ true
  unfolding wire_line
  wires_apart [] t h = h
  wires_apart (w ∷ ws) t h = refl

  -- a memory begins with one of two letters
  no_memory : (x : Memory N M) (t s : List ℕ) → begins_apart s ≡ true → memory_text names x ++ t ≡ s → ⊥
  no_memory x t s apart is = by (names.is_constant x.name) is where
    by : (c : Bool) → (if c then function_text names x else array_text names x) ++ t ≡ s → ⊥
    by true is =
        true≢false (sym apart ∙ ap begins_apart (sym is ∙ function_text_before (names.memory x.name) x.width x.words t))
    by false is =
        true≢false (sym apart ∙ ap begins_apart (sym is ∙ array_text_before (names.memory x.name) x.width x.words t))

  given_apart : (is : List (N × ℕ)) (t : List ℕ) → begins_apart t ≡ true → begins_apart (flat_map (given_text names) is ++ t) ≡ true
  given_apart [] t h = h
  given_apart (i ∷ is) t h = refl

  no_wire : (x : Wire N M) (t s : List ℕ) → begins_no_wire s ≡ true → wire_text names x ++ t ≡ s → ⊥
  unfolding wire_line
  no_wire x t s none is = true≢false (sym none ∙ ap begins_no_wire (sym is))

  module _ (signal other : N → ℕ) (memory other_memory : M → ℕ) where
    -- no register as it is declared is a memory that is written
    no_declared : (x : Register N M) (t : List ℕ) (ms : List (Memory N M)) (s : List ℕ) → RegisterIs names scope good signal memory x
        → AllByRecursion (MemoryIs names scope good other other_memory) ms → begins_apart s ≡ true
        → declared names x ++ t ≡ flat_map (memory_text names) ms ++ s → ⊥
    no_declared x t [] s p all apart is =
        true≢false (sym apart ∙ ap begins_apart (sym is ∙ declared_before names scope good x t))
    no_declared x t (m ∷ ms) s p all apart is =
        by (names.is_constant m.name) (is ∙ append_assoc (memory_text names m) (flat_map (memory_text names) ms) s) where
          by : (c : Bool) → declared names x ++ t
              ≡ (if c then function_text names m else array_text names m) ++ (flat_map (memory_text names) ms ++ s) → ⊥
          by true is =
              let e : 114 ≡ 102 = ap first (sym (declared_before names scope good x t) ∙ is
              ∙ function_text_before (names.memory m.name) m.width m.words (flat_map (memory_text names) ms ++ s)) in
              omega (arith, e)
          by false is =
              let wide = range_alike x.width m.width _ _ p.1.some all.0.1.some (small names scope good x.width p.0.1.0)
              (small names scope good m.width all.0.0.tokens.1.0) (ap (drop 4) (sym (declared_before names scope good x t) ∙ is
              ∙ array_text_before (names.memory m.name) m.width m.words (flat_map (memory_text names) ms ++ s))) in
              let name = word_alike (names.signal x.name) (names.memory m.name) _ _ (good.signals x.name p.0.0)
              (good.memories m.name all.0.0.tokens.0) refl refl wide.1 in
              let e : 59 ≡ 32 = ap first name.1 in
              omega (arith, e)

    -- where memories are written
    store_alike : (x y : Memory N M) (r s : List ℕ) → LikeMemory names scope good x y → MemoryIs names scope good signal memory x
        → MemoryIs names scope good other other_memory y → store_text names x ++ r ≡ store_text names y ++ s
        → LikePort names scope good x.port y.port × (r ≡ s)
    store_alike x y r s like p q is =
        by x.port y.port p.0.tokens.1.1.1 q.0.tokens.1.1.1 p.1.port q.1.port p.0.kept q.0.kept is where
          by : (a b : Option (WritePort N M)) → AreSpelled scope (port_tokens a) → AreSpelled scope (port_tokens b)
              → IsWrittenAt signal memory x.width a → IsWrittenAt other other_memory y.width b
              → names.is_constant x.name ≡ not (is_some a) → names.is_constant y.name ≡ not (is_some b)
              → store_text names (record x { port = a }) ++ r ≡ store_text names (record y { port = b }) ++ s
              → LikePort names scope good a b × (r ≡ s)
          by None None a_tokens b_tokens a_is b_is a_kept b_kept is = (tt, is)
          by None (Some w) a_tokens b_tokens a_is b_is a_kept b_kept is =
              absurd (true≢false (sym a_kept ∙ ap names.is_constant like.0 ∙ b_kept))
          by (Some v) None a_tokens b_tokens a_is b_is a_kept b_kept is =
              absurd (false≢true (sym a_kept ∙ ap names.is_constant like.0 ∙ b_kept))
          by (Some v) (Some w) a_tokens b_tokens a_is b_is a_kept b_kept is =
              port_alike names scope good signal other memory other_memory x y v w r s p q a_tokens b_tokens a_is b_is is

  -- ---- the whole text

  -- What is told of two circuits.
  pub record AreTold (c d : Circuit N M) : Type 0 where
    pub registers : Paired (LikeRegister names scope good) c.registers d.registers
    pub memories : Paired (LikeMemory names scope good) c.memories d.memories
    pub wires : Paired (LikeWire names scope good) c.wires d.wires
    pub nexts : Paired (LikeNext names scope good) c.registers d.registers
    pub ports : Paired (λ x y. LikePort names scope good x.port y.port) c.memories d.memories

  -- What is known of all parts of a circuit.
  pub record PartsAre (signal : N → ℕ) (memory : M → ℕ) (c : Circuit N M) : Type 0 where
    pub registers : AllByRecursion (RegisterIs names scope good signal memory) c.registers
    pub memories : AllByRecursion (MemoryIs names scope good signal memory) c.memories
    pub wires : AllByRecursion (WireIs names scope good signal memory) c.wires

  -- what stands after the modules, after the wires, and after the functions
  abbrev at_clocks : Circuit N M → List ℕ
  at_clocks c = flat_map (register_text names false) c.registers ++ flat_map (store_text names) c.memories

  abbrev after_functions : (shown : List (N × ℕ)) → (modules : List ℕ) → Circuit N M → List ℕ
  after_functions shown modules c =
      flat_map (given_text names) shown ++ (flat_map (wire_text names) c.wires ++ (modules ++ at_clocks c))

  clocks_clocked : (c : Circuit N M) → begins_clocked (at_clocks c) ≡ true
  clocks_clocked c = nexts_clocked c.registers c.memories

  module _ (functions modules : List ℕ) (apart : begins_apart functions ≡ true) (behind : begins_behind modules ≡ true) where
    behind_none : (c : Circuit N M) → begins_no_wire (modules ++ at_clocks c) ≡ true
    behind_none c =
        no_wire_apart modules (at_clocks c) (and_parts (begins_apart modules) (begins_no_wire modules) behind).1
        (clocked_none (at_clocks c) (clocks_clocked c))

    after_apart : (shown : List (N × ℕ)) (c : Circuit N M) → begins_apart (functions ++ after_functions shown modules c) ≡ true
    after_apart shown c =
        functions_apart functions (after_functions shown modules c) apart
        (given_apart shown (flat_map (wire_text names) c.wires ++ (modules ++ at_clocks c))
        (wires_apart c.wires (modules ++ at_clocks c)
        (functions_apart modules (at_clocks c) (and_parts (begins_apart modules) (begins_no_wire modules) behind).0
        (clocked_apart (at_clocks c) (clocks_clocked c)))))

    -- The texts of two circuits tell that they are alike, and which signals the modules show.
    pub told : (signal other : N → ℕ) (memory other_memory : M → ℕ) (c d : Circuit N M) (shown others : List (N × ℕ))
        → PartsAre signal memory c → PartsAre other other_memory d
        → AllByRecursion (GivenIs names scope good) shown → AllByRecursion (GivenIs names scope good) others
        → parts_beside names functions shown modules c ≡ parts_beside names functions others modules d → AreTold c d × (shown ≡ others)
    told signal other memory other_memory c d shown others p q shown_are others_are is =
        let registers = each_alike (register_text names true) (RegisterIs names scope good signal memory) (RegisterIs names scope good other other_memory)
        (LikeRegister names scope good) (declared_alike names scope good signal other memory other_memory) _ _
        (λ x t known e. no_declared signal other memory other_memory x t d.memories (functions ++ after_functions others modules d) known q.memories
        (after_apart others d) e)
        (λ y t known e. no_declared other signal other_memory memory y t c.memories (functions ++ after_functions shown modules c) known p.memories
        (after_apart shown c) e)
        c.registers d.registers p.registers q.registers is in
        let memories = each_alike (memory_text names) (MemoryIs names scope good signal memory) (MemoryIs names scope good other other_memory)
        (LikeMemory names scope good) (memory_alike names scope good signal other memory other_memory) _ _
        (λ x t known e. no_memory x t (functions ++ after_functions others modules d) (after_apart others d) e)
        (λ y t known e. no_memory y t (functions ++ after_functions shown modules c) (after_apart shown c) e)
        c.memories d.memories p.memories q.memories registers.1 in
        let given = all_given names scope good signal other memory other_memory shown others c.wires d.wires (modules ++ at_clocks c)
        (modules ++ at_clocks d) shown_are others_are p.wires q.wires (behind_none c) (behind_none d)
        (append_cancel_left functions _ _ memories.1) in
        let wires = each_alike (wire_text names) (WireIs names scope good signal memory) (WireIs names scope good other other_memory)
        (LikeWire names scope good) (wire_alike names scope good signal other memory other_memory) _ _
        (λ x t known e. no_wire x t (modules ++ at_clocks d) (behind_none d) e)
        (λ y t known e. no_wire y t (modules ++ at_clocks c) (behind_none c) e)
        c.wires d.wires p.wires q.wires given.1 in
        let nexts = each_along (register_text names false) (RegisterIs names scope good signal memory) (RegisterIs names scope good other other_memory)
        (LikeRegister names scope good) (LikeNext names scope good)
        (λ x y r s known a b e. next_alike names scope good signal other memory other_memory x y r s a b e) _ _
        c.registers d.registers registers.0 p.registers q.registers (append_cancel_left modules _ _ wires.1) in
        let ports = each_along (store_text names) (MemoryIs names scope good signal memory) (MemoryIs names scope good other other_memory)
        (LikeMemory names scope good) (λ x y. LikePort names scope good x.port y.port)
        (store_alike signal other memory other_memory) [] []
        c.memories d.memories memories.0 p.memories q.memories
        (append-nil (flat_map (store_text names) c.memories) ∙ nexts.1 ∙ sym (append-nil (flat_map (store_text names) d.memories))) in
        (record { registers = registers.0; memories = memories.0; wires = wires.0; nexts = nexts.0; ports = ports.0 }, given.0)
