-- A text is that of one circuit.
use Rattle.std.specs.Prelude.{◌≡◌, ℕ, ◌^◌, ◌==◌, Bool, true, not, ◌||◌, ◌&&◌, nat_lt, if◌then◌else◌, List, [], ◌∷◌, ◌++◌, is_some}
use Rattle.std.specs.List.{list_any, AllByRecursion}
use Rattle.tta_circuit.specs.Circuit.{Expr, Memory, Circuit}
use Rattle.tta_circuit.specs.Widths.{is_sized}
use Rattle.tta_circuit.specs.Plain.{is_plain, IsPlain}
use Rattle.tta_circuit.specs.Closed.{IsClosed}
use Rattle.tta_circuit.specs.Laws.{TellsApart}
use Rattle.tta_verilog.specs.Expressions.{Names, expression}
use Rattle.tta_verilog.specs.Circuits.{parts_text, parts_beside}
use Rattle.tta_verilog.specs.Spelling.{Token, SignalName, Number, Scope, tokens_in, wire_tokens, register_tokens, memory_tokens, has_token, AreNames}

-- tokens that a text can spell
abbrev pub AreSpelled : {N M : Type 0} → Scope N M → List (Token N M) → Type 0
AreSpelled scope ts = AllByRecursion (λ t. has_token scope t ≡ true) ts

-- ---- expressions

-- An expression that a text tells whole: it keeps the widths of signals and memories, its parts are parts of signals, and its names and
-- numbers are spelled.
pub record IsTold {N M : Type 0} (scope : Scope N M) (signal : N → ℕ) (memory : M → ℕ) (e : Expr N M) : Type 0 where
  pub sized : is_sized signal memory e ≡ true
  pub plain : is_plain signal memory e ≡ true
  pub tokens : AreSpelled scope (tokens_in e)

-- A text is that of at most one expression.
abbrev pub OneExpression : (N M : Type 0) → Type 0
OneExpression N M =
    (names : Names N M) (scope : Scope N M) → AreNames names scope → (signal : N → ℕ) (memory : M → ℕ) (e f : Expr N M)
    → IsTold scope signal memory e → IsTold scope signal memory f → expression names e ≡ expression names f → e ≡ f

-- ---- circuits

-- whether a text tells a word that a memory begins with: where the memory keeps its words, each of its bits stands there, and else a number
abbrev pub is_told_word : {N M : Type 0} → Names N M → Memory N M → (word : ℕ) → Bool
is_told_word names x word = nat_lt word (2 ^ (if names.is_constant x.name then x.width else 64))

-- A memory that a text tells whole: its name says whether it is written.
pub record IsToldMemory {N M : Type 0} (names : Names N M) (scope : Scope N M) (x : Memory N M) : Type 0 where
  pub tokens : AreSpelled scope (memory_tokens x)
  pub words : AllByRecursion (λ w. is_told_word names x w ≡ true) x.words
  pub kept : names.is_constant x.name ≡ not (is_some x.port)

-- A circuit that a text tells whole, where these are the widths of signals and memories: it is plain, reads only signals that it has, has
-- the memories that have names, and its names and numbers are spelled.
pub record IsToldCircuit {N M : Type 0} (names : Names N M) (scope : Scope N M) (same : N → N → Bool) (same_memory : M → M → Bool)
    (signal : N → ℕ) (memory : M → ℕ) (c : Circuit N M) : Type 0 where
  pub plain : IsPlain signal memory c
  pub closed : IsClosed same c
  pub stores : (m : M) → scope.memory m ≡ true → list_any (λ x. same_memory x.name m) c.memories ≡ true
  pub wires : AllByRecursion (λ w. AreSpelled scope (wire_tokens w)) c.wires
  pub registers : AllByRecursion (λ r. AreSpelled scope (register_tokens r)) c.registers
  pub memories : AllByRecursion (IsToldMemory names scope) c.memories

-- whether a text begins as neither a register nor a memory does: those begin with `r` or `f`
abbrev pub begins_apart : List ℕ → Bool
begins_apart [] = true
begins_apart (b ∷ bs) = not (b == 114 || b == 102)

-- The text of the parts of a circuit, with these functions of its operations, is that of at most one circuit with these inputs and outputs,
-- which the text does not show: it tells all wires in their order, registers, memories with the words that they begin with, and where those
-- are written.
abbrev pub OneCircuit : (N M : Type 0) → Type 0
OneCircuit N M =
    (names : Names N M) (scope : Scope N M) → AreNames names scope → (same : N → N → Bool) → TellsApart same
    → (same_memory : M → M → Bool) → TellsApart same_memory → (functions : List ℕ) → begins_apart functions ≡ true
    → (signal other : N → ℕ) (memory other_memory : M → ℕ) (c d : Circuit N M)
    → IsToldCircuit names scope same same_memory signal memory c → IsToldCircuit names scope same same_memory other other_memory d
    → c.inputs ≡ d.inputs → c.outputs ≡ d.outputs → parts_text names functions c ≡ parts_text names functions d → c ≡ d

-- ---- circuits with modules beside them

-- whether a text begins as no wire does: those begin with `w`
abbrev pub begins_no_wire : List ℕ → Bool
begins_no_wire [] = true
begins_no_wire (b ∷ bs) = not (b == 119)

-- whether it begins as no register, no memory and no wire does
abbrev pub begins_behind : List ℕ → Bool
begins_behind t = begins_apart t && begins_no_wire t

-- signals that a circuit is given, whose names and widths are spelled
abbrev pub AreDeclared : {N M : Type 0} → Scope N M → List (N × ℕ) → Type 0
AreDeclared scope is = AllByRecursion (λ i. AreSpelled scope (SignalName i.0 ∷ Number i.1 ∷ [])) is

-- The same of circuits with modules beside them: of their inputs the text shows those that modules drive, which are the last of them.
abbrev pub OneCircuitBeside : (N M : Type 0) → Type 0
OneCircuitBeside N M =
    (names : Names N M) (scope : Scope N M) → AreNames names scope → (same : N → N → Bool) → TellsApart same
    → (same_memory : M → M → Bool) → TellsApart same_memory → (functions modules : List ℕ)
    → begins_apart functions ≡ true → begins_behind modules ≡ true
    → (signal other : N → ℕ) (memory other_memory : M → ℕ) (c d : Circuit N M) (given shown others : List (N × ℕ))
    → IsToldCircuit names scope same same_memory signal memory c → IsToldCircuit names scope same same_memory other other_memory d
    → c.inputs ≡ given ++ shown → d.inputs ≡ given ++ others → AreDeclared scope shown → AreDeclared scope others
    → c.outputs ≡ d.outputs → parts_beside names functions shown modules c ≡ parts_beside names functions others modules d → c ≡ d
