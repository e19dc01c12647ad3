-- Circuits that read only signals that they have, and have each once.
use Rattle.std.specs.Prelude.{◌≡◌, Bool, true, not, ◌&&◌, ◌||◌, if◌then◌else◌, List, [], ◌∷◌, ◌++◌, map, Option, None, Some, ⊤}
use Rattle.std.specs.List.{list_any, AllByRecursion}
use Rattle.tta_circuit.specs.Circuit.{Expr, WritePort, Circuit}
use Rattle.tta_circuit.specs.Meaning.{is_input}
use Rattle.tta_circuit.specs.Order.{reads_below}

module _ {N M : Type 0} where
  -- whether an expression reads only signals that pass a test
  abbrev pub reads_only : (N → Bool) → Expr N M → Bool
  reads_only has e = reads_below (λ n. if has n then 0 else 1) 1 e

  -- the same of all expressions of a port, where there is one
  abbrev pub PortReads : (N → Bool) → Option (WritePort N M) → Type 0
  PortReads has None = ⊤
  PortReads has (Some p) = (reads_only has p.enable ≡ true) × ((reads_only has p.address ≡ true) × (reads_only has p.word ≡ true))

  -- whether a circuit has a signal: an input, a wire or a register
  abbrev pub has_signal : (same : N → N → Bool) → Circuit N M → N → Bool
  has_signal same c n = is_input same c.inputs n || (list_any (λ w. same w.name n) c.wires || list_any (λ r. same r.name n) c.registers)

  -- A circuit all of whose expressions read only signals that it has.
  pub record IsClosed (same : N → N → Bool) (c : Circuit N M) : Type 0 where
    pub wires : AllByRecursion (λ w. reads_only (has_signal same c) w.word ≡ true) c.wires
    pub registers : AllByRecursion
        (λ r. (reads_only (has_signal same c) r.enable ≡ true) × (reads_only (has_signal same c) r.next ≡ true)) c.registers
    pub memories : AllByRecursion (λ x. PortReads (has_signal same c) x.port) c.memories

-- whether no two of some names are one
abbrev pub are_apart : {N : Type 0} → (same : N → N → Bool) → List N → Bool
are_apart same [] = true
are_apart same (x ∷ xs) = not (list_any (same x) xs) && are_apart same xs

-- all signals of a circuit: its inputs, its wires and its registers
abbrev pub signals_of : {N M : Type 0} → Circuit N M → List N
signals_of c = map (λ i. i.0) c.inputs ++ map (λ w. w.name) c.wires ++ map (λ r. r.name) c.registers
