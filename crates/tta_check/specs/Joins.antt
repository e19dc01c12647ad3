-- Two abstract states of the same places, joined.
use Rattle.std.specs.Prelude.{◌≡◌, ℕ, max, bit_or, List, [], ◌∷◌, map, length, replicate}
use Rattle.tta_check.specs.declared.state.Kept.{Kept}
use Rattle.tta_check.specs.declared.state.Port.{Port}
use Rattle.tta_check.specs.declared.state.AbstractState.{AbstractState}
use Rattle.tta_check.specs.declared.location.Location.{Location}
use Rattle.tta_check.specs.States.{unwritten, idle, join_cells}

-- what is kept of both
abbrev pub join_kept : Kept → Kept → Kept
join_kept k l = record { at = k.at; cell = join_cells k.cell l.cell }

abbrev pub join_list : List Kept → List Kept → List Kept
join_list [] ls = []
join_list (k ∷ ks) [] = k ∷ ks
join_list (k ∷ ks) (l ∷ ls) = join_kept k l ∷ join_list ks ls

abbrev pub join_port : Port → Port → Port
join_port p q = record { early = max p.early q.early; late = bit_or p.late q.late }

abbrev pub join_ports : List Port → List Port → List Port
join_ports [] qs = []
join_ports (p ∷ ps) [] = p ∷ ps
join_ports (p ∷ ps) (q ∷ qs) = join_port p q ∷ join_ports ps qs

-- abstract states of the same places and as many units
pub record AreAligned (r s : AbstractState) : Type 0 where
  pub places : map (λ k. k.at) r.cells.items ≡ map (λ k. k.at) s.cells.items
  pub units : length r.ports.items ≡ length s.ports.items

-- an abstract state is two others joined
pub record IsJoined (r s both : AbstractState) : Type 0 where
  pub cells : both.cells.items ≡ join_list r.cells.items s.cells.items
  pub ports : both.ports.items ≡ join_ports r.ports.items s.ports.items

-- a location that no walk has written
abbrev pub unwritten_at : Location → Kept
unwritten_at s = record { at = s; cell = unwritten }

-- the first abstract state, of these locations and so many units
pub record IsFirst (locations : List Location) (units : ℕ) (r : AbstractState) : Type 0 where
  pub cells : r.cells.items ≡ map unwritten_at locations
  pub ports : r.ports.items ≡ replicate units idle
