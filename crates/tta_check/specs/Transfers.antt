-- What a cycle makes of an abstract state.
use Rattle.std.specs.Prelude.{◌≡◌, ℕ, ◌+◌, ◌≤◌, Bool, false, List, [], ◌∷◌, Option, Some, None}
use Rattle.std.specs.List.{list_any}
use Rattle.tta_check.specs.Cited.{GuardRef, Machine, Effect, Place, Instruction, effects_of}
use Rattle.tta_arch.specs.Effects.{same_place}
use Rattle.tta_check.specs.declared.state.Kept.{Kept}
use Rattle.tta_check.specs.declared.state.Port.{Port}
use Rattle.tta_check.specs.declared.state.AbstractState.{AbstractState}
use Rattle.tta_check.specs.declared.transfer_function.Transfer.{Transfer}
use Rattle.tta_check.specs.States.{place_of, cell_of, port_of}
use Rattle.tta_check.specs.Steps.{write_into, start_on, cell_from, cell_after, port_after}

-- what is kept of a location after an instruction
abbrev pub kept_after : Machine → Instruction → Transfer → List Kept → Kept → Kept
kept_after m i how ks k = record {
  at = k.at;
  cell = cell_from k.cell ks how.settled (write_into m how.back (place_of k.at) (effects_of m i));
}

-- what is kept of the units from this one on after an instruction
abbrev pub ports_after : Machine → Instruction → Transfer → (unit : ℕ) → List Port → List Port
ports_after m i how unit [] = []
ports_after m i how unit (p ∷ ps) = port_after how.settled (start_on m unit (effects_of m i)) p ∷ ports_after m i how (unit + 1) ps

-- each result that an instruction starts shows after 1 to 16 cycles
abbrev pub have_latency : Machine → Instruction → Type 0
have_latency m i = (unit : ℕ) (s : Option GuardRef × ℕ) → start_on m unit (effects_of m i) ≡ Some s → (1 ≤ s.1) × (s.1 ≤ 16)

-- What an abstract state is after the effects of an instruction: each place and each unit by itself.
pub record IsAfter (m : Machine) (how : Transfer) (es : List Effect) (old new : AbstractState) : Type 0 where
  pub cells : (p : Place) → cell_of new.cells.items p ≡ cell_after old.cells.items how.settled (write_into m how.back p es) p
  pub ports : (unit : ℕ) → port_of new.ports.items unit ≡ port_after how.settled (start_on m unit es) (port_of old.ports.items unit)

-- whether a place is one of those of an abstract state
abbrev pub is_listed : List Kept → Place → Bool
is_listed ks p = list_any (λ k. same_place (place_of k.at) p) ks

-- an abstract state lists each place that effects write
abbrev pub Lists : Machine → (back : ℕ) → List Effect → List Kept → Type 0
Lists m back es ks = (p : Place) → is_listed ks p ≡ false → write_into m back p es ≡ None
