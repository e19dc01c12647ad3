-- What the moves of a cycle read and bring, as it is carried out on what is held.
use Rattle.std.specs.Prelude.{ℕ, ◌≤◌, Bool, true, ◌&&◌, ◌||◌, nat_lt, List, map, Option, Some, option_map, length, IsTrue}
use Rattle.std.specs.Option.{option_map_or}
use Rattle.std.specs.List.{filter_map, AllByRecursion}
use Rattle.tta_sim.specs.Cited.{GuardRef, Source, Dest, KeptReg, KeptImm, KeptOperand, KeptRa, Effect, Brought, Reads, target_of, moved, is_register, has_unset_guard, has_unset, Machine, Move, Instruction, effect_of}
use Rattle.tta_arch.specs.declared.ends.Source.TheVariants as source
use Rattle.tta_arch.specs.declared.ends.Dest.TheVariants as dest
use Rattle.tta_sim.specs.Places.{is_place, word_at}

-- ---- which moves a run can make

-- a source that is there where there are `units` units
abbrev pub is_readable : (units : ℕ) → Source → Bool
is_readable units (source.Reg file index) = is_place (KeptReg file index)
is_readable units (source.Imm unit index) = is_place (KeptImm unit index)
is_readable units (source.Shown unit) = nat_lt unit units
is_readable units source.Ra = true
is_readable units (source.Value word) = true

-- a destination that is there
abbrev pub is_reachable : (units : ℕ) → Dest → Bool
is_reachable units (dest.Reg file index) = is_place (KeptReg file index)
is_reachable units (dest.Operand unit) = is_place (KeptOperand unit)
is_reachable units (dest.Trigger unit op) = nat_lt unit units
is_reachable units dest.Jump = true
is_reachable units dest.Call = true
is_reachable units dest.Halt = true

-- a guard whose register is there
abbrev pub is_askable : Option GuardRef → Bool
is_askable guard = option_map_or (λ g. is_place (KeptReg g.file g.index)) guard true

-- a move whose ends are there
abbrev pub is_possible : (units : ℕ) → Move → Bool
is_possible units v = is_askable v.guard && (is_readable units v.src && is_reachable units v.dst)

-- a slot that is empty or has such a move
abbrev pub is_possible_slot : (units : ℕ) → Option Move → Bool
is_possible_slot units slot = option_map_or (is_possible units) slot true

-- ---- what they read

-- the word of each source
abbrev pub reads_of : (places : List (Option ℕ)) → (shown : ℕ → Option ℕ) → Reads
reads_of places shown (source.Reg file index) = word_at places (KeptReg file index)
reads_of places shown (source.Imm unit index) = word_at places (KeptImm unit index)
reads_of places shown (source.Shown unit) = shown unit
reads_of places shown source.Ra = word_at places KeptRa
reads_of places shown (source.Value word) = Some word

-- whether a move lacks a word that was never written
abbrev pub lacks_register : Reads → Effect → Bool
lacks_register reads e = has_unset_guard reads e || has_unset reads is_register e

-- the moves that there are in some slots, as effects
abbrev pub effects_in : List (Option Move) → List Effect
effects_in slots = map effect_of (filter_map (λ o. o) slots)

-- ---- what they bring

-- a word that a move brings, with the destination
pub record Arrival : Type 0 where
  pub dst : Dest
  pub word : ℕ

-- the word that a move brings
abbrev pub arrival_of : Reads → Move → Option Arrival
arrival_of reads v = option_map (λ word. record { dst = v.dst; word = word }) (moved reads (effect_of v))

-- what the moves of some slots bring
abbrev pub arrivals_of : Reads → List (Option Move) → List Arrival
arrivals_of reads slots = filter_map (arrival_of reads) (filter_map (λ o. o) slots)

-- an arrival as a target and a word
abbrev pub brought_of : Arrival → Brought
brought_of a = (target_of a.dst, a.word)

-- An instruction whose moves have ends that are there, no more of them than a machine can have buses.
pub record IsPossible (m : Machine) (i : Instruction) : Type 0 where
  pub few : length i.moves ≤ 16
  pub slots : AllByRecursion (λ slot. IsTrue (is_possible_slot (length m.units) slot)) i.moves
  pub units : length m.units ≤ 32
