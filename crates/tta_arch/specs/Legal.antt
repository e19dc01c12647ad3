-- Which moves a machine can make in one cycle.
use Rattle.std.specs.Prelude.{ℕ, zero, suc, ◌+◌, ◌==◌, Bool, true, false, not, ◌&&◌, ◌||◌, nat_le, List, [], ◌∷◌, length, Option, is_none, slice_get, count_by}
use Rattle.std.specs.Option.{option_map_or}
use Rattle.std.specs.List.{list_any, filter_map}
use Rattle.tta_arch.specs.declared.ends.GuardRef.{GuardRef}
use Rattle.tta_arch.specs.declared.ends.Source.{Source}
use Rattle.tta_arch.specs.declared.ends.Source.TheVariants as source
use Rattle.tta_arch.specs.declared.ends.Dest.{Dest}
use Rattle.tta_arch.specs.declared.ends.Dest.TheVariants as dest
use Rattle.tta_arch.specs.Machine.{Machine}
use Rattle.tta_arch.specs.Joins.{has_bit, joins}

-- a move as a bus carries it
pub record Ends : Type 0 where
  pub guard : Option GuardRef
  pub src : Source
  pub dst : Dest

-- the buses of a cycle, each with its move or none
abbrev pub Slots : Type 0
Slots = List (Option Ends)

-- the moves that there are
abbrev pub ends_of : Slots → List Ends
ends_of slots = filter_map (λ o. o) slots

-- a test of each slot by its bus, from this bus on
abbrev pub all_slots : (ℕ → Option Ends → Bool) → ℕ → Slots → Bool
all_slots test bus [] = true
all_slots test bus (o ∷ os) = test bus o && all_slots test (bus + 1) os

-- a test of each number below n
abbrev pub all_below : (ℕ → Bool) → ℕ → Bool
all_below test zero = true
all_below test (suc n) = test n && all_below test n

-- whether a source is a register of this file
abbrev pub reads_file : ℕ → Source → Bool
reads_file file (source.Reg f i) = f == file
reads_file file s = false

-- whether a source is a register of this immediate unit
abbrev pub reads_imm : ℕ → Source → Bool
reads_imm unit (source.Imm u i) = u == unit
reads_imm unit s = false

-- whether a destination is a register of this file
abbrev pub writes_file : ℕ → Dest → Bool
writes_file file (dest.Reg f i) = f == file
writes_file file d = false

-- whether two moves go into one place: a register, an operand port, a unit's trigger port or control's
abbrev pub same_place : Dest → Dest → Bool
same_place (dest.Reg f i) (dest.Reg g j) = f == g && i == j
same_place (dest.Operand u) (dest.Operand v) = u == v
same_place (dest.Trigger u i) (dest.Trigger v j) = u == v
same_place a b = is_control a && is_control b where
  is_control : Dest → Bool
  is_control dest.Jump = true
  is_control dest.Call = true
  is_control dest.Halt = true
  is_control d = false

-- a bus that a template takes has no move
abbrev pub keeps_taken : (taken : ℕ) → Slots → Bool
keeps_taken taken slots = all_slots (λ bus o. is_none o || not (has_bit taken bus)) 0 slots

-- each move's ends are joined by its bus, with its guard
abbrev pub is_joined : Machine → Slots → Bool
is_joined m slots = all_slots (λ bus o. option_map_or (λ v. joins m bus v.src v.dst v.guard) o true) 0 slots

-- no file is read by more moves than it can be, and no immediate unit by two; guards do not count
abbrev pub has_reads : Machine → Slots → Bool
has_reads m slots =
    all_below (λ f. nat_le (count_by (λ v. reads_file f v.src) (ends_of slots)) (option_map_or (λ q. q.read) (slice_get m.files f) 0)) (length m.files)
    && all_below (λ u. nat_le (count_by (λ v. reads_imm u v.src) (ends_of slots)) 1) (length m.imms)

-- no file is written by more moves than it can be
abbrev pub has_writes : Machine → Slots → Bool
has_writes m slots =
    all_below (λ f. nat_le (count_by (λ v. writes_file f v.dst) (ends_of slots)) (option_map_or (λ q. q.write) (slice_get m.files f) 0)) (length m.files)

-- no two moves go into one place
abbrev pub are_apart : List Ends → Bool
are_apart [] = true
are_apart (v ∷ vs) = not (list_any (λ w. same_place v.dst w.dst) vs) && are_apart vs

-- whether a machine can make these moves in one cycle, while a template takes these buses
unfoldable pub can_move : Machine → (taken : ℕ) → Slots → Bool
can_move m taken slots =
    keeps_taken taken slots && is_joined m slots && has_reads m slots && has_writes m slots && are_apart (ends_of slots)
