-- What is noted of each place on the way down a list, by the number of the place.
use Rattle.std.specs.Prelude.{◌≡◌, ◌<◌, ◌==◌, ℕ, Bool, true, false, not, ◌&&◌, nat_le, nat_lt, if◌then◌else◌, List, [], ◌∷◌, length, Option, Some, None, option_map, option_and_then, slice_get, slice_set}
use Rattle.std.specs.Option.{option_map_or}
use Rattle.std.specs.List.{list_all}
use Rattle.tta_optim.specs.Cited.{GuardRef, Dest, Machine, KeptReg, KeptOperand, ItemSource, Port, Item, Move, Long, guard_of, source_of, target_of_item, guard_place, place_of_source, place_written, is_unguarded, place_number, sure_source, is_port_source, is_wide_file, same_source, register_of, joined}
use Rattle.tta_arch.specs.declared.ends.Source.TheVariants as source
use Rattle.tta_arch.specs.declared.ends.Dest.TheVariants as dest
use Rattle.tta_optim.specs.declared.notes.Note.{Note}
use Rattle.tta_optim.specs.declared.notes.Entry.{Entry}

-- a place before the list
abbrev pub blank : Note
blank = record { at = 0; from = None }

-- what an entry says on the way down a list: nothing, where it is of another
abbrev pub note_in : (list : ℕ) → Entry → Note
note_in list e = if e.list == list then e.note else blank

-- The stamps of a table that serves one list after another, one for each place: lists are counted from 1, and no stamp is
-- of a list that is still to come.
pub record AreStamps (list : ℕ) (stamps : List ℕ) : Type 0 where
  pub some : 0 < list
  pub size : length stamps ≡ 641
  pub past : list_all (λ s. nat_le s list) stamps ≡ true

-- which item last wrote a place
abbrev pub since : List Note → Option ℕ → ℕ
since notes None = 0
since notes (Some place) = option_map_or (λ n. n.at) (slice_get notes place) 0

-- the source of a note, where what it is was not written since
abbrev pub still : List Note → (at : ℕ) → ItemSource → Option ItemSource
still notes at s = if nat_le (since notes (option_map place_number (place_of_source s))) at then Some s else None

-- the source whose word a place still has
abbrev pub copied_by : List Note → (place : ℕ) → Option ItemSource
copied_by notes place = option_and_then (λ n. option_and_then (still notes n.at) n.from) (slice_get notes place)

-- the notes with one item more
abbrev pub noted : Machine → List Note → (at : ℕ) → Item → List Note
noted m notes at x =
    option_map_or (λ place. slice_set notes place (record { at = at; from = sure_source x }))
    (option_map place_number (place_written m (target_of_item x))) notes

-- ---- bypassing, by the notes

-- the result port that still shows what a source has
abbrev pub shown_by : Machine → List Note → ItemSource → Option ItemSource
shown_by m notes src = on src where
  on : ItemSource → Option ItemSource
  on (Port (source.Reg file index)) =
      if is_wide_file m file then option_and_then (λ s. if is_port_source s then Some s else None) (copied_by notes (place_number (KeptReg file index))) else None
  on s = None

-- the result port that a move can read in place of its source
abbrev pub port_by : Machine → List Note → Option GuardRef → ItemSource → Dest → Option ItemSource
port_by m notes guard src dst = option_and_then (λ port. if joined m port dst guard then Some port else None) (shown_by m notes src)

-- an item that reads the result port that it could read
abbrev pub bypassed_by : Machine → List Note → Item → Item
bypassed_by m notes (Move guard src dst) = option_map_or (λ port. Move guard port dst) (port_by m notes guard src dst) (Move guard src dst)
bypassed_by m notes (Long unit index value) = Long unit index value

-- ---- sharing, by the notes

-- a move brings an operand port the word that it has already from the same source
abbrev pub redundant_by : List Note → Item → Bool
redundant_by notes (Move guard src (dest.Operand unit)) = option_map_or (same_source src) (copied_by notes (place_number (KeptOperand unit))) false
redundant_by notes x = false

-- ---- dead writes, by whether each place is wanted

-- whether the place of a number is wanted
abbrev pub wanted_at : List Bool → ℕ → Bool
wanted_at wanted place = option_map_or (λ b. b) (slice_get wanted place) false

-- an item writes a register or an immediate register that is not wanted
abbrev pub dead_by : List Bool → Item → Bool
dead_by wanted x = option_map_or (λ place. not (wanted_at wanted place)) (option_map place_number (register_of (target_of_item x))) false

-- the place of a number, if there is one, is wanted or not
abbrev pub set_wanted : List Bool → Option ℕ → Bool → List Bool
set_wanted wanted o b = option_map_or (λ place. slice_set wanted place b) o wanted

-- before an item: what it writes in any case is not wanted, and what it reads is
abbrev pub wanted_before : Machine → List Bool → Item → List Bool
wanted_before m wanted x =
    set_wanted (set_wanted
    (if is_unguarded x then set_wanted wanted (option_map place_number (place_written m (target_of_item x))) false else wanted)
    (option_map (λ g. place_number (guard_place g)) (guard_of x)) true)
    (option_map place_number (place_of_source (source_of x))) true

-- after a list: the registers that are read after it, and the return address
abbrev pub wanted_behind : List (ℕ × ℕ) → List Bool → List Bool
wanted_behind [] wanted = slice_set wanted 640 true
wanted_behind (r ∷ live) wanted = set_wanted (wanted_behind live wanted) (if nat_lt r.0 8 && nat_lt r.1 64 then Some (place_number (KeptReg r.0 r.1)) else None) true
