-- What a decoded instruction reads and brings.
use Rattle.std.specs.Prelude.{◌≡◌, ℕ, ◌≤◌, ◌%◌, ◌==◌, Bool, true, false, not, ◌&&◌, ◌||◌, nat_lt, if◌then◌else◌, List, Option, None, Some, is_none, is_some, option_map, option_to_list, length, slice_index_or, IsTrue}
use Rattle.std.specs.Option.{option_map_or, option_or}
use Rattle.std.specs.List.{list_any, filter_map, find, AllByRecursion}
use Rattle.tta_sim.specs.Cited.{Kind, KeptOperand, Start, first_some}
use Rattle.tta_sim.specs.declared.decoded.DecodedSource.{DecodedSource}
use Rattle.tta_sim.specs.declared.decoded.DecodedSource.TheVariants as decoded
use Rattle.tta_sim.specs.declared.decoded.DecodedGuard.{DecodedGuard}
use Rattle.tta_sim.specs.declared.decoded.Reading.{Reading}
use Rattle.tta_sim.specs.declared.decoded.DecodedWrite.{DecodedWrite}
use Rattle.tta_sim.specs.declared.decoded.DecodedStart.{DecodedStart}
use Rattle.tta_sim.specs.declared.decoded.DecodedControl.{DecodedControl}
use Rattle.tta_sim.specs.declared.decoded.Line.{Line}
use Rattle.tta_sim.specs.declared.lines.Read.{Read}
use Rattle.tta_sim.specs.declared.lines.Read.TheVariants.{Nothing, Word, Unset}
use Rattle.tta_sim.specs.declared.lines.Write.{Write}
use Rattle.tta_sim.specs.Decoded.{is_pure}
use Rattle.tta_sim.specs.Places.{is_place, number_of, place_count}
use Rattle.tta_sim.specs.Results.{Results, shown_by}
use Rattle.tta_sim.specs.Starts.{started, is_stopped, kind_of}

-- ---- which lines a run can carry out

-- a source that is there where there are `units` units
abbrev pub is_source_there : (units : ℕ) → DecodedSource → Bool
is_source_there units (decoded.Word word) = true
is_source_there units (decoded.Place number) = nat_lt number place_count
is_source_there units (decoded.Port unit) = nat_lt unit units

-- a guard, if any, and a source that are there
abbrev pub is_reading_there : (units : ℕ) → Reading → Bool
is_reading_there units r = option_map_or (λ g. nat_lt g.place place_count) r.guard true && is_source_there units r.src

-- a write whose source, guard and place are there
abbrev pub is_write_there : (units : ℕ) → DecodedWrite → Bool
is_write_there units w = is_reading_there units w.reading && nat_lt w.place place_count

-- a start whose source, guard and unit are there
abbrev pub is_start_there : (units : ℕ) → DecodedStart → Bool
is_start_there units s = is_reading_there units s.reading && (is_place (KeptOperand s.unit) && nat_lt s.unit units)

-- a word for control whose source and guard are there
abbrev pub is_control_there : (units : ℕ) → DecodedControl → Bool
is_control_there units t = is_reading_there units t.reading

-- A line whose moves have ends that are there, no more of them than a machine can have buses. It knows whether it is pure.
pub record IsLineThere (units : ℕ) (l : Line) : Type 0 where
  pub few_writes : length l.writes ≤ 17
  pub few_starts : length l.starts ≤ 16
  pub pure : l.pure ≡ is_pure l.starts l.controls
  pub writes : AllByRecursion (λ w. IsTrue (is_write_there units w)) l.writes
  pub starts : AllByRecursion (λ s. IsTrue (is_start_there units s)) l.starts
  pub controls : AllByRecursion (λ t. IsTrue (is_control_there units t)) l.controls

-- ---- what they read

-- the word of a source, if it has one
abbrev pub source_word : (places : List (Option ℕ)) → (shown : ℕ → Option ℕ) → DecodedSource → Option ℕ
source_word places shown (decoded.Word word) = Some word
source_word places shown (decoded.Place number) = slice_index_or places number None
source_word places shown (decoded.Port unit) = shown unit

-- whether a guard lets its move act at this word
abbrev pub lets : DecodedGuard → ℕ → Bool
lets g word = if g.inverted then word == 0 else not (word == 0)

-- whether a move acts: it has no guard, or its guard lets it
abbrev pub is_let : (places : List (Option ℕ)) → Reading → Bool
is_let places r = option_map_or (λ g. option_map_or (lets g) (slice_index_or places g.place None) false) r.guard true

-- the word that a move takes, if it acts
abbrev pub word_read : (places : List (Option ℕ)) → (shown : ℕ → Option ℕ) → Reading → Option ℕ
word_read places shown r = if is_let places r then source_word places shown r.src else None

-- whether a move cannot be read: its guard has no word, or it acts and its source has none
abbrev pub is_unread : (places : List (Option ℕ)) → (shown : ℕ → Option ℕ) → Reading → Bool
is_unread places shown r =
    option_map_or (λ g. is_none (slice_index_or places g.place None)) r.guard false
    || is_let places r && is_none (source_word places shown r.src)

-- the word that was read, if one was
abbrev pub word_of : Read → Option ℕ
word_of Nothing = None
word_of (Word word) = Some word
word_of (Unset what) = None

-- what was read was never written
abbrev pub is_unset : Read → Bool
is_unset Nothing = false
is_unset (Word word) = false
is_unset (Unset what) = true

-- ---- what they bring

-- the word that a move brings to its place
abbrev pub write_brought : (places : List (Option ℕ)) → (shown : ℕ → Option ℕ) → DecodedWrite → Option Write
write_brought places shown w =
    option_map (λ word. record { place = w.place; word = if w.narrow then word % 2 else word }) (word_read places shown w.reading)

-- the word in the operand port of a unit once these are written
abbrev pub operand_in : (places : List (Option ℕ)) → List Write → (unit : ℕ) → Option ℕ
operand_in places writes unit =
    let number = number_of (KeptOperand unit) in
    option_or (option_map (λ w. w.word) (find (λ w. w.place == number) writes)) (slice_index_or places number None)

-- the operation that a move starts
abbrev pub start_brought : (places : List (Option ℕ)) → (shown : ℕ → Option ℕ) → (operand : ℕ → Option ℕ) → DecodedStart → Option Start
start_brought places shown operand s = option_map (started operand s.unit s.does) (word_read places shown s.reading)

-- whether a move cannot be read, or starts an operation that cannot start
abbrev pub cannot_start : (places : List (Option ℕ)) → Results → (operand : ℕ → Option ℕ) → DecodedStart → Bool
cannot_start places r operand s =
    is_unread places (shown_by r) s.reading || list_any (is_stopped r) (option_to_list (start_brought places (shown_by r) operand s))

-- a control move with its word, if it acts
abbrev pub control_brought : (places : List (Option ℕ)) → (shown : ℕ → Option ℕ) → DecodedControl → Option (Kind × ℕ)
control_brought places shown t = option_map (λ word. (kind_of t.kind, word)) (word_read places shown t.reading)

-- whether control moves can act: all can be read, and where one acts, no earlier one is under way
abbrev pub controls_well : (places : List (Option ℕ)) → (shown : ℕ → Option ℕ) → (is_pending : Bool) → List DecodedControl → Bool
controls_well places shown is_pending controls =
    not (list_any (λ t. is_unread places shown t.reading) controls) && not (is_pending && is_some (first_some (control_brought places shown) controls))

-- whether a line can be carried out: all of its moves can be read and all operations start, and no control move acts
-- while an earlier one is under way
abbrev pub is_ready : (places : List (Option ℕ)) → Results → (is_pending : Bool) → Line → Bool
is_ready places r is_pending l =
    let unread = is_unread places (shown_by r) in
    let operand = operand_in places (filter_map (write_brought places (shown_by r)) l.writes) in
    not (list_any (λ w. unread w.reading) l.writes)
    && (not (list_any (cannot_start places r operand) l.starts) && controls_well places (shown_by r) is_pending l.controls)
