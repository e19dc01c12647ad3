-- Lines that take words which are all set.
use Rattle.std.specs.Prelude.{◌≡◌, ℕ, ◌+◌, ◌==◌, length, if◌then◌else◌, Bool, true, false, not, ◌&&◌, ◌||◌, List, Option, None, Some, is_some, slice_get, slice_index_or, ⊤}
use Rattle.std.specs.Option.{option_map_or}
use Rattle.std.specs.List.{list_all}
use Rattle.tta_sim.specs.Cited.{KeptOperand, Rings, shown_in}
use Rattle.tta_sim.specs.declared.decoded.DecodedGuard.{DecodedGuard}
use Rattle.tta_sim.specs.declared.decoded.Reading.{Reading}
use Rattle.tta_sim.specs.declared.decoded.DecodedStart.{DecodedStart}
use Rattle.tta_sim.specs.declared.decoded.Line.{Line}
use Rattle.tta_sim.specs.declared.flat.Row.{Row}
use Rattle.tta_sim.specs.declared.mark.Mark.{Mark}
use Rattle.tta_sim.specs.declared.mark.Mark.TheVariants as mark
use Rattle.tta_sim.specs.Flat.{row_with}
use Rattle.tta_sim.specs.Places.{number_of}
use Rattle.tta_sim.specs.Results.{Results, shown_by}
use Rattle.tta_sim.specs.Lines.{source_word, lets}
use Rattle.tta_sim.specs.Order.{is_in_order}

-- whether a guard, if there is one, has a word
abbrev pub is_guard_known : (places : List (Option ℕ)) → Option DecodedGuard → Bool
is_guard_known places guard = option_map_or (λ g. is_some (slice_index_or places g.place None)) guard true

-- whether a guard, if there is one, lets its move act
abbrev pub is_guard_let : (places : List (Option ℕ)) → Option DecodedGuard → Bool
is_guard_let places guard = option_map_or (λ g. option_map_or (lets g) (slice_index_or places g.place None) false) guard true

-- whether the guard of a move, if it has one, and its source have words, whether or not the move acts
abbrev pub is_known : (places : List (Option ℕ)) → (shown : ℕ → Option ℕ) → Reading → Bool
is_known places shown r = is_guard_known places r.guard && is_some (source_word places shown r.src)

-- the same of a start, whose operand port has a word too, if it takes one
abbrev pub is_start_known : (places : List (Option ℕ)) → (shown : ℕ → Option ℕ) → DecodedStart → Bool
is_start_known places shown s =
    is_known places shown s.reading && (not (s.does.arity == 2) || is_some (slice_index_or places (number_of (KeptOperand s.unit)) None))

-- whether all that the moves of a line take is set
abbrev pub is_settled : (places : List (Option ℕ)) → (shown : ℕ → Option ℕ) → Line → Bool
is_settled places shown l =
    list_all (λ w. is_known places shown w.reading) l.writes
    && (list_all (is_start_known places shown) l.starts && list_all (λ t. is_known places shown t.reading) l.controls)

-- what a mark says of a line
abbrev pub IsMarked : (places : List (Option ℕ)) → (shown : ℕ → Option ℕ) → Line → Mark → Type 0
IsMarked places shown l mark.Apart = ⊤
IsMarked places shown l mark.Ordered = is_in_order l ≡ true
IsMarked places shown l mark.Settled = (is_in_order l ≡ true) × (is_settled places shown l ≡ true)

-- the mark of a line at the begin of a run
abbrev pub mark_of : Line → Mark
mark_of l = if is_in_order l then mark.Ordered else mark.Apart

-- A row has the moves of its line, and its mark says what holds of it.
pub record IsKnown (places : List (Option ℕ)) (shown : ℕ → Option ℕ) (l : Line) (row : Row) : Type 0 where
  pub marked : IsMarked places shown l row.mark
  pub moves : row ≡ row_with row.mark l

-- Each line has its row.
pub record AreKnown (places : List (Option ℕ)) (shown : ℕ → Option ℕ) (lines : List Line) (rows : List Row) : Type 0 where
  pub count : length rows ≡ length lines
  pub each : (k : ℕ) (l : Line) (row : Row) → slice_get lines k ≡ Some l → slice_get rows k ≡ Some row → IsKnown places shown l row

-- what the result port of a unit shows, where the first of a region is the machine's first
abbrev pub all_shown : Rings → (unit : ℕ) → Option ℕ
all_shown r unit = shown_in r (0 + unit)

-- what has a word still has one
abbrev pub Grows : (old new : ℕ → Option ℕ) → Type 0
Grows old new = (k : ℕ) → is_some (old k) ≡ true → is_some (new k) ≡ true

-- No place and no result port loses its word.
pub record KeepsWords (old new : List (Option ℕ)) (before after : Results) : Type 0 where
  pub places : Grows (λ k. slice_index_or old k None) (λ k. slice_index_or new k None)
  pub ports : Grows (shown_by before) (shown_by after)
