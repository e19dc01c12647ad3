-- Moves in a flat form, which finds the words of a move by numbers alone.
use Rattle.std.specs.Prelude.{ℕ, ◌+◌, ◌==◌, Bool, false, nat_lt, if◌then◌else◌, map, Option, None, Some}
use Rattle.tta_sim.specs.declared.decoded.DecodedSource.{DecodedSource}
use Rattle.tta_sim.specs.declared.decoded.DecodedSource.TheVariants as decoded
use Rattle.tta_sim.specs.declared.decoded.DecodedGuard.{DecodedGuard}
use Rattle.tta_sim.specs.declared.decoded.Reading.{Reading}
use Rattle.tta_sim.specs.declared.decoded.DecodedWrite.{DecodedWrite}
use Rattle.tta_sim.specs.declared.decoded.DecodedStart.{DecodedStart}
use Rattle.tta_sim.specs.declared.decoded.DecodedControl.{DecodedControl}
use Rattle.tta_sim.specs.declared.decoded.Line.{Line}
use Rattle.tta_sim.specs.declared.flat.FlatReading.{FlatReading}
use Rattle.tta_sim.specs.declared.flat.FlatWrite.{FlatWrite}
use Rattle.tta_sim.specs.declared.flat.FlatStart.{FlatStart}
use Rattle.tta_sim.specs.declared.flat.FlatControl.{FlatControl}
use Rattle.tta_sim.specs.declared.flat.Row.{Row}
use Rattle.tta_sim.specs.declared.mark.Mark.{Mark}
use Rattle.tta_sim.specs.Decoded.{is_pure}
use Rattle.tta_sim.specs.Places.{place_count}

-- ---- what a flat move says

-- the source that a flat reading says: a place by its number, a word of its own behind the places, and else a result port
abbrev pub source_said : FlatReading → DecodedSource
source_said f = if nat_lt f.src place_count then decoded.Place f.src else if f.src == place_count then decoded.Word f.word else decoded.Port f.unit

-- the guard that it says, if any
abbrev pub guard_said : FlatReading → Option DecodedGuard
guard_said f = if f.guard == place_count then None else Some (record { place = f.guard; inverted = f.inverted })

-- what it says that a move reads
abbrev pub reading_said : FlatReading → Reading
reading_said f = record { guard = guard_said f; src = source_said f }

-- the write that a flat one says
abbrev pub write_said : FlatWrite → DecodedWrite
write_said w = record { reading = reading_said w.reading; place = w.place; narrow = w.narrow }

-- the start that a flat one says
abbrev pub start_said : FlatStart → DecodedStart
start_said s = record { reading = reading_said s.reading; unit = s.unit; does = s.does }

-- the control move that a flat one says
abbrev pub control_said : FlatControl → DecodedControl
control_said t = record { reading = reading_said t.reading; kind = t.kind }

-- the line that a row says
abbrev pub line_said : Row → Line
line_said row = record {
  writes = map write_said row.writes;
  starts = map start_said row.starts;
  controls = map control_said row.controls;
  pure = is_pure (map start_said row.starts) (map control_said row.controls);
}

-- ---- the flat form of a line

-- the number that tells a source
abbrev pub number_in : DecodedSource → ℕ
number_in (decoded.Word word) = place_count
number_in (decoded.Place number) = number
number_in (decoded.Port unit) = place_count + 1

-- the word of a source that is one
abbrev pub word_in : DecodedSource → ℕ
word_in (decoded.Word word) = word
word_in (decoded.Place number) = 0
word_in (decoded.Port unit) = 0

-- the unit of a source that is a result port
abbrev pub unit_in : DecodedSource → ℕ
unit_in (decoded.Word word) = 0
unit_in (decoded.Place number) = 0
unit_in (decoded.Port unit) = unit

-- the place of a guard, behind the places where there is none
abbrev pub guard_in : Option DecodedGuard → ℕ
guard_in None = place_count
guard_in (Some g) = g.place

-- whether a guard lets a move act where its place is 0
abbrev pub inverted_in : Option DecodedGuard → Bool
inverted_in None = false
inverted_in (Some g) = g.inverted

-- what a move reads, flat
abbrev pub flat_of : Reading → FlatReading
flat_of r = record { word = word_in r.src; src = number_in r.src; guard = guard_in r.guard; unit = unit_in r.src; inverted = inverted_in r.guard }

-- a write, flat
abbrev pub flat_write : DecodedWrite → FlatWrite
flat_write w = record { reading = flat_of w.reading; place = w.place; narrow = w.narrow }

-- a start, flat
abbrev pub flat_start : DecodedStart → FlatStart
flat_start s = record { reading = flat_of s.reading; unit = s.unit; does = s.does }

-- a control move, flat
abbrev pub flat_control : DecodedControl → FlatControl
flat_control t = record { reading = flat_of t.reading; kind = t.kind }

-- the row of a line with a mark
abbrev pub row_with : Mark → Line → Row
row_with m l = record { mark = m; writes = map flat_write l.writes; starts = map flat_start l.starts; controls = map flat_control l.controls }
