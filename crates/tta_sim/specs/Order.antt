-- Lines whose moves can be carried out one after another, each on what those before it left.
use Rattle.std.specs.Prelude.{ℕ, ◌==◌, Bool, true, false, not, ◌&&◌, ◌||◌, List}
use Rattle.std.specs.Option.{option_map_or}
use Rattle.std.specs.List.{list_any}
use Rattle.tta_sim.specs.Cited.{Op, Ldw, Stw, Ldf, Stf, Out, Take, Set, are_different, is_stream_op}
use Rattle.tta_sim.specs.declared.decoded.DecodedSource.{DecodedSource}
use Rattle.tta_sim.specs.declared.decoded.DecodedSource.TheVariants as decoded
use Rattle.tta_sim.specs.declared.decoded.Reading.{Reading}
use Rattle.tta_sim.specs.declared.decoded.DecodedWrite.{DecodedWrite}
use Rattle.tta_sim.specs.declared.decoded.DecodedStart.{DecodedStart}
use Rattle.tta_sim.specs.declared.decoded.DecodedControl.{DecodedControl}
use Rattle.tta_sim.specs.declared.decoded.Line.{Line}

-- whether a source is the place with this number
abbrev pub is_place_at : (number : ℕ) → DecodedSource → Bool
is_place_at number (decoded.Word word) = false
is_place_at number (decoded.Place p) = p == number
is_place_at number (decoded.Port unit) = false

-- whether a source is the result port of this unit
abbrev pub is_port_at : (unit : ℕ) → DecodedSource → Bool
is_port_at unit (decoded.Word word) = false
is_port_at unit (decoded.Place p) = false
is_port_at unit (decoded.Port u) = u == unit

-- whether a move reads the place with this number
abbrev pub reads_place : (number : ℕ) → Reading → Bool
reads_place number r = option_map_or (λ g. g.place == number) r.guard false || is_place_at number r.src

-- whether a write writes or reads the place that an earlier one writes
abbrev pub is_touched : (earlier : DecodedWrite) → DecodedWrite → Bool
is_touched earlier w = w.place == earlier.place || reads_place earlier.place w.reading

-- whether a move reads a place that one of these writes
abbrev pub reads_written : List DecodedWrite → Reading → Bool
reads_written writes r = list_any (λ w. reads_place w.place r) writes

-- whether an operation stores its word
abbrev pub is_store : Op → Bool
is_store Ldw = false
is_store Stw = true
is_store Ldf = false
is_store Stf = true
is_store Out = false
is_store Take = false
is_store (Set id) = false

-- whether a move reads the result port at which the result of a start shows in the next cycle
abbrev pub is_shown_to : DecodedStart → Reading → Bool
is_shown_to s r = s.does.latency == 1 && is_port_at s.unit r.src

-- whether an earlier start stores, or changes what this one reads
abbrev pub is_barred : (earlier : DecodedStart) → DecodedStart → Bool
is_barred earlier s = is_store earlier.does.op || is_shown_to earlier s.reading

-- whether a start reads what one of these writes, or outputs or takes a word
abbrev pub is_late : List DecodedWrite → DecodedStart → Bool
is_late writes s = reads_written writes s.reading || is_stream_op s.does.op

-- whether a control move reads what one of these writes or shows
abbrev pub is_changed : List DecodedWrite → List DecodedStart → DecodedControl → Bool
is_changed writes starts t = reads_written writes t.reading || list_any (λ s. is_shown_to s t.reading) starts

-- whether the writes, then the starts, and then the control moves of a line can be carried out one after another: none reads what one
-- before it writes or shows, no place is written twice, a store is the last start, and no word is output or taken
abbrev pub is_in_order : Line → Bool
is_in_order l =
    are_different is_touched l.writes
    && (are_different is_barred l.starts && (not (list_any (is_late l.writes) l.starts) && not (list_any (is_changed l.writes l.starts) l.controls)))
