-- Which words that a decoded instruction reads were never written.
use Rattle.std.specs.Prelude.{◌≡◌, ℕ, Bool, true, false, ◌&&◌, ◌||◌, List, Option, None, is_none, length, slice_index_or}
use Rattle.std.specs.Option.{option_map_or}
use Rattle.tta_sim.specs.Cited.{Machine, Reads, Effect, has_unset, is_port, Instruction}
use Rattle.tta_sim.specs.Decoded.{IsDecoded}
use Rattle.tta_sim.specs.Moves.{lacks_register}
use Rattle.tta_sim.specs.declared.decoded.DecodedSource.{DecodedSource}
use Rattle.tta_sim.specs.declared.decoded.DecodedSource.TheVariants as decoded
use Rattle.tta_sim.specs.declared.decoded.Reading.{Reading}
use Rattle.tta_sim.specs.declared.lines.Missing.{Missing}
use Rattle.tta_sim.specs.declared.lines.Missing.TheVariants as missing
use Rattle.tta_sim.specs.declared.lines.Read.{Read}
use Rattle.tta_sim.specs.declared.lines.Read.TheVariants.{Nothing, Word, Unset}
use Rattle.tta_sim.specs.declared.decoded.Line.{Line}
use Rattle.tta_sim.specs.Lines.{source_word, is_let}
use Rattle.tta_sim.specs.Results.{Results}
use Rattle.tta_sim.specs.Starts.{fault_in}

-- whether a source is a place
abbrev pub is_place_source : DecodedSource → Bool
is_place_source (decoded.Word word) = false
is_place_source (decoded.Place number) = true
is_place_source (decoded.Port unit) = false

-- whether a source is a result port
abbrev pub is_port_source : DecodedSource → Bool
is_port_source (decoded.Word word) = false
is_port_source (decoded.Place number) = false
is_port_source (decoded.Port unit) = true

-- whether a move finds no word in the place of its guard or, where it acts, of its source
abbrev pub lacks_place : (places : List (Option ℕ)) → (shown : ℕ → Option ℕ) → Reading → Bool
lacks_place places shown r =
    option_map_or (λ g. is_none (slice_index_or places g.place None)) r.guard false
    || (is_let places r && is_place_source r.src) && is_none (source_word places shown r.src)

-- whether a move acts and finds no word in the result port of its source
abbrev pub lacks_port : (places : List (Option ℕ)) → (shown : ℕ → Option ℕ) → Reading → Bool
lacks_port places shown r = (is_let places r && is_port_source r.src) && is_none (source_word places shown r.src)

-- whether a move lacks a word of this kind, in a place or in a result port
abbrev pub lacks_word : Missing → (places : List (Option ℕ)) → (shown : ℕ → Option ℕ) → Reading → Bool
lacks_word missing.Place places shown r = lacks_place places shown r
lacks_word missing.Port places shown r = lacks_port places shown r

-- whether a move that is not decoded lacks a word of this kind
abbrev pub lacks_for : Missing → Reads → Effect → Bool
lacks_for missing.Place reads = lacks_register reads
lacks_for missing.Port reads = has_unset reads is_port

-- it is a place that has none
abbrev pub is_place_missing : Missing → Bool
is_place_missing missing.Place = true
is_place_missing missing.Port = false

-- it is a result port that has none
abbrev pub is_port_missing : Missing → Bool
is_port_missing missing.Place = false
is_port_missing missing.Port = true

-- what was read has no word in a place
abbrev pub misses_place : Read → Bool
misses_place Nothing = false
misses_place (Word word) = false
misses_place (Unset what) = is_place_missing what

-- what was read has no word in a result port
abbrev pub misses_port : Read → Bool
misses_port Nothing = false
misses_port (Word word) = false
misses_port (Unset what) = is_port_missing what

-- ---- the fault of a cycle

-- a fault is that of each instruction that the line can be decoded from
abbrev pub IsFaultOf : (places : List (Option ℕ)) → Results → (is_pending : Bool) → Line → Option ℕ → Type 0
IsFaultOf places r is_pending l fault = (m : Machine) (back : ℕ) (i : Instruction) → IsDecoded m back i l → r.units ≡ length m.units
    → fault ≡ fault_in m places r is_pending i.moves
