-- What the code read of words, as the definitions see it.
use Rattle.std.specs.Prelude.{ℕ, List, map, Result, Ok, Err}
use Rattle.tta_asm.specs.declared.syntax.read.Read.{Read as WordsRead}
use Rattle.tta_asm.specs.Cited.{name_of}
use Rattle.tta_parse.specs.Steps.{◌>>=◌}
use Rattle.tta_asm.specs.Pieces.{Placed}
use Rattle.tta_asm.specs.Syntax.{Reading, read, next_word, behind_mark}
use Rattle.tta_asm.specs.Seen.{placed_seen}

-- a reading whose value is seen so
abbrev pub reading_seen : {T A : Type 0} → (T → A) → Result (WordsRead T) ℕ → Reading A
reading_seen seen (Ok r) = Ok (record { value = seen r.value; rest = map placed_seen r.rest.now })
reading_seen seen (Err line) = Err line

-- a value or a refusal, where the value is seen so
abbrev pub result_seen : {T A E : Type 0} → (T → A) → Result T E → Result A E
result_seen seen (Ok x) = Ok (seen x)
result_seen seen (Err e) = Err e

-- the next word, where it is a name, with the words after the mark that follows it
abbrev pub name_before : (mark : List ℕ) → (end : ℕ) → List Placed → Reading (List ℕ)
name_before mark end ws = next_word name_of end ws >>= λ name. behind_mark mark end name.rest >>= λ rest. read name.value rest
