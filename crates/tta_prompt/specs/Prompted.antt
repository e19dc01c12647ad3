-- A debugger's session at a prompt: what comes of each line, and of lines one after another.
use Rattle.std.specs.Prelude.{ℕ, Bool, true, false, if◌then◌else◌, List, [], ◌∷◌, Option, Some, None, Result, Ok, Err}
use Rattle.tta_prompt.specs.Cited.{Units, Machine, words_of, Debugged, Done, command, goes_on, not_there, line_goes, line_leaves}
use Rattle.tta_code.specs.declared.code.Code.{Code}
use Rattle.tta_prompt.specs.declared.own.Own.{Own}
use Rattle.tta_prompt.specs.Own.{own_by}
use Rattle.tta_prompt.specs.Texts.{own_text}

-- what is shown changes nothing; where nothing is there, that is refused
abbrev pub shown : Debugged → Option (List ℕ) → Result Done ℕ
shown d None = Err not_there
shown d (Some text) = Ok (record { says = record { text = text; at = d } ∷ []; after = d; bye = false })

-- what comes of a line: what it shows, where it asks that of a prompt alone, and else what comes of it in a script
abbrev pub line_done : Units → Machine → Code → (line : List ℕ) → Debugged → Option Own → Result Done ℕ
line_done u m code line d None = command u m code line d
line_done u m code line d (Some own) = shown d (own_text u m code d.state own)

abbrev pub prompt_line : Units → Machine → Code → (line : List ℕ) → Debugged → Result Done ℕ
prompt_line u m code line d = line_done u m code line d (own_by (words_of line))

-- all that a session replies to lines, and what it leaves under the debugger
abbrev pub prompted : Units → Machine → Code → List (List ℕ) → Debugged → List ℕ × Debugged
prompted u m code [] d = ([], d)
prompted u m code (line ∷ lines) d = goes_on d (prompted u m code lines) (prompt_line u m code line d)

-- whether a session goes on after lines
abbrev pub is_open : Units → Machine → Code → List (List ℕ) → Debugged → Bool
is_open u m code [] d = true
is_open u m code (line ∷ lines) d =
    let done = prompt_line u m code line d in
    if line_goes done then is_open u m code lines (line_leaves d done) else false
