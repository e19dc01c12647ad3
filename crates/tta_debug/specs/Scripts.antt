-- What a line of a script does, and what a script does.
use Rattle.std.specs.Prelude.{◌≡◌, ◌==◌, ℕ, Bool, true, not, if◌then◌else◌, List, [], ◌∷◌, ◌++◌, Result, Ok, Err}
use Rattle.std.specs.List.{prefix_len}
use Rattle.tta_debug.specs.Cited.{Failed, reply_text, Units, Machine, Code, Output, IsPut, IsCut}
use Rattle.tta_report.specs.declared.reply.Reply.TheVariants as reply
use Rattle.tta_debug.specs.Debugged.{Debugged, Said, Done, texts, say, command}
use Rattle.tta_debug.specs.Sessions.{Session', Follows}

-- what is put for a line, by what comes of it
abbrev pub line_text : Result Done ℕ → List ℕ
line_text (Err code) = reply_text (reply.Refused code)
line_text (Ok done) = texts done.says

-- what a line leaves under the debugger
abbrev pub line_leaves : Debugged → Result Done ℕ → Debugged
line_leaves d (Err code) = d
line_leaves d (Ok done) = done.after

-- whether lines after it are taken
abbrev pub line_goes : Result Done ℕ → Bool
line_goes (Err code) = true
line_goes (Ok done) = not done.bye

-- the lines that are put for a line, each with what is under the debugger then
abbrev pub line_says : Debugged → Result Done ℕ → List Said
line_says d (Err code) = say (reply.Refused code) d
line_says d (Ok done) = done.says

-- a line was taken, and all that is put for it, or a prefix of that
abbrev pub TakesLine : (input : List ℕ) → Debugged → Result Done ℕ → Session' → (old new : Output) → Result Bool Failed → Type 0
TakesLine input d said h old new (Ok goes) = (goes ≡ line_goes said) × Follows input h (line_leaves d said) × IsPut (line_text said) old new
TakesLine input d said h old new (Err failed) = IsCut (line_text said) old new

-- ---- scripts

-- how many bytes stand before the first newline
abbrev pub line_len : List ℕ → ℕ
line_len bytes = prefix_len (λ byte. not (byte == 10)) bytes

-- a byte put before the first of some lines, or alone on a line where there are none
abbrev pub onto_first : ℕ → List (List ℕ) → List (List ℕ)
onto_first byte [] = (byte ∷ []) ∷ []
onto_first byte (line ∷ lines) = (byte ∷ line) ∷ lines

-- the lines of a script: a newline ends one, and bytes after the last newline are a line too
unfoldable pub lines_of : List ℕ → List (List ℕ)
lines_of [] = []
lines_of (byte ∷ bytes) = if byte == 10 then [] ∷ lines_of bytes else onto_first byte (lines_of bytes)

-- the lines that are put for the lines of a script, up to one that ends the session, each with what is under the debugger then
abbrev pub script_says : Units → Machine → Code → List (List ℕ) → Debugged → List Said
script_says u m code [] d = []
script_says u m code (line ∷ lines) d =
    let said = command u m code line d in
    line_says d said ++ (if line_goes said then script_says u m code lines (line_leaves d said) else [])

-- a script was carried out, and all that it replies was put, or a prefix of that
abbrev pub TakesScript : (input : List ℕ) → (said : List ℕ × Debugged) → Session' → (old new : Output) → Result (Unit {0}) Failed → Type 0
TakesScript input said h old new (Ok v) = Follows input h said.1 × IsPut said.0 old new
TakesScript input said h old new (Err failed) = IsCut said.0 old new
