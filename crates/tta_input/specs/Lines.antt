-- The lines of a file of bytes.
use Rattle.std.specs.Prelude.{ℕ, Bool, false, ◌&&◌, ◌==◌, if◌then◌else◌, List, [], ◌∷◌}

-- the byte that ends a line
abbrev pub is_newline : ℕ → Bool
is_newline byte = byte == 10

-- a carriage return
abbrev pub is_return : ℕ → Bool
is_return byte = byte == 13

-- a newline stands first
abbrev pub begins_with_newline : List ℕ → Bool
begins_with_newline [] = false
begins_with_newline (byte ∷ bytes) = is_newline byte

-- a byte put before the first of some lines, or alone on a line where there are none
abbrev pub onto_first : ℕ → List (List ℕ) → List (List ℕ)
onto_first byte [] = (byte ∷ []) ∷ []
onto_first byte (line ∷ lines) = (byte ∷ line) ∷ lines

-- the lines: a newline ends one, a carriage return directly before it belongs to none, and bytes
-- after the last newline are a line too
unfoldable pub lines_of : List ℕ → List (List ℕ)
lines_of [] = []
lines_of (byte ∷ bytes) =
    if is_newline byte then [] ∷ lines_of bytes
    else if is_return byte && begins_with_newline bytes then lines_of bytes
    else onto_first byte (lines_of bytes)

-- a line without one carriage return at its end
abbrev pub without_return : List ℕ → List ℕ
without_return [] = []
without_return (byte ∷ []) = if is_return byte then [] else byte ∷ []
without_return (byte ∷ next ∷ line) = byte ∷ without_return (next ∷ line)
