-- A line that is read from a reader whose bytes are known.
use Rattle.std.specs.Prelude.{◌≡◌, ◌≢◌, ◌≤◌, ◌<◌, ◌⊎◌, ℕ, List, [], ◌∷◌, ◌++◌, length, All, Option, Some, None, Result, Ok, Err, Vec}
use Rattle.std.specs.Io.KnownBytes.{Consumes, IsAtEnd}
use Rattle.std.specs.declared.alloc.Global.{Global}
use Rattle.tta_stdin.specs.declared.error.LineError.{LineError}
use Rattle.tta_stdin.specs.declared.error.LineError.TheVariants.{Failed, TooLong, NoMemory}

-- no byte is a newline
abbrev pub IsPlain : List ℕ → Type 0
IsPlain bytes = All (λ byte. byte ≢ 10) bytes

-- a line has gone: a newline ended it, or it is not empty and the bytes ended there
abbrev pub LineGone : (old new : Option (List ℕ)) → (line : List ℕ) → Type 0
LineGone old new line =
    Consumes old new (line ++ 10 ∷ []) ⊎ (Consumes old new line × IsAtEnd new × (0 < length line))

-- a line that fits has gone
pub record IsNextLine (old new : Option (List ℕ)) (limit : ℕ) (line : List ℕ) : Type 0 where
  pub plain : IsPlain line
  pub gone : LineGone old new line
  pub fits : length line ≤ limit
  pub some : 0 < limit

-- the bytes of a line that fit have gone, and one more
pub record IsLongLine (old new : Option (List ℕ)) (limit : ℕ) : Type 0 where
  pub begin : List ℕ
  pub byte : ℕ
  pub plain : IsPlain begin
  pub gone : Consumes old new (begin ++ byte ∷ [])
  pub full : length begin ≡ limit

-- what was read, by the answer: a line, the end, or more of a line than fits
abbrev pub ReadsLine : (old new : Option (List ℕ)) → (limit : ℕ) → Result (Option (Vec ℕ Global)) LineError → Type 0
ReadsLine old new limit (Ok (Some line)) = IsNextLine old new limit line.items
ReadsLine old new limit (Ok None) = Consumes old new [] × IsAtEnd new
ReadsLine old new limit (Err Failed) = Unit {0}
ReadsLine old new limit (Err TooLong) = IsLongLine old new limit
ReadsLine old new limit (Err NoMemory) = Unit {0}
