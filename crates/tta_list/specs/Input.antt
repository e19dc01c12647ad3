-- What a run is fed: the rest of an input, word by word.
use Rattle.std.specs.Prelude.{◌≡◌, ℕ, Bool, List, Option, if◌then◌else◌, drop, slice_get}

-- this is the next word of the rest, or none is left
abbrev pub IsFed : (rest : List ℕ) → (next : Option ℕ) → Type 0
IsFed rest next = slice_get rest 0 ≡ next

-- what is left of an input, where its next word was taken or was not
abbrev pub left : (took : Bool) → List ℕ → List ℕ
left took rest = if took then drop 1 rest else rest
