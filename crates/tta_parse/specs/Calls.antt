-- What one call of a reader of lines, and one more name, change.
use Rattle.std.specs.Prelude.{◌≡◌, ℕ, Bool, true, false, List, [], ◌∷◌}
use Rattle.std.specs.Str.{bytes_eq}
use Rattle.tta_parse.specs.Lines.{Line}
use Rattle.tta_parse.specs.Names.{Declared, named_in}

-- where a line was left, it is taken, and the others are left
abbrev pub Takes : Bool → (line : Line) (old new : List Line) → Type 0
Takes more line old new = more ≡ true → old ≡ line ∷ new

-- where no line was left, none is
abbrev pub Ends : Bool → (old new : List Line) → Type 0
Ends more old new = more ≡ false → (old ≡ []) × (new ≡ [])

-- all names but one name what they named
abbrev pub KeepsOtherNames : {P : Type 0} → (name : List ℕ) (old new : Declared P) → Type 0
KeepsOtherNames name old new = (other : List ℕ) → bytes_eq name other ≡ false → named_in new other ≡ named_in old other
