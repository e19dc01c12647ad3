-- Which answers of `build` exclude each other, of the program as it stands or converted.
use Rattle.std.specs.Prelude.{◌≡◌, ◌==◌, ◌&&◌, ℕ, Bool, true, false, List}
use Rattle.tta_build.specs.Cited.{Units, Machine, Program, Whole, Placed}
use Rattle.tta_build.specs.declared.error.BuildError.{BuildError}
use Rattle.tta_build.specs.declared.error.BuildError.TheVariants.{NotCovered, NoUnit, FrameFull, CodeFull, NoMemory}
use Rattle.tta_build.specs.Converted.{IsBuiltWith, LacksRoomWith, HasCauseWith}

-- whether two errors may both have their cause: they say the same, but for how many words the code has, or one is about memory
abbrev pub go_together : BuildError → BuildError → Bool
go_together NoMemory other = true
go_together (NotCovered a) (NotCovered b) = a == b
go_together (NoUnit a) (NoUnit b) = a == b
go_together (FrameFull need have) (FrameFull need' have') = need == need' && have == have'
go_together (CodeFull words have) (CodeFull words' have') = have == have'
go_together one NoMemory = true
go_together one other = false

-- whether an error may have its cause where there is code too: it is about room or memory
abbrev pub is_beside_code : BuildError → Bool
is_beside_code (CodeFull words have) = true
is_beside_code NoMemory = true
is_beside_code e = false

-- two errors that have their cause for one pair go together
abbrev pub CausesExclude : Type 0
CausesExclude =
    (converts : Bool) (u : Units) (m : Machine) (p : Program) (e f : BuildError) → HasCauseWith converts u m p e
    → HasCauseWith converts u m p f → go_together e f ≡ true

-- no error but these two has its cause for a pair that has code
abbrev pub CodeExcludes : Type 0
CodeExcludes =
    (converts : Bool) (u : Units) (m : Machine) (p : Program) (whole : Whole) (e : BuildError) → IsBuiltWith converts u m p whole
    → HasCauseWith converts u m p e → is_beside_code e ≡ true

-- the placements of which code consists
abbrev pub placements_of : (converts : Bool) (u : Units) (m : Machine) (p : Program) (whole : Whole) → IsBuiltWith converts u m p whole
    → List Placed
placements_of false u m p whole built = built.compiled.placements
placements_of true u m p whole built = built.compiled.placements

-- and those of which code that is too long would consist
abbrev pub placements_for : (converts : Bool) (u : Units) (m : Machine) (p : Program) (words have : ℕ)
    → LacksRoomWith converts u m p words have → List Placed
placements_for false u m p words have full = full.compiled.placements
placements_for true u m p words have full = full.compiled.placements

-- and of the same compiled lists there is never both code and full code: there is code exactly where they fit
abbrev pub FullExcludes : Type 0
FullExcludes = (converts : Bool) (u : Units) (m : Machine) (p : Program) (whole : Whole) (words have : ℕ)
    → (built : IsBuiltWith converts u m p whole) → (full : LacksRoomWith converts u m p words have)
    → placements_of converts u m p whole built ≡ placements_for converts u m p words have full → ⊥
