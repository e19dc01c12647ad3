-- What `build_with` answers: code of the program as it stands, or of the converted program, which does what the program does.
use Rattle.std.specs.Prelude.{◌≡◌, ℕ, ◌<◌, ◌≤◌, ◌^◌, ◌*◌, Bool, true, false, length}
use Rattle.tta_build.specs.Cited.{Units, Machine, Program, step_count, Whole, IsLegalWhole, Agrees, AgreesAt, room_on, IsPacked, IsLength, Converted}
use Rattle.tta_build.specs.declared.error.BuildError.{BuildError}
use Rattle.tta_build.specs.declared.error.BuildError.TheVariants.{CodeFull}
use Rattle.tta_build.specs.Compiled.{CompilesTo}
use Rattle.tta_build.specs.Value.{IsMadeOf}
use Rattle.tta_build.specs.Statement.{IsAccepted, IsBuilt, LacksRoom, HasCause}

-- Code with data that does what the program does, where a cycle stands for at most twice as many steps as the program has.
-- The machine can carry it out, its data lie in the data space, it is packed for the converted program, it has no more
-- instructions than the room of the program itself, it has those that are compiled of the converted program, and it is
-- the code of what the compiler makes of that.
pub record IsBuiltConverted (u : Units) (m : Machine) (p : Program) (whole : Whole) : Type 0 where
  pub accepted : IsAccepted u m p
  pub agrees : AgreesAt u m p (2 * step_count p) whole
  pub legal : IsLegalWhole m whole
  pub converted : Program
  pub is : Converted p converted
  pub packed : IsPacked u m converted whole.code
  pub room : length whole.code.words ≤ room_on m p
  pub compiled : CompilesTo u m converted (length whole.code.words)
  pub made : IsMadeOf u m converted whole.code

-- What is compiled of the converted program of a pair that is accepted takes more instructions than the machine has
-- addresses. Packed code of it has as many; and they are no more than the room of the program itself.
pub record LacksConvertedRoom (u : Units) (m : Machine) (p : Program) (words have : ℕ) : Type 0 where
  pub accepted : IsAccepted u m p
  pub addresses : have ≡ 2 ^ m.control.address
  pub more : have < words
  pub room : words ≤ room_on m p
  pub converted : Program
  pub is : Converted p converted
  pub length : IsLength u m converted words
  pub compiled : CompilesTo u m converted words

-- ---- with a flag: the program as it stands, or converted

-- what is built of the program as it stands, or of the converted one
abbrev pub IsBuiltWith : (converts : Bool) → Units → Machine → Program → Whole → Type 0
IsBuiltWith false u m p whole = IsBuilt u m p whole
IsBuiltWith true u m p whole = IsBuiltConverted u m p whole

-- that its code is too long
abbrev pub LacksRoomWith : (converts : Bool) → Units → Machine → Program → (words have : ℕ) → Type 0
LacksRoomWith false u m p = LacksRoom u m p
LacksRoomWith true u m p = LacksConvertedRoom u m p

-- why there is no code: for the converted program what `build` says of the program, but for the length of the code
abbrev pub HasCauseWith : (converts : Bool) → Units → Machine → Program → BuildError → Type 0
HasCauseWith false u m p e = HasCause u m p e
HasCauseWith true u m p (CodeFull words have) = LacksConvertedRoom u m p words have
HasCauseWith true u m p e = HasCause u m p e

-- ---- a law

-- code that agrees with the converted program agrees with the program, which makes at most twice as many steps
abbrev pub ConvertedAgrees : Type 0
ConvertedAgrees = (u : Units) (m : Machine) (p q : Program) (whole : Whole) → Converted p q → Agrees u m q whole
    → AgreesAt u m p (2 * step_count p) whole
