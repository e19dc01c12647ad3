-- Which pairs have code, of the program as it stands or converted: where a pair is accepted and has room, or its plain code fits,
-- nothing but memory can be wanting.
use Rattle.std.specs.Prelude.{◌≡◌, ◌≤◌, ◌^◌, Bool, true, false, List}
use Rattle.tta_build.specs.Cited.{Units, Machine, Program, Placed, total_length, room_on, Converted}
use Rattle.tta_build.specs.declared.error.BuildError.{BuildError}
use Rattle.tta_build.specs.declared.error.BuildError.TheVariants.{NoMemory}
use Rattle.tta_build.specs.Plain.{IsPlainCode}
use Rattle.tta_build.specs.Statement.{IsAccepted}
use Rattle.tta_build.specs.Converted.{HasCauseWith}

-- a pair is accepted, and the machine has as many addresses as the program's code takes words at most
pub record IsRoomy (u : Units) (m : Machine) (p : Program) : Type 0 where
  pub accepted : IsAccepted u m p
  pub room : room_on m p ≤ 2 ^ m.control.address

-- such a pair has code, unless memory runs out: no other error has its cause
abbrev pub BuildCompletes : Type 0
BuildCompletes =
    (converts : Bool) (u : Units) (m : Machine) (p : Program) (e : BuildError) → IsRoomy u m p → HasCauseWith converts u m p e
    → e ≡ NoMemory

-- a pair is accepted, and the machine has as many addresses as the plain code of the program takes words
pub record PlainFits (u : Units) (m : Machine) (p : Program) : Type 0 where
  pub accepted : IsAccepted u m p
  pub fits : (plain : List Placed) → IsPlainCode u m p plain → total_length plain ≤ 2 ^ m.control.address

-- the same of the plain code of the converted program
pub record ConvertedFits (u : Units) (m : Machine) (p : Program) : Type 0 where
  pub accepted : IsAccepted u m p
  pub fits : (q : Program) (plain : List Placed) → Converted p q → IsPlainCode u m q plain → total_length plain ≤ 2 ^ m.control.address

-- one of both, by what is compiled
abbrev pub PlainFitsWith : (converts : Bool) → Units → Machine → Program → Type 0
PlainFitsWith false u m p = PlainFits u m p
PlainFitsWith true u m p = ConvertedFits u m p

-- such a pair has code, unless memory runs out
abbrev pub BuildCompletesPlainly : Type 0
BuildCompletesPlainly =
    (converts : Bool) (u : Units) (m : Machine) (p : Program) (e : BuildError) → PlainFitsWith converts u m p
    → HasCauseWith converts u m p e → e ≡ NoMemory
