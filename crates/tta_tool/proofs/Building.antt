-- Code that was built, and what became of its image; and why none was built.
use Rattle.std.proofs.Common.{◌≡◌, Bool, ℕ, List, Result, Ok, Err, sym, subst}
use Rattle.tta_tool.specs.Cited.{Units, Machine, Program, Whole, Image, IsBuiltWith, HasCauseWith, MachineFile, Status, MadeEnds, no_memory}
use Rattle.tta_build.specs.declared.error.BuildError.{BuildError}
use Rattle.tta_build.specs.declared.error.BuildError.TheVariants.{NotCovered, NoUnit, FrameFull, CodeFull, NoMemory}
use Rattle.tta_tool.specs.Build.{IsImageOf, IsCauseOf, ending_of}

pub whole_image : {T : Type 0} → (converts : Bool) (u : Units) (file : MachineFile) (p : Program) (whole : Whole) (items : T → List ℕ)
    (result : Result T Status) → IsBuiltWith converts u file.machine p whole → MadeEnds (Image file.machine file.digest whole) no_memory items result
    → MadeEnds (IsImageOf converts u file p) (IsCauseOf converts u file.machine p) items result
whole_image converts u file p whole items (Ok v) built ends = record { whole = whole; image = ends; built = built }
whole_image converts u file p whole items (Err s) built ends = subst (IsCauseOf converts u file.machine p) (sym ends) tt

-- an error that has its cause ends so
pub cause_ends : (converts : Bool) (u : Units) (m : Machine) (p : Program) (e : BuildError) (s : Status) → s ≡ ending_of e
    → HasCauseWith converts u m p e → IsCauseOf converts u m p s
cause_ends converts u m p e s is c = subst (IsCauseOf converts u m p) (sym is) (by e c) where
  by : (e : BuildError) → HasCauseWith converts u m p e → IsCauseOf converts u m p (ending_of e)
  by (NotCovered rule) c = c
  by (NoUnit line) c = c
  by (FrameFull need have) c = c
  by (CodeFull words have) c = c
  by NoMemory c = tt
