-- What becomes of an error of lowering.
use Rattle.tta_build.specs.Cited.{LowerError}
use Rattle.tta_lower.specs.declared.error.LowerError.TheVariants as lower
use Rattle.tta_build.specs.declared.error.BuildError.{BuildError}
use Rattle.tta_build.specs.declared.error.BuildError.TheVariants.{FrameFull, NoMemory}

-- the error of `build` that says the same
abbrev pub of_lower : LowerError → BuildError
of_lower (lower.FrameFull need have) = FrameFull need have
of_lower lower.NoMemory = NoMemory
