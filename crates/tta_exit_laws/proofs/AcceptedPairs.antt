-- A pair that is accepted has no cause of `build` but that of memory, and that its code is too long.
use Rattle.std.proofs.Common.{◌≡◌, ◌⊎◌, Bool, true, refl, inl, inr}
use Rattle.tta_exit_laws.specs.Cited.{Units, Machine, HasCauseWith, LacksRoomWith, IsAccepted, IsRoomy, Status, IsCauseOf}
use Rattle.tta_program.specs.Program.{Program}
use Rattle.tta_build.specs.declared.error.BuildError.{BuildError}
use Rattle.tta_build.specs.declared.error.BuildError.TheVariants as cause
use Rattle.tta_build.specs.Excludes.{is_beside_code}
use Rattle.tta_build.proofs.Excluding.{of_cause, accepted_excludes}
use Rattle.tta_build.proofs.Completes.{full_lacks, completes}
use Rattle.tta_load.specs.declared.status.Status.TheVariants as status
use Rattle.tta_exit_laws.specs.WriteCompletes.{IsFull}

module _ (converts : Bool) (u : Units) (m : Machine) (p : Program) where
  beside : (e : BuildError) → IsAccepted u m p → HasCauseWith converts u m p e → is_beside_code e ≡ true
  beside e accepted c = accepted_excludes u m p e accepted (of_cause converts u m p e c)

  -- a cause is that of memory, or the code is too long
  pub cause_only : (s : Status) → IsAccepted u m p → IsCauseOf converts u m p s
      → (s ≡ status.NoMemory) ⊎ IsFull (LacksRoomWith converts u m p) s
  cause_only (status.NotCovered rule) accepted c = let no = beside (cause.NotCovered rule) accepted c in absurd cc
  cause_only (status.NoUnit line) accepted c = let no = beside (cause.NoUnit line) accepted c in absurd cc
  cause_only (status.FrameFull need have) accepted c = let no = beside (cause.FrameFull need have) accepted c in absurd cc
  cause_only (status.CodeFull words have) accepted c =
      inr (record { words = words; have = have; told = refl; lacks = full_lacks converts u m p words have c })
  cause_only status.NoMemory accepted c = inl refl
  cause_only s accepted c = absurd c

  -- where it has room too, its code is not too long
  pub roomy_only : (s : Status) → IsRoomy u m p → IsCauseOf converts u m p s → s ≡ status.NoMemory
  roomy_only (status.NotCovered rule) roomy c = let no = completes converts u m p (cause.NotCovered rule) roomy c in absurd cc
  roomy_only (status.NoUnit line) roomy c = let no = completes converts u m p (cause.NoUnit line) roomy c in absurd cc
  roomy_only (status.FrameFull need have) roomy c = let no = completes converts u m p (cause.FrameFull need have) roomy c in absurd cc
  roomy_only (status.CodeFull words have) roomy c = let no = completes converts u m p (cause.CodeFull words have) roomy c in absurd cc
  roomy_only status.NoMemory roomy c = refl
  roomy_only s roomy c = absurd c
