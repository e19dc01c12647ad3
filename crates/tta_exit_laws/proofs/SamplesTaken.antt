-- How `sample` ends where no call fails: it puts its summary, is out of memory, or there is a cause for which no code is built.
use Rattle.std.proofs.Common.{◌≡◌, ◌⊎◌, ℕ, false, List, Option, refl, subst, inl, inr}
use Rattle.tta_exit_laws.specs.Cited.{Rose, Output, Units, Machine, sample_text, Whole, MachineFile, Status, IsDescribed, RefusesMachine, IsProgramIn, step_bound, program_after, CompareEnds, CompileEnds, SampleForEnds, Store, World, IsCauseOf, Samples}
use Rattle.tta_program.specs.Program.{Program}
use Rattle.tta_program.specs.Sequential as sequential
use Rattle.tta_load.specs.declared.status.Status.TheVariants as status
use Rattle.tta_ports.specs.declared.fault.Fault.{Fault}
use Rattle.tta_exit_laws.specs.Completes.{showing}
use Rattle.tta_exit_laws.specs.PutCompletes.{IsUndisturbed, HasHaltingSample, SampleCompletes, SampleCompletesWithoutRoom}
use Rattle.tta_exit_laws.proofs.OneProgram.{one_program}
use Rattle.tta_exit_laws.proofs.FilesTaken.{machine_only, program_only, file_only}
use Rattle.tta_exit_laws.proofs.PairsTaken.{same_file}
use Rattle.tta_exit_laws.proofs.AcceptedPairs.{cause_only, roomy_only}

-- the summary is put, there is no memory, or there is a cause
abbrev EndsSo : Units → Machine → Program → Status → Type 0
EndsSo u m p s = (s ≡ status.Ok) ⊎ (s ≡ status.NoMemory) ⊎ IsCauseOf false u m p s

-- a program that has halted is compared with its code
compare_only : (u : Units) (m : Machine) (p : Program) (whole : Whole) (bound : ℕ) (old new : Output) (s : Status) → (Rose old.faults new.faults → ⊥)
    → (program_after u p m.data_words bound).outcome ≡ sequential.Halted → CompareEnds u m p whole bound old new s → EndsSo u m p s
compare_only u m p whole bound old new status.Ok none halted ends = inl refl
compare_only u m p whole bound old new status.WriteFault none halted ends = absurd (none ends.2.rose)
compare_only u m p whole bound old new status.Running none halted ends = let running = ends.0 in absurd cc
compare_only u m p whole bound old new status.Waiting none halted ends = let waiting = ends.0 in absurd cc
compare_only u m p whole bound old new status.NoMemory none halted ends = inr (inl refl)
compare_only u m p whole bound old new s none halted ends = absurd ends

-- and it is built, if there is no cause against it
compile_only : (u : Units) (m : Machine) (p : Program) (bound : ℕ) (old new : Output) (s : Status) → (Rose old.faults new.faults → ⊥)
    → (program_after u p m.data_words bound).outcome ≡ sequential.Halted → CompileEnds u m p bound old new s → EndsSo u m p s
compile_only u m p bound old new s none halted (inl (lacks, q)) = inr (inr lacks)
compile_only u m p bound old new s none halted (inr (whole, built, ends)) = compare_only u m p whole bound old new s none halted ends

-- the same where a machine was read
machine_sample_only : (u : Units) (m : Machine) (seed lines : ℕ) (p : Program) (old new : Output) (s : Status) → (Rose old.faults new.faults → ⊥)
    → IsProgramIn u m.data_words (sample_text seed lines) p → (program_after u p m.data_words (step_bound lines)).outcome ≡ sequential.Halted
    → SampleForEnds u m seed lines old new s → EndsSo u m p s
machine_sample_only u m seed lines p old new s none is halted (inl (refuses, q)) =
    inr (inl (program_only u m.data_words (sample_text seed lines) p s is refuses))
machine_sample_only u m seed lines p old new s none is halted (inr (other, also, ends)) =
    let same = one_program u (sample_text seed lines) other p also.read is.read in
    compile_only u m p (step_bound lines) old new s none halted (subst (λ (q : Program). CompileEnds u m q (step_bound lines) old new s) same ends)

-- and where its file is there
sample_only : (u : Units) (store : Store) (faults : ℕ) (latest : Option Fault) (seed lines : ℕ) (M : List ℕ) (after : World) (old new : Output) (s : Status)
    → (has : HasHaltingSample u seed lines store M) → IsUndisturbed (showing store faults latest) after old new
    → Samples u seed lines M (showing store faults latest) after old new s → EndsSo u has.machine.value.machine has.program s
sample_only u store faults latest seed lines M after old new s has calm (inl (fails, q)) =
    let file = has.machine.value in
    inr (inl (file_only store faults latest after calm.files (IsDescribed u) (RefusesMachine u) M file 3 s (λ text. machine_only u text file s) has.machine.held fails))
sample_only u store faults latest seed lines M after old new s has calm (inr (b, same, ends)) =
    let file = same_file u store M b has.machine in
    machine_sample_only u has.machine.value.machine seed lines has.program old new s calm.output has.is has.halted
    (subst (λ (f : MachineFile). SampleForEnds u f.machine seed lines old new s) file ends)

-- where the pair has room, the only cause is that of memory
pub sample_completes_holds : SampleCompletes
sample_completes_holds u store faults latest seed lines M after old new s has calm ends =
    elim (sample_only u store faults latest seed lines M after old new s has.sample calm ends) [
      | inl done ↦ inl done
      | inr (inl lacks) ↦ inr lacks
      | inr (inr cause) ↦ inr (roomy_only false u has.sample.machine.value.machine has.sample.program s has.roomy cause)
    ]

-- where it is accepted, code may be too long beside that
pub sample_completes_without_room_holds : SampleCompletesWithoutRoom
sample_completes_without_room_holds u store faults latest seed lines M after old new s has calm ends =
    elim (sample_only u store faults latest seed lines M after old new s has.sample calm ends) [
      | inl done ↦ inl done
      | inr (inl lacks) ↦ inr (inl lacks)
      | inr (inr cause) ↦ inr (cause_only false u has.sample.machine.value.machine has.sample.program s has.accepted cause)
    ]
