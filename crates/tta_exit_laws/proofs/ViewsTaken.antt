-- Where files hold what a command for designers shows, and no call fails, it is shown, unless memory lacks or a program's code is too long.
use Rattle.std.proofs.Common.{◌≡◌, ◌⊎◌, ℕ, false, List, Option, Some, None, refl, ap, subst, inl, inr}
use Rattle.std.specs.Prelude.{Err}
use Rattle.tta_ports.specs.declared.fault.Fault.{Fault}
use Rattle.tta_exit_laws.specs.Cited.{Store, Rose, World, Output, Come, Units, Machine, Whole, Debugged, LinesFailed, TooLong, SinkFailed, MachineFile, Status, IsDescribed, RefusesMachine, IsImageFor, RefusesImage, IsProgramFor, RefusesProgramFor, IsInput, RefusesStream, IsStream, no_memory, HasPair, IsCauseOf, Subject, IsSubject, RefusesSubject, machine_view, IsTold, IsPictureText, Lacks, Tells, StagesView, IsStagesOf, ShowsStages, GivenFails, FilesFail}
use Rattle.tta_program.specs.Program.{Program as Program'}
use Rattle.tta_code.specs.declared.code.Code.{Code as Code'}
use Rattle.tta_load.specs.declared.status.Status.TheVariants as status
use Rattle.tta_inspect.specs.declared.subject.Subject.TheVariants.{Code, Program}
use Rattle.tta_inspect.specs.Runs.{IsShown}
use Rattle.tta_inspect.specs.Stages.{IsCauseOf as IsStageCause}
use Rattle.tta_load.specs.Inputs.{StreamFails}
use Rattle.tta_inspect.specs.Prompts.{Ended, SessionEnds}
use Rattle.tta_exit_laws.specs.Completes.{showing}
use Rattle.tta_exit_laws.specs.PutCompletes.{IsUndisturbed}
use Rattle.tta_exit_laws.specs.ViewCompletes.{MachineViewCompletes, InfoCompletes, PictureCompletes, IsRunnable, IsTooLong, RunViewCompletes}
use Rattle.tta_exit_laws.specs.ViewCompletes.{StagesCompletes, StagesCompletesWithoutRoom, HasPromptFiles, IsCalm, PromptCompletes}
use Rattle.tta_exit_laws.proofs.OneProgram.{one_program}
use Rattle.tta_exit_laws.proofs.FilesTaken.{machine_only, program_only, file_only}
use Rattle.tta_exit_laws.proofs.PairsTaken.{image_only, one_whole, same_file, pair_only}
use Rattle.tta_exit_laws.proofs.AcceptedPairs.{cause_only, roomy_only}
use Rattle.tta_exit_laws.proofs.RunsTaken.{words_only, memory_only, runs_so}
use Rattle.tta_exit_laws.proofs.TextsPut.{text_only, puts_only}

-- ---- a machine, and code

pub machine_view_completes_holds : MachineViewCompletes
machine_view_completes_holds u store faults latest view M after old new s has calm (inl (fails, q)) =
    inr (file_only store faults latest after calm.files (IsDescribed u) (RefusesMachine u) M has.value 1 s (λ text. machine_only u text has.value s) has.held fails)
machine_view_completes_holds u store faults latest view M after old new s has calm (inr (m, same, ends)) =
    text_only (λ text. text ≡ machine_view u view m.value) no_memory old new s calm.output ends

pub info_completes_holds : InfoCompletes
info_completes_holds u store faults latest M IMG after old new s pair calm ends =
    let held = pair.machine.held in
    let file = pair.machine.value in
    let whole = pair.second.value in
    elim (puts_only u store faults latest after old new calm IsImageFor RefusesImage IsTold (λ file whole. no_memory) M IMG s pair
    (λ bytes is. image_only u held.bytes file bytes whole s held.says is) (λ bytes v. one_whole u held.bytes file bytes v whole held.says) ends) [
      | inl done ↦ inl done
      | inr (inl lacks) ↦ inr lacks
      | inr (inr lacks) ↦ inr lacks
    ]

-- ---- what is run

-- bytes that give something to run are refused only for lack of memory
pub subject_only : (u : Units) (text : List ℕ) (file : MachineFile) (bytes : List ℕ) (subject : Subject) (s : Status) → IsDescribed u text file
    → IsSubject u file bytes subject → RefusesSubject u file bytes s → s ≡ status.NoMemory
subject_only u text file bytes (Code whole) s described is (inl (begins, bad)) = image_only u text file bytes whole s described is.1 bad
subject_only u text file bytes (Code whole) s described is (inr (begins, bad)) = let other = is.0 in absurd cc
subject_only u text file bytes (Program p) s described is (inl (begins, bad)) = let other = is.0 in absurd cc
subject_only u text file bytes (Program p) s described is (inr (begins, bad)) = program_only u file.machine.data_words bytes p s is.1 bad

-- and give one thing at most
pub one_subject : (u : Units) (text : List ℕ) (file : MachineFile) (bytes : List ℕ) (a b : Subject) → IsDescribed u text file
    → IsSubject u file bytes a → IsSubject u file bytes b → a ≡ b
one_subject u text file bytes (Code a) (Code b) described is also = ap Code (one_whole u text file bytes a b described is.1 also.1)
one_subject u text file bytes (Code a) (Program b) described is also = let one = is.0 in let other = also.0 in absurd cc
one_subject u text file bytes (Program a) (Code b) described is also = let one = is.0 in let other = also.0 in absurd cc
one_subject u text file bytes (Program a) (Program b) described is also = ap Program (one_program u bytes a b is.1.read also.1.read)

-- the causes of `stages` are those of `build`
cause_of_build : (u : Units) (m : Machine) (p : Program') (s : Status) → IsStageCause u m p s → IsCauseOf false u m p s
cause_of_build u m p (status.NotCovered rule) c = c
cause_of_build u m p (status.NoUnit line) c = c
cause_of_build u m p (status.FrameFull need have) c = c
cause_of_build u m p (status.CodeFull words have) c = c
cause_of_build u m p status.NoMemory c = c
cause_of_build u m p s c = absurd c

-- where nothing is shown of what may be run, memory lacks, or the code of a program is too long
pub lacks_only : (u : Units) (file : MachineFile) (subject : Subject) (s : Status) → IsRunnable u file.machine subject → Lacks u file subject s
    → (s ≡ status.NoMemory) ⊎ IsTooLong u file.machine subject s
lacks_only u file (Code whole) s runnable lacks = inl lacks
lacks_only u file (Program p) s runnable lacks = cause_only false u file.machine p s runnable (cause_of_build u file.machine p s lacks)

pub picture_completes_holds : PictureCompletes
picture_completes_holds u store faults latest M F after old new s pair runnable calm ends =
    let held = pair.machine.held in
    let file = pair.machine.value in
    let subject = pair.second.value in
    elim (puts_only u store faults latest after old new calm (IsSubject u) (RefusesSubject u) (IsPictureText u) (Lacks u) M F s pair
    (λ bytes is. subject_only u held.bytes file bytes subject s held.says is) (λ bytes v. one_subject u held.bytes file bytes v subject held.says) ends) [
      | inl done ↦ inl done
      | inr (inl lacks) ↦ inr (inl lacks)
      | inr (inr lacks) ↦ inr (lacks_only u file subject s runnable lacks)
    ]

pub run_view_completes_holds : RunViewCompletes
run_view_completes_holds u store faults latest view M F IN STREAM bound after old new s has calm ends =
    let pair = has.pair in
    let held = pair.machine.held in
    let file = pair.machine.value in
    let subject = pair.second.value in
    let memory = has.given.input.value in
    let words = has.given.stream.words in
    runs_so u store faults latest after calm.files IN STREAM old new s (λ lacks. inr (inl lacks)) (IsSubject u) (RefusesSubject u) (Tells u view bound) M F
    pair has.given (λ bytes is. subject_only u held.bytes file bytes subject s held.says is)
    (λ bytes v. one_subject u held.bytes file bytes v subject held.says)
    (λ told. elim (text_only (IsShown u view bound file subject memory words) (Lacks u file subject) old new s calm.output told) [
      | inl done ↦ inl done
      | inr lacks ↦ inr (lacks_only u file subject s has.runnable lacks)
    ]) ends

-- ---- stages

-- `stages` of a pair that files hold is done, lacks memory, or has a cause of `build`
stages_only : (u : Units) (store : Store) (faults : ℕ) (latest : Option Fault) (view : StagesView) (M P : List ℕ) (after : World) (old new : Output) (s : Status)
    (pair : HasPair u (IsProgramFor u) (Some store) M P) → IsUndisturbed (showing store faults latest) after old new
    → ShowsStages u view M P (showing store faults latest) after old new s
    → (s ≡ status.Ok) ⊎ (s ≡ status.NoMemory) ⊎ IsCauseOf false u pair.machine.value.machine pair.second.value s
stages_only u store faults latest view M P after old new s pair calm ends =
    let file = pair.machine.value in
    let program = pair.second.value in
    elim (puts_only u store faults latest after old new calm (IsProgramFor u) (RefusesProgramFor u) (IsStagesOf u view) (λ file p. IsStageCause u file.machine p) M P s pair
    (λ text. program_only u file.machine.data_words text program s) (λ text p is also. one_program u text p program is.read also.read) ends) [
      | inl done ↦ inl done
      | inr (inl lacks) ↦ inr (inl lacks)
      | inr (inr lacks) ↦ inr (inr (cause_of_build u file.machine program s lacks))
    ]

pub stages_completes_without_room_holds : StagesCompletesWithoutRoom
stages_completes_without_room_holds u store faults latest view M P after old new s has calm ends =
    elim (stages_only u store faults latest view M P after old new s has.pair calm ends) [
      | inl done ↦ inl done
      | inr (inl lacks) ↦ inr (inl lacks)
      | inr (inr lacks) ↦ inr (cause_only false u has.pair.machine.value.machine has.pair.second.value s has.accepted lacks)
    ]

pub stages_completes_holds : StagesCompletes
stages_completes_holds u store faults latest view M P after old new s has calm ends =
    elim (stages_only u store faults latest view M P after old new s has.pair calm ends) [
      | inl done ↦ inl done
      | inr (inl lacks) ↦ inr lacks
      | inr (inr lacks) ↦ inr (roomy_only false u has.pair.machine.value.machine has.pair.second.value s has.roomy lacks)
    ]

-- ---- a session

module _ (u : Units) (m : Machine) (code : Code') (input : List ℕ) (d : Debugged) (came comes : Come) (old new : Output) where
  -- no session has ended by a line that did not come, or was too long
  lines_come : IsCalm came comes → Ended u m code input d came comes old new (Err LinesFailed) → ⊥
  lines_come calm (h, left) =
      calm.lines (subst (λ (c : Come). Rose c.faults comes.faults) left.answered.come left.ends.rose)

  lines_fit : IsCalm came comes → Ended u m code input d came comes old new (Err TooLong) → ⊥
  lines_fit calm (h, left) =
      let long = ap (λ (c : Come). c.overlong) left.ends in let short = calm.short in absurd cc

  -- nor by a put that failed
  all_put : (Rose old.faults new.faults → ⊥) → Ended u m code input d came comes old new (Err SinkFailed) → ⊥
  all_put none (h, last) = none (subst (λ (n : ℕ). Rose n new.faults) last.put.faults last.is.0.rose)

-- so it is done, or memory lacks
session_only : (u : Units) (file : MachineFile) (whole : Whole) (memory words : List ℕ) (came comes : Come) (old new : Output) (s : Status)
    → IsCalm came comes → (Rose old.faults new.faults → ⊥) → SessionEnds u file whole memory words came comes old new s
    → (s ≡ status.Ok) ⊎ (s ≡ status.NoMemory)
session_only u file whole memory words came comes old new status.Ok calm none ends = inl refl
session_only u file whole memory words came comes old new (status.ReadFault word) calm none ends =
    absurd (lines_come u file.machine whole.code words _ came comes old new calm ends.1)
session_only u file whole memory words came comes old new (status.TooLong word) calm none ends =
    absurd (lines_fit u file.machine whole.code words _ came comes old new calm ends.1)
session_only u file whole memory words came comes old new status.WriteFault calm none ends =
    absurd (all_put u file.machine whole.code words _ came comes old new none ends)
session_only u file whole memory words came comes old new status.NoMemory calm none ends = inr refl
session_only u file whole memory words came comes old new s calm none ends = absurd ends

module _ (u : Units) (store : Store) (faults : ℕ) (latest : Option Fault) (after : World) (none : Rose faults after.faults → ⊥) (s : Status) where
  abbrev before : World
  before = showing store faults latest

  -- an input that a file holds is not taken only for lack of memory
  stream_only : (STREAM : Option (List ℕ)) (words : List ℕ) → IsStream (Some store) STREAM words → StreamFails 4 STREAM before after s → s ≡ status.NoMemory
  stream_only None words is fails = absurd fails
  stream_only (Some name) words is fails =
      file_only store faults latest after none IsInput RefusesStream name words 4 s (λ bytes. words_only bytes words s) is fails

  -- nor is all that a session runs
  files_only : (M IMG IN : List ℕ) (STREAM : Option (List ℕ)) (has : HasPromptFiles u store M IMG IN STREAM)
      → FilesFail u M IMG IN STREAM before after s → s ≡ status.NoMemory
  files_only M IMG IN STREAM has (inl fails) =
      let held = has.pair.machine.held in
      let file = has.pair.machine.value in
      pair_only u store faults latest after none IsImageFor RefusesImage M IMG s has.pair
      (λ bytes is. image_only u held.bytes file bytes has.pair.second.value s held.says is) fails
  files_only M IMG IN STREAM has (inr (b, fails)) =
      let file = same_file u store M b.machine has.pair.machine in
      by (subst (λ (f : MachineFile). GivenFails 4 f.machine.data_words IN STREAM before after s) file fails) where
        by : GivenFails 4 has.pair.machine.value.machine.data_words IN STREAM before after s → s ≡ status.NoMemory
        by (inl fails) = memory_only u store faults latest after none has.pair.machine.value.machine.data_words IN s has.given.input fails
        by (inr (input, fails)) = stream_only STREAM has.given.stream.words has.given.stream.is fails

pub prompt_completes_holds : PromptCompletes
prompt_completes_holds u store faults latest M IMG IN STREAM after came comes old new s has undisturbed calm (inl (fails, idle)) =
    inr (files_only u store faults latest after undisturbed.files s M IMG IN STREAM has fails)
prompt_completes_holds u store faults latest M IMG IN STREAM after came comes old new s has undisturbed calm (inr (pair, given, same, ends)) =
    session_only u pair.machine.value pair.second.value given.input.value given.stream.words came comes old new s calm undisturbed.output ends
