-- What `profile`, `play` and `waves` do, and why they do not.
use Rattle.std.specs.Prelude.{◌≡◌, ◌↔◌, ℕ, List, [], Option}
use Rattle.tta_inspect.specs.Cited.{over, World, Output, Units, Machine, Whole, data_in, State, start, data_of, Stages, AreStages, stages_text, origins_text, IsProfile, IsBlockProfile, page_after, page_of, waves_of, MachineFile, Status, no_memory, TextEnds, PairRuns, TextRows, PairRunEndings}
use Rattle.tta_code.specs.declared.code.Code.{Code}
use Rattle.tta_program.specs.Program.{Program}
use Rattle.tta_inspect.specs.declared.subject.Subject.{Subject}
use Rattle.tta_inspect.specs.declared.subject.Subject.TheVariants.{Code as OfCode, Program as OfProgram}
use Rattle.tta_inspect.specs.Subjects.{IsSubject, RefusesSubject}
use Rattle.tta_inspect.specs.Stages.{IsCauseOf}
use Rattle.tta_inspect.specs.declared.view.RunView.{RunView}
use Rattle.tta_inspect.specs.declared.view.RunView.TheVariants.{Profile, Play, PlayAfter, Waves}

-- a text is what is shown of at most so many cycles of code from a state, or of so many after others: a page tells of no program
abbrev pub IsRunShown : Units → RunView → Machine → Code → State → (bound : ℕ) → (text : List ℕ) → Type 0
IsRunShown u Profile m code s bound text = IsProfile u m code s bound text
IsRunShown u Play m code s bound text = text ≡ page_of u m code [] [] s bound
IsRunShown u (PlayAfter first) m code s bound text = text ≡ page_after u m code [] [] s first bound
IsRunShown u Waves m code s bound text = text ≡ waves_of u m code s bound

-- the same from these data words, the code's own data laid over them, with this input
abbrev pub IsViewOf : Units → RunView → (bound : ℕ) → MachineFile → Whole → (memory words : List ℕ) → (text : List ℕ) → Type 0
IsViewOf u view bound file whole memory words text =
    IsRunShown u view file.machine whole.code (start file.machine (over (data_in whole) memory) words) bound text

-- ---- a program

-- a text is what is shown of at most so many cycles of the code of a program from a state: a profile tells of its blocks, and a page of its
-- stages, and of the lines and the variables of each block
abbrev pub IsCompiledShown : Units → RunView → Machine → Program → Stages → State → (bound : ℕ) → (text : List ℕ) → Type 0
IsCompiledShown u Profile m p stages s bound text = IsBlockProfile u m p stages s bound text
IsCompiledShown u Play m p stages s bound text = text ≡ page_of u m stages.code (stages_text u m p stages) (origins_text m p stages) s bound
IsCompiledShown u (PlayAfter first) m p stages s bound text =
    text ≡ page_after u m stages.code (stages_text u m p stages) (origins_text m p stages) s first bound
IsCompiledShown u Waves m p stages s bound text = text ≡ waves_of u m stages.code s bound

-- The program has stages on the way to code for the machine, and a text is what is shown of their code from these data words,
-- the program's own data laid over them, with this input.
pub record IsProgramShown (u : Units) (view : RunView) (bound : ℕ) (file : MachineFile) (p : Program) (memory words : List ℕ) (text : List ℕ) : Type 0 where
  pub stages : Stages
  pub are : AreStages u file.machine p stages
  pub shown : IsCompiledShown u view file.machine p stages (start file.machine (over (data_of p) memory) words) bound text

-- ---- either

-- a text is what is shown of a run of what was read
abbrev pub IsShown : Units → RunView → (bound : ℕ) → MachineFile → Subject → (memory words : List ℕ) → (text : List ℕ) → Type 0
IsShown u view bound file (OfCode whole) memory words text = IsViewOf u view bound file whole memory words text
IsShown u view bound file (OfProgram p) memory words text = IsProgramShown u view bound file p memory words text

-- why nothing is shown: memory lacks, or `build` builds no code of the program
abbrev pub Lacks : Units → MachineFile → Subject → Status → Type 0
Lacks u file (OfCode whole) s = no_memory s
Lacks u file (OfProgram p) s = IsCauseOf u file.machine p s

-- what is shown is output
abbrev pub Tells : Units → RunView → (bound : ℕ) → MachineFile → Subject → (memory words : List ℕ) → (old new : Output) → Status → Type 0
Tells u view bound file subject memory words old new s =
    TextEnds (IsShown u view bound file subject memory words) (Lacks u file subject) old new s

-- How `profile M F IN N`, `play M F IN N`, `waves M F IN N` and all with STREAM end, where F is the file of an image or of a program. Each ending
-- but out of memory comes only where its cause holds.
abbrev pub ShowsRun : Units → RunView → (M F IN : List ℕ) → (STREAM : Option (List ℕ)) → (bound : ℕ) → (before after : World) → (old new : Output) → Status → Type 0
ShowsRun u view M F IN STREAM bound before after old new s =
    PairRuns u (IsSubject u) (RefusesSubject u) (Tells u view bound) M F IN STREAM before after old new s

-- ---- how it ends by its status

-- what holds where such a command ends with a status
abbrev pub RunEndings : Units → RunView → (M F IN : List ℕ) → (STREAM : Option (List ℕ)) → (bound : ℕ) → (before after : World) → (old new : Output) → Status → Type 0
RunEndings u view M F IN STREAM bound before after old new s =
    PairRunEndings u (IsSubject u) (RefusesSubject u)
    (λ file subject memory words. TextRows (IsShown u view bound file subject memory words) (Lacks u file subject))
    M F IN STREAM before after old new s

-- its clause says this of each status
abbrev pub RunByStatus : Type 0
RunByStatus =
    (u : Units) (view : RunView) (M F IN : List ℕ) (STREAM : Option (List ℕ)) (bound : ℕ) (before after : World) (old new : Output) (s : Status)
    → ShowsRun u view M F IN STREAM bound before after old new s ↔ RunEndings u view M F IN STREAM bound before after old new s
