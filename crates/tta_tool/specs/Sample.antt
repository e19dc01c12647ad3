-- What the command `sample` does, and why it does not.
use Rattle.std.specs.Prelude.{◌≡◌, ◌⊎◌, ℕ, ◌≤◌, ◌+◌, ◌*◌, Bool, true, false, List, [], ◌∷◌, length, replicate}
use Rattle.tta_tool.specs.Cited.{World, IsUntouched, Output, NothingOutput, IsPut, IsCut, Line, lines_text, Units, Machine, Program, step_count, sample_text, Whole, program_at, code_at, HaltAlike, IsBuilt, Status, HasMachine, MachineFails, IsProgramIn, RefusesProgram}
use Rattle.tta_report.specs.declared.line.Line.TheVariants as line
use Rattle.tta_program.specs.Sequential as program
use Rattle.tta_code.specs.Cycle as cycle
use Rattle.tta_tacrun.specs.Run as sequential
use Rattle.tta_sim.specs.Held as simulated
use Rattle.tta_load.specs.declared.status.Status.TheVariants as status
use Rattle.tta_tool.specs.Build.{IsCauseOf}
use Rattle.tta_tool.specs.Steps as steps
use Rattle.tta_code_run.specs.Cycles as cycles

-- ---- the two runs

-- The steps within which a sample has to halt: 16 rounds, each of two steps a line at the most and two that count it, and
-- the steps before and after the rounds.
abbrev pub step_bound : (lines : ℕ) → ℕ
step_bound lines = 32 * lines + 50

-- a data space of 0 in each word
abbrev pub zeros : (words : ℕ) → List ℕ
zeros words = replicate words 0

-- how far a program has come after so many steps, from data words of 0 and without an input
abbrev pub program_after : Units → Program → (space bound : ℕ) → program.State
program_after u p space bound = program_at u p (zeros space) [] bound

-- how far code has come after so many cycles, from the same
abbrev pub code_after : Units → Machine → Whole → (cycles : ℕ) → cycle.State
code_after u m whole cycles = code_at u m whole (zeros m.data_words) [] cycles

-- ---- what is printed

-- What is said of a program and its code that have come to these states: how many steps and instructions they have, how
-- many steps and cycles were carried out, how many words were output, and that both output the same and left the same data
-- words.
abbrev pub summary : Program → Whole → program.State → cycle.State → List Line
summary p whole s t =
    line.Lines (step_count p) ∷ line.Words (length whole.code.words) ∷ line.Steps s.steps ∷ line.Cycles t.cycle
    ∷ line.Outputs (length s.output) ∷ line.Equal true ∷ []

-- ---- how the command ends

-- a program that has halted within a bound and its code were compared
abbrev pub CodeCompared : Units → Machine → Program → Whole → (bound : ℕ) → (Put : List ℕ → Type 0) → Type 0
CodeCompared u m p whole bound Put =
    (n : ℕ) × HaltAlike (program_after u p m.data_words bound) (code_after u m whole n)
    × Put (lines_text (summary p whole (program_after u p m.data_words bound) (code_after u m whole n)))

-- how the command ends where there is code, by how the program's run has ended
abbrev pub CompareEnds : Units → Machine → Program → Whole → (bound : ℕ) → (old new : Output) → Status → Type 0
CompareEnds u m p whole bound old new status.Ok = CodeCompared u m p whole bound (λ text. IsPut text old new)
CompareEnds u m p whole bound old new status.WriteFault = CodeCompared u m p whole bound (λ text. IsCut text old new)
CompareEnds u m p whole bound old new status.Running =
    ((program_after u p m.data_words bound).outcome ≡ program.Running) × NothingOutput old new
CompareEnds u m p whole bound old new status.Waiting =
    ((program_after u p m.data_words bound).outcome ≡ program.Waiting) × NothingOutput old new
CompareEnds u m p whole bound old new status.NoMemory = NothingOutput old new
CompareEnds u m p whole bound old new s = ⊥

-- How the command ends where a program was read: no code is built for it, for a cause; or it is built and compared with the
-- program.
abbrev pub CompileEnds : Units → Machine → Program → (bound : ℕ) → (old new : Output) → Status → Type 0
CompileEnds u m p bound old new s =
    (IsCauseOf false u m p s × NothingOutput old new) ⊎ ((whole : Whole) × IsBuilt u m p whole × CompareEnds u m p whole bound old new s)

-- The same where a machine was read: the sample's text is refused for its data space, or it is that of a program.
abbrev pub SampleForEnds : Units → Machine → (seed lines : ℕ) → (old new : Output) → Status → Type 0
SampleForEnds u m seed lines old new s =
    (RefusesProgram u m.data_words (sample_text seed lines) s × NothingOutput old new)
    ⊎ ((p : Program) × IsProgramIn u m.data_words (sample_text seed lines) p × CompileEnds u m p (step_bound lines) old new s)

-- How `sample SEED LINES M` ends. The machine is word 3. Each ending but out of memory comes only where its cause holds. Nothing is put
-- but the summary, or a prefix of it where a put has failed; and a summary says that both runs are equal.
abbrev pub Samples : Units → (seed lines : ℕ) → (M : List ℕ) → (before after : World) → (old new : Output) → Status → Type 0
Samples u seed lines M before after old new s =
    (MachineFails u M 3 before after s × NothingOutput old new)
    ⊎ ((m : HasMachine u before.contents M) × IsUntouched before after × SampleForEnds u m.value.machine seed lines old new s)

-- ---- the command's parts

-- a program was run from data words of 0, and its words were kept
pub record HasRun (u : Units) (p : Program) (space bound : ℕ) (run : sequential.Run) (words : List ℕ) (waits : Bool) : Type 0 where
  pub comes : steps.ComesTo waits run (program_after u p space bound)
  pub output : words ≡ (program_after u p space bound).output
  pub within : run.steps ≤ bound

-- code was run from data words of 0, and its words were kept
pub record HasCycled (u : Units) (m : Machine) (whole : Whole) (bound : ℕ) (held : simulated.Held) (words : List ℕ) (waits : Bool) : Type 0 where
  pub comes : cycles.ComesTo waits held (code_after u m whole bound)
  pub output : words ≡ (code_after u m whole bound).output

-- two runs stand for states of which one has left the same data words and output the same as the other
pub record StandAlike (run : sequential.Run) (held : simulated.Held) (words cycled : List ℕ) (s : program.State) (t : cycle.State) : Type 0 where
  pub steps : run.steps ≡ s.steps
  pub cycles : held.cycle ≡ t.cycle
  pub output : words ≡ s.output
  pub same_output : words ≡ cycled
  pub same_memory : run.memory ≡ held.memory
