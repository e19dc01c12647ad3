-- How the endings of the parts of `sample` make its own.
use Rattle.std.proofs.Common.{◌≡◌, ◌≤◌, ℕ, ◌+◌, ◌*◌, Bool, true, false, List, [], length, refl, sym, ap, ◌∙◌, subst, arith}
use Rattle.std.proofs.lemmas.List.{length-replicate}
use Rattle.tta_tool.specs.Cited.{lines_text, Units, Machine, over, Program, data_of, Whole, data_in, HaltAlike, IsGiven, IsBuilt, Status, PutEnds, Output, Keeps}
use Rattle.tta_program.specs.Sequential as program
use Rattle.tta_code.specs.Cycle as cycle
use Rattle.tta_refines.proofs.Words.{none_words}
use Rattle.tta_tacrun.specs.Run as sequential
use Rattle.tta_sim.specs.Held as simulated
use Rattle.tta_load.specs.declared.status.Status.TheVariants as status
use Rattle.tta_tool.specs.Steps as steps
use Rattle.tta_code_run.specs.Cycles as cycles
use Rattle.tta_tool.specs.Sample.{zeros, program_after, code_after, summary, HasRun, HasCycled, StandAlike, CompareEnds}
use Rattle.tta_tool.proofs.ProgramSteps.{halts_by_its_steps}

-- ---- the two runs

-- A program was loaded with data words of 0, over which its data were laid, and its words were kept.
pub has_run : (u : Units) (p : Program) (space bound : ℕ) (memory : List ℕ) → memory ≡ over (data_of p) (zeros space)
    → (old new : sequential.Run) (words : List ℕ) (waits : Bool) → sequential.Stands old (program.start p memory [])
    → new.steps ≤ old.steps + bound → Keeps (steps.meaning_of u p) (sequential.Stands new) bound (program.start p memory []) words waits
    → HasRun u p space bound new words waits
has_run u p space bound memory laid old new words waits stands made kept =
    let none : old.steps ≡ 0 = stands.steps in
    let same = subst (λ l. Keeps (steps.meaning_of u p) (sequential.Stands new) bound (program.start p l []) words waits) laid kept in
    let fewer : new.steps ≤ bound = omega arith in
    record { comes = same.comes; output = same.output; within = fewer }

-- Code was loaded with data words of 0, over which its data were laid, and its words were kept.
pub has_cycled : (u : Units) (m : Machine) (whole : Whole) (bound : ℕ) (memory : List ℕ) → memory ≡ zeros m.data_words
    → (new : simulated.Held) (words : List ℕ) (waits : Bool)
    → Keeps (cycles.meaning_of u m whole.code) (simulated.Stands new) bound (cycle.start m (over (data_in whole) memory) []) words waits
    → HasCycled u m whole bound new words waits
has_cycled u m whole bound memory none new words waits kept =
    let same = subst (λ l. Keeps (cycles.meaning_of u m whole.code) (simulated.Stands new) bound (cycle.start m (over (data_in whole) l) []) words waits) none kept in
    record { comes = same.comes; output = same.output }

pub zeros_given : (m : Machine) → IsGiven m (zeros m.data_words) []
zeros_given m = record { size = length-replicate m.data_words 0; words = none_words m.data_words; inputs = tt }

-- a code's run whose state has halted stands for it
code_stands : (waits : Bool) (h : simulated.Held) (t : cycle.State) → t.outcome ≡ cycle.Halted → cycles.ComesTo waits h t → simulated.Stands h t
code_stands false h t halted comes = comes
code_stands true h t halted comes = absurd (differ (sym halted ∙ ap (λ (x : cycle.State). x.outcome) comes.2)) where
  differ : cycle.Halted ≡ cycle.Waiting → ⊥
  differ e = cc

module _ (u : Units) (m : Machine) (p : Program) (whole : Whole) (bound : ℕ) (built : IsBuilt u m p whole) where
  -- the cycles within which the code halts where a program has halted after so many steps
  abbrev pub cycles_for : sequential.Run → ℕ
  cycles_for r = length whole.code.words * (r.steps + 1)

  module _ (r : sequential.Run) (output : List ℕ) (run : HasRun u p m.data_words bound r output false) (halted : r.outcome ≡ program.Halted) where
    abbrev pub s : program.State
    s = program_after u p m.data_words bound

    abbrev pub t : cycle.State
    t = code_after u m whole (cycles_for r)

    program_halted : s.outcome ≡ program.Halted
    program_halted = sym run.comes.outcome ∙ halted

    -- so many steps as were made come to the same state
    made : program_after u p m.data_words r.steps ≡ s
    made =
        ap (program_after u p m.data_words) run.comes.steps
        ∙ halts_by_its_steps u p (program.start p (over (data_of p) (zeros m.data_words)) []) refl bound program_halted

    -- both have halted alike
    pub alike : HaltAlike s t
    alike =
        subst (λ (x : program.State). HaltAlike x t) made
        (built.agrees.halts (zeros m.data_words) [] r.steps (zeros_given m) (ap (λ (x : program.State). x.outcome) made ∙ program_halted))

    -- the runs that were made stand for them
    pub stand_alike : (h : simulated.Held) (cycled : List ℕ) (waits : Bool) → HasCycled u m whole (cycles_for r) h cycled waits
        → StandAlike r h output cycled s t
    stand_alike h cycled waits ran =
        let stands = code_stands waits h t alike.code ran.comes in record {
          steps = run.comes.steps;
          cycles = stands.cycle;
          output = run.output;
          same_output = run.output ∙ sym alike.output ∙ sym ran.output;
          same_memory = run.comes.memory ∙ sym alike.memory ∙ sym stands.memory;
        }

    -- and what is put of them is how the command ends
    pub compared : (old new : Output) (s' : Status) → PutEnds (lines_text (summary p whole s t)) old new s' → CompareEnds u m p whole bound old new s'
    compared old new status.Ok put = (cycles_for r, alike, put)
    compared old new status.WriteFault put = (cycles_for r, alike, put)
    compared old new s' put = absurd put
