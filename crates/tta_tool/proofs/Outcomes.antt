-- How a run stands tells its outcome.
use Rattle.std.proofs.Common.{◌≡◌, ℕ, refl, sym, ap, ◌∙◌}
use Rattle.tta_program.specs.Sequential as program
use Rattle.tta_code.specs.Cycle as code
use Rattle.tta_tool.specs.Cited.{Ended}
use Rattle.tta_run.specs.declared.ended.Ended.TheVariants as ended
use Rattle.tta_tool.specs.Steps as steps
use Rattle.tta_code_run.specs.Cycles as cycles

-- ---- of a program; it is at no fault

abbrev program_outcome : Ended → program.Outcome
program_outcome ended.Halted = program.Halted
program_outcome ended.Waiting = program.Waiting
program_outcome end = program.Running

program_told : (o : program.Outcome) → program_outcome (steps.ended_of o) ≡ o
program_told program.Running = refl
program_told program.Halted = refl
program_told program.Waiting = refl

pub program_ended : (o : program.Outcome) (end : Ended) → steps.ended_of o ≡ end → o ≡ program_outcome end
program_ended o end is = sym (program_told o) ∙ ap program_outcome is

pub no_fault : (o : program.Outcome) (number cycle : ℕ) → steps.ended_of o ≡ ended.Fault number cycle → ⊥
no_fault program.Running number cycle is = cc
no_fault program.Halted number cycle is = cc
no_fault program.Waiting number cycle is = cc

-- ---- of code

abbrev code_outcome : Ended → code.Outcome
code_outcome ended.Halted = code.Halted
code_outcome ended.Running = code.Running
code_outcome ended.Waiting = code.Waiting
code_outcome (ended.Fault number cycle) = code.Fault number cycle

code_told : (o : code.Outcome) → code_outcome (cycles.ended_of o) ≡ o
code_told code.Running = refl
code_told code.Halted = refl
code_told code.Waiting = refl
code_told (code.Fault number cycle) = refl

pub code_ended : (o : code.Outcome) (end : Ended) → cycles.ended_of o ≡ end → o ≡ code_outcome end
code_ended o end is = sym (code_told o) ∙ ap code_outcome is
