-- The numbers of a program that bound its code.
use Rattle.std.specs.Prelude.{ℕ, ◌+◌, ◌-◌, ◌*◌, length}
use Rattle.std.specs.List.{sum_by}
use Rattle.tta_program.specs.declared.step.Step.{Step}
use Rattle.tta_program.specs.declared.step.Step.TheVariants.{Invoke}
use Rattle.tta_program.specs.Program.{Program}

-- how many variables all procedures have
abbrev pub var_count : Program → ℕ
var_count p = sum_by (λ q. q.vars) p.procs

-- the arguments of a call
abbrev pub args_in : Step → ℕ
args_in (Invoke d callee args) = length args
args_in step = 0

-- how many arguments all calls have
abbrev pub arg_count : Program → ℕ
arg_count p = sum_by (λ q. sum_by args_in q.steps) p.procs

-- How many frame words a program needs: one for each variable, and two for each procedure but main, for its return
-- address and its returned value.
abbrev pub frame_need : Program → ℕ
frame_need p = var_count p + 2 * (length p.procs - 1)
