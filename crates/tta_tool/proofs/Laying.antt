-- What is loaded has made no step.
use Rattle.std.proofs.Common.{◌≡◌, ◌<◌, ◌^◌, ℕ, ◌+◌, List, [], length, sym, subst, arith}
use Rattle.tta_tool.specs.Cited.{Machine, Program}
use Rattle.tta_program.specs.Sequential.{start as program_start}
use Rattle.tta_tacrun.specs.Run as program
use Rattle.tta_tacrun.specs.Run.{Run}
use Rattle.tta_code.specs.Cycle.{start as code_start}
use Rattle.tta_sim.specs.Held as code
use Rattle.tta_sim.specs.Held.{Held}

-- a program that was loaded has made no step, so a bound leaves room
pub few_steps : (r : Run) (p : Program) (memory : List ℕ) (bound : ℕ) → program.Stands r (program_start p memory []) → bound < 2 ^ 48
    → r.steps + bound < 2 ^ 62
few_steps r p memory bound at few = let none : r.steps ≡ 0 = at.steps in omega arith

-- and holds the memory that it was given
pub short_memory : (r : Run) (p : Program) (memory : List ℕ) → program.Stands r (program_start p memory []) → length memory < 2 ^ 32
    → length r.memory < 2 ^ 32
short_memory r p memory at short = subst (λ l. length l < 2 ^ 32) (sym at.memory) short

-- code that was loaded has made no cycle
pub few_cycles : (h : Held) (m : Machine) (memory : List ℕ) (bound : ℕ) → code.Stands h (code_start m memory []) → bound < 2 ^ 48
    → h.cycle + bound < 2 ^ 62
few_cycles h m memory bound at few = let none : h.cycle ≡ 0 = at.cycle in omega arith

-- and leaves room for a script
pub first_cycle : (h : Held) (m : Machine) (memory : List ℕ) → code.Stands h (code_start m memory []) → h.cycle < 2 ^ 60
first_cycle h m memory at = let none : h.cycle ≡ 0 = at.cycle in omega arith
