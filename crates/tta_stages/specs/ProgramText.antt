-- The text of a program by its blocks, and of the homes and intervals of its variables.
use Rattle.std.specs.Prelude.{ℕ, ◌+◌, ◌-◌, ◌==◌, if◌then◌else◌, List, [], ◌∷◌, ◌++◌, Option, Some, None, slice_get, slice_index, codes}
use Rattle.std.specs.Option.{option_map_or}
use Rattle.std.specs.List.{flat_map, enumerate_from}
use Rattle.tta_stages.specs.Cited.{Units, numbers, Machine, Step, Proc, Program, Block, Live, live_before, live_after, Home, Slot, Interval, home_of, Words, proc_name, line_text, step_line}
use Rattle.tta_alloc.specs.declared.home.Home.TheVariants.{Reg}
use Rattle.tta_stages.specs.declared.lowered.Lowered.{Lowered}
use Rattle.tta_alloc.specs.AllIntervals.{interval_in}
use Rattle.tta_stages.specs.Words.{count_text, var_if, home_text}

-- ---- blocks

-- the line in which a step of a procedure stands
abbrev pub line_at : Program → (owner at : ℕ) → ℕ
line_at p owner at = option_map_or (λ q. slice_index q.lines at) (slice_get p.procs owner) 0

-- how many variables a procedure has
abbrev pub vars_at : Program → (owner : ℕ) → ℕ
vars_at p owner = option_map_or (λ q. q.vars) (slice_get p.procs owner) 0

-- the variables that are live before a step, and after one
unfoldable pub before_text : Live → (owner step vars : ℕ) → List ℕ
before_text l owner step vars = codes " live before :" ++ (flat_map (λ x. var_if (live_before l owner step x) x) (numbers vars) ++ codes "\n")

unfoldable pub after_text : Live → (owner step vars : ℕ) → List ℕ
after_text l owner step vars = codes " live after :" ++ (flat_map (λ x. var_if (live_after l owner step x) x) (numbers vars) ++ codes "\n")

-- a step, after its line
unfoldable pub numbered_text : Units → (main : ℕ) → Step → (line : ℕ) → List ℕ
numbered_text u main step line = count_text (codes " line ") line ++ (codes " : " ++ line_text (Words (step_line u main step)))

-- a step of a procedure, by its number
abbrev pub step_at_text : Units → (main : ℕ) → Proc → (at : ℕ) → List ℕ
step_at_text u main q at = option_map_or (λ s. numbered_text u main s (slice_index q.lines at)) (slice_get q.steps at) []

-- the steps of a block of a procedure
abbrev pub steps_in_text : Units → (main : ℕ) → Block → Proc → List ℕ
steps_in_text u main b q = flat_map (λ i. step_at_text u main q (b.first + i)) (numbers (b.last + 1 - b.first))

-- the same of a program
abbrev pub block_steps_text : Units → Program → Block → List ℕ
block_steps_text u p b = option_map_or (steps_in_text u p.main b) (slice_get p.procs b.owner) []

-- the steps of a block and their lines, the first and the last
unfoldable pub extent_text : Program → Block → List ℕ
extent_text p b =
    count_text (codes " steps ") b.first ++ (count_text (codes " ") b.last
    ++ (count_text (codes " lines ") (line_at p b.owner b.first) ++ count_text (codes " ") (line_at p b.owner b.last)))

-- a block's number, its procedure, and its steps and lines
unfoldable pub block_heading : Program → (k : ℕ) → Block → List ℕ
block_heading p k b = count_text (codes "block ") k ++ (codes " proc " ++ (proc_name p.main b.owner ++ (extent_text p b ++ codes "\n")))

-- a block: its heading, and its steps between what is live before and after them
unfoldable pub block_text : Units → Program → Live → (k : ℕ) → Block → List ℕ
block_text u p l k b =
    block_heading p k b
    ++ (before_text l b.owner b.first (vars_at p b.owner) ++ (block_steps_text u p b ++ after_text l b.owner b.last (vars_at p b.owner)))

-- the blocks of a program
abbrev pub program_text : Units → Program → Live → List Block → List ℕ
program_text u p l blocks = flat_map (λ b. block_text u p l b.0 b.1) (enumerate_from 0 blocks)

-- ---- variables

-- the slots of a procedure that are not its variables': those of its return address and its returned value
abbrev pub own_slots : (main owner : ℕ) → ℕ
own_slots main owner = if owner == main then 0 else 2

-- a position of an interval: the entry of the procedure, or the line of a step
abbrev pub position_text : Program → (owner at : ℕ) → List ℕ
position_text p owner at = if at == 0 then codes "entry" else count_text (codes "line ") (line_at p owner (at - 1))

-- from where to where an interval goes
unfoldable pub from_to_text : Program → (owner : ℕ) → Interval → List ℕ
from_to_text p owner iv = codes " from " ++ (position_text p owner iv.start ++ (codes " to " ++ position_text p owner iv.end))

-- the interval of a variable, if there is one
abbrev pub interval_text : Program → (owner : ℕ) → Option Interval → List ℕ
interval_text p owner None = codes " no interval"
interval_text p owner (Some iv) = from_to_text p owner iv

module _ (m : Machine) (homes : List (ℕ × ℕ)) where
  -- the home of a variable, whose slot this would be
  abbrev pub home_or_slot : Home → (slot : ℕ) → List ℕ
  home_or_slot (Reg k) slot = home_text m homes k
  home_or_slot (Slot x) slot = count_text (codes "slot.") slot

  module _ (p : Program) (r : Lowered) where
    -- a variable, its home and its interval
    unfoldable pub variable_text : (owner first x : ℕ) → List ℕ
    variable_text owner first x =
        count_text (codes " v") x
        ++ (codes " " ++ (home_or_slot (home_of r.homes owner x) (first + x) ++ (interval_text p owner (interval_in r.intervals owner x) ++ codes "\n")))

    -- the variables of a procedure, of which the first has this slot
    unfoldable pub proc_variables_text : (owner vars first : ℕ) → List ℕ
    proc_variables_text owner vars first =
        codes "variables proc " ++ (proc_name p.main owner ++ (codes "\n" ++ flat_map (variable_text owner first) (numbers vars)))

    -- the variables of procedures, from one on, whose frame begins with this slot
    abbrev pub variables_from : (owner next : ℕ) → List Proc → List ℕ
    variables_from owner next [] = []
    variables_from owner next (q ∷ qs) =
        proc_variables_text owner q.vars (next + own_slots p.main owner)
        ++ variables_from (owner + 1) (next + own_slots p.main owner + q.vars) qs
