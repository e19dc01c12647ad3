-- What a program needs of a machine's units.
use Rattle.std.specs.Prelude.{ℕ, ◌+◌, Bool, if◌then◌else◌, List, [], ◌∷◌, Option, Some, None, option_map, slice_index}
use Rattle.std.specs.List.{list_all}
use Rattle.tta_compiler_laws.specs.Cited.{Units, Op, Ldw, Stw, Out, Set, Machine, first_some, Choice, Step, Proc, Program, test_op, is_offered}
use Rattle.tta_arch.specs.declared.parts.Op.TheVariants.{Take as TakeIn}
use Rattle.tta_program.specs.declared.step.Step.TheVariants.{Apply, Load, Take, Store, Put, If, When}

-- the operation that a step needs, if it needs one
abbrev pub need_of : Units → Step → Option Op
need_of u (Apply d op a b) = Some (Set op)
need_of u (Load d a) = Some Ldw
need_of u (Take d) = Some TakeIn
need_of u (Store a v) = Some Stw
need_of u (Put v) = Some Out
need_of u (If rel a b to) = Some (test_op u rel)
need_of u (When rel a b d s) = Some (test_op u rel)
need_of u step = None

-- whether a usable unit offers what a step needs
abbrev pub is_served : Units → Machine → Choice → Step → Bool
is_served u m c step = is_offered m c (need_of u step)

-- whether usable units offer all that a program's steps need, those among them to which no path comes
abbrev pub are_offered : Units → Machine → Choice → Program → Bool
are_offered u m c p = list_all (λ q. list_all (is_served u m c) q.steps) p.procs

-- ---- the first step that is not served

-- the number of the first step that fails a test, if one does; the first of the list has the number k
abbrev pub first_failing : (Step → Bool) → (k : ℕ) → List Step → Option ℕ
first_failing test k [] = None
first_failing test k (step ∷ steps) = if test step then first_failing test (k + 1) steps else Some k

-- the line of the first step of a procedure whose need no usable unit offers, if there is one
abbrev pub unoffered_in : Units → Machine → Choice → Proc → Option ℕ
unoffered_in u m c q = option_map (slice_index q.lines) (first_failing (is_served u m c) 0 q.steps)

-- the line of the first such step of a program, procedures and steps in the order of the text
abbrev pub first_unoffered : Units → Machine → Choice → Program → Option ℕ
first_unoffered u m c p = first_some (unoffered_in u m c) p.procs
