-- The calls that are under way, and how they are kept.
use Rattle.std.specs.Prelude.{◌≡◌, ℕ, ◌<◌, ◌≤◌, ◌-◌, false, eqb, List, [], ◌∷◌, ◌++◌, length, map, replicate, reverse, slice_index_or}
use Rattle.std.specs.List.{AllByRecursion, IsDistinct}
use Rattle.tta_tacrun.specs.Cited.{Frame}
use Rattle.tta_tacrun.specs.declared.entry.Entry.{Entry}

-- how many variables each procedure has; the innermost call; and the others, the innermost of them first
pub record Calls : Type 0 where
  pub sizes : List ℕ
  pub top : Frame
  pub below : List Frame

-- the procedures that are under way
abbrev pub procs_of : Calls → List ℕ
procs_of c = map (λ f. f.proc) (c.top ∷ c.below)

-- a procedure that is not under way
abbrev pub IsFresh : ℕ → Calls → Type 0
IsFresh callee c = AllByRecursion (λ proc. eqb callee proc ≡ false) (procs_of c)

-- the variables of a procedure of that size as it begins: the arguments, and 0 in every other
abbrev pub begun : (args : List ℕ) (size : ℕ) → List ℕ
begun args size = args ++ replicate (size - length args) 0

-- ---- how calls are kept

-- The variables of all procedures stand side by side, since each is under way at most once. An entry says where a call
-- is, and its variables are those of its procedure.
abbrev pub frame_of : (variables : List (List ℕ)) → Entry → Frame
frame_of variables e = record { proc = e.proc; at = e.at; vars = slice_index_or variables e.proc [] }

-- the calls of an entry and of the callers after it, which are kept the outermost first
abbrev pub calls_of : (variables : List (List ℕ)) → Entry → List Entry → Calls
calls_of variables top callers = record {
  sizes = map length variables;
  top = frame_of variables top;
  below = map (frame_of variables) (reverse callers);
}

-- the procedures of an entry and of the callers after it, which are kept the outermost first
abbrev pub kept_procs : Entry → List Entry → List ℕ
kept_procs top callers = map (λ e. e.proc) (top ∷ reverse callers)

-- no procedure is under way twice, each has its variables, and there is room for a caller from each
pub record AreKept (variables : List (List ℕ)) (top : Entry) (callers : List Entry) (capacity : ℕ) : Type 0 where
  pub distinct : IsDistinct eqb (kept_procs top callers)
  pub within : AllByRecursion (λ proc. proc < length variables) (kept_procs top callers)
  pub room : length variables ≤ capacity
