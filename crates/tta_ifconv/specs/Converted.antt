-- Which program is another in which each triangle is one step.
use Rattle.std.specs.Prelude.{◌≡◌, ℕ, false, length, Some, slice_get}
use Rattle.tta_ifconv.specs.Cited.{AllPairs, Step, Proc, Program}
use Rattle.tta_ifconv.specs.Triangles.{is_triangle, is_dropped, place, becomes}

-- A procedure in which each triangle is one step, a copy under the opposite condition in the line of the branch. All other
-- steps stay in order with their lines, and branches name the steps that they named. Parameters and variables stay.
pub record IsConverted (old new : Proc) : Type 0 where
  pub params : new.params ≡ old.params
  pub vars : new.vars ≡ old.vars
  pub count : length new.steps ≡ place old.steps (length old.steps)
  pub steps : (i : ℕ) (step : Step) → slice_get old.steps i ≡ Some step → is_dropped old.steps i ≡ false
      → slice_get new.steps (place old.steps i) ≡ Some (becomes old.steps i step)
  pub line_count : length new.lines ≡ length new.steps
  pub lines : (i line : ℕ) → slice_get old.lines i ≡ Some line → is_dropped old.steps i ≡ false
      → slice_get new.lines (place old.steps i) ≡ Some line

-- A program whose procedures are so, in order. Main and the data stay.
pub record Converted (p q : Program) : Type 0 where
  pub procs : AllPairs IsConverted p.procs q.procs
  pub main : q.main ≡ p.main
  pub init : q.init ≡ p.init

-- no procedure of a program has a triangle
abbrev pub HasNoTriangle : Program → Type 0
HasNoTriangle p = (k i : ℕ) (q : Proc) → slice_get p.procs k ≡ Some q → is_triangle q.steps i ≡ false
