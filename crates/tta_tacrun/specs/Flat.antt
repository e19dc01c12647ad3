-- Steps whose operands are cells, and what they say.
use Rattle.std.specs.Prelude.{ℕ, ◌==◌, Bool, true, ◌&&◌, ◌||◌, if◌then◌else◌, nat_lt, List, length, Option, Some, None}
use Rattle.tta_tacrun.specs.Cited.{Src, Var, Word, Step, is_src, operand}
use Rattle.tta_program.specs.declared.step.Step.TheVariants as step
use Rattle.tta_tacrun.specs.declared.flat.Operand.{Operand}
use Rattle.tta_tacrun.specs.declared.flat.FlatStep.{FlatStep}
use Rattle.tta_tacrun.specs.declared.flat.FlatStep.TheVariants.{Copy, Apply, Load, Store, If, Goto, When, Loud}

-- The operand of a step, where there are so many variables: a cell below is a variable, and any other has the word alone.
abbrev pub src_of : (size : ℕ) → Operand → Src
src_of size o = if nat_lt o.cell size then Var o.cell else Word o.word

-- the word of an operand
abbrev pub word_at : (vars : List ℕ) → Operand → ℕ
word_at vars o = operand vars (src_of (length vars) o)

-- an operand of these: a variable and the word 0, or the cell behind the last
abbrev pub is_operand : (size : ℕ) → Operand → Bool
is_operand size o = (nat_lt o.cell size && o.word == 0) || o.cell == size

-- the step of a program that a flat step stands for, if it stands for one
abbrev pub said : (size : ℕ) → FlatStep → Option Step
said n (Copy d s) = Some (step.Copy d (src_of n s))
said n (Apply d op a b) = Some (step.Apply d op (src_of n a) (src_of n b))
said n (Load d a) = Some (step.Load d (src_of n a))
said n (Store a v) = Some (step.Store (src_of n a) (src_of n v))
said n (If rel a b to) = Some (step.If rel (src_of n a) (src_of n b) to)
said n (Goto to) = Some (step.Goto to)
said n (When rel a b d s) = Some (step.When rel (src_of n a) (src_of n b) d (src_of n s))
said n Loud = None

-- whether the cells of a flat step are there, and only variables are written
abbrev pub has_cells : (size : ℕ) → FlatStep → Bool
has_cells n (Copy d s) = nat_lt d n && is_operand n s
has_cells n (Apply d op a b) = nat_lt d n && is_operand n a && is_operand n b
has_cells n (Load d a) = nat_lt d n && is_operand n a
has_cells n (Store a v) = is_operand n a && is_operand n v
has_cells n (If rel a b to) = is_operand n a && is_operand n b
has_cells n (Goto to) = true
has_cells n (When rel a b d s) = is_operand n a && is_operand n b && nat_lt d n && is_operand n s
has_cells n Loud = true

-- whether the variables of such a step of a program are there
abbrev pub has_variables : (size : ℕ) → Step → Bool
has_variables n (step.Copy d s) = nat_lt d n && is_src n s
has_variables n (step.Apply d op a b) = nat_lt d n && is_src n a && is_src n b
has_variables n (step.Load d a) = nat_lt d n && is_src n a
has_variables n (step.Store a v) = is_src n a && is_src n v
has_variables n (step.If rel a b to) = is_src n a && is_src n b
has_variables n (step.When rel a b d s) = is_src n a && is_src n b && nat_lt d n && is_src n s
has_variables n other = true
