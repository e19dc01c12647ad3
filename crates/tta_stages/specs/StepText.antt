-- The text of the steps of register code.
use Rattle.std.specs.Prelude.{ℕ, List, ◌++◌, codes}
use Rattle.std.specs.List.{flat_map}
use Rattle.tta_stages.specs.Cited.{OpId, Units, Set, Machine, Rel, Place, RSrc, RStep, Exit, op_name, rel_name}
use Rattle.tta_lir.specs.declared.code.RStep.TheVariants as step
use Rattle.tta_lir.specs.declared.code.Exit.TheVariants as exit
use Rattle.tta_stages.specs.Words.{count_text, block_name, kept_text, operand_text}

-- ---- parts of a line

module _ (m : Machine) (homes : List (ℕ × ℕ)) where
  -- the begin of a step that sets a place
  unfoldable pub set_text : Place → List ℕ
  set_text d = codes " " ++ (kept_text m homes d ++ codes " =")

  -- two operands
  unfoldable pub two_text : (a b : RSrc) → List ℕ
  two_text a b = operand_text m homes a ++ operand_text m homes b

  -- a condition
  unfoldable pub condition_text : Rel → (a b : RSrc) → List ℕ
  condition_text rel a b = codes " " ++ (rel_name rel ++ two_text a b)

  -- a copy
  unfoldable pub copy_text : Place → RSrc → List ℕ
  copy_text d s = set_text d ++ operand_text m homes s

  -- an operation, with both of its operands
  unfoldable pub apply_text : Units → Place → OpId → (a b : RSrc) → List ℕ
  apply_text u d op a b = set_text d ++ (codes " " ++ (op_name u (Set op) ++ two_text a b))

  -- a load
  unfoldable pub load_text : Place → RSrc → List ℕ
  load_text d a = set_text d ++ (codes " load" ++ operand_text m homes a)

  -- a copy under a condition
  unfoldable pub when_text : Rel → (a b : RSrc) → Place → RSrc → List ℕ
  when_text rel a b d s = codes " when" ++ (condition_text rel a b ++ copy_text d s)

  -- a jump under a condition
  unfoldable pub branch_text : Rel → (a b : RSrc) → (to : ℕ) → List ℕ
  branch_text rel a b to = codes " if" ++ (condition_text rel a b ++ (codes " goto " ++ block_name to))

-- ---- lines

-- a step, without the end of its line
abbrev pub step_text : Units → Machine → (homes : List (ℕ × ℕ)) → RStep → List ℕ
step_text u m homes (step.Copy d s) = copy_text m homes d s
step_text u m homes (step.Apply d op a b) = apply_text m homes u d op a b
step_text u m homes (step.Load d a) = load_text m homes d a
step_text u m homes (step.Take d) = set_text m homes d ++ codes " in"
step_text u m homes (step.Store a v) = codes " store" ++ two_text m homes a v
step_text u m homes (step.Put v) = codes " out" ++ operand_text m homes v
step_text u m homes (step.When rel a b d s) = when_text m homes rel a b d s
step_text u m homes (step.SaveRa slot) = count_text (codes " save slot.") slot

-- steps, each as a line
abbrev pub steps_text : Units → Machine → (homes : List (ℕ × ℕ)) → List RStep → List ℕ
steps_text u m homes steps = flat_map (λ s. step_text u m homes s ++ codes "\n") steps

-- how a block ends, without the end of the line
abbrev pub exit_text : Machine → (homes : List (ℕ × ℕ)) → Exit → List ℕ
exit_text m homes exit.Next = codes " next"
exit_text m homes (exit.Goto to) = codes " goto " ++ block_name to
exit_text m homes (exit.If rel a b to) = branch_text m homes rel a b to
exit_text m homes (exit.Invoke to) = codes " call " ++ block_name to
exit_text m homes (exit.Back slot) = count_text (codes " back slot.") slot
exit_text m homes exit.Halt = codes " halt"
