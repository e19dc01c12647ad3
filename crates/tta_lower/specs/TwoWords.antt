-- A program that outputs two words, each from a variable of its own.
use Rattle.std.specs.Prelude.{[], ◌∷◌}
use Rattle.tta_program.specs.declared.operand.Src.TheVariants as src
use Rattle.tta_program.specs.declared.step.Step.TheVariants as step
use Rattle.tta_lower.specs.Cited.{Proc}

-- proc main / a = 3 / out a / b = 4 / out b / end
abbrev pub two_words : Proc
two_words = record {
  params = 0;
  vars = 2;
  steps =
      step.Copy 0 (src.Word 3)
      ∷ step.Put (src.Var 0)
      ∷ step.Copy 1 (src.Word 4)
      ∷ step.Put (src.Var 1)
      ∷ step.End
      ∷ [];
  lines = 2 ∷ 3 ∷ 4 ∷ 5 ∷ 6 ∷ [];
}
