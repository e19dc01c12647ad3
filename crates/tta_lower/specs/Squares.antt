-- A program of two procedures.
use Rattle.std.specs.Prelude.{[], ◌∷◌, Some}
use Rattle.tta_program.specs.declared.operand.Src.TheVariants as src
use Rattle.tta_program.specs.declared.step.Step.TheVariants as step
use Rattle.tta_lower.specs.Cited.{Proc, Program}

-- proc sq x / y = mul x x / return y / end
abbrev pub square : Proc
square = record {
  params = 1;
  vars = 2;
  steps = step.Apply 1 (record { 0 = 7 }) (src.Var 0) (src.Var 0) ∷ step.Return (Some (src.Var 1)) ∷ step.End ∷ [];
  lines = 2 ∷ 3 ∷ 4 ∷ [];
}

-- proc main / a = 3 / b = call sq a / c = call sq 5 / d = add a b / d = add d c / out d / halt / end
abbrev pub main : Proc
main = record {
  params = 0;
  vars = 4;
  steps =
      step.Copy 0 (src.Word 3)
      ∷ step.Invoke (Some 1) 0 (src.Var 0 ∷ [])
      ∷ step.Invoke (Some 2) 0 (src.Word 5 ∷ [])
      ∷ step.Apply 3 (record { 0 = 0 }) (src.Var 0) (src.Var 1)
      ∷ step.Apply 3 (record { 0 = 0 }) (src.Var 3) (src.Var 2)
      ∷ step.Put (src.Var 3)
      ∷ step.Halt
      ∷ step.End
      ∷ [];
  lines = 6 ∷ 7 ∷ 8 ∷ 9 ∷ 10 ∷ 11 ∷ 12 ∷ 13 ∷ [];
}

-- both
abbrev pub squares : Program
squares = record { procs = square ∷ main ∷ []; main = 1; init = [] }
