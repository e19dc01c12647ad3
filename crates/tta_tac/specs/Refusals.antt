-- The numbers of refusals.
use Rattle.std.specs.Prelude.{ℕ}
use Rattle.tta_tac.specs.declared.refusal.Refusal.{Refusal}
use Rattle.tta_tac.specs.declared.refusal.Refusal.TheVariants.{Syntax, UnknownLabel, UnknownOp, UnknownProc, Arity, Twice, Recursive, NoMain, TooMany}

-- the number of a refusal
abbrev pub code_of : Refusal → ℕ
code_of Syntax = 20
code_of UnknownLabel = 21
code_of UnknownOp = 22
code_of UnknownProc = 23
code_of Arity = 24
code_of Twice = 25
code_of Recursive = 26
code_of NoMain = 27
code_of TooMany = 28
