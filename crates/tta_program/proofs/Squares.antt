-- A program with a call and a loop keeps the rules of programs.
use Rattle.std.proofs.Common.{◌≡◌, ℕ, zero, suc, true, inl, inr, [], ◌∷◌, Some, refl, sym, lit≤, arith}
use Rattle.std.proofs.lemmas.Bool.Decides.{eqb_tells}
use Rattle.tta_program.specs.declared.operand.Src.TheVariants.{Var, Word}
use Rattle.tta_program.specs.declared.operand.Rel.TheVariants.{Ltu}
use Rattle.tta_program.specs.declared.step.Step.TheVariants.{Copy, Apply, Load, Store, Put, If, Invoke, Return, Halt, End}
use Rattle.tta_program.specs.declared.program.Proc.{Proc}
use Rattle.tta_program.specs.Program.{Program}
use Rattle.tta_program.specs.Rules.{IsProgram, IsProc, Reaches, ByCall, ByMore, calls}
use Rattle.tta_program.proofs.Rows.{op}

-- the procedure that outputs the squares of 3, 4 and 5, each after a call and by way of data word 0
abbrev main : Proc
main = record {
  params = 0;
  vars = 3;
  steps = Copy 0 (Word 3) ∷ Invoke (Some 1) 1 (Var 0 ∷ []) ∷ Store (Word 0) (Var 1) ∷ Load 2 (Word 0) ∷ Apply 0 (op 0) (Var 0) (Word 1)
      ∷ Put (Var 2) ∷ If Ltu (Var 0) (Word 6) 1 ∷ Halt ∷ End ∷ [];
  lines = 2 ∷ 4 ∷ 5 ∷ 6 ∷ 7 ∷ 8 ∷ 9 ∷ 10 ∷ 11 ∷ [];
}

-- the procedure that returns the square of its parameter
abbrev square : Proc
square = record {
  params = 1;
  vars = 2;
  steps = Apply 1 (op 2) (Var 0) (Var 0) ∷ Return (Some (Var 1)) ∷ End ∷ [];
  lines = 13 ∷ 14 ∷ 15 ∷ [];
}

-- the program of both procedures, of which a run begins with the first
abbrev pub squares : Program
squares = record { procs = main ∷ square ∷ []; main = 0; init = [] }

-- only main calls, and only the other
squares_calls : (from to : ℕ) → calls squares from to ≡ true → (from ≡ 0) × (to ≡ 1)
squares_calls zero to call = (refl, elim (eqb_tells 1 to) [ inl same ↦ sym same.1 | inr different ↦ cc (different.0, call) ])
squares_calls (suc zero) to call = cc
squares_calls (suc (suc from)) to call = cc

-- so nothing leads back to where it began
squares_reaches : {from to : ℕ} → Reaches squares from to → (from ≡ 0) × (to ≡ 1)
squares_reaches (ByCall from to call) = squares_calls from to call
squares_reaches (ByMore from via to call more) =
    let first = squares_calls from via call in
    let rest = squares_reaches more in
    absurd (omega (arith, first.1, rest.0))

-- each procedure keeps its own
main_rules : IsProc squares main
main_rules = record { params = lit≤ tt; vars = lit≤ tt; among = lit≤ tt; steps = refl; ends = refl; lines = refl }

square_rules : IsProc squares square
square_rules = record { params = lit≤ tt; vars = lit≤ tt; among = lit≤ tt; steps = refl; ends = refl; lines = refl }

-- the program keeps all rules
pub squares_rules : IsProgram squares
squares_rules = record {
  lines = lit≤ tt;
  procs = (main_rules, (square_rules, tt));
  main = refl;
  acyclic = λ k reaches. let both = squares_reaches reaches in omega (arith, both.0, both.1);
  init = refl;
  apart = refl;
}
