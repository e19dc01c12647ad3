-- Small programs, and what the definitions make of them.
use Rattle.std.specs.Prelude.{◌≡◌, ◌<◌, ℕ, zero, suc, ◌^◌, List, [], ◌∷◌, Some, refl, codes, replicate, if◌then◌else◌, nat_lt, true, false, slice_get}
use Rattle.std.proofs.Common.{◌+◌, ◌*◌, ◌%◌, ◌∙◌, ap, lit<, arith}
use Rattle.tta_ops.specs.declared.OpId.{OpId}
use Rattle.tta_ops.specs.Reserved.{is_reserved}
use Rattle.tta_ops.specs.Units.{Units}
use Rattle.tta_program.specs.declared.operand.Src.TheVariants.{Var, Word}
use Rattle.tta_program.specs.declared.operand.Rel.TheVariants.{Ge}
use Rattle.tta_program.specs.declared.step.Step.{Step}
use Rattle.tta_program.specs.declared.step.Step.TheVariants.{Copy, Apply, Load, Store, Put, Take, Goto, When, Invoke, Return, Halt, End}
use Rattle.tta_program.specs.declared.program.Proc.{Proc}
use Rattle.tta_list.specs.Laid.{over}
use Rattle.tta_program.specs.Program.{Program, data_of}
use Rattle.tta_program.specs.Sequential.{seq, next, Halted, Running, Waiting}

-- the operation of a number in the set of units
abbrev pub op : ℕ → OpId
op id = record { 0 = id }

-- a sample procedure of these steps, whose lines do not matter
abbrev proc : (params vars : ℕ) → List Step → Proc
proc params vars steps = record { params = params; vars = vars; steps = steps; lines = [] }

-- a program of one procedure without parameters
abbrev alone : ℕ → List Step → Program
alone vars steps = record { procs = proc 0 vars steps ∷ []; main = 0; init = [] }

-- ---- a call tree: the squares of 3 and 5, and 3, added up

-- a program whose main adds the squares of 3 and 5 to 3, each square by a call, and outputs the sum
abbrev squares : Program
squares = record {
  procs = proc 1 2 (Apply 1 (op 2) (Var 0) (Var 0) ∷ Return (Some (Var 1)) ∷ End ∷ [])
      ∷ proc 0 4 (
      Copy 0 (Word 3) ∷ Invoke (Some 1) 0 (Var 0 ∷ []) ∷ Invoke (Some 2) 0 (Word 5 ∷ [])
      ∷ Apply 3 (op 0) (Var 0) (Var 1) ∷ Apply 3 (op 0) (Var 3) (Var 2) ∷ Put (Var 3) ∷ Halt ∷ End ∷ [])
      ∷ [];
  main = 1;
  init = [];
}

squares-output : (u : Units) → (seq u squares [] [] 100).output ≡ u.value 0 (u.value 0 3 (u.value 2 3 3)) (u.value 2 5 5) ∷ []
unfolding next
squares-output u = refl

-- any units whose operations 0 and 2 are the sum and the product
record AddsAndMultiplies (u : Units) : Type 0 where
  sum : (a b : ℕ) → u.value 0 a b ≡ (a + b) % 2 ^ 32
  product : (a b : ℕ) → u.value 2 a b ≡ a * b % 2 ^ 32

-- over such units the sum is 37
squares-sum : (u : Units) → AddsAndMultiplies u → (seq u squares [] [] 100).output ≡ 37 ∷ []
squares-sum u is = squares-output u ∙ ap (λ word. word ∷ []) (rw (is.product 3 3, is.product 5 5, is.sum 3 9, is.sum 12 25) refl)

squares-steps : (u : Units) → (seq u squares [] [] 100).steps ≡ 11
unfolding next
squares-steps u = refl

squares-ends : (u : Units) → (seq u squares [] [] 100).outcome ≡ Halted
unfolding next
squares-ends u = refl

-- ---- a copy where a condition holds

-- what lt gives of two small numbers: 1 where the first is less than the second, and else 0
unfoldable pub less_value : ℕ → ℕ → ℕ
less_value a b = if nat_lt a b then 1 else 0

pub less_value-word : (a b : ℕ) → less_value a b < 2 ^ 32
unfolding less_value
less_value-word a b = elim (nat_lt a b) as (λ t. (if t then 1 else 0) < 2 ^ 32) [ true ↦ lit< tt | false ↦ lit< tt ]

-- how many words the one operation of these units takes, as the list of their arities
unfoldable pub two : List ℕ
two = 2 ∷ []

pub only_two : (k a b : ℕ) → slice_get two k ≡ Some 1 → less_value a b ≡ less_value 0 b
unfolding two
only_two zero a b e = cc
only_two (suc k) a b e = cc

-- units of one operation, lt on small numbers
unfoldable pub less : Units
unfolding two is_reserved
less = record {
  names = codes "lt" ∷ [];
  arities = two;
  value = λ op a b. less_value a b;
  word = λ op a b. less_value-word a b;
  ignores = only_two;
  distinct = λ i j lt below e. omega arith;
  reserved = refl;
  one_or_two = λ i below. let first : i ≡ 0 = omega arith in rw first (lit< tt, lit< tt);
  paired = refl;
  few = lit< tt;
}

-- a program that outputs 9 where 5 is at least b, and else 1
abbrev guarded : ℕ → Program
guarded b = alone 4 (
    Copy 0 (Word 1) ∷ Copy 1 (Word 5) ∷ Copy 2 (Word b) ∷ Copy 3 (Word 9) ∷ When Ge (Var 1) (Var 2) 0 (Var 3) ∷ Put (Var 0) ∷ End ∷ [])

guarded-holds : (seq less (guarded 5) [] [] 100).output ≡ 9 ∷ []
unfolding next less less_value
guarded-holds = refl

guarded-fails : (seq less (guarded 6) [] [] 100).output ≡ 1 ∷ []
unfolding next less less_value
guarded-fails = refl

guarded-steps : (seq less (guarded 6) [] [] 100).steps ≡ 7
unfolding next less less_value
guarded-steps = refl

-- ---- a loop without end

-- a program whose only procedure jumps to its first step again and again
forever : Program
forever = alone 0 (Goto 0 ∷ End ∷ [])

forever-runs : (u : Units) → (seq u forever [] [] 1000).outcome ≡ Running
unfolding next forever
forever-runs u = refl

forever-steps : (u : Units) → (seq u forever [] [] 1000).steps ≡ 1000
unfolding next forever
forever-steps u = refl

-- ---- a store and a load past the last word do nothing and give 0

-- a program that stores into word 3 and word 4 of the data space, loads both, and outputs them
abbrev edges : Program
edges = alone 2 (
    Store (Word 3) (Word 7) ∷ Store (Word 4) (Word 8) ∷ Load 0 (Word 3) ∷ Load 1 (Word 4) ∷ Put (Var 0) ∷ Put (Var 1) ∷ End ∷ [])

edges-output : (u : Units) → (seq u edges (replicate 4 0) [] 100).output ≡ 7 ∷ 0 ∷ []
unfolding next
edges-output u = refl

edges-memory : (u : Units) → (seq u edges (replicate 4 0) [] 100).memory ≡ 0 ∷ 0 ∷ 0 ∷ 7 ∷ []
unfolding next
edges-memory u = refl

edges-steps : (u : Units) → (seq u edges (replicate 4 0) [] 100).steps ≡ 7
unfolding next
edges-steps u = refl

-- a variable that was never assigned is 0, and returning from main halts
unset-output : (u : Units) → (seq u (alone 1 (Put (Var 0) ∷ End ∷ [])) [] [] 100).output ≡ 0 ∷ []
unfolding next
unset-output u = refl

unset-ends : (u : Units) → (seq u (alone 1 (Put (Var 0) ∷ End ∷ [])) [] [] 100).outcome ≡ Halted
unfolding next
unset-ends u = refl

-- ---- the input

-- a program that outputs the next word of the input
abbrev echo : Program
echo = alone 1 (Take 0 ∷ Put (Var 0) ∷ Halt ∷ End ∷ [])

echo-output : (u : Units) → (seq u echo [] (9 ∷ []) 9).output ≡ 9 ∷ []
unfolding next
echo-output u = refl

echo-ends : (u : Units) → (seq u echo [] (9 ∷ []) 9).outcome ≡ Halted
unfolding next
echo-ends u = refl

echo-steps : (u : Units) → (seq u echo [] (9 ∷ []) 9).steps ≡ 3
unfolding next
echo-steps u = refl

echo-rest : (u : Units) → (seq u echo [] (9 ∷ 8 ∷ []) 9).rest ≡ 8 ∷ []
unfolding next
echo-rest u = refl

-- without a word it waits, and the step that waits is not counted
echo-waits : (u : Units) → (seq u echo [] [] 9).outcome ≡ Waiting
unfolding next
echo-waits u = refl

echo-waiting_steps : (u : Units) → (seq u echo [] [] 9).steps ≡ 0
unfolding next
echo-waiting_steps u = refl

echo-begins : (u : Units) → (seq u echo [] [] 0).outcome ≡ Running
echo-begins u = refl

-- a program that outputs each word of the input with itself added to it
abbrev doubles : Program
doubles = alone 2 (Take 0 ∷ Apply 1 (op 0) (Var 0) (Var 0) ∷ Put (Var 1) ∷ Goto 0 ∷ End ∷ [])

doubles-output : (u : Units) → (seq u doubles [] (5 ∷ 6 ∷ []) 100).output ≡ u.value 0 5 5 ∷ u.value 0 6 6 ∷ []
unfolding next
doubles-output u = refl

doubles-waits : (u : Units) → (seq u doubles [] (5 ∷ 6 ∷ []) 100).outcome ≡ Waiting
unfolding next
doubles-waits u = refl

doubles-steps : (u : Units) → (seq u doubles [] (5 ∷ 6 ∷ []) 100).steps ≡ 8
unfolding next
doubles-steps u = refl

-- ---- data

-- data are laid over the memory, and nothing is laid outside of it
data-laid : over ((2, 9) ∷ (4, 1) ∷ []) (1 ∷ 0 ∷ 0 ∷ 0 ∷ []) ≡ 1 ∷ 0 ∷ 9 ∷ 0 ∷ []
data-laid = refl

-- a program with data that outputs the word at address 2
abbrev with_data : Program
with_data = record (alone 1 (Load 0 (Word 2) ∷ Put (Var 0) ∷ Halt ∷ End ∷ [])) { init = record { address = 2; value = 9; line = 1 } ∷ [] }

with_data-output : (u : Units) → (seq u with_data (over (data_of with_data) (replicate 4 0)) [] 9).output ≡ 9 ∷ []
unfolding next
with_data-output u = refl
