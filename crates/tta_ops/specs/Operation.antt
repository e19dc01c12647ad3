-- A line of the table of a standard unit.
use Rattle.std.specs.Prelude.{ℕ, List, []}

-- an operation: what it is called, how many words it takes, and what it makes of the words a and b
pub record Operation : Type 0 where
  pub name : List ℕ
  pub arity : ℕ
  pub value : ℕ → ℕ → ℕ

-- an operation by its name, how many words it takes, and its value
abbrev pub operation : List ℕ → ℕ → (ℕ → ℕ → ℕ) → Operation
operation name arity value = record { name = name; arity = arity; value = value }

-- what stands past the end of a table
abbrev pub no_operation : Operation
no_operation = operation [] 1 (λ a b. 0)
