-- What if-conversion gives: a program that ends as the given one does, with the same data and output, in no more steps and
-- in no fewer than half of them.
use Rattle.std.specs.Prelude.{◌≡◌, ◌≤◌, ℕ, ◌*◌, Bool, true, false, List, length}
use Rattle.tta_ifconv.specs.Cited.{IsPrefixOf, Units, Program, step_count, var_count, arg_count, IsProgram, StandsOver, State, Outcome, Running, Halted, Waiting, seq}
use Rattle.tta_ifconv.specs.Converted.{Converted, HasNoTriangle}

-- whether a run has halted or waits
abbrev pub has_ended : Outcome → Bool
has_ended Running = false
has_ended Halted = true
has_ended Waiting = true

-- one run is where another is: with its outcome, data, output and rest of the input
pub record IsAlike (s t : State) : Type 0 where
  pub outcome : t.outcome ≡ s.outcome
  pub memory : t.memory ≡ s.memory
  pub output : t.output ≡ s.output
  pub rest : t.rest ≡ s.rest

-- Two programs, from one memory and with one input. Where the first has ended after some steps, the second has ended so
-- after as many; where the second has ended after some steps, the first has ended so after twice as many; and each one's
-- output so far begins the other's.
pub record RunAlike (u : Units) (p q : Program) (memory input : List ℕ) : Type 0 where
  pub ends : (n : ℕ) → has_ended (seq u p memory input n).outcome ≡ true
      → IsAlike (seq u p memory input n) (seq u q memory input n)
  pub ends_only : (n : ℕ) → has_ended (seq u q memory input n).outcome ≡ true
      → IsAlike (seq u q memory input n) (seq u p memory input (2 * n))
  pub output : (n : ℕ) → IsPrefixOf (seq u p memory input n).output (seq u q memory input n).output
  pub output_only : (n : ℕ) → IsPrefixOf (seq u q memory input n).output (seq u p memory input (2 * n)).output

-- a program has as many procedures, variables and arguments as another, and no more steps
pub record IsNoGreater (p q : Program) : Type 0 where
  pub procs : length q.procs ≡ length p.procs
  pub vars : var_count q ≡ var_count p
  pub args : arg_count q ≡ arg_count p
  pub steps : step_count q ≤ step_count p

-- What a converted program is to the program that it was made of.
pub record IsConversion (p q : Program) : Type 0 where
  -- Over all units, from every memory and with every input, the two run alike.
  pub runs : (u : Units) (memory input : List ℕ) → RunAlike u p q memory input
  -- It has no triangle.
  pub whole : HasNoTriangle q
  -- A program that keeps the rules of programs is converted to this one alone, and this one keeps them too.
  pub one : IsProgram p → (other : Program) → Converted p other → other ≡ q
  pub rules : IsProgram p → IsProgram q
  -- It stands over each set of units that the program stands over.
  pub over : (u : Units) → StandsOver u p → StandsOver u q
  -- It is no greater.
  pub size : IsNoGreater p q

-- each converted program is that
abbrev pub Converts : Type 0
Converts = (p q : Program) → Converted p q → IsConversion p q
