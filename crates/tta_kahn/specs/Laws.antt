-- The laws: the order in which cores make their steps makes no difference to what they output.
use Rattle.std.specs.Prelude.{◌≡◌, ◌≢◌, ℕ, List, Option, Some, map, length, slice_get}
use Rattle.std.specs.List.{AllByRecursion}
use Rattle.tta_kahn.specs.Cited.{IsPrefixOf, Units, Machine, IsMachine, over, Program, data_of, IsProgram, IsLegalCode, Whole, data_in, AgreesAt, AreWords, Fault}
use Rattle.tta_code.specs.Cycle.{State}
use Rattle.tta_kahn.specs.declared.cores.Core.{Core}
use Rattle.tta_kahn.specs.Network.{NetworkCore, AreComparable}
use Rattle.tta_kahn.specs.Cluster.{cluster_given, output_given, IsRestGiven}
use Rattle.tta_kahn.specs.Programs.{group_output, IsGroupRest}

-- ---- two orders

-- a core: a machine by the rules of machines, and code that it can carry out
pub record IsCore (c : Core) : Type 0 where
  pub machine : IsMachine c.machine
  pub legal : IsLegalCode c.machine c.code

-- For any two orders of steps, each core's outputs in one begin those in the other, or the other way round. Where the cores are at
-- rest after one, its outputs there are begun by those in the other; and at two rests they are the same.
pub record Compare (output other : (steps : List ℕ) → (core : ℕ) → List ℕ) (IsRest IsOtherRest : (steps : List ℕ) → Type 0) : Type 0 where
  pub comparable : (steps others : List ℕ) (core : ℕ) → AreComparable (output steps core) (other others core)
  pub within : (steps others : List ℕ) (core : ℕ) → IsOtherRest others → IsPrefixOf (output steps core) (other others core)
  pub beyond : (steps others : List ℕ) (core : ℕ) → IsRest steps → IsPrefixOf (other others core) (output steps core)
  pub equal : (steps others : List ℕ) (core : ℕ) → IsRest steps → IsOtherRest others → output steps core ≡ other others core

-- cores that take their cycles in one order and in another, with the same words from outside
abbrev pub CoresCompare : Type 0
CoresCompare =
    (u : Units) (cores : List Core) (feeds : List (Option ℕ)) (given : ℕ → List ℕ) (memories : List (List ℕ))
    → AllByRecursion IsCore cores
    → Compare (output_given u cores feeds given memories) (output_given u cores feeds given memories)
    (IsRestGiven u cores feeds given memories) (IsRestGiven u cores feeds given memories)

-- programs that take their steps in one order and in another, with the same words from outside
abbrev pub ProgramsCompare : Type 0
ProgramsCompare =
    (u : Units) (programs : List Program) (feeds : List (Option ℕ)) (given : ℕ → List ℕ) (memories : List (List ℕ))
    → Compare (group_output u programs feeds given memories) (group_output u programs feeds given memories)
    (IsGroupRest u programs feeds given memories) (IsGroupRest u programs feeds given memories)

-- ---- cores and programs

-- a core whose code with data agrees with a program, at a rate of so many of its steps a cycle, and the words that both are given for
-- their data space
pub record Pair : Type 0 where
  pub machine : Machine
  pub whole : Whole
  pub program : Program
  pub rate : ℕ
  pub memory : List ℕ

pub record IsPair (u : Units) (p : Pair) : Type 0 where
  pub machine : IsMachine p.machine
  pub legal : IsLegalCode p.machine p.whole.code
  pub program : IsProgram p.program
  pub agrees : AgreesAt u p.machine p.program p.rate p.whole
  pub size : length p.memory ≡ p.machine.data_words
  pub words : AreWords p.memory

-- the core of each pair, and its data space at first, the data of its code laid over the words
abbrev pub core_in : Pair → Core
core_in p = record { machine = p.machine; code = p.whole.code }

abbrev pub core_memory : Pair → List ℕ
core_memory p = over (data_in p.whole) p.memory

-- the data memory of each program at first, its data laid over the same words
abbrev pub program_memory : Pair → List ℕ
program_memory p = over (data_of p.program) p.memory

-- the cores of pairs in one order of cycles, and their programs in another order of steps, with the same words from outside
abbrev pub PairsCompare : Units → List Pair → (feeds : List (Option ℕ)) → (given : ℕ → List ℕ) → Type 0
PairsCompare u pairs feeds given =
    let cores = map core_in pairs in
    let programs = map (λ p. p.program) pairs in
    let cores_begin = map core_memory pairs in
    let programs_begin = map program_memory pairs in
    Compare (output_given u cores feeds given cores_begin) (group_output u programs feeds given programs_begin)
    (IsRestGiven u cores feeds given cores_begin) (IsGroupRest u programs feeds given programs_begin)

abbrev pub CoresAgree : Type 0
CoresAgree =
    (u : Units) (pairs : List Pair) (feeds : List (Option ℕ)) (given : ℕ → List ℕ) → AllByRecursion (IsPair u) pairs
    → ((core : ℕ) → AreWords (given core)) → PairsCompare u pairs feeds given

-- No core of pairs is ever at a fault: in any order of cycles, whichever core feeds which, and on any words from outside. What cores feed
-- one another are words, and on words code that agrees with a program meets no fault.
abbrev pub PairsNeverFault : Type 0
PairsNeverFault =
    (u : Units) (pairs : List Pair) (feeds : List (Option ℕ)) (given : ℕ → List ℕ) → AllByRecursion (IsPair u) pairs
    → ((core : ℕ) → AreWords (given core)) → (steps : List ℕ) (core : ℕ) (j : NetworkCore State)
    → slice_get (cluster_given u (map core_in pairs) feeds given (map core_memory pairs) steps) core ≡ Some j
    → (number at : ℕ) → j.state.outcome ≢ Fault number at
