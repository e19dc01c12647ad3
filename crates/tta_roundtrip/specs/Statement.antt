-- A printed text is read to the printed program, but for its line numbers.
use Rattle.std.specs.Prelude.{◌≡◌, ℕ, List}
use Rattle.tta_roundtrip.specs.Cited.{AllPairs, Units, Proc, Program, data_of, IsProgram, StandsOver, ProgramText, Converted}
use Rattle.tta_pretty.specs.Printed.{printed}
use Rattle.tta_roundtrip.specs.Readable.{IsReadable}

-- two procedures that differ in the lines of their steps alone
pub record IsSameProc (a b : Proc) : Type 0 where
  pub params : b.params ≡ a.params
  pub vars : b.vars ≡ a.vars
  pub steps : b.steps ≡ a.steps

-- two programs that differ in line numbers alone
pub record IsSame (p q : Program) : Type 0 where
  pub procs : AllPairs IsSameProc p.procs q.procs
  pub main : q.main ≡ p.main
  pub laid : data_of q ≡ data_of p

-- the printed text of a program is a text of this program, but for line numbers
pub record ReadsBack (u : Units) (p : Program) : Type 0 where
  pub again : Program
  pub same : IsSame p again
  pub text : ProgramText u (printed u p) again

-- This holds of the program that a text is, and of each that is converted from it.
abbrev pub TextsReadBack : Type 0
TextsReadBack = (u : Units) (text : List ℕ) (p : Program) → ProgramText u text p → ReadsBack u p

abbrev pub ConversionsReadBack : Type 0
ConversionsReadBack = (u : Units) (text : List ℕ) (p q : Program) → ProgramText u text p → Converted p q → ReadsBack u q

-- ---- programs that can be read

-- it holds of each program that keeps the rules, stands over the units and can be read
abbrev pub PrintedIsRead : Type 0
PrintedIsRead = (u : Units) (p : Program) → IsProgram p → StandsOver u p → IsReadable u p → ReadsBack u p

-- each program that a text is can be read
abbrev pub TextsAreReadable : Type 0
TextsAreReadable = (u : Units) (text : List ℕ) (p : Program) → ProgramText u text p → IsReadable u p

-- and so can each that is converted from one that can be read
abbrev pub ConvertedIsReadable : Type 0
ConvertedIsReadable = (u : Units) (p q : Program) → Converted p q → IsReadable u p → IsReadable u q
