-- How the variables of a program share the home registers.
use Rattle.std.specs.Prelude.{ℕ, length}
use Rattle.tta_build.specs.Cited.{Choice, Program, Homes, IsScan, AreInTurn, SlotsAsScanned}
use Rattle.tta_build.specs.declared.register.RegisterOrder.{RegisterOrder}
use Rattle.tta_build.specs.declared.register.RegisterOrder.TheVariants.{LongestFree, Least}

-- homes of a program are given in turn, or as the linear scan gives them
abbrev pub AreGivenBy : RegisterOrder → Program → (homes : ℕ) → Homes → Type 0
AreGivenBy LongestFree p homes h = AreInTurn p homes h
AreGivenBy Least p homes h = IsScan p homes h

-- Homes of a program are given in a way, for the home registers that are chosen on a machine, and code may rely on them.
pub record AreHomesBy (sharing : RegisterOrder) (p : Program) (c : Choice) (h : Homes) : Type 0 where
  pub given : AreGivenBy sharing p (length c.homes) h
  pub allotted : SlotsAsScanned p (length c.homes) h
