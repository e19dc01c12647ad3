-- What the answer about code has to be.
use Rattle.std.specs.Prelude.{◌≡◌}
use Rattle.tta_check.specs.Cited.{Machine, Code}
use Rattle.tta_check.specs.declared.verdict.Verdict.{Verdict}
use Rattle.tta_check.specs.declared.verdict.Verdict.TheVariants.{Safe}
use Rattle.tta_check.specs.Verdict.{IsSafe, IsVerdict, NeverFaults}

-- It is the verdict by walks: Safe exactly where no walk has a code and no two disagree, and Unsafe only with a code that a walk has
-- there, or with 80 where two disagree. What is safe never faults, whatever memory and input it runs on.
pub record Checks (m : Machine) (code : Code) (verdict : Verdict) : Type 0 where
  pub is : IsVerdict m code verdict
  pub exact : IsSafe m code → verdict ≡ Safe
  pub runs : verdict ≡ Safe → NeverFaults m code
