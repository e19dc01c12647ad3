-- The words of a machine's circuit stay within their widths.
use Rattle.std.specs.Prelude.{ℕ, ◌<◌, ◌^◌, List}
use Rattle.std.specs.List.{AllByRecursion}
use Rattle.tta_hardware.specs.Cited.{Units, Machine, IsMachine, IsLegalCode, IsWithin}
use Rattle.tta_code.specs.declared.code.Code.{Code as Program}
use Rattle.tta_hardware.specs.Signals.{Signal as Named, IsOffered, Offer, IsReady, IsReset}
use Rattle.tta_hardware.specs.Sized.{signal_width, store_width}
use Rattle.tta_hardware.specs.Runs.{hardware, signals}

-- inputs that are within their widths
pub record AreInputs (words : Named → ℕ) : Type 0 where
  pub offered : words IsOffered < 2 ^ 1
  pub offer : words Offer < 2 ^ 32
  pub ready : words IsReady < 2 ^ 1
  pub reset : words IsReset < 2 ^ 1

-- The words of all signals and memories of a machine with its code are below what their widths allow, after every number of clocks and
-- for every sequence of inputs that are within theirs, where the words of the data space are words, and those that the registers have
-- when the power comes are no wider than the registers.
abbrev pub WordsStay : Type 0
WordsStay =
    (u : Units) (m : Machine) (code : Program) (memory : List ℕ) (powers : Named → ℕ) (inputs : ℕ → Named → ℕ)
    → IsMachine m → IsLegalCode m code → AllByRecursion (λ w. w < 2 ^ 32) memory
    → ((n : Named) → powers n < 2 ^ signal_width m n) → ((t : ℕ) → AreInputs (inputs t)) → (t : ℕ)
    → IsWithin (signal_width m) (store_width m) (hardware u m code memory powers inputs t)
    × ((n : Named) → signals u m code memory powers inputs t n < 2 ^ signal_width m n)
