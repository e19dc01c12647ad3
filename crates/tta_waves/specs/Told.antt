-- Which signals a run can tell.
use Rattle.std.specs.Prelude.{ℕ, Bool, true, nat_lt}
use Rattle.tta_waves.specs.Cited.{KeptReg, KeptImm, KeptOperand, is_place}
use Rattle.tta_waves.specs.declared.signal.Signal.{Signal}
use Rattle.tta_waves.specs.declared.signal.Signal.TheVariants.{Address, Halted, Acts, Carried, Starts, Operand, Shown, Register, Immediate, ReturnAddress}

-- a signal that is there where there are so many units
abbrev pub is_told : (units : ℕ) → Signal → Bool
is_told units Address = true
is_told units Halted = true
is_told units (Acts bus) = true
is_told units (Carried bus) = true
is_told units (Starts unit op) = true
is_told units (Operand unit) = is_place (KeptOperand unit)
is_told units (Shown unit) = nat_lt unit units
is_told units (Register file index) = is_place (KeptReg file index)
is_told units (Immediate unit index) = is_place (KeptImm unit index)
is_told units ReturnAddress = true
