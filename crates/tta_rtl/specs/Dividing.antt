-- The wires of a division from one of its digits on, as a function has them.
use Rattle.std.specs.Prelude.{ℕ, ◌-◌, ◌*◌, ◌==◌, if◌then◌else◌, List}
use Rattle.tta_rtl.specs.Cited.{Wire, Expr, Const, Signal, OpPort, First, Second, Inner, narrow_cut, narrow_wires}

-- The rest and the digits of the quotient after so many digits: what the division begins with, or the last two wires of the digit before.
abbrev pub rest_after : (done : ℕ) → Expr OpPort ⊥
rest_after done = if done == 0 then Const 32 0 else Signal (Inner (5 * done - 2))

abbrev pub digits_after : (done : ℕ) → OpPort
digits_after done = if done == 0 then First else Inner (5 * done - 1)

-- the wires of the next digit, and those of so many digits more
abbrev pub wires_at : (done : ℕ) → List (Wire OpPort ⊥)
wires_at done = narrow_wires Inner done (5 * done) (rest_after done) (Signal (digits_after done)) (Signal Second)

abbrev pub wires_from : (done count : ℕ) → List (Wire OpPort ⊥)
wires_from done count = (narrow_cut Inner count done (5 * done) (rest_after done) (Signal (digits_after done)) (Signal Second)).wires
