-- What is counted of a small circuit.
use Rattle.std.specs.Prelude.{◌≡◌, ℕ, refl}
use Rattle.tta_circuit.specs.Circuit.{Expr, Const, Signal, Select, Equal, Plus, Register}
use Rattle.tta_measure.specs.Cost.{at, beside, behind, chosen, held, plus}
use Rattle.tta_measure.specs.Measure.{cost, register_cost}

-- a counter of 8 bits that stays at 200: signal 0 is its register
abbrev Small : Type 0
Small = Expr ℕ ℕ

count : Small
count = Signal 0

next : Small
next = Select (Equal count (Const 8 200)) count (Plus 8 count (Const 8 1))

counter : Register ℕ ℕ
counter = record { name = 0; width = 8; enable = Const 1 1; next = next }

-- 8 bits, 8 choices, and the sum before a choice
row_counter : register_cost (λ n. 8) (λ m. 32) (λ n. 0) (λ op. 0) counter ≡ record { bits = 8; choices = 8; depth = 5 }
unfolding at beside behind chosen held plus count next counter
row_counter = refl

-- a signal of a depth adds it to what reads it
row_deep : (cost (λ n. 8) (λ (m : ℕ). 32) (λ n. 7) (λ op. 0) next).depth ≡ 12
unfolding at beside behind chosen held plus count next
row_deep = refl
