-- A division in stages as a circuit.
use Rattle.std.specs.Prelude.{ℕ, zero, suc, ◌+◌, ◌-◌, ◌*◌, ◌/◌, ◌==◌, Bool, ◌&&◌, if◌then◌else◌, List, [], ◌∷◌, ◌++◌}
use Rattle.tta_divider.specs.Cited.{Expr, Const, Signal, Wire, Register, Circuit, Cut, cut, wire, digit_widths}
use Rattle.tta_divider.specs.declared.kind.Kind.{Kind}
use Rattle.tta_divider.specs.declared.kind.Kind.TheVariants.{Quotient, Remainder}

-- Its signals. The inputs are whether a clock takes words, the dividend and the divisor. The registers before a stage are the rest of its
-- division, the digits (those of the dividend that were not read above those of the quotient), and the divisor. The wires are those of the
-- digits that a stage makes, by their numbers, and the word that is shown.
pub data Part : Type 0 where
  Enable : Part
  First : Part
  Second : Part
  Rest : (stage : ℕ) → Part
  Digits : (stage : ℕ) → Part
  Divisor : (stage : ℕ) → Part
  Digit : (stage number : ℕ) → Part
  Shown : Part

-- ---- names

-- names are told apart by the number of what they are, and by those of their stages and wires
abbrev pub number_of : Part → ℕ
number_of Enable = 0
number_of First = 1
number_of Second = 2
number_of (Rest stage) = 3
number_of (Digits stage) = 4
number_of (Divisor stage) = 5
number_of (Digit stage number) = 6
number_of Shown = 7

abbrev pub stage_of : Part → ℕ
stage_of (Rest stage) = stage
stage_of (Digits stage) = stage
stage_of (Divisor stage) = stage
stage_of (Digit stage number) = stage
stage_of p = 0

abbrev pub wire_of : Part → ℕ
wire_of (Digit stage number) = number
wire_of p = 0

-- whether two signals are one
abbrev pub same_part : Part → Part → Bool
same_part a b = number_of a == number_of b && (stage_of a == stage_of b && wire_of a == wire_of b)

-- it has no memories
abbrev pub same_memory : ⊥ → ⊥ → Bool
same_memory a b = absurd a

-- how many bits each signal has
abbrev pub part_width : Part → ℕ
part_width Enable = 1
part_width (Digit stage number) = digit_widths number
part_width p = 32

abbrev pub memory_width : ⊥ → ℕ
memory_width m = absurd m

-- ---- stages

-- A division has registers behind each of so many stages, and one more stage behind all of them. Before a stage it has made so many
-- digits.
unfoldable pub made_before : (stages stage : ℕ) → ℕ
made_before stages stage = 32 * stage / (stages + 1)

-- how many a stage makes; all of them make 32, and where there are more than 32 stages, some make none
abbrev pub made_by : (stages stage : ℕ) → ℕ
made_by stages stage = made_before stages (stage + 1) - made_before stages stage

-- what a stage begins with: the first with the inputs and no rest, and each other with its registers
abbrev pub rest_before : (stage : ℕ) → Expr Part ⊥
rest_before stage = if stage == 0 then Const 32 0 else Signal (Rest stage)

abbrev pub digits_before : (stage : ℕ) → Part
digits_before stage = if stage == 0 then First else Digits stage

abbrev pub divisor_before : (stage : ℕ) → Part
divisor_before stage = if stage == 0 then Second else Divisor stage

-- the digits of a stage
abbrev pub stage_cut : (stages stage : ℕ) → Cut Part ⊥
stage_cut stages stage =
    cut (Digit stage) (made_by stages stage) 0 (rest_before stage) (Signal (digits_before stage)) (Signal (divisor_before stage))

-- the wires of so many stages from one on
abbrev pub stage_wires : (stages stage count : ℕ) → List (Wire Part ⊥)
stage_wires stages stage zero = []
stage_wires stages stage (suc n) = (stage_cut stages stage).wires ++ stage_wires stages (stage + 1) n

-- a register that takes a word at clocks that are enabled
abbrev pub kept : (name : Part) → (next : Expr Part ⊥) → Register Part ⊥
kept name next = record { name = name; width = 32; enable = Signal Enable; next = next }

-- the registers behind so many stages from one on: each takes what the stage before it makes, and the divisor passes on
abbrev pub stage_registers : (stages stage count : ℕ) → List (Register Part ⊥)
stage_registers stages stage zero = []
stage_registers stages stage (suc n) =
    kept (Rest (stage + 1)) (stage_cut stages stage).rest ∷ kept (Digits (stage + 1)) (stage_cut stages stage).digits
    ∷ kept (Divisor (stage + 1)) (Signal (divisor_before stage)) ∷ stage_registers stages (stage + 1) n

-- ---- the circuit

-- what is shown of a division that is done
abbrev pub shown_of : Kind → Cut Part ⊥ → Expr Part ⊥
shown_of Quotient made = made.digits
shown_of Remainder made = made.rest

-- A division with registers behind so many stages.
abbrev pub divider : (kind : Kind) → (stages : ℕ) → Circuit Part ⊥
divider kind stages = record {
  inputs = (Enable, 1) ∷ (First, 32) ∷ (Second, 32) ∷ [];
  wires = stage_wires stages 0 (stages + 1) ++ wire Shown 32 (shown_of kind (stage_cut stages stages)) ∷ [];
  registers = stage_registers stages 0 stages;
  memories = [];
  outputs = Shown ∷ [];
}

-- ---- what a text of it needs

-- the place of each wire in the order of wires; what is no wire stands before them
abbrev pub rank : (stages : ℕ) → Part → ℕ
rank stages (Digit stage number) = 160 * stage + number + 1
rank stages Shown = 160 * (stages + 1) + 1
rank stages p = 0
