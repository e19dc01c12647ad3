-- Pieces of the text of a divider, in the order in which they are written.
use Rattle.std.specs.Prelude.{ℕ, ◌+◌, ◌-◌, ◌*◌, ◌==◌, Bool, true, false, if◌then◌else◌, List, ◌++◌, codes}
use Rattle.std.specs.List.{flat_map}
use Rattle.tta_divider_rtl.specs.Cited.{Expr, Signal, expression, range, wire_text, cut, Part, Digit, rest_before, digits_before, divisor_before, made_by}
use Rattle.tta_divider_rtl.specs.Texts.{numbered, part_name, divider_names}

-- The rest and the digits before the wires that a stage has from a number on: what it begins with, or the last two wires of the digit
-- before.
abbrev pub rest_at : (stage number : ℕ) → Expr Part ⊥
rest_at stage number = if number == 0 then rest_before stage else Signal (Digit stage (number - 2))

abbrev pub digits_at : (stage number : ℕ) → Part
digits_at stage number = if number == 0 then digits_before stage else Digit stage (number - 1)

-- how the line of a wire begins
unfoldable pub wire_start : (name : List ℕ) → (width : ℕ) → List ℕ
wire_start name width = codes "wire " ++ (range width ++ (name ++ codes " = "))

-- a register of 32 bits as it is declared
unfoldable pub declared : (name : List ℕ) → List ℕ
declared name = codes "reg " ++ (range 32 ++ (name ++ codes ";\n"))

-- how it is said that something is done at clocks that are enabled
unfoldable pub where_enabled : List ℕ
where_enabled = codes "always @(posedge clk) if (enable) "

-- a register takes a word then
unfoldable pub takes : (name word : List ℕ) → List ℕ
takes name word = where_enabled ++ (name ++ (codes " <= " ++ (word ++ codes ";\n")))

-- the registers behind a stage as they are declared
unfoldable pub behind_declared : (stage : ℕ) → List ℕ
behind_declared stage =
    declared (numbered (codes "rest_") (stage + 1))
    ++ (declared (numbered (codes "digits_") (stage + 1)) ++ declared (numbered (codes "divisor_") (stage + 1)))

-- what they take, where the wires of the stage have numbers below this one
unfoldable pub behind_taken : (stage number : ℕ) → List ℕ
behind_taken stage number =
    takes (numbered (codes "rest_") (stage + 1)) (expression divider_names (rest_at stage number))
    ++ (takes (numbered (codes "digits_") (stage + 1)) (part_name (digits_at stage number))
    ++ takes (numbered (codes "divisor_") (stage + 1)) (part_name (divisor_before stage)))

-- one of both
abbrev pub behind_text : (declares : Bool) → (stages stage : ℕ) → List ℕ
behind_text true stages stage = behind_declared stage
behind_text false stages stage = behind_taken stage (5 * made_by stages stage)

-- the wires of so many digits of a stage, from a number on
abbrev pub digits_text : (stage number count : ℕ) → List ℕ
digits_text stage number count =
    flat_map (wire_text divider_names)
    (cut (Digit stage) count number (rest_at stage number) (Signal (digits_at stage number)) (Signal (divisor_before stage))).wires
