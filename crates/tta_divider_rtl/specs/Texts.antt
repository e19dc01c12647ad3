-- The text of a divider as a module.
use Rattle.std.specs.Prelude.{ℕ, false, List, [], ◌++◌, codes, decimal}
use Rattle.tta_divider_rtl.specs.Cited.{Names, parts_text, Kind, Part, Enable, First, Second, Rest, Digits, Divisor, Digit, Shown, divider}

-- what is called by a number, too
unfoldable pub numbered : (what : List ℕ) → (n : ℕ) → List ℕ
numbered what n = what ++ decimal n

-- what a wire of a digit is called, by its stage and its number there
unfoldable pub digit_name : (stage number : ℕ) → List ℕ
digit_name stage number = codes "digit_" ++ (decimal stage ++ (codes "_" ++ decimal number))

-- what the signals of a divider are called; the inputs are called as the ports
abbrev pub part_name : Part → List ℕ
part_name Enable = codes "enable"
part_name First = codes "a"
part_name Second = codes "b"
part_name (Rest stage) = numbered (codes "rest_") stage
part_name (Digits stage) = numbered (codes "digits_") stage
part_name (Divisor stage) = numbered (codes "divisor_") stage
part_name (Digit stage number) = digit_name stage number
part_name Shown = codes "n_word"

-- all of them; it has no memories
abbrev pub divider_names : Names Part ⊥
divider_names = record { signal = part_name; memory = λ m. []; is_constant = λ m. false; op = λ op. [] }

-- ---- the module

-- the ports of a divider
abbrev pub divider_ports : List ℕ
divider_ports =
    codes " (clk, enable, a, b, word);\ninput clk;\ninput [0:0] enable;\n"
    ++ codes "input [31:0] a;\ninput [31:0] b;\noutput [31:0] word;\n"

-- the parts of its circuit
abbrev pub divider_parts : Kind → (stages : ℕ) → List ℕ
divider_parts kind stages = parts_text divider_names [] (divider kind stages)

-- what its port shows
abbrev pub divider_shown : List ℕ
divider_shown = codes "assign word = n_word;\nendmodule\n"

-- A divider with registers behind so many stages, as a module of a name.
unfoldable pub divider_text : (name : List ℕ) → Kind → (stages : ℕ) → List ℕ
divider_text name kind stages = codes "module " ++ (name ++ (divider_ports ++ (divider_parts kind stages ++ divider_shown)))
