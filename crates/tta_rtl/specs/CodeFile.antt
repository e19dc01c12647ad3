-- The words of code in a file beside the text, and the memory that is filled from it.
use Rattle.std.specs.Prelude.{ℕ, zero, suc, ◌+◌, ◌-◌, ◌/◌, ◌%◌, ◌^◌, nat_lt, if◌then◌else◌, List, [], ◌∷◌, ◌++◌, length, codes, decimal, replicate}
use Rattle.std.specs.List.{flat_map}
use Rattle.tta_rtl.specs.Cited.{Machine, word_width, Code, code_words, range}
use Rattle.tta_code.specs.Whole.{Whole}

-- The words of the code's memory, one for each address. Past the end of the code they are 0, as in the circuit.
abbrev pub memory_words : Machine → Code → List ℕ
memory_words m code = code_words m code ++ replicate (2 ^ m.control.address - length code.words) 0

-- a digit to the base 16
abbrev pub hex_digit : ℕ → ℕ
hex_digit n = if nat_lt n 10 then 48 + n else 87 + n

-- a word in so many digits to the base 16, the highest first
abbrev pub hex_text : (digits word : ℕ) → List ℕ
hex_text zero word = []
hex_text (suc d) word = hex_digit (word / 16 ^ d % 16) ∷ hex_text d word

-- a line with a word of so many bits
unfoldable pub hex_line : (width word : ℕ) → List ℕ
hex_line width word = hex_text ((width + 3) / 4) word ++ codes "\n"

-- the file `code.hex`: a line for each address of the code's memory
abbrev pub code_file : Machine → Whole → List ℕ
code_file m whole = flat_map (hex_line (word_width m)) (memory_words m whole.code)

-- the function of an address that reads the code's memory that a file fills
unfoldable pub filed_function : (width : ℕ) → List ℕ
filed_function width =
    codes "function " ++ (range width ++ (codes "code;\ninput " ++ (range 32 ++ codes "at;\ncode = code_words[at];\nendfunction\n")))

-- The lines of the code's memory where that file has its words, of so many bits and so many words. A function of an address reads it, as
-- where the words stand in the text.
unfoldable pub filed_text : (width size : ℕ) → List ℕ
filed_text width size =
    codes "reg " ++ (range width ++ (codes "code_words [0:" ++ (decimal (size - 1)
    ++ (codes "];\ninitial $readmemh(\"code.hex\", code_words);\n" ++ filed_function width))))
