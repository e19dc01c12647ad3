-- That the file of the code's words is the circuit's memory of code.
use Rattle.std.specs.Prelude.{◌≡◌, ℕ, ◌^◌, length, slice_index}
use Rattle.tta_rtl.specs.Cited.{Machine, Code, code_words}
use Rattle.tta_code.specs.Legal.{IsLegalCode}
use Rattle.tta_rtl.specs.CodeFile.{memory_words}

-- at each address the file has the word that the circuit reads there, also past the end of the code
abbrev pub FileReadsAlike : Type 0
FileReadsAlike = (m : Machine) (code : Code) (address : ℕ) → slice_index (memory_words m code) address ≡ slice_index (code_words m code) address

-- it has a word for each address and no more
abbrev pub FileIsFull : Type 0
FileIsFull = (m : Machine) (code : Code) → IsLegalCode m code → length (memory_words m code) ≡ 2 ^ m.control.address
