-- The file of code's words is that of one code.
use Rattle.std.specs.Prelude.{◌≡◌}
use Rattle.tta_arch.specs.Machine.{Machine}
use Rattle.tta_code.specs.Legal.{IsLegalCode}
use Rattle.tta_code.specs.Whole.{Whole}
use Rattle.tta_rtl.specs.CodeFile.{memory_words, code_file}

-- Of one machine, files of code that are one fill the memory of code with the same words.
abbrev pub OneFile : Type 0
OneFile =
    (m : Machine) (whole other : Whole) → IsLegalCode m whole.code → IsLegalCode m other.code
    → code_file m whole ≡ code_file m other → memory_words m whole.code ≡ memory_words m other.code
