-- Why bytes are refused as an image.
use Rattle.std.specs.Prelude.{◌≡◌, ℕ, Result, Err}
use Rattle.tta_image.specs.declared.refusal.ImageRefusal.{ImageRefusal}
use Rattle.tta_image.specs.declared.refusal.ImageRefusal.TheVariants.{Magic, Version, WrongMachine, Width, Length, Field, Illegal, Padding, Data}
use Rattle.tta_image.specs.declared.refusal.ImageError.{ImageError}
use Rattle.tta_image.specs.declared.refusal.ImageError.TheVariants.{Refused, NoMemory}

-- the number of a refusal
abbrev pub code_of : ImageRefusal → ℕ
code_of Magic = 40
code_of Version = 41
code_of WrongMachine = 42
code_of Width = 43
code_of Length = 44
code_of Field = 45
code_of Illegal = 46
code_of Padding = 47
code_of Data = 48

-- a refusal of the bytes as a whole
abbrev pub of_all : ImageRefusal → ImageError
of_all refusal = Refused (code_of refusal) 0 0

-- a refusal of a word, at one of its buses
abbrev pub of_word : (word : ℕ) → ImageRefusal → (bus : ℕ) → ImageError
of_word word refusal bus = Refused (code_of refusal) word bus

-- the answer is what the bytes decode to, or there was no memory
abbrev pub Answers : {A : Type 0} → Result A ImageError → Result A ImageError → Type 0
Answers (Err NoMemory) decoded = Unit {0}
Answers answer decoded = decoded ≡ answer
