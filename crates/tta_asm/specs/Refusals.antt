-- Why an assembly text is refused.
use Rattle.std.specs.Prelude.{◌≡◌, ℕ, Result, Ok, Err}
use Rattle.tta_asm.specs.declared.refusal.AsmRefusal.{AsmRefusal}
use Rattle.tta_asm.specs.declared.refusal.AsmRefusal.TheVariants.{Syntax, Unknown, NoConnection, Illegal, Slots, Label, Range, Data}
use Rattle.tta_asm.specs.declared.refusal.AsmError.{AsmError}
use Rattle.tta_asm.specs.declared.refusal.AsmError.TheVariants.{Refused, NoMemory}

-- the number of a refusal
abbrev pub code_of : AsmRefusal → ℕ
code_of Syntax = 50
code_of Unknown = 51
code_of NoConnection = 52
code_of Illegal = 53
code_of Slots = 54
code_of Label = 55
code_of Range = 56
code_of Data = 57

-- a refusal with its line
abbrev pub Refusal : Type 0
Refusal = ℕ × AsmRefusal

-- words that do not fit, at the line of the first that does not
abbrev pub fitting : {A : Type 0} → Result A ℕ → Result A Refusal
fitting (Ok x) = Ok x
fitting (Err line) = Err (line, Syntax)

-- a refusal as it is reported
abbrev pub told : Refusal → AsmError
told r = Refused r.0 (code_of r.1)

-- an answer that is seen as another is what the definition makes, or its refusal is reported, or there was no memory
abbrev pub AnswersAs : {A B : Type 0} → (A → B) → Result A AsmError → Result B Refusal → Type 0
AnswersAs seen (Ok x) made = made ≡ Ok (seen x)
AnswersAs seen (Err NoMemory) made = Unit {0}
AnswersAs seen (Err e) made = (r : Refusal) × (e ≡ told r) × (made ≡ Err r)

-- the answer itself is what the definition makes, or its refusal is reported, or there was no memory
abbrev pub Answers : {A : Type 0} → Result A AsmError → Result A Refusal → Type 0
Answers = AnswersAs (λ x. x)
