-- Small drafts, and what the definitions make of one more line.
use Rattle.std.specs.Prelude.{◌≡◌, ℕ, List, [], ◌∷◌, Option, Some, None, Result, Ok, Err, refl, codes, replicate}
use Rattle.tta_tac.specs.Cited.{Declared, Units, Var, Eq, Ge}
use Rattle.tta_program.specs.declared.operand.Src.TheVariants.{Word}
use Rattle.tta_program.specs.declared.step.Step.TheVariants as step
use Rattle.tta_tac.specs.declared.refusal.Refusal.{Refusal}
use Rattle.tta_tac.specs.declared.refusal.Refusal.TheVariants.{Syntax, UnknownOp, Arity, Twice, TooMany}
use Rattle.tta_tac.specs.Forms.{Named, Constant, ProcForm, DataForm, LabelForm, CopyForm, ApplyForm, TakeForm, IfForm, WhenForm, CallForm, HaltForm, EndForm}
use Rattle.tta_tac.specs.Draft.{Unlinked, Plain, CallTo, ProcDraft, Draft, nothing}
use Rattle.tta_tac.specs.FirstPass.{take_form}
use Rattle.tta_program.proofs.Rows.{op, less, two}

-- the name of the only parameter in these samples, which a label has too
abbrev a : List ℕ
a = codes "a"

-- the name of a variable or of a label in these samples
abbrev b : List ℕ
b = codes "b"

-- the name of a variable that one of these samples compares
abbrev c : List ℕ
c = codes "c"

-- the name of the variable that a sample assigns
abbrev d : List ℕ
d = codes "d"

-- ---- in a procedure f with the parameter a, after one line

-- a sample procedure of one parameter that begins on line 1, with these variables, labels, steps and lines of steps
abbrev begun : Declared ℕ → Declared ℕ → List Unlinked → List ℕ → ProcDraft
begun vars labels steps lines = record { line = 1; params = 1; vars = vars; labels = labels; steps = steps; lines = lines }

-- a draft after so many lines, in which a procedure f has begun and not ended
abbrev inside : (lines : ℕ) → ProcDraft → Draft
inside lines q = record { names = (codes "f", 0) ∷ []; procs = []; begun = Some q; init = []; lines = lines }

-- the draft after the first line of f, which names its parameter a
abbrev in_f : Draft
in_f = inside 1 (begun ((a, 0) ∷ []) [] [] [])

proc-begins : (u : Units) → take_form u nothing 1 (ProcForm (codes "f") (a ∷ [])) ≡ Ok in_f
proc-begins u = refl

-- d = lt d a: the destination comes first
apply-numbers : take_form less in_f 2 (ApplyForm d (codes "lt") (Named d ∷ Named a ∷ []))
    ≡ Ok (inside 2 (begun ((a, 0) ∷ (d, 1) ∷ []) [] (Plain (step.Apply 1 (op 0) (Var 1) (Var 0)) ∷ []) (2 ∷ [])))
unfolding less two
apply-numbers = refl

-- when ge b c d = a: the destination comes third
when-numbers : take_form less in_f 2 (WhenForm Ge (Named b) (Named c) d (Named a))
    ≡ Ok (inside 2 (begun ((a, 0) ∷ (b, 1) ∷ (c, 2) ∷ (d, 3) ∷ []) []
    (Plain (step.When Ge (Var 1) (Var 2) 3 (Var 0)) ∷ []) (2 ∷ [])))
unfolding less two
when-numbers = refl

-- b = call g 7 b
call-numbers : (u : Units) → take_form u in_f 2 (CallForm (Some b) (codes "g") (Constant 7 ∷ Named b ∷ []))
    ≡ Ok (inside 2 (begun ((a, 0) ∷ (b, 1) ∷ []) [] (CallTo (Some 1) (codes "g") (Word 7 ∷ Var 1 ∷ []) ∷ []) (2 ∷ [])))
call-numbers u = refl

-- a label names the next step and may have a variable's name
label-names : (u : Units) → take_form u in_f 2 (LabelForm a) ≡ Ok (inside 2 (begun ((a, 0) ∷ []) ((a, 0) ∷ []) [] []))
label-names u = refl

end-closes : (u : Units) → take_form u in_f 2 EndForm
    ≡ Ok (record {
      names = (codes "f", 0) ∷ [];
      procs = begun ((a, 0) ∷ []) [] (Plain step.End ∷ []) (2 ∷ []) ∷ [];
      begun = None;
      init = [];
      lines = 2;
    })
end-closes u = refl

-- d = in
take-numbers : (u : Units) → take_form u in_f 2 (TakeForm d)
    ≡ Ok (inside 2 (begun ((a, 0) ∷ (d, 1) ∷ []) [] (Plain (step.Take 1) ∷ []) (2 ∷ [])))
take-numbers u = refl

-- a draft outside of procedures, whose first line is data 2 9
abbrev one_datum : Draft
one_datum = record nothing { init = record { address = 2; value = 9; line = 1 } ∷ []; lines = 1 }

data-laid : (u : Units) → take_form u nothing 1 (DataForm 2 9) ≡ Ok one_datum
data-laid u = refl

-- ---- refusals

-- data 2 8 after data 2 9
data-twice : (u : Units) → take_form u one_datum 2 (DataForm 2 8) ≡ Err Twice
data-twice u = refl

data-inside : (u : Units) → take_form u in_f 2 (DataForm 2 9) ≡ Err Syntax
data-inside u = refl

proc-inside : (u : Units) → take_form u in_f 2 (ProcForm (codes "g") []) ≡ Err Syntax
proc-inside u = refl

step-outside : (u : Units) → take_form u nothing 1 HaltForm ≡ Err Syntax
step-outside u = refl

-- proc main a a a a a a a a a: the wrong number of parameters is reported before the name that stands twice
main-params : (u : Units) → take_form u nothing 1 (ProcForm (codes "main") (replicate 9 a)) ≡ Err Arity
main-params u = refl

-- proc f a a a a a a a a a: the name that stands twice is reported before the ninth parameter
twice-params : (u : Units) → take_form u nothing 1 (ProcForm (codes "f") (replicate 9 a)) ≡ Err Twice
twice-params u = refl

many-args : (u : Units) → take_form u in_f 2 (CallForm None (codes "g") (replicate 9 (Constant 1))) ≡ Err TooMany
many-args u = refl

label-twice : (u : Units) → take_form u (inside 2 (begun [] ((b, 0) ∷ []) [] [])) 3 (LabelForm b) ≡ Err Twice
label-twice u = refl

-- no unit offers eq
rel-unknown : take_form less in_f 2 (IfForm Eq (Named a) (Constant 0) b) ≡ Err UnknownOp
unfolding less two
rel-unknown = refl

-- d = lt a
operand-missing : take_form less in_f 2 (ApplyForm d (codes "lt") (Named a ∷ [])) ≡ Err Arity
unfolding less two
operand-missing = refl

-- ---- limits

-- a draft in a procedure of so many variables, to reach their limit
abbrev with_vars : ℕ → Draft
with_vars n = inside 1 (begun (replicate n (a, 0)) [] [] [])

-- why a line was refused, or none where it was taken
abbrev taken : Result Draft Refusal → Option Refusal
taken (Ok after) = None
taken (Err e) = Some e

last-variable : (u : Units) → taken (take_form u (with_vars 4095) 2 (CopyForm b (Constant 1))) ≡ None
last-variable u = refl

variable-too-many : (u : Units) → taken (take_form u (with_vars 4096) 2 (CopyForm b (Constant 1))) ≡ Some TooMany
variable-too-many u = refl

last-line : (u : Units) → taken (take_form u (inside 65535 (begun [] [] [] [])) 2 HaltForm) ≡ None
last-line u = refl

line-too-many : (u : Units) → taken (take_form u (inside 65536 (begun [] [] [] [])) 2 HaltForm) ≡ Some TooMany
line-too-many u = refl
