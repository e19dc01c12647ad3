-- What printed lines say.
use Rattle.std.proofs.Common.{◌≡◌, ℕ, suc, ◌+◌, ◌==◌, true, List, [], ◌∷◌, ◌++◌, length, get_or, map, refl, ap, ◌∙◌, arith}
use Rattle.std.specs.Prelude.{Some, None, if◌then◌else◌, is_some, option_map, option_to_list}
use Rattle.std.specs.List.{list_all}
use Rattle.std.proofs.lemmas.Bool.{and_from}
use Rattle.tta_roundtrip.specs.Cited.{Line, Units, Step, Copy, Apply, Load, Store, Put, Take, If, Goto, When, Invoke, Return, Halt, End, Proc, DataLine, Program, Form, ProcForm, DataForm, LabelForm, CopyForm, ApplyForm, LoadForm, StoreForm, PutForm, TakeForm, IfForm, GotoForm, WhenForm, CallForm, ReturnForm, HaltForm, EndForm, form_of, Said, said_from, is_line, is_target}
use Rattle.tta_pretty.specs.Printed.{Printed, var_name, label_name, proc_name, op_name, var_names}
use Rattle.tta_roundtrip.proofs.ScannedLines.{words_of}
use Rattle.tta_roundtrip.proofs.Forms.{said, all_said, Reads}

-- a step as a line says it
abbrev pub step_said : Units → (main : ℕ) → Step → Form
step_said u main (Copy d s) = CopyForm (var_name d) (said s)
step_said u main (Apply d op a b) = ApplyForm (var_name d) (op_name u op) (if get_or u.arities op.0 0 == 2 then said a ∷ said b ∷ [] else said b ∷ [])
step_said u main (Load d a) = LoadForm (var_name d) (said a)
step_said u main (Store a v) = StoreForm (said a) (said v)
step_said u main (Put v) = PutForm (said v)
step_said u main (Take d) = TakeForm (var_name d)
step_said u main (If rel a b to) = IfForm rel (said a) (said b) (label_name to)
step_said u main (Goto to) = GotoForm (label_name to)
step_said u main (When rel a b d s) = WhenForm rel (said a) (said b) (var_name d) (said s)
step_said u main (Invoke (Some d) callee args) = CallForm (Some (var_name d)) (proc_name main callee) (all_said args)
step_said u main (Invoke None callee args) = CallForm None (proc_name main callee) (all_said args)
step_said u main (Return (Some s)) = ReturnForm (Some (said s))
step_said u main (Return None) = ReturnForm None
step_said u main Halt = HaltForm
step_said u main End = EndForm

-- a label before a step, if the step has one
abbrev pub label_said : List Step → ℕ → List Form
label_said all k = if is_target all k then LabelForm (label_name k) ∷ [] else []

-- steps, procedures, data and a program
abbrev pub steps_form : Units → (main : ℕ) → (all : List Step) → ℕ → List Step → List Form
steps_form u main all k [] = []
steps_form u main all k (step ∷ steps) = label_said all k ++ (step_said u main step ∷ steps_form u main all (k + 1) steps)

abbrev pub procs_form : Units → (main k : ℕ) → List Proc → List Form
procs_form u main k [] = []
procs_form u main k (q ∷ qs) = ProcForm (proc_name main k) (var_names 0 q.params) ∷ (steps_form u main q.steps 0 q.steps ++ procs_form u main (k + 1) qs)

abbrev pub data_form : List DataLine → List Form
data_form [] = []
data_form (d ∷ ds) = DataForm d.address d.value ∷ data_form ds

abbrev pub program_form : Units → Program → List Form
program_form u p = data_form p.init ++ procs_form u p.main 0 p.procs

-- ---- printed lines say their forms

-- each line has its form
abbrev pub AreRead : List Printed → List Form → Type 0
AreRead [] [] = Unit {0}
AreRead [] (f ∷ fs) = ⊥
AreRead (l ∷ ls) [] = ⊥
AreRead (l ∷ ls) (f ∷ fs) = Reads (words_of l) f × AreRead ls fs

pub read_append : (ls ms : List Printed) (fs gs : List Form) → AreRead ls fs → AreRead ms gs → AreRead (ls ++ ms) (fs ++ gs)
read_append [] ms [] gs left right = right
read_append [] ms (f ∷ fs) gs left right = absurd left
read_append (l ∷ ls) ms [] gs left right = absurd left
read_append (l ∷ ls) ms (f ∷ fs) gs left right = (left.0, read_append ls ms fs gs left.1 right)

-- forms with the numbers of their lines
abbrev pub numbered_from : ℕ → List Form → List Said
numbered_from line [] = []
numbered_from line (f ∷ fs) = (line, f) ∷ numbered_from (line + 1) fs

-- lines that have forms say them
pub said_read : (ls : List Printed) (fs : List Form) (line : ℕ) → AreRead ls fs → said_from line (map words_of ls) ≡ numbered_from line fs
said_read [] [] line are = refl
said_read [] (f ∷ fs) line are = absurd are
said_read (l ∷ ls) [] line are = absurd are
said_read (l ∷ ls) (f ∷ fs) line are = by (words_of l) are.0 (said_read ls fs (line + 1) are.1) where
  by : (w : Line) → Reads w f → said_from (line + 1) (map words_of ls) ≡ numbered_from (line + 1) fs → said_from line (w ∷ map words_of ls) ≡ (line, f) ∷ numbered_from (line + 1) fs
  by [] reads more = absurd reads
  by (key ∷ words) reads more =
      ap (λ o. option_to_list (option_map (λ g. (line, g)) o) ++ said_from (line + 1) (map words_of ls)) reads
      ∙ ap (λ xs. (line, f) ∷ xs) more

pub lines_are : (ls : List Printed) (fs : List Form) → AreRead ls fs → list_all is_line (map words_of ls) ≡ true
lines_are [] [] are = refl
lines_are [] (f ∷ fs) are = absurd are
lines_are (l ∷ ls) [] are = absurd are
lines_are (l ∷ ls) (f ∷ fs) are = by (words_of l) are.0 (lines_are ls fs are.1) where
  by : (w : Line) → Reads w f → list_all is_line (map words_of ls) ≡ true → list_all is_line (w ∷ map words_of ls) ≡ true
  by [] reads more = absurd reads
  by (key ∷ words) reads more = and_from (is_some (form_of key words)) (list_all is_line (map words_of ls)) (ap is_some reads) more

pub count_read : (ls : List Printed) (fs : List Form) → AreRead ls fs → length fs ≡ length ls
count_read [] [] are = refl
count_read [] (f ∷ fs) are = absurd are
count_read (l ∷ ls) [] are = absurd are
count_read (l ∷ ls) (f ∷ fs) are = ap suc (count_read ls fs are.1)

pub numbered_length : (line : ℕ) (fs : List Form) → length (numbered_from line fs) ≡ length fs
numbered_length line [] = refl
numbered_length line (f ∷ fs) = ap suc (numbered_length (line + 1) fs)

pub numbered_append : (line : ℕ) (fs gs : List Form) → numbered_from line (fs ++ gs) ≡ numbered_from line fs ++ numbered_from (line + length fs) gs
numbered_append line [] gs = ap (λ n. numbered_from n gs) (let e : line ≡ line + length {A = Form} [] = omega arith in e)
numbered_append line (f ∷ fs) gs =
    ap (λ xs. (line, f) ∷ xs) (numbered_append (line + 1) fs gs
    ∙ ap (λ n. numbered_from (line + 1) fs ++ numbered_from n gs) (let e : (line + 1) + length fs ≡ line + length (f ∷ fs) = omega arith in e))
