-- What each line does to a program that is being read, and when it is refused: its words, its operation, its numbers of
-- operands, names that stand twice, and limits, in this order.
use Rattle.std.specs.Prelude.{ℕ, ◌+◌, ◌==◌, Bool, true, false, not, ◌&&◌, ◌||◌, nat_lt, nat_le, if◌then◌else◌, List, [], ◌∷◌, ◌++◌, length, Option, Some, None, is_some, is_none, Result, Ok, codes, get_or}
use Rattle.std.specs.Str.{bytes_eq}
use Rattle.std.specs.Option.{option_map_or}
use Rattle.std.specs.List.{list_any}
use Rattle.tta_tac.specs.Cited.{Line, Declared, named_in, or_refuse, refuse_if, OpId, Units, named, Src, Var, DataLine, test_name}
use Rattle.tta_parse.specs.Steps.{◌>>=◌}
use Rattle.tta_program.specs.declared.operand.Src.TheVariants.{Word}
use Rattle.tta_program.specs.declared.step.Step.TheVariants as step
use Rattle.tta_tac.specs.declared.refusal.Refusal.{Refusal}
use Rattle.tta_tac.specs.declared.refusal.Refusal.TheVariants.{Syntax, UnknownOp, Arity, Twice, TooMany}
use Rattle.tta_tac.specs.Forms.{Operand, Named, Constant, Form, ProcForm, DataForm, LabelForm, CopyForm, ApplyForm, LoadForm, StoreForm, PutForm, TakeForm, IfForm, GotoForm, WhenForm, CallForm, ReturnForm, HaltForm, EndForm, form_of}
use Rattle.tta_tac.specs.Draft.{Unlinked, Plain, IfTo, GotoTo, CallTo, ProcDraft, Draft}

-- ---- variables

-- the variables after one more appearance of a name
abbrev pub with_var : Declared ℕ → List ℕ → Declared ℕ
with_var vars name = if is_some (named_in vars name) then vars else vars ++ (name, length vars) ∷ []

-- the number of a variable
abbrev pub var_number : Declared ℕ → List ℕ → ℕ
var_number vars name = option_map_or (λ k. k) (named_in vars name) 0

-- the variables after an operand, which is one of them or a constant
abbrev pub with_operand : Declared ℕ → Operand → Declared ℕ
with_operand vars (Named name) = with_var vars name
with_operand vars (Constant n) = vars

-- the variables after several operands, in their order
abbrev pub with_operands : Declared ℕ → List Operand → Declared ℕ
with_operands vars [] = vars
with_operands vars (o ∷ os) = with_operands (with_operand vars o) os

-- an operand, once its variable has a number
abbrev pub src_of : Declared ℕ → Operand → Src
src_of vars (Named name) = Var (var_number vars name)
src_of vars (Constant n) = Word n

-- the operands of a list, each in its place
abbrev pub srcs_of : Declared ℕ → List Operand → List Src
srcs_of vars [] = []
srcs_of vars (o ∷ os) = src_of vars o ∷ srcs_of vars os

-- the variables after a line, in the order in which its words stand
abbrev pub vars_after : Declared ℕ → Form → Declared ℕ
vars_after vars (CopyForm d s) = with_operand (with_var vars d) s
vars_after vars (ApplyForm d op operands) = with_operands (with_var vars d) operands
vars_after vars (LoadForm d a) = with_operand (with_var vars d) a
vars_after vars (StoreForm a v) = with_operand (with_operand vars a) v
vars_after vars (PutForm v) = with_operand vars v
vars_after vars (TakeForm d) = with_var vars d
vars_after vars (IfForm rel a b label) = with_operand (with_operand vars a) b
vars_after vars (GotoForm label) = vars
vars_after vars (WhenForm rel a b d s) = with_operand (with_var (with_operand (with_operand vars a) b) d) s
vars_after vars (CallForm (Some d) callee args) = with_operands (with_var vars d) args
vars_after vars (CallForm None callee args) = with_operands vars args
vars_after vars (ReturnForm (Some s)) = with_operand vars s
vars_after vars (ReturnForm None) = vars
vars_after vars (ProcForm name params) = vars
vars_after vars (DataForm address value) = vars
vars_after vars (LabelForm name) = vars
vars_after vars HaltForm = vars
vars_after vars EndForm = vars

-- ---- operations

-- a line's operation by name, with how many words it is given
abbrev pub asked_op : Form → Option (List ℕ × ℕ)
asked_op (ApplyForm d op operands) = Some (op, length operands)
asked_op (IfForm rel a b label) = Some (test_name rel, 2)
asked_op (WhenForm rel a b d s) = Some (test_name rel, 2)
asked_op form = None

-- how many words an operation takes
abbrev pub arity_of : Units → ℕ → ℕ
arity_of u op = get_or u.arities op 0

-- whether no unit offers the operation of a line
abbrev pub lacks_op : Units → Form → Bool
lacks_op u form = option_map_or (λ asked. is_none (named u asked.0)) (asked_op form) false

-- whether the operation of a line takes another number of words
abbrev pub has_wrong_arity : Units → Form → Bool
has_wrong_arity u form =
    option_map_or (λ asked. option_map_or (λ op. not (arity_of u op == asked.1)) (named u asked.0) false) (asked_op form) false

-- the operation of a name, as a step keeps it
abbrev pub op_id : Units → List ℕ → OpId
op_id u name = record { 0 = option_map_or (λ op. op) (named u name) 0 }

-- ---- steps

-- an operation of one word has it after the word 0
abbrev pub apply_step : Units → Declared ℕ → (d : ℕ) (op : List ℕ) → List Operand → Unlinked
apply_step u vars d op (only ∷ []) = Plain (step.Apply d (op_id u op) (Word 0) (src_of vars only))
apply_step u vars d op (left ∷ right ∷ []) = Plain (step.Apply d (op_id u op) (src_of vars left) (src_of vars right))
apply_step u vars d op operands = Plain step.Halt

-- the step of a line, where all its variables have numbers; a procedure's begin, data and a label are none
abbrev pub step_of : Units → Declared ℕ → Form → Option Unlinked
step_of u vars (CopyForm d s) = Some (Plain (step.Copy (var_number vars d) (src_of vars s)))
step_of u vars (ApplyForm d op operands) = Some (apply_step u vars (var_number vars d) op operands)
step_of u vars (LoadForm d a) = Some (Plain (step.Load (var_number vars d) (src_of vars a)))
step_of u vars (StoreForm a v) = Some (Plain (step.Store (src_of vars a) (src_of vars v)))
step_of u vars (PutForm v) = Some (Plain (step.Put (src_of vars v)))
step_of u vars (TakeForm d) = Some (Plain (step.Take (var_number vars d)))
step_of u vars (IfForm rel a b label) = Some (IfTo rel (src_of vars a) (src_of vars b) label)
step_of u vars (GotoForm label) = Some (GotoTo label)
step_of u vars (WhenForm rel a b d s) = Some (Plain (step.When rel (src_of vars a) (src_of vars b) (var_number vars d) (src_of vars s)))
step_of u vars (CallForm (Some d) callee args) = Some (CallTo (Some (var_number vars d)) callee (srcs_of vars args))
step_of u vars (CallForm None callee args) = Some (CallTo None callee (srcs_of vars args))
step_of u vars (ReturnForm (Some s)) = Some (Plain (step.Return (Some (src_of vars s))))
step_of u vars (ReturnForm None) = Some (Plain (step.Return None))
step_of u vars HaltForm = Some (Plain step.Halt)
step_of u vars EndForm = Some (Plain step.End)
step_of u vars (ProcForm name params) = None
step_of u vars (DataForm address value) = None
step_of u vars (LabelForm name) = None

-- a call has at most eight arguments
abbrev pub has_many_args : Form → Bool
has_many_args (CallForm d callee args) = nat_lt 8 (length args)
has_many_args form = false

-- whether a line is an `end`
abbrev pub is_end : Form → Bool
is_end EndForm = true
is_end form = false

-- a procedure has one step more, with its line
abbrev pub with_step : ProcDraft → Declared ℕ → Unlinked → (line : ℕ) → ProcDraft
with_step q vars s line = record q { vars = vars; steps = q.steps ++ s ∷ []; lines = q.lines ++ line ∷ [] }

-- an `end` closes its procedure
abbrev pub close_if : Bool → Draft → ProcDraft → Draft
close_if ends d q = if ends then record d { procs = d.procs ++ q ∷ []; begun = None } else record d { begun = Some q }

-- a draft after a step of its begun procedure, which then is this one
abbrev pub stepped : Draft → Form → ProcDraft → Draft
stepped d form q = close_if (is_end form) (record d { lines = d.lines + 1 }) q

-- a draft after a label of its begun procedure, which then is this one
abbrev pub labelled : Draft → ProcDraft → Draft
labelled d q = record d { begun = Some q; lines = d.lines + 1 }

-- ---- lines

-- more lines than a text may have: this one would be the 65,537th that is not blank
abbrev pub is_full : Draft → Bool
is_full d = nat_le 65536 d.lines

-- whether a name stands twice
abbrev pub has_twice : List (List ℕ) → Bool
has_twice [] = false
has_twice (name ∷ names) = list_any (λ other. bytes_eq other name) names || has_twice names

-- names with the numbers from k on
abbrev pub numbered : ℕ → List (List ℕ) → Declared ℕ
numbered k [] = []
numbered k (name ∷ names) = (name, k) ∷ numbered (k + 1) names

-- a procedure of which only the first line was read
abbrev pub fresh : (line : ℕ) → (params : List (List ℕ)) → ProcDraft
fresh line params = record { line = line; params = length params; vars = numbered 0 params; labels = []; steps = []; lines = [] }

-- a draft in which a procedure begins
abbrev pub with_fresh : Draft → (line : ℕ) → (name : List ℕ) → (params : List (List ℕ)) → Draft
with_fresh d line name params =
    record d { names = d.names ++ (name, length d.procs) ∷ []; begun = Some (fresh line params); lines = d.lines + 1 }

-- a procedure begins, where none is begun; `main` has no parameters
abbrev pub take_proc : Draft → (line : ℕ) (name : List ℕ) (params : List (List ℕ)) → Result Draft Refusal
take_proc d line name params =
    refuse_if (is_some d.begun) Syntax (
    refuse_if (bytes_eq name (codes "main") && nat_lt 0 (length params)) Arity (
    refuse_if (is_some (named_in d.names name) || has_twice params) Twice (
    refuse_if (is_full d || nat_lt 8 (length params)) TooMany (
    Ok (with_fresh d line name params)))))

-- whether data have a word for an address
abbrev pub has_address : List DataLine → ℕ → Bool
has_address init address = list_any (λ d. d.address == address) init

-- a draft with a word of data more
abbrev pub with_datum : Draft → DataLine → Draft
with_datum d datum = record d { init = d.init ++ datum ∷ []; lines = d.lines + 1 }

-- a word of data, where no procedure is begun
abbrev pub take_data : Draft → (line address value : ℕ) → Result Draft Refusal
take_data d line address value =
    refuse_if (is_some d.begun) Syntax (
    refuse_if (has_address d.init address) Twice (
    refuse_if (is_full d) TooMany (
    Ok (with_datum d (record { address = address; value = value; line = line })))))

-- a label names the next step of the begun procedure
abbrev pub take_label : Draft → ProcDraft → (name : List ℕ) → Result Draft Refusal
take_label d q name =
    refuse_if (is_some (named_in q.labels name)) Twice (
    refuse_if (is_full d) TooMany (
    Ok (labelled d (record q { labels = q.labels ++ (name, length q.steps) ∷ [] }))))

-- a step of the begun procedure
abbrev pub take_step : Units → Draft → ProcDraft → (line : ℕ) → Form → Result Draft Refusal
take_step u d q line form =
    let vars = vars_after q.vars form in
    refuse_if (lacks_op u form) UnknownOp (
    refuse_if (has_wrong_arity u form) Arity (
    refuse_if (is_full d || has_many_args form || nat_lt 4096 (length vars)) TooMany (
    or_refuse Syntax (step_of u vars form) >>= λ s.
    Ok (stepped d form (with_step q vars s line)))))

-- what stands in a procedure, where one is begun
abbrev pub take_inside : Units → Draft → ProcDraft → (line : ℕ) → Form → Result Draft Refusal
take_inside u d q line (LabelForm name) = take_label d q name
take_inside u d q line form = take_step u d q line form

-- a line that is not blank
abbrev pub take_form : Units → Draft → (line : ℕ) → Form → Result Draft Refusal
take_form u d line (ProcForm name params) = take_proc d line name params
take_form u d line (DataForm address value) = take_data d line address value
take_form u d line form = or_refuse Syntax d.begun >>= λ q. take_inside u d q line form

-- a line; a blank one says nothing
unfoldable pub take_line : Units → (line : ℕ) → Draft → Line → Result Draft Refusal
take_line u line d [] = Ok d
take_line u line d (key ∷ words) = or_refuse Syntax (form_of key words) >>= take_form u d line
