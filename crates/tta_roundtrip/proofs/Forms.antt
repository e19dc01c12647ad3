-- The forms of printed lines.
use Rattle.std.proofs.Common.{◌≡◌, ℕ, zero, suc, ◌+◌, ◌<◌, ◌^◌, ◌==◌, Bool, true, false, List, [], ◌∷◌, ◌++◌, length, refl, ap, ◌∙◌, arith}
use Rattle.std.specs.Prelude.{Some, None, codes, decimal, not, if◌then◌else◌, slice_get, nat_eq}
use Rattle.std.specs.List.{list_all, AllByRecursion}
use Rattle.std.specs.Str.{bytes_eq}
use Rattle.std.specs.Char.{is_ascii_digit}
use Rattle.std.proofs.lemmas.Fmt.{decimal_is_IsNumeral}
use Rattle.std.proofs.lemmas.Bool.Decides.{nat_tests}
use Rattle.tta_list.proofs.Tests.{and_left}
use Rattle.tta_roundtrip.specs.Cited.{only_if, Mark, Line, constant_of, is_reserved, reserved_words, Src, Var, Word, Rel, Eq, Ne, Lt, Ge, Ltu, Geu, Operand, Named, Constant, Form, ProcForm, DataForm, LabelForm, CopyForm, ApplyForm, LoadForm, StoreForm, PutForm, TakeForm, IfForm, GotoForm, WhenForm, CallForm, ReturnForm, HaltForm, EndForm, free_name, or_constant, constant_operand, operand_of, operands_alone, names_alone, rel_of, form_of, proc_form, store_form, put_form, if_form, goto_form, when_form, call_form, return_form, assign_form, named_form}
use Rattle.tta_parse.specs.Steps.{◌>>?◌}
use Rattle.tta_tac.specs.Forms.{data_form}
use Rattle.tta_pretty.specs.Printed.{word, number, equals, var_name, label_name, proc_name, src_word, src_words, rel_name, var_names, words}
use Rattle.tta_list.proofs.Lists.{any_there as any_from_one}
use Rattle.tta_text.proofs.ShownWords.{digits_of_values, number_of-decimal}

-- ---- words

-- no variable's name is reserved, and no label's
pub var_free : (k : ℕ) → free_name (word (var_name k)) ≡ Some (var_name k)
unfolding is_reserved
var_free k = refl

pub label_free : (k : ℕ) → free_name (word (label_name k)) ≡ Some (label_name k)
unfolding is_reserved
label_free k = refl

pub main_free : free_name (word (codes "main")) ≡ Some (codes "main")
unfolding is_reserved
main_free = refl

-- the first byte of a number's digits
pub record Digits (k : ℕ) : Type 0 where
  pub first : ℕ
  pub others : List ℕ
  pub are : decimal k ≡ first ∷ others
  pub digit : is_ascii_digit first ≡ true

digits_are : (text : List ℕ) → 0 < length text → list_all is_ascii_digit text ≡ true → (c : ℕ) × (cs : List ℕ) × (text ≡ c ∷ cs) × (is_ascii_digit c ≡ true)
digits_are [] some all = absurd (omega arith)
digits_are (c ∷ cs) some all = (c, cs, refl, and_left (is_ascii_digit c) (list_all is_ascii_digit cs) all)

pub digits : (k : ℕ) → k < 2 ^ 32 → Digits k
digits k small =
    let numeral = decimal_is_IsNumeral k (omega arith) in
    let d = digits_are (decimal k) numeral.0.0 (digits_of_values (decimal k) numeral.0.1) in
    record { first = d.0; others = d.1; are = d.2; digit = d.3 }

-- nor is a procedure's
pub p_free : (c : ℕ) (cs : List ℕ) → is_ascii_digit c ≡ true → is_reserved (112 ∷ c ∷ cs) ≡ false
unfolding is_reserved
p_free c cs digit = let other : nat_eq c 114 ≡ false = grind (arith, nat_tests) in rw other refl

pub numbered_free : (k : ℕ) → k < 2 ^ 32 → is_reserved (codes "p" ++ decimal k) ≡ false
numbered_free k small = let d = digits k small in ap (λ text. is_reserved (112 ∷ text)) d.are ∙ p_free d.first d.others d.digit

free_by : (name : List ℕ) → is_reserved name ≡ false → free_name (word name) ≡ Some name
free_by name free = ap (λ b. only_if (not b) (Some name)) free

pub proc_free : (main k : ℕ) → k < 2 ^ 32 → free_name (word (proc_name main k)) ≡ Some (proc_name main k)
proc_free main k small = by (k == main) where
  by : (b : Bool) → free_name (word (if b then codes "main" else codes "p" ++ decimal k)) ≡ Some (if b then codes "main" else codes "p" ++ decimal k)
  by true = main_free
  by false = free_by (codes "p" ++ decimal k) (numbered_free k small)

-- ---- operands

-- an operand as a line says it
abbrev pub said : Src → Operand
said (Var x) = Named (var_name x)
said (Word w) = Constant w

abbrev pub all_said : List Src → List Operand
all_said [] = []
all_said (s ∷ ss) = said s ∷ all_said ss

-- its constant is a word
abbrev pub IsShort : Src → Type 0
IsShort (Var x) = Unit {0}
IsShort (Word w) = w < 2 ^ 32

pub operand_read : (s : Src) → IsShort s → operand_of (src_word s) ≡ Some (said s)
operand_read (Var x) short = ap (λ o. or_constant o (constant_of (word (var_name x)))) (var_free x)
operand_read (Word w) short = ap constant_operand (number_of-decimal w short)

pub operands_read : (ss : List Src) → AllByRecursion IsShort ss → operands_alone (src_words ss) ≡ Some (all_said ss)
operands_read [] short = refl
operands_read (s ∷ ss) short = rw (operand_read s short.0, operands_read ss short.1) refl

pub names_read : (k count : ℕ) → names_alone (words (var_names k count)) ≡ Some (var_names k count)
names_read k zero = refl
names_read k (suc count) = rw (var_free k, names_read (k + 1) count) refl

pub rel_read : (rel : Rel) → rel_of (word (rel_name rel)) ≡ Some rel
rel_read Eq = refl
rel_read Ne = refl
rel_read Lt = refl
rel_read Ge = refl
rel_read Ltu = refl
rel_read Geu = refl

-- ---- lines

-- a line has this form
abbrev pub Reads : Line → Form → Type 0
Reads [] form = ⊥
Reads (key ∷ words) form = form_of key words ≡ Some form

pub proc_read : (main k count : ℕ) → k < 2 ^ 32 → form_of (word (codes "proc")) (word (proc_name main k) ∷ words (var_names 0 count)) ≡ Some (ProcForm (proc_name main k) (var_names 0 count))
unfolding form_of proc_form
proc_read main k count small = rw (proc_free main k small, names_read 0 count) refl

pub data_read : (address value : ℕ) → address < 2 ^ 32 → value < 2 ^ 32 → form_of (word (codes "data")) (number address ∷ number value ∷ []) ≡ Some (DataForm address value)
unfolding form_of data_form
data_read address value a v = rw (number_of-decimal address a, number_of-decimal value v) refl

pub label_read : (k : ℕ) → form_of (word (label_name k)) (record { kind = Mark; text = codes ":" } ∷ []) ≡ Some (LabelForm (label_name k))
unfolding form_of named_form is_reserved
label_read k = refl

pub store_read : (a v : Src) → IsShort a → IsShort v → form_of (word (codes "store")) (src_word a ∷ src_word v ∷ []) ≡ Some (StoreForm (said a) (said v))
unfolding form_of store_form
store_read a v sa sv = rw (operand_read a sa, operand_read v sv) refl

pub put_read : (v : Src) → IsShort v → form_of (word (codes "out")) (src_word v ∷ []) ≡ Some (PutForm (said v))
unfolding form_of put_form
put_read v sv = rw (operand_read v sv) refl

pub if_read : (rel : Rel) (a b : Src) (to : ℕ) → IsShort a → IsShort b
    → form_of (word (codes "if")) (word (rel_name rel) ∷ src_word a ∷ src_word b ∷ word (codes "goto") ∷ word (label_name to) ∷ []) ≡ Some (IfForm rel (said a) (said b) (label_name to))
unfolding form_of if_form
if_read rel a b to sa sb = rw (rel_read rel, operand_read a sa, operand_read b sb, label_free to) refl

pub goto_read : (to : ℕ) → form_of (word (codes "goto")) (word (label_name to) ∷ []) ≡ Some (GotoForm (label_name to))
unfolding form_of goto_form
goto_read to = rw (label_free to) refl

pub when_read : (rel : Rel) (a b : Src) (d : ℕ) (s : Src) → IsShort a → IsShort b → IsShort s
    → form_of (word (codes "when")) (word (rel_name rel) ∷ src_word a ∷ src_word b ∷ word (var_name d) ∷ equals ∷ src_word s ∷ [])
    ≡ Some (WhenForm rel (said a) (said b) (var_name d) (said s))
unfolding form_of when_form
when_read rel a b d s sa sb ss = rw (rel_read rel, operand_read a sa, operand_read b sb, var_free d, operand_read s ss) refl

pub call_read : (main callee : ℕ) (args : List Src) → callee < 2 ^ 32 → AllByRecursion IsShort args
    → form_of (word (codes "call")) (word (proc_name main callee) ∷ src_words args) ≡ Some (CallForm None (proc_name main callee) (all_said args))
unfolding form_of call_form
call_read main callee args small short = rw (proc_free main callee small, operands_read args short) refl

pub return_read : (s : Src) → IsShort s → form_of (word (codes "return")) (src_word s ∷ []) ≡ Some (ReturnForm (Some (said s)))
unfolding form_of return_form
return_read s short = rw (operand_read s short) refl

pub return_none_read : form_of (word (codes "return")) [] ≡ Some (ReturnForm None)
unfolding form_of return_form
return_none_read = refl

pub halt_read : form_of (word (codes "halt")) [] ≡ Some HaltForm
unfolding form_of
halt_read = refl

pub end_read : form_of (word (codes "end")) [] ≡ Some EndForm
unfolding form_of
end_read = refl

-- an assignment, by what stands after its mark
pub assign_read : (d : ℕ) (rest : Line) (form : Form) → assign_form (var_name d) rest ≡ Some form → form_of (word (var_name d)) (equals ∷ rest) ≡ Some form
unfolding form_of named_form is_reserved
assign_read d rest form e = e

pub copy_read : (d : ℕ) (s : Src) → IsShort s → assign_form (var_name d) (src_word s ∷ []) ≡ Some (CopyForm (var_name d) (said s))
unfolding assign_form
copy_read d (Var x) short = ap (λ o. o >>? λ value. Some (CopyForm (var_name d) value)) (operand_read (Var x) short)
copy_read d (Word w) short = ap (λ o. o >>? λ value. Some (CopyForm (var_name d) value)) (operand_read (Word w) short)

pub take_read : (d : ℕ) → assign_form (var_name d) (word (codes "in") ∷ []) ≡ Some (TakeForm (var_name d))
unfolding assign_form
take_read d = refl

pub load_read : (d : ℕ) (a : Src) → IsShort a → assign_form (var_name d) (word (codes "load") ∷ src_word a ∷ []) ≡ Some (LoadForm (var_name d) (said a))
unfolding assign_form
load_read d a short = ap (λ o. o >>? λ value. Some (LoadForm (var_name d) value)) (operand_read a short)

pub called_read : (d main callee : ℕ) (args : List Src) → callee < 2 ^ 32 → AllByRecursion IsShort args
    → assign_form (var_name d) (word (codes "call") ∷ word (proc_name main callee) ∷ src_words args) ≡ Some (CallForm (Some (var_name d)) (proc_name main callee) (all_said args))
unfolding assign_form call_form
called_read d main callee args small short = rw (proc_free main callee small, operands_read args short) refl

-- an operation's name is no keyword
not_reserved : (name : List ℕ) (k : ℕ) (other : List ℕ) → is_reserved name ≡ false → slice_get reserved_words k ≡ Some other → bytes_eq name other ≡ false
unfolding is_reserved
not_reserved name k other free there = by (bytes_eq name other) refl where
  by : (b : Bool) → bytes_eq name other ≡ b → b ≡ false
  by true e = absurd (let any = any_from_one (bytes_eq name) reserved_words k other there e in cc)
  by false e = refl

pub one_read : (d : ℕ) (op : List ℕ) (b : Src) → is_reserved op ≡ false → IsShort b
    → assign_form (var_name d) (word op ∷ src_word b ∷ []) ≡ Some (ApplyForm (var_name d) op (said b ∷ []))
unfolding assign_form
one_read d op b free short =
    let call = not_reserved op 15 (codes "call") free refl in
    let load = not_reserved op 11 (codes "load") free refl in
    rw (call, load, free_by op free, operand_read b short) refl

pub two_read : (d : ℕ) (op : List ℕ) (a b : Src) → is_reserved op ≡ false → IsShort a → IsShort b
    → assign_form (var_name d) (word op ∷ src_word a ∷ src_word b ∷ []) ≡ Some (ApplyForm (var_name d) op (said a ∷ said b ∷ []))
unfolding assign_form
two_read d op a b free sa sb =
    let call = not_reserved op 15 (codes "call") free refl in
    let load = not_reserved op 11 (codes "load") free refl in
    rw (call, load, free_by op free, operand_read a sa, operand_read b sb) refl
