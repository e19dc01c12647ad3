-- The operations of a text's lines have names.
use Rattle.std.proofs.Common.{◌≡◌, ℕ, Bool, true, false, List, [], ◌∷◌, ◌++◌, ◌+◌, Option, Some, None, refl, sym, ◌∙◌, ap}
use Rattle.std.specs.Prelude.{not, if◌then◌else◌, codes, option_map, option_to_list}
use Rattle.std.specs.Option.{option_map_or}
use Rattle.std.specs.List.{AllByRecursion}
use Rattle.tta_roundtrip.specs.Cited.{is_name, Lexeme, Line, lines_of, is_keyword, is_mark, name_of, value_of, constant_of, only_if, is_reserved, free_name, operand_of, operands_alone, names_alone, rel_of, Form, ApplyForm, LabelForm, HaltForm, EndForm, proc_form, store_form, put_form, if_form, goto_form, when_form, call_form, return_form, alone_form, assign_form, named_form, form_of, said_from}
use Rattle.tta_parse.specs.Steps.{◌>>?◌}
use Rattle.tta_parse.proofs.Steps.{only_if-some}
use Rattle.tta_parse.proofs.TextNames.{NamesToken, LineNames, text_names}
use Rattle.tta_tac.specs.Forms.{data_form}

-- whether the operation of a line, if it names one, has a name and one operand or two
abbrev pub is_applied : Form → Bool
is_applied (ApplyForm d op (only ∷ [])) = is_name op
is_applied (ApplyForm d op (left ∷ right ∷ [])) = is_name op
is_applied (ApplyForm d op operands) = false
is_applied form = true

-- the same where there is a form
abbrev fit : Option Form → Type 0
fit o = option_map_or is_applied o true ≡ true

-- what is read step by step
fit_bind : {A : Type 0} (o : Option A) (f : A → Option Form) → ((x : A) → o ≡ Some x → fit (f x)) → fit (o >>? f)
fit_bind None f h = refl
fit_bind (Some x) f h = h x refl

fit_only : (t : Bool) (o : Option Form) → fit o → fit (only_if t o)
fit_only true o h = h
fit_only false o h = refl

fit_if : (t : Bool) (a b : Option Form) → fit a → fit b → fit (if t then a else b)
fit_if true a b h k = h
fit_if false a b h k = k

-- each form in its turn
proc_fit : (line : Line) → fit (proc_form line)
unfolding proc_form
proc_fit [] = refl
proc_fit (n ∷ params) = fit_bind (free_name n) _ (λ name e. fit_bind (names_alone params) _ (λ all f. refl))

data_fit : (line : Line) → fit (data_form line)
unfolding data_form
data_fit [] = refl
data_fit (a ∷ []) = refl
data_fit (a ∷ v ∷ []) =
    fit_bind (value_of a) _ (λ x e. fit_bind (constant_of v) _ (λ y f.
    refl))
data_fit (a ∷ v ∷ w ∷ more) = refl

store_fit : (line : Line) → fit (store_form line)
unfolding store_form
store_fit [] = refl
store_fit (a ∷ []) = refl
store_fit (a ∷ v ∷ []) =
    fit_bind (operand_of a) _ (λ x e. fit_bind (operand_of v) _ (λ y f. refl))
store_fit (a ∷ v ∷ w ∷ more) = refl

put_fit : (line : Line) → fit (put_form line)
unfolding put_form
put_fit [] = refl
put_fit (v ∷ []) = fit_bind (operand_of v) _ (λ x e. refl)
put_fit (v ∷ w ∷ more) = refl

if_fit : (line : Line) → fit (if_form line)
unfolding if_form
if_fit [] = refl
if_fit (r ∷ []) = refl
if_fit (r ∷ a ∷ []) = refl
if_fit (r ∷ a ∷ b ∷ []) = refl
if_fit (r ∷ a ∷ b ∷ goto ∷ []) = refl
if_fit (r ∷ a ∷ b ∷ goto ∷ n ∷ []) =
    fit_only (is_keyword (codes "goto") goto) _ (
    fit_bind (rel_of r) _ (λ rel e. fit_bind (operand_of a) _ (λ x f. fit_bind (operand_of b) _ (λ y g. fit_bind (free_name n) _ (λ label h.
    refl)))))
if_fit (r ∷ a ∷ b ∷ goto ∷ n ∷ w ∷ more) = refl

goto_fit : (line : Line) → fit (goto_form line)
unfolding goto_form
goto_fit [] = refl
goto_fit (n ∷ []) = fit_bind (free_name n) _ (λ label e. refl)
goto_fit (n ∷ w ∷ more) = refl

when_fit : (line : Line) → fit (when_form line)
unfolding when_form
when_fit [] = refl
when_fit (r ∷ []) = refl
when_fit (r ∷ a ∷ []) = refl
when_fit (r ∷ a ∷ b ∷ []) = refl
when_fit (r ∷ a ∷ b ∷ d ∷ []) = refl
when_fit (r ∷ a ∷ b ∷ d ∷ equals ∷ []) = refl
when_fit (r ∷ a ∷ b ∷ d ∷ equals ∷ s ∷ []) =
    fit_only (is_mark (codes "=") equals) _ (
    fit_bind (rel_of r) _ (λ rel e. fit_bind (operand_of a) _ (λ x f. fit_bind (operand_of b) _ (λ y g. fit_bind (free_name d) _ (λ target h.
    fit_bind (operand_of s) _ (λ z i.
    refl))))))
when_fit (r ∷ a ∷ b ∷ d ∷ equals ∷ s ∷ w ∷ more) = refl

call_fit : (d : Option (List ℕ)) (line : Line) → fit (call_form d line)
unfolding call_form
call_fit d [] = refl
call_fit d (n ∷ args) = fit_bind (free_name n) _ (λ callee e. fit_bind (operands_alone args) _ (λ all f. refl))

return_fit : (line : Line) → fit (return_form line)
unfolding return_form
return_fit [] = refl
return_fit (s ∷ []) = fit_bind (operand_of s) _ (λ x e. refl)
return_fit (s ∷ w ∷ more) = refl

alone_fit : (f : Form) → is_applied f ≡ true → (line : Line) → fit (alone_form f line)
alone_fit f h [] = h
alone_fit f h (w ∷ more) = refl

free_named : (w : Lexeme) (name : List ℕ) → NamesToken w → free_name w ≡ Some name → is_name name ≡ true
free_named w name names e = by (name_of w) refl e where
  by : (o : Option (List ℕ)) → name_of w ≡ o → (o >>? λ n. only_if (not (is_reserved n)) (Some n)) ≡ Some name → is_name name ≡ true
  by None is e = cc
  by (Some n) is e =
      let o = only_if-some (not (is_reserved n)) (Some n) name e in
      let same : n ≡ name = let p = o.1 in cc in
      ap is_name (sym same) ∙ names n is

assign_fit : (d : List ℕ) (line : Line) → LineNames line → fit (assign_form d line)
unfolding assign_form
assign_fit d [] names = refl
assign_fit d (s ∷ []) names = fit_if (is_keyword (codes "in") s) _ _ refl (fit_bind (operand_of s) _ (λ x e. refl))
assign_fit d (w ∷ a ∷ []) names =
    fit_if (is_keyword (codes "call") w) _ _ (call_fit (Some d) (a ∷ []))
    (fit_if (is_keyword (codes "load") w) _ _ (fit_bind (operand_of a) _ (λ x e. refl))
    (fit_bind (free_name w) _ (λ op e. fit_bind (operand_of a) _ (λ x f. free_named w op names.0 e))))
assign_fit d (w ∷ a ∷ b ∷ []) names =
    fit_if (is_keyword (codes "call") w) _ _ (call_fit (Some d) (a ∷ b ∷ []))
    (fit_if (is_keyword (codes "load") w) _ _ refl
    (fit_bind (free_name w) _ (λ op e. fit_bind (operand_of a) _ (λ x f. fit_bind (operand_of b) _ (λ y g.
    free_named w op names.0 e)))))
assign_fit d (w ∷ a ∷ b ∷ c ∷ more) names =
    fit_if (is_keyword (codes "call") w) _ _ (call_fit (Some d) (a ∷ b ∷ c ∷ more)) (fit_if (is_keyword (codes "load") w) _ _ refl refl)

named_fit : (n : Lexeme) (line : Line) → LineNames line → fit (named_form n line)
unfolding named_form
named_fit n [] names = refl
named_fit n (mark ∷ rest) names =
    fit_bind (free_name n) _ (λ name e.
    fit_if (is_mark (codes "=") mark) _ _ (assign_fit name rest names.1) (fit_only (is_mark (codes ":") mark) _ (alone_fit (LabelForm name) refl rest)))

-- a line names its operation by a name
pub form_applied : (key : Lexeme) (words : Line) → LineNames words → option_map_or is_applied (form_of key words) true ≡ true
unfolding form_of
form_applied key words names =
    fit_if (is_keyword (codes "proc") key) _ _ (proc_fit words)
    (fit_if (is_keyword (codes "data") key) _ _ (data_fit words)
    (fit_if (is_keyword (codes "store") key) _ _ (store_fit words)
    (fit_if (is_keyword (codes "out") key) _ _ (put_fit words)
    (fit_if (is_keyword (codes "if") key) _ _ (if_fit words)
    (fit_if (is_keyword (codes "goto") key) _ _ (goto_fit words)
    (fit_if (is_keyword (codes "when") key) _ _ (when_fit words)
    (fit_if (is_keyword (codes "call") key) _ _ (call_fit None words)
    (fit_if (is_keyword (codes "return") key) _ _ (return_fit words)
    (fit_if (is_keyword (codes "halt") key) _ _ (alone_fit HaltForm refl words)
    (fit_if (is_keyword (codes "end") key) _ _ (alone_fit EndForm refl words)
    (named_fit key words names)))))))))))

-- all lines of a text do
said_applied : (line : ℕ) (lines : List Line) → AllByRecursion LineNames lines → AllByRecursion (λ x. is_applied x.1 ≡ true) (said_from line lines)
said_applied line [] names = tt
said_applied line ([] ∷ lines) names = said_applied (line + 1) lines names.1
said_applied line ((key ∷ words) ∷ lines) names = by (form_of key words) (form_applied key words names.0.1) (said_applied (line + 1) lines names.1) where
  by : (o : Option Form) → option_map_or is_applied o true ≡ true → AllByRecursion (λ x. is_applied x.1 ≡ true) (said_from (line + 1) lines)
      → AllByRecursion (λ x. is_applied x.1 ≡ true) (option_to_list (option_map (λ f. (line, f)) o) ++ said_from (line + 1) lines)
  by None here rest = rest
  by (Some f) here rest = (here, rest)

pub text_applied : (text : List ℕ) → AllByRecursion (λ x. is_applied x.1 ≡ true) (said_from 1 (lines_of text))
text_applied text = said_applied 1 (lines_of text) (text_names text)
