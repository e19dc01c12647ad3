-- The constants of a line are words.
use Rattle.std.proofs.Common.{◌≡◌, ℕ, ◌^◌, Bool, true, false, List, [], ◌∷◌, Option, Some, None, refl, sym, ◌∙◌, ap}
use Rattle.std.specs.Prelude.{◌&&◌, nat_lt, if◌then◌else◌, codes}
use Rattle.std.specs.Option.{option_map_or}
use Rattle.std.specs.List.{list_all}
use Rattle.std.proofs.lemmas.Bool.{and_from}
use Rattle.tta_text.proofs.Limits.{under, is_under}
use Rattle.tta_tac.specs.Cited.{Lexeme, Line, is_keyword, is_mark, value_of, constant_of, only_if}
use Rattle.tta_parse.specs.Steps.{◌>>?◌}
use Rattle.tta_parse.proofs.Steps.{then-some}
use Rattle.tta_parse.proofs.Constants.{constant_under, plain_under}
use Rattle.tta_tac.specs.Forms.{Operand, Named, Constant, free_name, operand_of, or_constant, operands_alone, names_alone, rel_of, Form, LabelForm, HaltForm, EndForm, proc_form, data_form, store_form, put_form, if_form, goto_form, when_form, call_form, return_form, alone_form, assign_form, named_form, form_of}
use Rattle.tta_tac.proofs.VariableLists.{fits}
use Rattle.tta_tac.proofs.StepsKept.{fits_form}

-- ---- operands

-- an operand and operands of a line
operand_fits : (w : Lexeme) (o : Operand) → operand_of w ≡ Some o → fits o ≡ true
operand_fits w o e = by (free_name w) (constant_of w) (constant_under w.kind w.text) e where
  by : (name : Option (List ℕ)) (constant : Option ℕ) → under (2 ^ 32) constant → or_constant name constant ≡ Some o → fits o ≡ true
  by (Some name) constant h e = let same : Named name ≡ o = cc in ap fits (sym same)
  by None None h e = absurd cc
  by None (Some n) h e = let same : Constant n ≡ o = cc in ap fits (sym same) ∙ h

operands_fit : (ws : Line) (os : List Operand) → operands_alone ws ≡ Some os → list_all fits os ≡ true
operands_fit [] os e = let same : [] ≡ os = cc in ap (list_all fits) (sym same)
operands_fit (w ∷ ws) os e =
    let first = then-some (operand_of w) _ os e in
    let rest = then-some (operands_alone ws) _ os first.2 in
    let same : first.0 ∷ rest.0 ≡ os = cc rest.2 in
    ap (list_all fits) (sym same)
    ∙ and_from (fits first.0) (list_all fits rest.0) (operand_fits w first.0 first.1) (operands_fit ws rest.0 rest.1)

-- ---- lines

-- whether the constants of a form are words, where there is one
abbrev fit : Option Form → Type 0
fit o = option_map_or fits_form o true ≡ true

-- what is read step by step
fit_bind : {A : Type 0} (o : Option A) (f : A → Option Form) → ((x : A) → o ≡ Some x → fit (f x)) → fit (o >>? f)
fit_bind None f h = refl
fit_bind (Some x) f h = h x refl

fit_only : (t : Bool) (o : Option Form) → fit o → fit (only_if t o)
fit_only true o h = h
fit_only false o h = refl

fit_if : (t : Bool) (a b : Option Form) → fit a → fit b → fit (if t then a else b)
fit_if true a b h k = h
fit_if false a b h k = k

-- each form in its turn
proc_fit : (line : Line) → fit (proc_form line)
unfolding proc_form
proc_fit [] = refl
proc_fit (n ∷ params) = fit_bind (free_name n) _ (λ name e. fit_bind (names_alone params) _ (λ all f. refl))

data_fit : (line : Line) → fit (data_form line)
unfolding data_form
data_fit [] = refl
data_fit (a ∷ []) = refl
data_fit (a ∷ v ∷ []) =
    fit_bind (value_of a) _ (λ x e. fit_bind (constant_of v) _ (λ y f.
    and_from (nat_lt x (2 ^ 32)) (nat_lt y (2 ^ 32)) (is_under (2 ^ 32) x (value_of a) (plain_under a.kind a.text) e)
    (is_under (2 ^ 32) y (constant_of v) (constant_under v.kind v.text) f)))
data_fit (a ∷ v ∷ w ∷ more) = refl

store_fit : (line : Line) → fit (store_form line)
unfolding store_form
store_fit [] = refl
store_fit (a ∷ []) = refl
store_fit (a ∷ v ∷ []) =
    fit_bind (operand_of a) _ (λ x e. fit_bind (operand_of v) _ (λ y f. and_from (fits x) (fits y) (operand_fits a x e) (operand_fits v y f)))
store_fit (a ∷ v ∷ w ∷ more) = refl

put_fit : (line : Line) → fit (put_form line)
unfolding put_form
put_fit [] = refl
put_fit (v ∷ []) = fit_bind (operand_of v) _ (λ x e. operand_fits v x e)
put_fit (v ∷ w ∷ more) = refl

if_fit : (line : Line) → fit (if_form line)
unfolding if_form
if_fit [] = refl
if_fit (r ∷ []) = refl
if_fit (r ∷ a ∷ []) = refl
if_fit (r ∷ a ∷ b ∷ []) = refl
if_fit (r ∷ a ∷ b ∷ goto ∷ []) = refl
if_fit (r ∷ a ∷ b ∷ goto ∷ n ∷ []) =
    fit_only (is_keyword (codes "goto") goto) _ (
    fit_bind (rel_of r) _ (λ rel e. fit_bind (operand_of a) _ (λ x f. fit_bind (operand_of b) _ (λ y g. fit_bind (free_name n) _ (λ label h.
    and_from (fits x) (fits y) (operand_fits a x f) (operand_fits b y g))))))
if_fit (r ∷ a ∷ b ∷ goto ∷ n ∷ w ∷ more) = refl

goto_fit : (line : Line) → fit (goto_form line)
unfolding goto_form
goto_fit [] = refl
goto_fit (n ∷ []) = fit_bind (free_name n) _ (λ label e. refl)
goto_fit (n ∷ w ∷ more) = refl

when_fit : (line : Line) → fit (when_form line)
unfolding when_form
when_fit [] = refl
when_fit (r ∷ []) = refl
when_fit (r ∷ a ∷ []) = refl
when_fit (r ∷ a ∷ b ∷ []) = refl
when_fit (r ∷ a ∷ b ∷ d ∷ []) = refl
when_fit (r ∷ a ∷ b ∷ d ∷ equals ∷ []) = refl
when_fit (r ∷ a ∷ b ∷ d ∷ equals ∷ s ∷ []) =
    fit_only (is_mark (codes "=") equals) _ (
    fit_bind (rel_of r) _ (λ rel e. fit_bind (operand_of a) _ (λ x f. fit_bind (operand_of b) _ (λ y g. fit_bind (free_name d) _ (λ target h.
    fit_bind (operand_of s) _ (λ z i.
    and_from (fits x && fits y) (fits z) (and_from (fits x) (fits y) (operand_fits a x f) (operand_fits b y g)) (operand_fits s z i)))))))
when_fit (r ∷ a ∷ b ∷ d ∷ equals ∷ s ∷ w ∷ more) = refl

call_fit : (d : Option (List ℕ)) (line : Line) → fit (call_form d line)
unfolding call_form
call_fit d [] = refl
call_fit d (n ∷ args) = fit_bind (free_name n) _ (λ callee e. fit_bind (operands_alone args) _ (λ all f. operands_fit args all f))

return_fit : (line : Line) → fit (return_form line)
unfolding return_form
return_fit [] = refl
return_fit (s ∷ []) = fit_bind (operand_of s) _ (λ x e. operand_fits s x e)
return_fit (s ∷ w ∷ more) = refl

alone_fit : (f : Form) → fits_form f ≡ true → (line : Line) → fit (alone_form f line)
alone_fit f h [] = h
alone_fit f h (w ∷ more) = refl

assign_fit : (d : List ℕ) (line : Line) → fit (assign_form d line)
unfolding assign_form
assign_fit d [] = refl
assign_fit d (s ∷ []) = fit_if (is_keyword (codes "in") s) _ _ refl (fit_bind (operand_of s) _ (λ x e. operand_fits s x e))
assign_fit d (w ∷ a ∷ []) =
    fit_if (is_keyword (codes "call") w) _ _ (call_fit (Some d) (a ∷ []))
    (fit_if (is_keyword (codes "load") w) _ _ (fit_bind (operand_of a) _ (λ x e. operand_fits a x e))
    (fit_bind (free_name w) _ (λ op e. fit_bind (operand_of a) _ (λ x f. and_from (fits x) true (operand_fits a x f) refl))))
assign_fit d (w ∷ a ∷ b ∷ []) =
    fit_if (is_keyword (codes "call") w) _ _ (call_fit (Some d) (a ∷ b ∷ []))
    (fit_if (is_keyword (codes "load") w) _ _ refl
    (fit_bind (free_name w) _ (λ op e. fit_bind (operand_of a) _ (λ x f. fit_bind (operand_of b) _ (λ y g.
    and_from (fits x) (fits y && true) (operand_fits a x f) (and_from (fits y) true (operand_fits b y g) refl))))))
assign_fit d (w ∷ a ∷ b ∷ c ∷ more) =
    fit_if (is_keyword (codes "call") w) _ _ (call_fit (Some d) (a ∷ b ∷ c ∷ more)) (fit_if (is_keyword (codes "load") w) _ _ refl refl)

named_fit : (n : Lexeme) (line : Line) → fit (named_form n line)
unfolding named_form
named_fit n [] = refl
named_fit n (mark ∷ rest) =
    fit_bind (free_name n) _ (λ name e.
    fit_if (is_mark (codes "=") mark) _ _ (assign_fit name rest) (fit_only (is_mark (codes ":") mark) _ (alone_fit (LabelForm name) refl rest)))

-- a line's constants are words
pub form_fit : (key : Lexeme) (words : Line) → option_map_or fits_form (form_of key words) true ≡ true
unfolding form_of
form_fit key words =
    fit_if (is_keyword (codes "proc") key) _ _ (proc_fit words)
    (fit_if (is_keyword (codes "data") key) _ _ (data_fit words)
    (fit_if (is_keyword (codes "store") key) _ _ (store_fit words)
    (fit_if (is_keyword (codes "out") key) _ _ (put_fit words)
    (fit_if (is_keyword (codes "if") key) _ _ (if_fit words)
    (fit_if (is_keyword (codes "goto") key) _ _ (goto_fit words)
    (fit_if (is_keyword (codes "when") key) _ _ (when_fit words)
    (fit_if (is_keyword (codes "call") key) _ _ (call_fit None words)
    (fit_if (is_keyword (codes "return") key) _ _ (return_fit words)
    (fit_if (is_keyword (codes "halt") key) _ _ (alone_fit HaltForm refl words)
    (fit_if (is_keyword (codes "end") key) _ _ (alone_fit EndForm refl words)
    (named_fit key words)))))))))))
