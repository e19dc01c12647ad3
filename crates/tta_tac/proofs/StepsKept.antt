-- The step of a line keeps to the variables of its procedure.
use Rattle.std.proofs.Common.{◌≡◌, ℕ, ◌≤◌, ◌^◌, Bool, true, false, List, [], ◌∷◌, ◌++◌, length, Option, Some, None, refl, ◌∙◌, ap, arith}
use Rattle.std.specs.Prelude.{◌&&◌, nat_lt, if◌then◌else◌}
use Rattle.std.specs.Option.{option_map_or}
use Rattle.std.specs.List.{list_all, list_any}
use Rattle.std.proofs.lemmas.Bool.{and_from, or_parts, lt-ltb, ltb-true}
use Rattle.tta_list.proofs.Tests.{and_left, and_right, and_map}
use Rattle.tta_tac.specs.Cited.{Declared, Units, Src, Var, Step, is_src, is_call}
use Rattle.tta_program.specs.declared.operand.Src.TheVariants.{Word}
use Rattle.tta_program.specs.declared.step.Step.TheVariants as step
use Rattle.tta_program.specs.Rules.{is_step}
use Rattle.tta_tac.specs.Text.{with_main}
use Rattle.tta_tac.specs.Forms.{Operand, Form, ProcForm, DataForm, LabelForm, CopyForm, ApplyForm, LoadForm, StoreForm, PutForm, TakeForm, IfForm, GotoForm, WhenForm, CallForm, ReturnForm, HaltForm, EndForm}
use Rattle.tta_tac.specs.Draft.{Unlinked, Plain, IfTo, GotoTo, CallTo}
use Rattle.tta_tac.specs.FirstPass.{with_var, var_number, with_operand, with_operands, src_of, srcs_of, vars_after, step_of, is_end}
use Rattle.tta_tac.specs.Kept.{bare, is_unlinked, is_end_step, closes_once}
use Rattle.tta_tac.proofs.LinkedSteps.{is_nil, closes_cons}
use Rattle.tta_tac.proofs.VariableLists.{IsNumbered, Grows, grows_not, grows_on, grows_var, has_var, var_kept, fits, grows_operand, has_operand, has_more, src_kept, grows_operands, has_operands, srcs_kept}

-- whether the constants of a line are words
abbrev pub fits_form : Form → Bool
fits_form (CopyForm d s) = fits s
fits_form (ApplyForm d op operands) = list_all fits operands
fits_form (LoadForm d a) = fits a
fits_form (StoreForm a v) = fits a && fits v
fits_form (PutForm v) = fits v
fits_form (DataForm address value) = nat_lt address (2 ^ 32) && nat_lt value (2 ^ 32)
fits_form (IfForm rel a b label) = fits a && fits b
fits_form (WhenForm rel a b d s) = fits a && fits b && fits s
fits_form (CallForm d callee args) = list_all fits args
fits_form (ReturnForm (Some s)) = fits s
fits_form form = true

pub grows_form : (vars : Declared ℕ) (f : Form) → Grows vars (vars_after vars f)
grows_form vars (CopyForm d s) = grows_on (grows_var vars d) (grows_operand (with_var vars d) s)
grows_form vars (ApplyForm d op operands) = grows_on (grows_var vars d) (grows_operands (with_var vars d) operands)
grows_form vars (LoadForm d a) = grows_on (grows_var vars d) (grows_operand (with_var vars d) a)
grows_form vars (StoreForm a v) = grows_on (grows_operand vars a) (grows_operand (with_operand vars a) v)
grows_form vars (PutForm v) = grows_operand vars v
grows_form vars (TakeForm d) = grows_var vars d
grows_form vars (IfForm rel a b label) = grows_on (grows_operand vars a) (grows_operand (with_operand vars a) b)
grows_form vars (GotoForm label) = grows_not vars
grows_form vars (WhenForm rel a b d s) =
    grows_on (grows_operand vars a) (
    grows_on (grows_operand (with_operand vars a) b) (
    grows_on (grows_var (with_operand (with_operand vars a) b) d) (
    grows_operand (with_var (with_operand (with_operand vars a) b) d) s)))
grows_form vars (CallForm (Some d) callee args) = grows_on (grows_var vars d) (grows_operands (with_var vars d) args)
grows_form vars (CallForm None callee args) = grows_operands vars args
grows_form vars (ReturnForm (Some s)) = grows_operand vars s
grows_form vars (ReturnForm None) = grows_not vars
grows_form vars (ProcForm name params) = grows_not vars
grows_form vars (DataForm address value) = grows_not vars
grows_form vars (LabelForm name) = grows_not vars
grows_form vars HaltForm = grows_not vars
grows_form vars EndForm = grows_not vars

-- a variable and an operand after it
one_kept : (vars : Declared ℕ) (d : List ℕ) (o : Operand) → IsNumbered vars → fits o ≡ true
    → let all = with_operand (with_var vars d) o in
    (nat_lt (var_number all d) (length all) && is_src (length all) (src_of all o)) ≡ true
one_kept vars d o h f =
    let g = grows_operand (with_var vars d) o in
    let all = g.numbered ((grows_var vars d).numbered h) in
    and_from _ _ (var_kept (with_operand (with_var vars d) o) d all (g.stays d (has_var vars d)))
    (src_kept (with_operand (with_var vars d) o) o all (has_operand (with_var vars d) o f))

-- two operands
two_kept : (vars : Declared ℕ) (a b : Operand) → IsNumbered vars → (fits a && fits b) ≡ true
    → let all = with_operand (with_operand vars a) b in
    (is_src (length all) (src_of all a) && is_src (length all) (src_of all b)) ≡ true
two_kept vars a b h f =
    let g = grows_operand (with_operand vars a) b in
    let all = g.numbered ((grows_operand vars a).numbered h) in
    and_map (λ t. src_kept (with_operand (with_operand vars a) b) a all (has_more g a (has_operand vars a t)))
    (λ t. src_kept (with_operand (with_operand vars a) b) b all (has_operand (with_operand vars a) b t))
    f

-- a destination and operands after it
some_kept : (vars : Declared ℕ) (d : List ℕ) (os : List Operand) → IsNumbered vars → list_all fits os ≡ true
    → let all = with_operands (with_var vars d) os in
    (nat_lt (var_number all d) (length all) ≡ true) × (list_all (is_src (length all)) (srcs_of all os) ≡ true)
some_kept vars d os h f =
    let g = grows_operands (with_var vars d) os in
    let all = g.numbered ((grows_var vars d).numbered h) in (
      var_kept (with_operands (with_var vars d) os) d all (g.stays d (has_var vars d)),
      srcs_kept (with_operands (with_var vars d) os) os all (has_operands (with_var vars d) os f),
    )

-- a step has only variables that there are
pub step_fits : (u : Units) (vars : Declared ℕ) (f : Form) → IsNumbered vars → fits_form f ≡ true
    → option_map_or (is_unlinked (length (vars_after vars f))) (step_of u (vars_after vars f) f) true ≡ true
step_fits u vars (CopyForm d s) h f = one_kept vars d s h f
step_fits u vars (ApplyForm d op []) h f = refl
step_fits u vars (ApplyForm d op (only ∷ [])) h f =
    let k = some_kept vars d (only ∷ []) h f in
    and_from _ _ (and_from _ _ k.0 refl) (and_left _ _ k.1)
step_fits u vars (ApplyForm d op (a ∷ b ∷ [])) h f =
    let k = some_kept vars d (a ∷ b ∷ []) h f in
    and_from _ _ (and_from _ _ k.0 (and_left _ _ k.1)) (and_left _ _ (and_right (is_src (length (vars_after vars (ApplyForm d op (a ∷ b ∷ [])))) (src_of (vars_after vars (ApplyForm d op (a ∷ b ∷ []))) a)) _ k.1))
step_fits u vars (ApplyForm d op (a ∷ b ∷ c ∷ more)) h f = refl
step_fits u vars (LoadForm d a) h f = one_kept vars d a h f
step_fits u vars (StoreForm a v) h f = two_kept vars a v h f
step_fits u vars (PutForm v) h f = src_kept (with_operand vars v) v ((grows_operand vars v).numbered h) (has_operand vars v f)
step_fits u vars (TakeForm d) h f = var_kept (with_var vars d) d ((grows_var vars d).numbered h) (has_var vars d)
step_fits u vars (IfForm rel a b label) h f = two_kept vars a b h f
step_fits u vars (GotoForm label) h f = refl
step_fits u vars (WhenForm rel a b d s) h f =
    let v2 = with_operand (with_operand vars a) b in
    let g2 = grows_on (grows_operand vars a) (grows_operand (with_operand vars a) b) in
    let g3 = grows_on (grows_var v2 d) (grows_operand (with_var v2 d) s) in
    let all = g3.numbered (g2.numbered h) in
    let v4 = with_operand (with_var v2 d) s in
    let fits_ab = and_left (fits a && fits b) (fits s) f in
    let has_a = has_more g3 a (has_more (grows_operand (with_operand vars a) b) a (has_operand vars a (and_left (fits a) (fits b) fits_ab))) in
    let has_b = has_more g3 b (has_operand (with_operand vars a) b (and_right (fits a) (fits b) fits_ab)) in
    let rest = one_kept v2 d s (g2.numbered h) (and_right (fits a && fits b) (fits s) f) in
    and_from _ _ (and_from _ _ (and_from _ _ (src_kept v4 a all has_a) (src_kept v4 b all has_b)) (and_left (nat_lt (var_number v4 d) (length v4)) (is_src (length v4) (src_of v4 s)) rest))
    (and_right (nat_lt (var_number v4 d) (length v4)) (is_src (length v4) (src_of v4 s)) rest)
step_fits u vars (CallForm (Some d) callee args) h f = let k = some_kept vars d args h f in and_from _ _ k.0 k.1
step_fits u vars (CallForm None callee args) h f =
    srcs_kept (with_operands vars args) args ((grows_operands vars args).numbered h) (has_operands vars args f)
step_fits u vars (ReturnForm (Some s)) h f = src_kept (with_operand vars s) s ((grows_operand vars s).numbered h) (has_operand vars s f)
step_fits u vars (ReturnForm None) h f = refl
step_fits u vars HaltForm h f = refl
step_fits u vars EndForm h f = refl
step_fits u vars (ProcForm name params) h f = refl
step_fits u vars (DataForm address value) h f = refl
step_fits u vars (LabelForm name) h f = refl

-- only `end` makes an End
pub step_ends : (u : Units) (vars : Declared ℕ) (f : Form) → option_map_or is_end_step (step_of u vars f) false ≡ is_end f
step_ends u vars (ApplyForm d op []) = refl
step_ends u vars (ApplyForm d op (only ∷ [])) = refl
step_ends u vars (ApplyForm d op (a ∷ b ∷ [])) = refl
step_ends u vars (ApplyForm d op (a ∷ b ∷ c ∷ more)) = refl
step_ends u vars (CallForm (Some d) callee args) = refl
step_ends u vars (CallForm None callee args) = refl
step_ends u vars (ReturnForm (Some s)) = refl
step_ends u vars (ReturnForm None) = refl
step_ends u vars f = refl

-- ---- more variables

module _ (m n : ℕ) (more : m ≤ n) where
  lt_more : (x : ℕ) → nat_lt x m ≡ true → nat_lt x n ≡ true
  lt_more x h = let b = ltb-true x m h in lt-ltb x n (omega arith)

  src_more : (s : Src) → is_src m s ≡ true → is_src n s ≡ true
  src_more (Var x) h = lt_more x h
  src_more (Word w) h = h

  srcs_more : (ss : List Src) → list_all (is_src m) ss ≡ true → list_all (is_src n) ss ≡ true
  srcs_more [] h = refl
  srcs_more (s ∷ ss) h = and_map (src_more s) (srcs_more ss) h

  dest_more : (d : Option ℕ) → option_map_or (λ x. nat_lt x m) d true ≡ true → option_map_or (λ x. nat_lt x n) d true ≡ true
  dest_more None h = refl
  dest_more (Some d) h = lt_more d h

  plain_more : (s : Step) → is_step (with_main [] 0) (bare m) s ≡ true → is_step (with_main [] 0) (bare n) s ≡ true
  plain_more (step.Copy d s) h = and_map (lt_more d) (src_more s) h
  plain_more (step.Apply d op a b) h = and_map (and_map (lt_more d) (src_more a)) (src_more b) h
  plain_more (step.Load d a) h = and_map (lt_more d) (src_more a) h
  plain_more (step.Store a v) h = and_map (src_more a) (src_more v) h
  plain_more (step.Put v) h = src_more v h
  plain_more (step.Take d) h = lt_more d h
  plain_more (step.If rel a b to) h = and_map (and_map (src_more a) (src_more b)) (λ (t : nat_lt to 0 ≡ true). t) h
  plain_more (step.Goto to) h = h
  plain_more (step.When rel a b d s) h = and_map (and_map (and_map (src_more a) (src_more b)) (lt_more d)) (src_more s) h
  plain_more (step.Invoke d callee args) h =
      and_map (and_map (dest_more d) (srcs_more args)) (λ (t : is_call (with_main [] 0) callee args ≡ true). t) h
  plain_more (step.Return None) h = refl
  plain_more (step.Return (Some s)) h = src_more s h
  plain_more step.Halt h = refl
  plain_more step.End h = refl

  pub unlinked_more : (s : Unlinked) → is_unlinked m s ≡ true → is_unlinked n s ≡ true
  unlinked_more (Plain s) h = plain_more s h
  unlinked_more (IfTo rel a b label) h = and_map (src_more a) (src_more b) h
  unlinked_more (GotoTo label) h = refl
  unlinked_more (CallTo d callee args) h = and_map (dest_more d) (srcs_more args) h

  pub all_more : (ss : List Unlinked) → list_all (is_unlinked m) ss ≡ true → list_all (is_unlinked n) ss ≡ true
  all_more [] h = refl
  all_more (s ∷ ss) h = and_map (unlinked_more s) (all_more ss) h

-- an End after steps that are none
pub closes_last : (ss : List Unlinked) (s : Unlinked) → list_any is_end_step ss ≡ false → is_end_step s ≡ true → closes_once (ss ++ s ∷ []) ≡ true
closes_last [] s none last = closes_cons s [] ∙ ap (λ t. if t then true else false) last
closes_last (x ∷ xs) s none last =
    let parts = or_parts (is_end_step x) (list_any is_end_step xs) none in
    closes_cons x (xs ++ s ∷ [])
    ∙ ap (λ t. if t then is_nil (xs ++ s ∷ []) else closes_once (xs ++ s ∷ [])) parts.0
    ∙ closes_last xs s parts.1 last
