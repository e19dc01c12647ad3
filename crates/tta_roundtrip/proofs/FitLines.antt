-- The lines of a printed program keep the rules of lines.
use Rattle.std.proofs.Common.{◌≡◌, ◌≤◌, ℕ, suc, ◌+◌, ◌==◌, Bool, true, false, List, [], ◌∷◌, ◌++◌, length, get_or, refl, ap, ◌∙◌, arith, inl, inr}
use Rattle.std.specs.Prelude.{Option, Some, None, not, nat_lt, ◌&&◌, if◌then◌else◌, is_none, slice_get}
use Rattle.std.specs.Option.{option_map_or}
use Rattle.std.specs.List.{list_all, AllByRecursion}
use Rattle.std.proofs.lemmas.Bool.{eqb-true, eq-eqb, and_from, ltb-true}
use Rattle.std.proofs.lemmas.List.Folds.{list_all-append}
use Rattle.std.proofs.lemmas.Option.{slice_get_within, get_or_from_slice_get}
use Rattle.tta_list.proofs.Tests.{and_left, and_right}
use Rattle.tta_list.proofs.Lists.{all_one}
use Rattle.tta_roundtrip.specs.Cited.{Units, named, OpId, Src, Rel, Step, Copy, Apply, Load, Store, Put, Take, If, Goto, When, Invoke, Return, Halt, End, Proc, DataLine, Program, IsProc, is_call, is_src, is_step, is_over, has_test, test_name, Operand, Form, LabelForm, ApplyForm, CallForm, lacks_op, has_wrong_arity, has_many_args, arity_of, asked_op, is_fit, is_target}
use Rattle.tta_pretty.specs.Printed.{label_name, proc_name, op_name, var_name}
use Rattle.tta_roundtrip.proofs.Forms.{said, all_said}
use Rattle.tta_roundtrip.proofs.Said.{step_said, steps_form, procs_form, data_form, numbered_from, numbered_append}
use Rattle.tta_roundtrip.proofs.Operations.{IsOperation, operation_of}
use Rattle.tta_roundtrip.proofs.Unlinking.{op_named}

said_count : (ss : List Src) → length (all_said ss) ≡ length ss
said_count [] = refl
said_count (s ∷ ss) = ap suc (said_count ss)

-- what is known of the operation that decides a condition
record IsTest (u : Units) (rel : Rel) : Type 0 where
  op : ℕ
  there : named u (test_name rel) ≡ Some op
  arity : slice_get u.arities op ≡ Some 2

test_of : (u : Units) (rel : Rel) → has_test u rel ≡ true → IsTest u rel
test_of u rel e = by (named u (test_name rel)) refl e where
  by : (o : Option ℕ) → named u (test_name rel) ≡ o → option_map_or (λ op. option_map_or (λ n. n == 2) (slice_get u.arities op) false) o false ≡ true → IsTest u rel
  by None there e = absurd cc
  by (Some op) there e = two (slice_get u.arities op) refl e where
    two : (a : Option ℕ) → slice_get u.arities op ≡ a → option_map_or (λ n. n == 2) a false ≡ true → IsTest u rel
    two None at e = absurd cc
    two (Some n) at e = record { op = op; there = there; arity = at ∙ ap Some (eqb-true n 2 e) }

-- a line that asks for an operation that is there, with as many words as it takes
asked_fits : (u : Units) (line : ℕ) (f : Form) (name : List ℕ) (count op : ℕ) → asked_op f ≡ Some (name, count) → named u name ≡ Some op → get_or u.arities op 0 ≡ count → has_many_args f ≡ false → is_fit u (line, f) ≡ true
asked_fits u line f name count op asked there arity few =
    let right : (arity_of u op == count) ≡ true = eq-eqb (get_or u.arities op 0) count arity in
    let lacks : lacks_op u f ≡ false = ap (λ o. option_map_or (λ a. is_none (named u a.0)) o false) asked ∙ ap is_none there in
    let wrong : has_wrong_arity u f ≡ false =
    ap (λ o. option_map_or (λ a. option_map_or (λ x. not (arity_of u x == a.1)) (named u a.0) false) o false) asked
    ∙ ap (λ o. option_map_or (λ x. not (arity_of u x == count)) o false) there ∙ ap not right in
    rw (lacks, wrong, few) refl

test_fits : (u : Units) (line : ℕ) (f : Form) (rel : Rel) → asked_op f ≡ Some (test_name rel, 2) → has_many_args f ≡ false → has_test u rel ≡ true → is_fit u (line, f) ≡ true
test_fits u line f rel asked few has =
    let t = test_of u rel has in
    asked_fits u line f (test_name rel) 2 t.op asked t.there (get_or_from_slice_get u.arities t.op 2 0 t.arity) few

apply_fits : (u : Units) (line d : ℕ) (op : OpId) (a b : Src) (operands : List Operand) → IsOperation u op a b → get_or u.arities op.0 0 ≡ length operands → is_fit u (line, ApplyForm (var_name d) (op_name u op) operands) ≡ true
apply_fits u line d op a b operands o count =
    asked_fits u line (ApplyForm (var_name d) (op_name u op) operands) (op_name u op) (length operands) op.0 refl
    (op_named u op (let w = slice_get_within u.arities op.0 o.arity o.there in omega (arith, u.paired))) count refl

few_args : (n : ℕ) → n ≤ 8 → nat_lt 8 n ≡ false
few_args n le = by (nat_lt 8 n) refl where
  by : (b : Bool) → nat_lt 8 n ≡ b → b ≡ false
  by true e = let more = ltb-true 8 n e in absurd (omega arith)
  by false e = refl

call_fits : (u : Units) (line : ℕ) (d : Option (List ℕ)) (callee : List ℕ) (args : List Operand) → length args ≤ 8 → is_fit u (line, CallForm d callee args) ≡ true
call_fits u line d callee args few = ap (λ b. not false && not false && not b) (few_args (length args) few)

module _ (u : Units) (p : Program) (q : Proc) (procs : AllByRecursion (IsProc p) p.procs) where
  args_few : (callee : ℕ) (args : List Src) → is_call p callee args ≡ true → length (all_said args) ≤ 8
  args_few callee args call = by (slice_get p.procs callee) refl (and_right (not (callee == p.main)) (option_map_or (λ x. length args == x.params) (slice_get p.procs callee) false) call) where
    by : (o : Option Proc) → slice_get p.procs callee ≡ o → option_map_or (λ x. length args == x.params) o false ≡ true → length (all_said args) ≤ 8
    by None there e = absurd cc
    by (Some x) there e =
        let few = (all_one (IsProc p) p.procs callee x procs there).params in
        let count = eqb-true (length args) x.params e in
        let same = said_count args in
        omega arith

  step_fits : (line : ℕ) (step : Step) → is_step p q step ≡ true → is_over u step ≡ true → is_fit u (line, step_said u p.main step) ≡ true
  step_fits line (Copy d s) ok over = refl
  step_fits line (Apply d op a b) ok over = by (operation_of u d op a b over) (get_or u.arities op.0 0 == 2) refl where
    by : IsOperation u op a b → (two : Bool) → (get_or u.arities op.0 0 == 2) ≡ two → is_fit u (line, ApplyForm (var_name d) (op_name u op) (if two then said a ∷ said b ∷ [] else said b ∷ [])) ≡ true
    by o true e = apply_fits u line d op a b (said a ∷ said b ∷ []) o (eqb-true (get_or u.arities op.0 0) 2 e)
    by o false e =
        let arity = get_or_from_slice_get u.arities op.0 o.arity 0 o.there in
        apply_fits u line d op a b (said b ∷ []) o (elim o.fits [ inl two ↦ absurd (let yes_ : (get_or u.arities op.0 0 == 2) ≡ true = eq-eqb (get_or u.arities op.0 0) 2 (arity ∙ two) in cc) | inr one ↦ arity ∙ one.0 ])
  step_fits line (Load d a) ok over = refl
  step_fits line (Store a v) ok over = refl
  step_fits line (Put v) ok over = refl
  step_fits line (Take d) ok over = refl
  step_fits line (If rel a b to) ok over = test_fits u line (step_said u p.main (If rel a b to)) rel refl refl over
  step_fits line (Goto to) ok over = refl
  step_fits line (When rel a b d s) ok over = test_fits u line (step_said u p.main (When rel a b d s)) rel refl refl over
  step_fits line (Invoke (Some d) callee args) ok over = call_fits u line (Some (var_name d)) (proc_name p.main callee) (all_said args) (args_few callee args (and_right (nat_lt d q.vars && list_all (is_src q.vars) args) (is_call p callee args) ok))
  step_fits line (Invoke None callee args) ok over = call_fits u line None (proc_name p.main callee) (all_said args) (args_few callee args (and_right (true && list_all (is_src q.vars) args) (is_call p callee args) ok))
  step_fits line (Return (Some s)) ok over = refl
  step_fits line (Return None) ok over = refl
  step_fits line Halt ok over = refl
  step_fits line End ok over = refl

  -- all lines of steps
  steps_fit : (line : ℕ) (all : List Step) (k : ℕ) (steps : List Step) → list_all (is_step p q) steps ≡ true → list_all (is_over u) steps ≡ true → list_all (is_fit u) (numbered_from line (steps_form u p.main all k steps)) ≡ true
  steps_fit line all k [] ok over = refl
  steps_fit line all k (step ∷ steps) ok over =
      by (is_target all k) (λ l. step_fits l step (and_left (is_step p q step) (list_all (is_step p q) steps) ok) (and_left (is_over u step) (list_all (is_over u) steps) over))
      (λ l. steps_fit l all (k + 1) steps (and_right (is_step p q step) (list_all (is_step p q) steps) ok) (and_right (is_over u step) (list_all (is_over u) steps) over))
    where
      by : (t : Bool) → ((l : ℕ) → is_fit u (l, step_said u p.main step) ≡ true) → ((l : ℕ) → list_all (is_fit u) (numbered_from l (steps_form u p.main all (k + 1) steps)) ≡ true)
          → list_all (is_fit u) (numbered_from line ((if t then LabelForm (label_name k) ∷ [] else []) ++ (step_said u p.main step ∷ steps_form u p.main all (k + 1) steps))) ≡ true
      by true here rest = and_from (is_fit u (line + 1, step_said u p.main step)) (list_all (is_fit u) (numbered_from ((line + 1) + 1) (steps_form u p.main all (k + 1) steps))) (here (line + 1)) (rest ((line + 1) + 1))
      by false here rest = and_from (is_fit u (line, step_said u p.main step)) (list_all (is_fit u) (numbered_from (line + 1) (steps_form u p.main all (k + 1) steps))) (here line) (rest (line + 1))

pub data_fit : (u : Units) (line : ℕ) (init : List DataLine) → list_all (is_fit u) (numbered_from line (data_form init)) ≡ true
data_fit u line [] = refl
data_fit u line (d ∷ ds) = data_fit u (line + 1) ds

pub procs_fit : (u : Units) (p : Program) (k line : ℕ) (qs : List Proc) → AllByRecursion (IsProc p) p.procs → AllByRecursion (IsProc p) qs → list_all (λ q. list_all (is_over u) q.steps) qs ≡ true → list_all (is_fit u) (numbered_from line (procs_form u p.main k qs)) ≡ true
procs_fit u p k line [] procs rules over = refl
procs_fit u p k line (q ∷ qs) procs rules over =
    let forms = steps_form u p.main q.steps 0 q.steps in
    ap (list_all (is_fit u)) (numbered_append (line + 1) forms (procs_form u p.main (k + 1) qs))
    ∙ list_all-append (is_fit u) (numbered_from (line + 1) forms) (numbered_from ((line + 1) + length forms) (procs_form u p.main (k + 1) qs))
    ∙ and_from (list_all (is_fit u) (numbered_from (line + 1) forms)) (list_all (is_fit u) (numbered_from ((line + 1) + length forms) (procs_form u p.main (k + 1) qs)))
    (steps_fit u p q procs (line + 1) q.steps 0 q.steps rules.0.steps (and_left (list_all (is_over u) q.steps) (list_all (λ q. list_all (is_over u) q.steps) qs) over))
    (procs_fit u p (k + 1) ((line + 1) + length forms) qs procs rules.1 (and_right (list_all (is_over u) q.steps) (list_all (λ q. list_all (is_over u) q.steps) qs) over))
