-- The steps of a text: their operations have names, and the steps that they name have labels.
use Rattle.std.proofs.Common.{◌≡◌, ℕ, zero, suc, ◌+◌, ◌==◌, Bool, true, false, List, [], ◌∷◌, ◌++◌, length, get_or, refl, sym, ap, ◌∙◌, subst, arith, ◌⊎◌, inl, inr}
use Rattle.std.specs.Prelude.{Option, Some, None, not, ◌||◌, if◌then◌else◌, is_none, option_to_list, Ok}
use Rattle.std.specs.Option.{option_map_or}
use Rattle.std.specs.List.{list_all, list_any, AllByRecursion}
use Rattle.std.specs.Str.{bytes_eq}
use Rattle.std.proofs.lemmas.Bool.{and_from, not-true}
use Rattle.std.proofs.Math.Bool.{or-true}
use Rattle.tta_list.proofs.Tests.{and_left, and_right}
use Rattle.tta_roundtrip.specs.Cited.{is_name, Declared, named_in, refuse_if, at_line, Units, named, first_at, Step, UnknownLabel, Arity, Form, ProcForm, DataForm, LabelForm, CopyForm, ApplyForm, LoadForm, StoreForm, PutForm, TakeForm, IfForm, GotoForm, WhenForm, CallForm, ReturnForm, HaltForm, EndForm, Unlinked, Plain, IfTo, GotoTo, CallTo, Draft, vars_after, op_id, step_of, callee_named, params_of, link_step, link_steps, Said, steps_said, is_fit, target, names, is_target}
use Rattle.tta_parse.specs.Steps.{◌>>=◌}
use Rattle.tta_parse.proofs.Steps.{same_ok, refuse_if-ok, then-ok, some-ok, at_line-ok}
use Rattle.tta_program.specs.declared.step.Step.TheVariants as step
use Rattle.tta_pretty.specs.Printed.{op_name}
use Rattle.tta_roundtrip.specs.Readable.{is_named}
use Rattle.tta_roundtrip.proofs.Names.{bytes_same}
use Rattle.tta_roundtrip.proofs.InOrder.{HasOperands}
use Rattle.tta_roundtrip.proofs.Applied.{is_applied}

pub operands_of : (f : Form) → is_applied f ≡ true → HasOperands f
operands_of (ApplyForm d op []) e = cc
operands_of (ApplyForm d op (only ∷ [])) e = tt
operands_of (ApplyForm d op (left ∷ right ∷ [])) e = tt
operands_of (ApplyForm d op (x ∷ y ∷ z ∷ more)) e = cc
operands_of f e = tt

first_is : (name : List ℕ) (names : List (List ℕ)) (k j : ℕ) → first_at name k names ≡ Some j → (i : ℕ) × (j ≡ k + i) × (get_or names i [] ≡ name)
first_is name [] k j e = cc
first_is name (n ∷ ns) k j e = by (bytes_eq n name) refl e (first_is name ns (k + 1) j) where
  by : (b : Bool) → bytes_eq n name ≡ b → (if b then Some k else first_at name (k + 1) ns) ≡ Some j → (first_at name (k + 1) ns ≡ Some j → (i : ℕ) × (j ≡ (k + 1) + i) × (get_or ns i [] ≡ name))
      → (i : ℕ) × (j ≡ k + i) × (get_or (n ∷ ns) i [] ≡ name)
  by true is e rest = (zero, (let same : k ≡ j = cc in omega arith), bytes_same n name is)
  by false is e rest = let r = rest e in (suc r.0, (let m = r.1 in omega arith), r.2)

-- a label that names a step is among the labels
found : (label : List ℕ) (labels : Declared ℕ) (to j : ℕ) → named_in labels label ≡ Some to → (to == j) ≡ true → list_any (λ l. l.1 == j) labels ≡ true
found label [] to j e same = cc
found label (d ∷ ds) to j e same = by (bytes_eq d.0 label) e (found label ds to j) where
  by : (b : Bool) → (if b then Some d.1 else named_in ds label) ≡ Some to → (named_in ds label ≡ Some to → (to == j) ≡ true → list_any (λ l. l.1 == j) ds ≡ true) → (d.1 == j || list_any (λ l. l.1 == j) ds) ≡ true
  by true e rest = let is : d.1 ≡ to = cc in ap (λ b. b || list_any (λ (l : List ℕ × ℕ). l.1 == j) ds) (ap (λ k. k == j) is ∙ same)
  by false e rest = ap (λ b. d.1 == j || b) (rest e same) ∙ or-true (d.1 == j)

module _ (u : Units) where
  named_back : (op : List ℕ) → is_none (named u op) ≡ false → op_name u (op_id u op) ≡ op
  named_back op there = by (named u op) refl there where
    by : (o : Option ℕ) → named u op ≡ o → is_none o ≡ false → get_or u.names (option_map_or (λ x. x) (named u op) 0) [] ≡ op
    by None is e = cc
    by (Some j) is e =
        let f = first_is op u.names 0 j is in
        ap (λ o. get_or u.names (option_map_or (λ x. x) o 0) []) is ∙ ap (λ k. get_or u.names k []) (let m = f.1 in let s : j ≡ f.0 = omega arith in s) ∙ f.2

  -- whether the operation of a step whose label or callee is a name has a name
  abbrev pub is_said_named : Unlinked → Bool
  is_said_named (Plain s) = is_named u s
  is_said_named s = true

  line_named : (line : ℕ) (vars : Declared ℕ) (f : Form) → is_applied f ≡ true → is_fit u (line, f) ≡ true → option_map_or is_said_named (step_of u vars f) true ≡ true
  line_named line vars (ApplyForm d op []) e fit = cc
  line_named line vars (ApplyForm d op (only ∷ [])) e fit = ap is_name (named_back op (not-true (is_none (named u op)) (and_left (not (is_none (named u op))) _ (and_left _ (not false) fit)))) ∙ e
  line_named line vars (ApplyForm d op (left ∷ right ∷ [])) e fit = ap is_name (named_back op (not-true (is_none (named u op)) (and_left (not (is_none (named u op))) _ (and_left _ (not false) fit)))) ∙ e
  line_named line vars (ApplyForm d op (x ∷ y ∷ z ∷ more)) e fit = cc
  line_named line vars (CallForm (Some d) callee args) e fit = refl
  line_named line vars (CallForm None callee args) e fit = refl
  line_named line vars (ReturnForm (Some s)) e fit = refl
  line_named line vars (ReturnForm None) e fit = refl
  line_named line vars (CopyForm d s) e fit = refl
  line_named line vars (LoadForm d a) e fit = refl
  line_named line vars (StoreForm a v) e fit = refl
  line_named line vars (PutForm v) e fit = refl
  line_named line vars (TakeForm d) e fit = refl
  line_named line vars (IfForm rel a b label) e fit = refl
  line_named line vars (GotoForm label) e fit = refl
  line_named line vars (WhenForm rel a b d s) e fit = refl
  line_named line vars HaltForm e fit = refl
  line_named line vars EndForm e fit = refl
  line_named line vars (ProcForm name params) e fit = refl
  line_named line vars (DataForm address value) e fit = refl
  line_named line vars (LabelForm name) e fit = refl

  pub body_named : (vars : Declared ℕ) (xs : List Said) → AllByRecursion (λ x. is_applied x.1 ≡ true) xs → AllByRecursion (λ x. is_fit u x ≡ true) xs → list_all is_said_named (steps_said u vars xs) ≡ true
  body_named vars [] applied fits = refl
  body_named vars (x ∷ xs) applied fits = by (step_of u (vars_after vars x.1) x.1) (line_named x.0 (vars_after vars x.1) x.1 applied.0 fits.0) (body_named (vars_after vars x.1) xs applied.1 fits.1) where
    by : (o : Option Unlinked) → option_map_or is_said_named o true ≡ true → list_all is_said_named (steps_said u (vars_after vars x.1) xs) ≡ true → list_all is_said_named (option_to_list o ++ steps_said u (vars_after vars x.1) xs) ≡ true
    by None here rest = rest
    by (Some s) here rest = and_from (is_said_named s) (list_all is_said_named (steps_said u (vars_after vars x.1) xs)) here rest

  link_named : (d : Draft) (labels : Declared ℕ) (s : Unlinked) (t : Step) → link_step d labels s ≡ Ok t → is_said_named s ≡ true → is_named u t ≡ true
  link_named d labels (Plain s) t e named_ = ap (is_named u) (sym (same_ok s t e)) ∙ named_
  link_named d labels (IfTo rel a b label) t e named_ =
      let w = some-ok UnknownLabel (named_in labels label) (λ to. Ok (step.If rel a b to)) t e in ap (is_named u) (sym (same_ok (step.If rel a b w.0) t w.2))
  link_named d labels (GotoTo label) t e named_ =
      let w = some-ok UnknownLabel (named_in labels label) (λ to. Ok (step.Goto to)) t e in ap (is_named u) (sym (same_ok (step.Goto w.0) t w.2))
  link_named d labels (CallTo dst callee args) t e named_ =
      let w = then-ok (callee_named d.names callee) (λ k. refuse_if (not (params_of d.procs k == length args)) Arity (Ok (step.Invoke dst k args))) t e in
      let r = refuse_if-ok (not (params_of d.procs w.0 == length args)) Arity (Ok (step.Invoke dst w.0 args)) t w.2 in
      ap (is_named u) (sym (same_ok (step.Invoke dst w.0 args) t r.1))

  -- a label that a linked step names is one of these
  link_target : (d : Draft) (labels : Declared ℕ) (s : Unlinked) (t : Step) → link_step d labels s ≡ Ok t → (j : ℕ) → names j t ≡ true → (s ≡ Plain t) ⊎ (list_any (λ l. l.1 == j) labels ≡ true)
  link_target d labels (Plain s) t e j name = inl (ap Plain (same_ok s t e))
  link_target d labels (IfTo rel a b label) t e j name =
      let w = some-ok UnknownLabel (named_in labels label) (λ to. Ok (step.If rel a b to)) t e in
      inr (found label labels w.0 j w.1 (ap (names j) (same_ok (step.If rel a b w.0) t w.2) ∙ name))
  link_target d labels (GotoTo label) t e j name =
      let w = some-ok UnknownLabel (named_in labels label) (λ to. Ok (step.Goto to)) t e in
      inr (found label labels w.0 j w.1 (ap (names j) (same_ok (step.Goto w.0) t w.2) ∙ name))
  link_target d labels (CallTo dst callee args) t e j name =
      let w = then-ok (callee_named d.names callee) (λ k. refuse_if (not (params_of d.procs k == length args)) Arity (Ok (step.Invoke dst k args))) t e in
      let r = refuse_if-ok (not (params_of d.procs w.0 == length args)) Arity (Ok (step.Invoke dst w.0 args)) t w.2 in
      absurd (let none : names j t ≡ false = ap (names j) (sym (same_ok (step.Invoke dst w.0 args) t r.1)) in cc)

  -- a step whose label is no name names no step
  abbrev is_free : Unlinked → Bool
  is_free (Plain s) = is_none (target s)
  is_free s = true

  line_free : (vars : Declared ℕ) (f : Form) → option_map_or is_free (step_of u vars f) true ≡ true
  line_free vars (ApplyForm d op []) = refl
  line_free vars (ApplyForm d op (only ∷ [])) = refl
  line_free vars (ApplyForm d op (left ∷ right ∷ [])) = refl
  line_free vars (ApplyForm d op (x ∷ y ∷ z ∷ more)) = refl
  line_free vars (CallForm (Some d) callee args) = refl
  line_free vars (CallForm None callee args) = refl
  line_free vars (ReturnForm (Some s)) = refl
  line_free vars (ReturnForm None) = refl
  line_free vars (CopyForm d s) = refl
  line_free vars (LoadForm d a) = refl
  line_free vars (StoreForm a v) = refl
  line_free vars (PutForm v) = refl
  line_free vars (TakeForm d) = refl
  line_free vars (IfForm rel a b label) = refl
  line_free vars (GotoForm label) = refl
  line_free vars (WhenForm rel a b d s) = refl
  line_free vars HaltForm = refl
  line_free vars EndForm = refl
  line_free vars (ProcForm name params) = refl
  line_free vars (DataForm address value) = refl
  line_free vars (LabelForm name) = refl

  pub body_free : (vars : Declared ℕ) (xs : List Said) → list_all is_free (steps_said u vars xs) ≡ true
  body_free vars [] = refl
  body_free vars (x ∷ xs) = by (step_of u (vars_after vars x.1) x.1) (line_free (vars_after vars x.1) x.1) (body_free (vars_after vars x.1) xs) where
    by : (o : Option Unlinked) → option_map_or is_free o true ≡ true → list_all is_free (steps_said u (vars_after vars x.1) xs) ≡ true → list_all is_free (option_to_list o ++ steps_said u (vars_after vars x.1) xs) ≡ true
    by None here rest = rest
    by (Some s) here rest = and_from (is_free s) (list_all is_free (steps_said u (vars_after vars x.1) xs)) here rest

  free_none : (t : Step) (j : ℕ) → is_none (target t) ≡ true → names j t ≡ false
  free_none t j e = by (target t) e where
    by : (o : Option ℕ) → is_none o ≡ true → option_map_or (λ to. to == j) o false ≡ false
    by None e = refl
    by (Some to) e = cc

  link_found : (d : Draft) (labels : Declared ℕ) (s : Unlinked) (t : Step) → link_step d labels s ≡ Ok t → is_free s ≡ true → (j : ℕ) → names j t ≡ true → list_any (λ l. l.1 == j) labels ≡ true
  link_found d labels s t e free j name = elim (link_target d labels s t e j name) [
    | inl plain ↦ absurd (let f : is_none (target t) ≡ true = sym (ap is_free plain) ∙ free in let none = free_none t j f in cc)
    | inr there ↦ there
  ]

  -- linked steps are as many, have named operations, and name what the labels name
  pub record AreLinked (labels : Declared ℕ) (ss : List Unlinked) (ts : List Step) : Type 0 where
    pub many : length ts ≡ length ss
    pub names_ : list_all is_said_named ss ≡ true → list_all (is_named u) ts ≡ true
    pub found_ : (j : ℕ) → is_target ts j ≡ true → list_any (λ l. l.1 == j) labels ≡ true

  pub linked : (d : Draft) (labels : Declared ℕ) (ss : List Unlinked) (lines : List ℕ) (ts : List Step) → length lines ≡ length ss → list_all is_free ss ≡ true → link_steps d labels ss lines ≡ Ok ts → AreLinked labels ss ts
  linked d labels [] [] ts size_ free e = subst (λ x. AreLinked labels [] x) (same_ok [] ts e) (record { many = refl; names_ = λ n. refl; found_ = λ j t. cc })
  linked d labels [] (line ∷ lines) ts size_ free e = absurd (omega arith)
  linked d labels (s ∷ ss) [] ts size_ free e = absurd (omega arith)
  linked d labels (s ∷ ss) (line ∷ lines) ts size_ free e =
      let first = then-ok (at_line line (link_step d labels s)) (λ f. link_steps d labels ss lines >>= λ rest. Ok (f ∷ rest)) ts e in
      let rest = then-ok (link_steps d labels ss lines) (λ r. Ok (first.0 ∷ r)) ts first.2 in
      let here = at_line-ok line (link_step d labels s) first.0 first.1 in
      let after = linked d labels ss lines rest.0 (omega arith) (and_right (is_free s) (list_all is_free ss) free) rest.1 in
      subst (λ x. AreLinked labels (s ∷ ss) x) (same_ok (first.0 ∷ rest.0) ts rest.2) (record {
        many = ap suc after.many;
        names_ = λ n. and_from (is_named u first.0) (list_all (is_named u) rest.0) (link_named d labels s first.0 here (and_left (is_said_named s) (list_all is_said_named ss) n)) (after.names_ (and_right (is_said_named s) (list_all is_said_named ss) n));
        found_ = λ j t. by first.0 rest.0 j (names j first.0) refl (link_found d labels s first.0 here (and_left (is_free s) (list_all is_free ss) free) j) (after.found_ j) t;
      })
    where
      by : (f : Step) (fs : List Step) (j : ℕ) (b : Bool) → names j f ≡ b → (names j f ≡ true → list_any (λ l. l.1 == j) labels ≡ true) → (is_target fs j ≡ true → list_any (λ l. l.1 == j) labels ≡ true)
          → is_target (f ∷ fs) j ≡ true → list_any (λ l. l.1 == j) labels ≡ true
      by f fs j true is here rest t = here is
      by f fs j false is here rest t = rest (sym (ap (λ b. b || is_target fs j) is) ∙ t)
