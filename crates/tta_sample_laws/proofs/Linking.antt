-- The steps of a sample's procedure, once its labels have numbers.
use Rattle.std.proofs.Common.{◌≡◌, ℕ, zero, suc, ◌+◌, ◌*◌, ◌<◌, ◌≤◌, List, [], ◌∷◌, ◌++◌, length, map, length-append, refl, sym, ap, ◌∙◌, subst, arith}
use Rattle.std.specs.Prelude.{Option, Some, None, Ok, if◌then◌else◌, is_some, option_to_list, codes}
use Rattle.std.specs.Option.{option_map_or}
use Rattle.std.specs.Fmt.{digits}
use Rattle.std.specs.List.{flat_map, AllByRecursion}
use Rattle.std.proofs.lemmas.List.{append_assoc}
use Rattle.tta_sample_laws.specs.Cited.{Declared, named_in, Units, Var, Word, Lt, Ltu, Step, UnknownLabel, Form, Named, Constant, LabelForm, CopyForm, ApplyForm, LoadForm, StoreForm, PutForm, IfForm, WhenForm, Unlinked, Plain, IfTo, Draft, with_var, vars_after, var_number, op_id, step_of, numbered, link_step, link_steps, label_in, steps_said, step_lines, var_name, label_name}
use Rattle.tta_parse.specs.Steps.{◌>>=◌}
use Rattle.tta_parse.proofs.Steps.{same_ok, then-ok, some-ok, at_line-ok}
use Rattle.tta_program.specs.declared.step.Step.TheVariants as step
use Rattle.tta_roundtrip.proofs.Said.{numbered_from}
use Rattle.tta_sample_laws.proofs.Drawn.{Drawn, Two, One, Shown, Fixed, Loaded, Stored, Chosen, Skipped, IsDrawn}
use Rattle.tta_sample_laws.proofs.SampleForms.{forms_of}
use Rattle.tta_sample_laws.proofs.Shape.{IsMild, AreMild}

-- the variables of a sample: eight, and the counter
abbrev pub sample_vars : Declared ℕ
sample_vars =
    numbered 0 (codes "v0" ∷ codes "v1" ∷ codes "v2" ∷ codes "v3" ∷ codes "v4" ∷ codes "v5" ∷ codes "v6" ∷ codes "v7" ∷ codes "n" ∷ [])

known : (d : ℕ) → d < 8 → named_in sample_vars (var_name d) ≡ Some d
unfolding digits
known zero small = refl
known (suc zero) small = refl
known (suc (suc zero)) small = refl
known (suc (suc (suc zero))) small = refl
known (suc (suc (suc (suc zero)))) small = refl
known (suc (suc (suc (suc (suc zero))))) small = refl
known (suc (suc (suc (suc (suc (suc zero)))))) small = refl
known (suc (suc (suc (suc (suc (suc (suc zero))))))) small = refl
known (suc (suc (suc (suc (suc (suc (suc (suc d)))))))) small = absurd (omega arith)

-- they stay as they are
stays : (d : ℕ) → d < 8 → with_var sample_vars (var_name d) ≡ sample_vars
stays d small = ap (λ (o : Option ℕ). if is_some o then sample_vars else sample_vars ++ (var_name d, length sample_vars) ∷ []) (known d small)

-- and have their numbers
number_is : (d : ℕ) → d < 8 → var_number sample_vars (var_name d) ≡ d
number_is d small = ap (λ o. option_map_or (λ k. k) o 0) (known d small)

-- so a line of the body leaves them as they are
pub line_stays : (l : Drawn) → IsDrawn l → AllByRecursion (λ f. vars_after sample_vars f ≡ sample_vars) (forms_of l)
line_stays (Two op d a b) is = (rw (stays d is.1, stays a is.2, stays b is.3) refl, tt)
line_stays (One op d a c) is = (rw (stays d is.1, stays a is.2) refl, tt)
line_stays (Shown a) is = (stays a is, tt)
line_stays (Fixed d c) is = (stays d is.0, tt)
line_stays (Loaded d c) is = (stays d is.0, tt)
line_stays (Stored c a) is = (stays a is.1, tt)
line_stays (Chosen a b d s) is = (rw (stays a is.0, stays b is.1, stays d is.2, stays s is.3) refl, tt)
line_stays (Skipped label a b d) is = (rw (stays a is.1, stays b is.2) refl, (rw (stays d is.3, stays d is.3) refl, (refl, tt)))

-- how many steps a line of the body stands for
abbrev pub count_of : Drawn → ℕ
count_of (Skipped label a b d) = 2
count_of l = 1

-- and all lines
abbrev pub steps_of_all : List Drawn → ℕ
steps_of_all [] = 0
steps_of_all (l ∷ ls) = count_of l + steps_of_all ls

two_at_most : (l : Drawn) → count_of l ≤ 2
two_at_most (Two op d a b) = omega arith
two_at_most (One op d a c) = omega arith
two_at_most (Shown a) = omega arith
two_at_most (Fixed d c) = omega arith
two_at_most (Loaded d c) = omega arith
two_at_most (Stored c a) = omega arith
two_at_most (Chosen a b d s) = omega arith
two_at_most (Skipped label a b d) = omega arith

-- at most two a line
pub few_steps : (ls : List Drawn) → steps_of_all ls ≤ 2 * length ls
few_steps [] = omega arith
few_steps (l ∷ ls) = let more = few_steps ls in let here = two_at_most l in omega arith

-- mild steps after others
mild_after : (at end : ℕ) (xs ys : List Step) → AreMild at end xs → AreMild (at + length xs) end ys → AreMild at end (xs ++ ys)
mild_after at end [] ys first second = subst (λ n. AreMild n end ys) (let e : at + length {A = Step} [] ≡ at = omega arith in e) second
mild_after at end (x ∷ xs) ys first second =
    (first.0, mild_after (at + 1) end xs ys first.1 (subst (λ n. AreMild n end ys) (let e : at + length (x ∷ xs) ≡ (at + 1) + length xs = omega arith in e) second))

module _ (u : Units) (d : Draft) (labels : Declared ℕ) where
  -- lines have these steps
  abbrev pub Links : (line : ℕ) (fs : List Form) (out : List Step) → Type 0
  Links line fs out = link_steps d labels (steps_said u sample_vars (numbered_from line fs)) (step_lines (numbered_from line fs)) ≡ Ok out

  -- the first of some steps
  pub record Peeled (t : Unlinked) (ss : List Unlinked) (lines : List ℕ) (out : List Step) : Type 0 where
    pub first : Step
    pub others : List Step
    pub links : link_step d labels t ≡ Ok first
    pub is : out ≡ first ∷ others
    pub rest : link_steps d labels ss lines ≡ Ok others

  pub peel : (t : Unlinked) (ss : List Unlinked) (line : ℕ) (lines : List ℕ) (out : List Step) → link_steps d labels (t ∷ ss) (line ∷ lines) ≡ Ok out → Peeled t ss lines out
  peel t ss line lines out e =
      let one = then-ok _ (λ first. link_steps d labels ss lines >>= λ rest. Ok (first ∷ rest)) out e in
      let more = then-ok (link_steps d labels ss lines) (λ rest. Ok (one.0 ∷ rest)) out one.2 in
      record { first = one.0; others = more.0; links = at_line-ok line (link_step d labels t) one.0 one.1; is = sym (same_ok (one.0 ∷ more.0) out more.2); rest = more.1 }

  -- a line that is a step
  peel_line : (line : ℕ) (f : Form) (t : Unlinked) (fs : List Form) (out : List Step) → vars_after sample_vars f ≡ sample_vars → step_of u sample_vars f ≡ Some t → label_in f ≡ None
      → Links line (f ∷ fs) out
      → Peeled t (steps_said u sample_vars (numbered_from (line + 1) fs)) (step_lines (numbered_from (line + 1) fs)) out
  peel_line line f t fs out same is no_label e =
      let said : steps_said u sample_vars (numbered_from line (f ∷ fs)) ≡ t ∷ steps_said u sample_vars (numbered_from (line + 1) fs)
      = ap (λ vars. option_to_list (step_of u vars f) ++ steps_said u vars (numbered_from (line + 1) fs)) same
      ∙ ap (λ o. option_to_list o ++ steps_said u sample_vars (numbered_from (line + 1) fs)) is in
      let lines : step_lines (numbered_from line (f ∷ fs)) ≡ line ∷ step_lines (numbered_from (line + 1) fs)
      = ap (λ o. option_map_or (λ name. step_lines (numbered_from (line + 1) fs)) o (line ∷ step_lines (numbered_from (line + 1) fs))) no_label in
      peel t (steps_said u sample_vars (numbered_from (line + 1) fs)) line (step_lines (numbered_from (line + 1) fs)) out
      (ap (λ ss. link_steps d labels ss (line ∷ step_lines (numbered_from (line + 1) fs))) (sym said) ∙ ap (link_steps d labels (steps_said u sample_vars (numbered_from line (f ∷ fs)))) (sym lines) ∙ e)

  -- several steps without a label's name
  pub record Plainly (steps : List Step) (ss : List Unlinked) (lines : List ℕ) (out : List Step) : Type 0 where
    pub others : List Step
    pub is : out ≡ steps ++ others
    pub rest : link_steps d labels ss lines ≡ Ok others

  pub plainly : (steps : List Step) (ss : List Unlinked) (ns lines : List ℕ) (out : List Step) → length ns ≡ length steps
      → link_steps d labels (map Plain steps ++ ss) (ns ++ lines) ≡ Ok out → Plainly steps ss lines out
  plainly [] ss [] lines out same e = record { others = out; is = refl; rest = e }
  plainly [] ss (n ∷ ns) lines out same e = absurd (omega arith)
  plainly (s ∷ steps) ss [] lines out same e = absurd (omega arith)
  plainly (s ∷ steps) ss (n ∷ ns) lines out same e =
      let p = peel (Plain s) (map Plain steps ++ ss) n (ns ++ lines) out e in
      let more = plainly steps ss ns lines p.others (omega arith) p.rest in
      record { others = more.others; is = p.is ∙ ap (λ x. x ∷ p.others) (sym (same_ok s p.first p.links)) ∙ ap (λ xs. s ∷ xs) more.is; rest = more.rest }

  -- ---- the body

  -- the label of a line that skips a step stands behind that step
  abbrev pub Places : (at : ℕ) → Drawn → Type 0
  Places at (Skipped label a b d) = named_in labels (label_name label) ≡ Some (at + 2)
  Places at l = Unit {0}

  abbrev pub AllPlaces : (at : ℕ) → List Drawn → Type 0
  AllPlaces at [] = Unit {0}
  AllPlaces at (l ∷ ls) = Places at l × AllPlaces (at + count_of l) ls

  -- the steps of lines, and what comes after them
  pub record IsMade (at count : ℕ) (more : List Form) (out : List Step) : Type 0 where
    pub steps : List Step
    pub others : List Step
    pub line : ℕ
    pub is : out ≡ steps ++ others
    pub long : length steps ≡ count
    pub rest : Links line more others
    pub mild : (end : ℕ) → at + length steps ≤ end → AreMild at end steps

  -- a line with one step
  one_made : (at line : ℕ) (f : Form) (s : Step) (more : List Form) (out : List Step) → vars_after sample_vars f ≡ sample_vars → step_of u sample_vars f ≡ Some (Plain s) → label_in f ≡ None
      → ((end : ℕ) → IsMild at end s) → Links line (f ∷ more) out → IsMade at 1 more out
  one_made at line f s more out same is no_label mild e =
      let p = peel_line line f (Plain s) more out same is no_label e in
      record {
        steps = s ∷ [];
        others = p.others;
        line = line + 1;
        is = p.is ∙ ap (λ x. x ∷ p.others) (sym (same_ok s p.first p.links));
        long = refl;
        rest = p.rest;
        mild = λ end enough. (mild end, tt);
      }

  -- a line that skips a step
  skip_made : (at line label a b v : ℕ) (more : List Form) (out : List Step) → a < 8 → b < 8 → v < 8 → named_in labels (label_name label) ≡ Some (at + 2)
      → Links line (forms_of (Skipped label a b v) ++ more) out → IsMade at 2 more out
  skip_made at line label a b v more out small_a small_b small_v there e =
      let added : Form = ApplyForm (var_name v) (codes "add") (Named (var_name v) ∷ Constant 1 ∷ []) in
      let add : Step = step.Apply v (op_id u (codes "add")) (Var v) (Word 1) in
      let first = peel_line line (IfForm Lt (Named (var_name a)) (Named (var_name b)) (label_name label)) (IfTo Lt (Var a) (Var b) (label_name label)) (added ∷ LabelForm (label_name label) ∷ more) out
      (rw (stays a small_a, stays b small_b) refl) (rw (number_is a small_a, number_is b small_b) refl) refl e in
      let to = some-ok UnknownLabel (named_in labels (label_name label)) (λ to. Ok (step.If Lt (Var a) (Var b) to)) first.first first.links in
      let same : to.0 ≡ at + 2 = let f : Some to.0 ≡ Some (at + 2) = sym to.1 ∙ there in cc in
      let jump : first.first ≡ step.If Lt (Var a) (Var b) (at + 2) = sym (same_ok (step.If Lt (Var a) (Var b) to.0) first.first to.2) ∙ ap (step.If Lt (Var a) (Var b)) same in
      let second = peel_line (line + 1) added (Plain add) (LabelForm (label_name label) ∷ more) first.others
      (rw (stays v small_v, stays v small_v) refl) (rw (number_is v small_v) refl) refl first.rest in
      record {
        steps = step.If Lt (Var a) (Var b) (at + 2) ∷ add ∷ [];
        others = second.others;
        line = ((line + 1) + 1) + 1;
        is = first.is ∙ ap (λ x. x ∷ first.others) jump ∙ ap (λ xs. step.If Lt (Var a) (Var b) (at + 2) ∷ xs) (second.is ∙ ap (λ x. x ∷ second.others) (sym (same_ok add second.first second.links)));
        long = refl;
        rest = second.rest;
        mild = λ end enough. ((omega arith, omega arith), (small_v, tt));
      }

  line_made : (at line : ℕ) (l : Drawn) (more : List Form) (out : List Step) → IsDrawn l → Places at l → Links line (forms_of l ++ more) out → IsMade at (count_of l) more out
  line_made at line (Two op v a b) more out is place e =
      one_made at line (ApplyForm (var_name v) op (Named (var_name a) ∷ Named (var_name b) ∷ [])) (step.Apply v (op_id u op) (Var a) (Var b)) more out
      (line_stays (Two op v a b) is).0 (rw (number_is v is.1, number_is a is.2, number_is b is.3) refl) refl (λ end. is.1) e
  line_made at line (One op v a c) more out is place e =
      one_made at line (ApplyForm (var_name v) op (Named (var_name a) ∷ Constant c ∷ [])) (step.Apply v (op_id u op) (Var a) (Word c)) more out
      (line_stays (One op v a c) is).0 (rw (number_is v is.1, number_is a is.2) refl) refl (λ end. is.1) e
  line_made at line (Shown a) more out is place e =
      one_made at line (PutForm (Named (var_name a))) (step.Put (Var a)) more out (line_stays (Shown a) is).0 (rw (number_is a is) refl) refl (λ end. tt) e
  line_made at line (Fixed v c) more out is place e =
      one_made at line (CopyForm (var_name v) (Constant c)) (step.Copy v (Word c)) more out (line_stays (Fixed v c) is).0 (rw (number_is v is.0) refl) refl (λ end. is.0) e
  line_made at line (Loaded v c) more out is place e =
      one_made at line (LoadForm (var_name v) (Constant c)) (step.Load v (Word c)) more out (line_stays (Loaded v c) is).0 (rw (number_is v is.0) refl) refl (λ end. is.0) e
  line_made at line (Stored c a) more out is place e =
      one_made at line (StoreForm (Constant c) (Named (var_name a))) (step.Store (Word c) (Var a)) more out (line_stays (Stored c a) is).0 (rw (number_is a is.1) refl) refl (λ end. tt) e
  line_made at line (Chosen a b v s) more out is place e =
      one_made at line (WhenForm Ltu (Named (var_name a)) (Named (var_name b)) (var_name v) (Named (var_name s))) (step.When Ltu (Var a) (Var b) v (Var s)) more out
      (line_stays (Chosen a b v s) is).0 (rw (number_is a is.0, number_is b is.1, number_is v is.2, number_is s is.3) refl) refl (λ end. is.2) e
  line_made at line (Skipped label a b v) more out is place e = skip_made at line label a b v more out is.1 is.2 is.3 place e

  pub body_made : (at line : ℕ) (ls : List Drawn) (more : List Form) (out : List Step) → AllByRecursion IsDrawn ls → AllPlaces at ls → Links line (flat_map forms_of ls ++ more) out
      → IsMade at (steps_of_all ls) more out
  body_made at line [] more out are places e =
      record { steps = []; others = out; line = line; is = refl; long = refl; rest = e; mild = λ end enough. tt }
  body_made at line (l ∷ ls) more out are places e =
      let first = line_made at line l (flat_map forms_of ls ++ more) out are.0 places.0
      (ap (λ fs. link_steps d labels (steps_said u sample_vars (numbered_from line fs)) (step_lines (numbered_from line fs))) (sym (append_assoc (forms_of l) (flat_map forms_of ls) more)) ∙ e) in
      let others = body_made (at + count_of l) first.line ls more first.others are.1 places.1 first.rest in
      let long = first.long in
      let long_ = others.long in
      let both = length-append first.steps others.steps in
      record {
        steps = first.steps ++ others.steps;
        others = others.others;
        line = others.line;
        is = first.is ∙ ap (λ xs. first.steps ++ xs) others.is ∙ sym (append_assoc first.steps others.steps others.others);
        long = omega arith;
        rest = others.rest;
        mild = λ end enough.
            mild_after at end first.steps others.steps (first.mild end (omega arith))
            (subst (λ n. AreMild n end others.steps) (let e : at + count_of l ≡ at + length first.steps = omega arith in e) (others.mild end (omega arith)));
      }
