-- The procedures and the data among the forms of a program.
use Rattle.std.proofs.Common.{◌≡◌, ℕ, ◌+◌, Bool, true, false, List, [], ◌∷◌, ◌++◌, length, refl, sym, ap, ◌∙◌}
use Rattle.std.specs.Prelude.{Some, None, if◌then◌else◌}
use Rattle.std.specs.List.{AllByRecursion}
use Rattle.tta_roundtrip.specs.Cited.{Units, Step, Copy, Apply, Load, Store, Put, Take, If, Goto, When, Invoke, Return, Halt, End, Proc, DataLine, ends_once, Form, ProcForm, DataForm, LabelForm, is_end, Said, proc_in, datum_in, are_nested, Block, up_to_end, blocks, data_said, is_target}
use Rattle.tta_program.specs.Rules.{is_end as is_end_step}
use Rattle.tta_ifconv.proofs.Kept.{skip_first}
use Rattle.tta_pretty.specs.Printed.{var_names, label_name, proc_name}
use Rattle.tta_roundtrip.proofs.Said.{step_said, label_said, steps_form, procs_form, data_form, numbered_from, numbered_append}

-- a form that stands in a procedure
abbrev pub is_inner : Form → Bool
is_inner (ProcForm name params) = false
is_inner (DataForm address value) = false
is_inner form = true

inner_proc : (f : Form) → is_inner f ≡ true → proc_in f ≡ None
inner_proc (ProcForm name params) e = absurd cc
inner_proc f e = refl

inner_datum : (line : ℕ) (f : Form) → is_inner f ≡ true → datum_in line f ≡ None
inner_datum line (DataForm address value) e = absurd cc
inner_datum line f e = refl

-- forms that stand in a procedure, of which the last is an `end`, and no other
abbrev pub IsBody : List Form → Type 0
IsBody [] = ⊥
IsBody (f ∷ []) = (is_inner f ≡ true) × (is_end f ≡ true)
IsBody (f ∷ g ∷ fs) = (is_inner f ≡ true) × (is_end f ≡ false) × IsBody (g ∷ fs)

-- one more before
body_more : (f : Form) (fs : List Form) → is_inner f ≡ true → is_end f ≡ false → IsBody fs → IsBody (f ∷ fs)
body_more f [] inner other body = absurd body
body_more f (g ∷ fs) inner other body = (inner, other, body)

step_inner : (u : Units) (main : ℕ) (step : Step) → is_inner (step_said u main step) ≡ true
step_inner u main (Copy d s) = refl
step_inner u main (Apply d op a b) = refl
step_inner u main (Load d a) = refl
step_inner u main (Store a v) = refl
step_inner u main (Put v) = refl
step_inner u main (Take d) = refl
step_inner u main (If rel a b to) = refl
step_inner u main (Goto to) = refl
step_inner u main (When rel a b d s) = refl
step_inner u main (Invoke (Some d) callee args) = refl
step_inner u main (Invoke None callee args) = refl
step_inner u main (Return (Some s)) = refl
step_inner u main (Return None) = refl
step_inner u main Halt = refl
step_inner u main End = refl

step_end : (u : Units) (main : ℕ) (step : Step) → is_end (step_said u main step) ≡ is_end_step step
step_end u main (Copy d s) = refl
step_end u main (Apply d op a b) = refl
step_end u main (Load d a) = refl
step_end u main (Store a v) = refl
step_end u main (Put v) = refl
step_end u main (Take d) = refl
step_end u main (If rel a b to) = refl
step_end u main (Goto to) = refl
step_end u main (When rel a b d s) = refl
step_end u main (Invoke (Some d) callee args) = refl
step_end u main (Invoke None callee args) = refl
step_end u main (Return (Some s)) = refl
step_end u main (Return None) = refl
step_end u main Halt = refl
step_end u main End = refl

-- a label before
labelled_body : (all : List Step) (k : ℕ) (fs : List Form) → IsBody fs → IsBody (label_said all k ++ fs)
labelled_body all k fs body = by (is_target all k) where
  by : (b : Bool) → IsBody ((if b then LabelForm (label_name k) ∷ [] else []) ++ fs)
  by true = body_more (LabelForm (label_name k)) fs refl refl body
  by false = body

-- the steps of a procedure are a body
alone_end : (step : Step) → ends_once (step ∷ []) ≡ true → is_end_step step ≡ true
alone_end End e = refl
alone_end (Copy d s) e = absurd cc
alone_end (Apply d op a b) e = absurd cc
alone_end (Load d a) e = absurd cc
alone_end (Store a v) e = absurd cc
alone_end (Put v) e = absurd cc
alone_end (Take d) e = absurd cc
alone_end (If rel a b to) e = absurd cc
alone_end (Goto to) e = absurd cc
alone_end (When rel a b d s) e = absurd cc
alone_end (Invoke d callee args) e = absurd cc
alone_end (Return s) e = absurd cc
alone_end Halt e = absurd cc

first_other : (x y : Step) (xs : List Step) → ends_once (x ∷ y ∷ xs) ≡ true → is_end_step x ≡ false
first_other End y xs e = absurd cc
first_other (Copy d s) y xs e = refl
first_other (Apply d op a b) y xs e = refl
first_other (Load d a) y xs e = refl
first_other (Store a v) y xs e = refl
first_other (Put v) y xs e = refl
first_other (Take d) y xs e = refl
first_other (If rel a b to) y xs e = refl
first_other (Goto to) y xs e = refl
first_other (When rel a b d s) y xs e = refl
first_other (Invoke d callee args) y xs e = refl
first_other (Return s) y xs e = refl
first_other Halt y xs e = refl

pub steps_body : (u : Units) (main : ℕ) (all : List Step) (k : ℕ) (steps : List Step) → ends_once steps ≡ true → IsBody (steps_form u main all k steps)
steps_body u main all k [] e = absurd cc
steps_body u main all k (x ∷ []) e = labelled_body all k (step_said u main x ∷ []) (step_inner u main x, step_end u main x ∙ alone_end x e)
steps_body u main all k (x ∷ y ∷ xs) e =
    let other = first_other x y xs e in
    labelled_body all k (step_said u main x ∷ steps_form u main all (k + 1) (y ∷ xs))
    (body_more (step_said u main x) (steps_form u main all (k + 1) (y ∷ xs)) (step_inner u main x) (step_end u main x ∙ other)
    (steps_body u main all (k + 1) (y ∷ xs) (sym (skip_first x y xs other) ∙ e)))

-- ---- a body among forms

nested_in : (line : ℕ) (fs : List Form) (rest : List Said) → IsBody fs → are_nested true (numbered_from line fs ++ rest) ≡ are_nested false rest
nested_in line [] rest body = absurd body
nested_in line (f ∷ []) rest body =
    rw (inner_proc f body.0, inner_datum line f body.0, body.1) refl
nested_in line (f ∷ g ∷ fs) rest body =
    rw (inner_proc f body.0, inner_datum line f body.0, body.1) (nested_in (line + 1) (g ∷ fs) rest body.2)

up_to_in : (line : ℕ) (fs : List Form) (rest : List Said) → IsBody fs → up_to_end (numbered_from line fs ++ rest) ≡ numbered_from line fs
up_to_in line [] rest body = absurd body
up_to_in line (f ∷ []) rest body = rw body.1 refl
up_to_in line (f ∷ g ∷ fs) rest body = rw body.1 (ap (λ xs. (line, f) ∷ xs) (up_to_in (line + 1) (g ∷ fs) rest body.2))

blocks_in : (line : ℕ) (fs : List Form) (rest : List Said) → IsBody fs → blocks (numbered_from line fs ++ rest) ≡ blocks rest
blocks_in line [] rest body = absurd body
blocks_in line (f ∷ []) rest body = rw (inner_proc f body.0) refl
blocks_in line (f ∷ g ∷ fs) rest body = rw (inner_proc f body.0) (blocks_in (line + 1) (g ∷ fs) rest body.2)

data_in : (line : ℕ) (fs : List Form) (rest : List Said) → IsBody fs → data_said (numbered_from line fs ++ rest) ≡ data_said rest
data_in line [] rest body = absurd body
data_in line (f ∷ []) rest body = rw (inner_datum line f body.0) refl
data_in line (f ∷ g ∷ fs) rest body = rw (inner_datum line f body.0) (data_in (line + 1) (g ∷ fs) rest body.2)

-- ---- procedures

-- data with new lines
abbrev pub relined : (line : ℕ) → List DataLine → List DataLine
relined line [] = []
relined line (d ∷ ds) = record { address = d.address; value = d.value; line = line } ∷ relined (line + 1) ds

-- the procedures with their lines, from this line on
abbrev pub blocks_form : Units → (main k line : ℕ) → List Proc → List Block
blocks_form u main k line [] = []
blocks_form u main k line (q ∷ qs) =
    record { line = line; name = proc_name main k; params = var_names 0 q.params; body = numbered_from (line + 1) (steps_form u main q.steps 0 q.steps) }
    ∷ blocks_form u main (k + 1) ((line + 1) + length (steps_form u main q.steps 0 q.steps)) qs

module _ (u : Units) (main : ℕ) where
  -- how the forms of procedures begin
  split : (k line : ℕ) (q : Proc) (qs : List Proc)
      → numbered_from line (procs_form u main k (q ∷ qs))
      ≡ (line, ProcForm (proc_name main k) (var_names 0 q.params)) ∷ (numbered_from (line + 1) (steps_form u main q.steps 0 q.steps)
      ++ numbered_from ((line + 1) + length (steps_form u main q.steps 0 q.steps)) (procs_form u main (k + 1) qs))
  split k line q qs = ap (λ xs. (line, ProcForm (proc_name main k) (var_names 0 q.params)) ∷ xs) (numbered_append (line + 1) (steps_form u main q.steps 0 q.steps) (procs_form u main (k + 1) qs))

  pub procs_nested : (k line : ℕ) (qs : List Proc) → AllByRecursion (λ q. ends_once q.steps ≡ true) qs → are_nested false (numbered_from line (procs_form u main k qs)) ≡ true
  procs_nested k line [] ends = refl
  procs_nested k line (q ∷ qs) ends =
      ap (are_nested false) (split k line q qs)
      ∙ nested_in (line + 1) (steps_form u main q.steps 0 q.steps) _ (steps_body u main q.steps 0 q.steps ends.0)
      ∙ procs_nested (k + 1) ((line + 1) + length (steps_form u main q.steps 0 q.steps)) qs ends.1

  pub procs_blocks : (k line : ℕ) (qs : List Proc) → AllByRecursion (λ q. ends_once q.steps ≡ true) qs → blocks (numbered_from line (procs_form u main k qs)) ≡ blocks_form u main k line qs
  procs_blocks k line [] ends = refl
  procs_blocks k line (q ∷ qs) ends =
      let body = steps_body u main q.steps 0 q.steps ends.0 in
      let forms = steps_form u main q.steps 0 q.steps in
      let next = numbered_from ((line + 1) + length forms) (procs_form u main (k + 1) qs) in
      ap blocks (split k line q qs)
      ∙ ap (λ b. record { line = line; name = proc_name main k; params = var_names 0 q.params; body = b } ∷ blocks (numbered_from (line + 1) forms ++ next)) (up_to_in (line + 1) forms next body)
      ∙ ap (λ bs. record { line = line; name = proc_name main k; params = var_names 0 q.params; body = numbered_from (line + 1) forms } ∷ bs)
      (blocks_in (line + 1) forms next body ∙ procs_blocks (k + 1) ((line + 1) + length forms) qs ends.1)

  pub procs_data : (k line : ℕ) (qs : List Proc) → AllByRecursion (λ q. ends_once q.steps ≡ true) qs → data_said (numbered_from line (procs_form u main k qs)) ≡ []
  procs_data k line [] ends = refl
  procs_data k line (q ∷ qs) ends =
      ap data_said (split k line q qs)
      ∙ data_in (line + 1) (steps_form u main q.steps 0 q.steps) _ (steps_body u main q.steps 0 q.steps ends.0)
      ∙ procs_data (k + 1) ((line + 1) + length (steps_form u main q.steps 0 q.steps)) qs ends.1

  -- ---- data before procedures

  pub data_nested : (line : ℕ) (init : List DataLine) (rest : List Said) → are_nested false (numbered_from line (data_form init) ++ rest) ≡ are_nested false rest
  data_nested line [] rest = refl
  data_nested line (d ∷ ds) rest = data_nested (line + 1) ds rest

  pub data_blocks : (line : ℕ) (init : List DataLine) (rest : List Said) → blocks (numbered_from line (data_form init) ++ rest) ≡ blocks rest
  data_blocks line [] rest = refl
  data_blocks line (d ∷ ds) rest = data_blocks (line + 1) ds rest

  pub data_data : (line : ℕ) (init : List DataLine) (rest : List Said) → data_said (numbered_from line (data_form init) ++ rest) ≡ relined line init ++ data_said rest
  data_data line [] rest = refl
  data_data line (d ∷ ds) rest = ap (λ xs. record { address = d.address; value = d.value; line = line } ∷ xs) (data_data (line + 1) ds rest)
