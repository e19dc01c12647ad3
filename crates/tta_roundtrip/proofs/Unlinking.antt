-- The steps of printed lines, before labels and callees have their numbers.
use Rattle.std.proofs.Common.{◌≡◌, ◌≤◌, ℕ, zero, suc, ◌+◌, ◌<◌, ◌^◌, ◌==◌, Bool, true, false, List, [], ◌∷◌, ◌++◌, length, get_or, map, refl, ap, ◌∙◌, arith, ◌⊎◌, inl, inr}
use Rattle.std.specs.Prelude.{Some, None, ◌||◌, if◌then◌else◌, option_to_list}
use Rattle.std.specs.Option.{option_map_or}
use Rattle.std.specs.List.{list_any, list_all, flat_map, AllByRecursion}
use Rattle.std.specs.Str.{bytes_eq}
use Rattle.std.proofs.lemmas.Bool.{eqb-true, eq-eqb, cases_lt}
use Rattle.std.proofs.lemmas.Option.{slice_get_within, get_or_from_slice_get}
use Rattle.tta_list.proofs.Tests.{and_left, and_right}
use Rattle.tta_roundtrip.specs.Cited.{Declared, named_in, Units, named, first_at, AreDistinct, OpId, Src, Var, Word, Step, Copy, Apply, Load, Store, Put, Take, If, Goto, When, Invoke, Return, Halt, End, is_over, Form, LabelForm, Unlinked, Plain, IfTo, GotoTo, CallTo, var_number, src_of, srcs_of, vars_after, op_id, apply_step, step_of, has_twice, Said, label_in, vars_said, labels_said, steps_said, label_names, is_target}
use Rattle.tta_tac.specs.Grammar.{step_lines}
use Rattle.tta_pretty.specs.Printed.{var_name, label_name, proc_name, op_name}
use Rattle.tta_roundtrip.specs.Readable.{in_src, mentions, are_in_order}
use Rattle.tta_roundtrip.proofs.Names.{bytes_apart, labels_apart}
use Rattle.tta_roundtrip.proofs.Forms.{said, all_said}
use Rattle.tta_roundtrip.proofs.Said.{step_said, steps_form, numbered_from}
use Rattle.tta_roundtrip.proofs.Operations.{IsOperation, operation_of}
use Rattle.tta_roundtrip.proofs.Variables.{vars, named_var, order_rises, between, all_known, step_appears}
use Rattle.tta_list.proofs.Lists.{same_bytes as bytes_self}

-- a step with its label and callee as names
abbrev pub unlinked : (main : ℕ) → Step → Unlinked
unlinked main (If rel a b to) = IfTo rel a b (label_name to)
unlinked main (Goto to) = GotoTo (label_name to)
unlinked main (Invoke d callee args) = CallTo d (proc_name main callee) args
unlinked main step = Plain step

-- ---- operations by name

distinct_rest : (name : List ℕ) (names : List (List ℕ)) → AreDistinct (name ∷ names) → AreDistinct names
distinct_rest name names apart = λ i j less below same. apart (suc i) (suc j) (omega arith) (omega arith) same

first_there : (names : List (List ℕ)) (k i : ℕ) → AreDistinct names → i < length names → first_at (get_or names i []) k names ≡ Some (k + i)
first_there [] k i apart below = absurd (omega arith)
first_there (n ∷ ns) k zero apart below = ap (λ b. if b then Some k else first_at n (k + 1) ns) (bytes_self n) ∙ ap Some (let e : k ≡ k + zero = omega arith in e)
first_there (n ∷ ns) k (suc i) apart below =
    let other : bytes_eq n (get_or ns i []) ≡ false = bytes_apart n (get_or ns i []) (λ same. apart 0 (suc i) (omega arith) below same) in
    ap (λ b. if b then Some k else first_at (get_or ns i []) (k + 1) ns) other
    ∙ first_there ns (k + 1) i (distinct_rest n ns apart) (omega arith)
    ∙ ap Some (let e : (k + 1) + i ≡ k + suc i = omega arith in e)

pub op_named : (u : Units) (op : OpId) → op.0 < length u.names → named u (op_name u op) ≡ Some op.0
op_named u op below = first_there u.names 0 op.0 u.distinct below ∙ ap Some (let e : 0 + op.0 ≡ op.0 = omega arith in e)

op_same : (u : Units) (op : OpId) → op.0 < length u.names → op_id u (op_name u op) ≡ op
op_same u op below = ap (λ o. record { 0 = option_map_or (λ x. x) o 0 }) (op_named u op below)

-- ---- operands

-- all variables are known
abbrev pub AreKnown : (n : ℕ) → List ℕ → Type 0
AreKnown n xs = AllByRecursion (λ x. x < n) xs

known_left : (n : ℕ) (xs ys : List ℕ) → AreKnown n (xs ++ ys) → AreKnown n xs
known_left n [] ys all = tt
known_left n (x ∷ xs) ys all = (all.0, known_left n xs ys all.1)

known_right : (n : ℕ) (xs ys : List ℕ) → AreKnown n (xs ++ ys) → AreKnown n ys
known_right n [] ys all = all
known_right n (x ∷ xs) ys all = known_right n xs ys all.1

var_same : (n x : ℕ) → n ≤ 4096 → x < n → var_number (vars n) (var_name x) ≡ x
var_same n x few less = ap (λ o. option_map_or (λ k. k) o 0) (named_var n 0 x (omega arith) (omega arith) (omega arith))

src_same : (n : ℕ) (s : Src) → n ≤ 4096 → AreKnown n (in_src s) → src_of (vars n) (said s) ≡ s
src_same n (Var x) few known = ap Var (var_same n x few known.0)
src_same n (Word w) few known = refl

srcs_same : (n : ℕ) (ss : List Src) → n ≤ 4096 → AreKnown n (flat_map in_src ss) → srcs_of (vars n) (all_said ss) ≡ ss
srcs_same n [] few known = refl
srcs_same n (s ∷ ss) few known =
    ap (λ x. x ∷ srcs_of (vars n) (all_said ss)) (src_same n s few (known_left n (in_src s) (flat_map in_src ss) known))
    ∙ ap (λ xs. s ∷ xs) (srcs_same n ss few (known_right n (in_src s) (flat_map in_src ss) known))

-- ---- steps

apply_same : (u : Units) (n d : ℕ) (op : OpId) (a b : Src) → IsOperation u op a b → n ≤ 4096 → d < n → AreKnown n (in_src a ++ in_src b)
    → apply_step u (vars n) (var_number (vars n) (var_name d)) (op_name u op) (if get_or u.arities op.0 0 == 2 then said a ∷ said b ∷ [] else said b ∷ []) ≡ Plain (Apply d op a b)
apply_same u n d op a b o few less known = by (get_or u.arities op.0 0 == 2) refl o.fits where
  same_d : var_number (vars n) (var_name d) ≡ d
  same_d = var_same n d few less

  same_op : op_id u (op_name u op) ≡ op
  same_op = op_same u op (let w = slice_get_within u.arities op.0 o.arity o.there in omega (arith, u.paired))

  same_a : src_of (vars n) (said a) ≡ a
  same_a = src_same n a few (known_left n (in_src a) (in_src b) known)

  same_b : src_of (vars n) (said b) ≡ b
  same_b = src_same n b few (known_right n (in_src a) (in_src b) known)

  arity : get_or u.arities op.0 0 ≡ o.arity
  arity = get_or_from_slice_get u.arities op.0 o.arity 0 o.there

  by : (two : Bool) → (get_or u.arities op.0 0 == 2) ≡ two → (o.arity ≡ 2) ⊎ ((o.arity ≡ 1) × (a ≡ Word 0))
      → apply_step u (vars n) (var_number (vars n) (var_name d)) (op_name u op) (if two then said a ∷ said b ∷ [] else said b ∷ []) ≡ Plain (Apply d op a b)
  by true is fits = rw (same_d, same_op, same_a, same_b) refl
  by false is (inl wrong) = let two : (get_or u.arities op.0 0 == 2) ≡ true = eq-eqb (get_or u.arities op.0 0) 2 (arity ∙ wrong) in absurd cc
  by false is (inr right) = rw (same_d, same_op, same_b, right.1) refl

pub step_same : (u : Units) (main n : ℕ) (step : Step) → is_over u step ≡ true → n ≤ 4096 → AreKnown n (mentions step)
    → step_of u (vars n) (step_said u main step) ≡ Some (unlinked main step)
step_same u main n (Copy d s) over few known = rw (var_same n d few known.0, src_same n s few known.1) refl
step_same u main n (Apply d op a b) over few known = ap Some (apply_same u n d op a b (operation_of u d op a b over) few known.0 known.1)
step_same u main n (Load d a) over few known = rw (var_same n d few known.0, src_same n a few known.1) refl
step_same u main n (Store a v) over few known = rw (src_same n a few (known_left n (in_src a) (in_src v) known), src_same n v few (known_right n (in_src a) (in_src v) known)) refl
step_same u main n (Put v) over few known = rw (src_same n v few known) refl
step_same u main n (Take d) over few known = rw (var_same n d few known.0) refl
step_same u main n (If rel a b to) over few known = rw (src_same n a few (known_left n (in_src a) (in_src b) known), src_same n b few (known_right n (in_src a) (in_src b) known)) refl
step_same u main n (Goto to) over few known = refl
step_same u main n (When rel a b d s) over few known =
    let more = known_right n (in_src a) (in_src b ++ (d ∷ in_src s)) known in
    let last = known_right n (in_src b) (d ∷ in_src s) more in
    rw (src_same n a few (known_left n (in_src a) (in_src b ++ (d ∷ in_src s)) known), src_same n b few (known_left n (in_src b) (d ∷ in_src s) more), var_same n d few last.0, src_same n s few last.1) refl
step_same u main n (Invoke (Some d) callee args) over few known = rw (var_same n d few known.0, srcs_same n args few known.1) refl
step_same u main n (Invoke None callee args) over few known = rw (srcs_same n args few known) refl
step_same u main n (Return (Some s)) over few known = rw (src_same n s few known) refl
step_same u main n (Return None) over few known = refl
step_same u main n Halt over few known = refl
step_same u main n End over few known = refl

-- a printed step is no label
label_none : (u : Units) (main : ℕ) (step : Step) → label_in (step_said u main step) ≡ None
label_none u main (Copy d s) = refl
label_none u main (Apply d op a b) = refl
label_none u main (Load d a) = refl
label_none u main (Store a v) = refl
label_none u main (Put v) = refl
label_none u main (Take d) = refl
label_none u main (If rel a b to) = refl
label_none u main (Goto to) = refl
label_none u main (When rel a b d s) = refl
label_none u main (Invoke (Some d) callee args) = refl
label_none u main (Invoke None callee args) = refl
label_none u main (Return (Some s)) = refl
label_none u main (Return None) = refl
label_none u main Halt = refl
label_none u main End = refl

-- ---- the steps of a procedure

-- steps that are in order from so many variables on to so many
abbrev pub in_steps : (k n : ℕ) → List Step → Bool
in_steps k n steps = are_in_order k n (flat_map mentions steps)

-- the labels of the steps from the j-th on
abbrev pub labels_of : (all : List Step) (j : ℕ) → List Step → Declared ℕ
labels_of all j [] = []
labels_of all j (step ∷ steps) = if is_target all j then (label_name j, j) ∷ labels_of all (j + 1) steps else labels_of all (j + 1) steps

abbrev pub names_of : (all : List Step) (j : ℕ) → List Step → List (List ℕ)
names_of all j [] = []
names_of all j (step ∷ steps) = if is_target all j then label_name j ∷ names_of all (j + 1) steps else names_of all (j + 1) steps

module _ (u : Units) (main : ℕ) (all : List Step) where
  -- the line of a step, after its label if it has one
  abbrev pub after_label : (b : Bool) (line : ℕ) → ℕ
  after_label b line = if b then line + 1 else line

  -- how the lines of steps begin
  abbrev pub begun : (b : Bool) (line j : ℕ) → (form : Form) → List Form → List Said
  begun b line j form rest = if b then (line, LabelForm (label_name j)) ∷ (line + 1, form) ∷ numbered_from ((line + 1) + 1) rest else (line, form) ∷ numbered_from (line + 1) rest

  pub begins : (line j : ℕ) (step : Step) (steps : List Step)
      → numbered_from line (steps_form u main all j (step ∷ steps)) ≡ begun (is_target all j) line j (step_said u main step) (steps_form u main all (j + 1) steps)
  begins line j step steps = by (is_target all j) where
    by : (b : Bool) → numbered_from line ((if b then LabelForm (label_name j) ∷ [] else []) ++ (step_said u main step ∷ steps_form u main all (j + 1) steps)) ≡ begun b line j (step_said u main step) (steps_form u main all (j + 1) steps)
    by true = refl
    by false = refl

  pub vars_in : (k n line j : ℕ) (steps : List Step) → list_all (is_over u) steps ≡ true → in_steps k n steps ≡ true → n ≤ 4096
      → vars_said (vars k) (numbered_from line (steps_form u main all j steps)) ≡ vars n
  vars_in k n line j [] over e few = ap vars (eqb-true k n e)
  vars_in k n line j (step ∷ steps) over e few =
      let b = between k n (mentions step) (flat_map mentions steps) e in
      let up = order_rises b.mid n (flat_map mentions steps) b.second in
      let here = step_appears u main k b.mid step (and_left (is_over u step) (list_all (is_over u) steps) over) b.first (omega arith) in
      ap (vars_said (vars k)) (begins line j step steps)
      ∙ by (is_target all j) b.mid here (λ l. vars_in b.mid n l (j + 1) steps (and_right (is_over u step) (list_all (is_over u) steps) over) b.second few)
    where
      by : (t : Bool) (mid : ℕ) → vars_after (vars k) (step_said u main step) ≡ vars mid → ((l : ℕ) → vars_said (vars mid) (numbered_from l (steps_form u main all (j + 1) steps)) ≡ vars n)
          → vars_said (vars k) (begun t line j (step_said u main step) (steps_form u main all (j + 1) steps)) ≡ vars n
      by true mid here rest = ap (λ v. vars_said v (numbered_from ((line + 1) + 1) (steps_form u main all (j + 1) steps))) here ∙ rest ((line + 1) + 1)
      by false mid here rest = ap (λ v. vars_said v (numbered_from (line + 1) (steps_form u main all (j + 1) steps))) here ∙ rest (line + 1)

  pub steps_in : (k n line j : ℕ) (steps : List Step) → list_all (is_over u) steps ≡ true → in_steps k n steps ≡ true → n ≤ 4096
      → steps_said u (vars k) (numbered_from line (steps_form u main all j steps)) ≡ map (unlinked main) steps
  steps_in k n line j [] over e few = refl
  steps_in k n line j (step ∷ steps) over e few =
      let b = between k n (mentions step) (flat_map mentions steps) e in
      let up = order_rises b.mid n (flat_map mentions steps) b.second in
      let over_here = and_left (is_over u step) (list_all (is_over u) steps) over in
      let here = step_appears u main k b.mid step over_here b.first (omega arith) in
      let same = step_same u main b.mid step over_here (omega arith) (all_known k b.mid (mentions step) b.first) in
      ap (steps_said u (vars k)) (begins line j step steps)
      ∙ by (is_target all j) b.mid here same (λ l. steps_in b.mid n l (j + 1) steps (and_right (is_over u step) (list_all (is_over u) steps) over) b.second few)
    where
      one : (mid l : ℕ) → vars_after (vars k) (step_said u main step) ≡ vars mid → step_of u (vars mid) (step_said u main step) ≡ Some (unlinked main step)
          → steps_said u (vars mid) (numbered_from (l + 1) (steps_form u main all (j + 1) steps)) ≡ map (unlinked main) steps
          → steps_said u (vars k) ((l, step_said u main step) ∷ numbered_from (l + 1) (steps_form u main all (j + 1) steps)) ≡ unlinked main step ∷ map (unlinked main) steps
      one mid l here same rest =
          ap (λ v. option_to_list (step_of u v (step_said u main step)) ++ steps_said u v (numbered_from (l + 1) (steps_form u main all (j + 1) steps))) here
          ∙ ap (λ o. option_to_list o ++ steps_said u (vars mid) (numbered_from (l + 1) (steps_form u main all (j + 1) steps))) same
          ∙ ap (λ xs. unlinked main step ∷ xs) rest

      by : (t : Bool) (mid : ℕ) → vars_after (vars k) (step_said u main step) ≡ vars mid → step_of u (vars mid) (step_said u main step) ≡ Some (unlinked main step)
          → ((l : ℕ) → steps_said u (vars mid) (numbered_from l (steps_form u main all (j + 1) steps)) ≡ map (unlinked main) steps)
          → steps_said u (vars k) (begun t line j (step_said u main step) (steps_form u main all (j + 1) steps)) ≡ unlinked main step ∷ map (unlinked main) steps
      by true mid here same rest = one mid (line + 1) here same (rest ((line + 1) + 1))
      by false mid here same rest = one mid line here same (rest (line + 1))

  pub labels_in : (line j : ℕ) (steps : List Step) → labels_said j (numbered_from line (steps_form u main all j steps)) ≡ labels_of all j steps
  labels_in line j [] = refl
  labels_in line j (step ∷ steps) = ap (labels_said j) (begins line j step steps) ∙ by (is_target all j) (λ l. labels_in l (j + 1) steps) where
    one : (l : ℕ) → labels_said (j + 1) (numbered_from (l + 1) (steps_form u main all (j + 1) steps)) ≡ labels_of all (j + 1) steps
        → labels_said j ((l, step_said u main step) ∷ numbered_from (l + 1) (steps_form u main all (j + 1) steps)) ≡ labels_of all (j + 1) steps
    one l rest =
        ap (λ o. option_map_or (λ name. (name, j) ∷ labels_said j (numbered_from (l + 1) (steps_form u main all (j + 1) steps))) o (labels_said (j + 1) (numbered_from (l + 1) (steps_form u main all (j + 1) steps)))) (label_none u main step)
        ∙ rest

    by : (t : Bool) → ((l : ℕ) → labels_said (j + 1) (numbered_from l (steps_form u main all (j + 1) steps)) ≡ labels_of all (j + 1) steps)
        → labels_said j (begun t line j (step_said u main step) (steps_form u main all (j + 1) steps)) ≡ (if t then (label_name j, j) ∷ labels_of all (j + 1) steps else labels_of all (j + 1) steps)
    by true rest = ap (λ xs. (label_name j, j) ∷ xs) (one (line + 1) (rest ((line + 1) + 1)))
    by false rest = one line (rest (line + 1))

  pub names_in : (line j : ℕ) (steps : List Step) → label_names (numbered_from line (steps_form u main all j steps)) ≡ names_of all j steps
  names_in line j [] = refl
  names_in line j (step ∷ steps) = ap label_names (begins line j step steps) ∙ by (is_target all j) (λ l. names_in l (j + 1) steps) where
    one : (l : ℕ) → label_names (numbered_from (l + 1) (steps_form u main all (j + 1) steps)) ≡ names_of all (j + 1) steps
        → label_names ((l, step_said u main step) ∷ numbered_from (l + 1) (steps_form u main all (j + 1) steps)) ≡ names_of all (j + 1) steps
    one l rest =
        ap (λ o. option_map_or (λ name. name ∷ label_names (numbered_from (l + 1) (steps_form u main all (j + 1) steps))) o (label_names (numbered_from (l + 1) (steps_form u main all (j + 1) steps)))) (label_none u main step)
        ∙ rest

    by : (t : Bool) → ((l : ℕ) → label_names (numbered_from l (steps_form u main all (j + 1) steps)) ≡ names_of all (j + 1) steps)
        → label_names (begun t line j (step_said u main step) (steps_form u main all (j + 1) steps)) ≡ (if t then label_name j ∷ names_of all (j + 1) steps else names_of all (j + 1) steps)
    by true rest = ap (λ xs. label_name j ∷ xs) (one (line + 1) (rest ((line + 1) + 1)))
    by false rest = one line (rest (line + 1))

  pub lines_in : (line j : ℕ) (steps : List Step) → length (step_lines (numbered_from line (steps_form u main all j steps))) ≡ length steps
  lines_in line j [] = refl
  lines_in line j (step ∷ steps) = ap (λ xs. length (step_lines xs)) (begins line j step steps) ∙ by (is_target all j) (λ l. lines_in l (j + 1) steps) where
    one : (l : ℕ) → length (step_lines (numbered_from (l + 1) (steps_form u main all (j + 1) steps))) ≡ length steps
        → length (step_lines ((l, step_said u main step) ∷ numbered_from (l + 1) (steps_form u main all (j + 1) steps))) ≡ suc (length steps)
    one l rest =
        ap (λ o. length (option_map_or (λ name. step_lines (numbered_from (l + 1) (steps_form u main all (j + 1) steps))) o (l ∷ step_lines (numbered_from (l + 1) (steps_form u main all (j + 1) steps))))) (label_none u main step)
        ∙ ap suc rest

    by : (t : Bool) → ((l : ℕ) → length (step_lines (numbered_from l (steps_form u main all (j + 1) steps))) ≡ length steps)
        → length (step_lines (begun t line j (step_said u main step) (steps_form u main all (j + 1) steps))) ≡ suc (length steps)
    by true rest = one (line + 1) (rest ((line + 1) + 1))
    by false rest = one line (rest (line + 1))

-- ---- labels

labels_small : (all : List Step) (j to : ℕ) (steps : List Step) → to < j → j + length steps < 2 ^ 32 → list_any (λ other. bytes_eq other (label_name to)) (names_of all j steps) ≡ false
labels_small all j to [] low small = refl
labels_small all j to (step ∷ steps) low small = by (is_target all j) (labels_small all (j + 1) to steps (omega arith) (omega arith)) where
  by : (t : Bool) → list_any (λ other. bytes_eq other (label_name to)) (names_of all (j + 1) steps) ≡ false
      → list_any (λ other. bytes_eq other (label_name to)) (if t then label_name j ∷ names_of all (j + 1) steps else names_of all (j + 1) steps) ≡ false
  by true rest = ap (λ b. b || list_any (λ other. bytes_eq other (label_name to)) (names_of all (j + 1) steps)) (labels_apart j to (omega arith) (omega arith) (λ e. omega arith)) ∙ rest
  by false rest = rest

-- no label stands twice
pub labels_once : (all : List Step) (j : ℕ) (steps : List Step) → j + length steps < 2 ^ 32 → has_twice (names_of all j steps) ≡ false
labels_once all j [] small = refl
labels_once all j (step ∷ steps) small = by (is_target all j) (labels_once all (j + 1) steps (omega arith)) where
  by : (t : Bool) → has_twice (names_of all (j + 1) steps) ≡ false → has_twice (if t then label_name j ∷ names_of all (j + 1) steps else names_of all (j + 1) steps) ≡ false
  by true rest = ap (λ b. b || has_twice (names_of all (j + 1) steps)) (labels_small all (j + 1) j steps (omega arith) (omega arith)) ∙ rest
  by false rest = rest

-- a step that is named has its label
pub label_found : (all : List Step) (j to : ℕ) (steps : List Step) → is_target all to ≡ true → j ≤ to → to < j + length steps → j + length steps < 2 ^ 32 → named_in (labels_of all j steps) (label_name to) ≡ Some to
label_found all j to [] target low high small = absurd (omega arith)
label_found all j to (step ∷ steps) target low high small = elim (cases_lt j to) [ inl less ↦ before (is_target all j) less (label_found all (j + 1) to steps target (omega arith) (omega arith) (omega arith)) | inr past ↦ here (omega arith) ] where
  before : (t : Bool) → j < to → named_in (labels_of all (j + 1) steps) (label_name to) ≡ Some to → named_in (if t then (label_name j, j) ∷ labels_of all (j + 1) steps else labels_of all (j + 1) steps) (label_name to) ≡ Some to
  before true less rest = ap (λ b. if b then Some j else named_in (labels_of all (j + 1) steps) (label_name to)) (labels_apart j to (omega arith) (omega arith) (λ e. omega arith)) ∙ rest
  before false less rest = rest

  here : j ≡ to → named_in (if is_target all j then (label_name j, j) ∷ labels_of all (j + 1) steps else labels_of all (j + 1) steps) (label_name to) ≡ Some to
  here same =
      ap (λ b. named_in (if b then (label_name j, j) ∷ labels_of all (j + 1) steps else labels_of all (j + 1) steps) (label_name to)) (ap (is_target all) same ∙ target)
      ∙ ap (λ b. if b then Some j else named_in (labels_of all (j + 1) steps) (label_name to)) (ap (λ y. bytes_eq (label_name y) (label_name to)) same ∙ bytes_self (label_name to)) ∙ ap Some same
