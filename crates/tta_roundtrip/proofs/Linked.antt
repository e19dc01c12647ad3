-- Printed steps with their labels and callees as numbers again.
use Rattle.std.proofs.Common.{◌≡◌, ◌≤◌, ℕ, zero, suc, ◌+◌, ◌<◌, ◌^◌, ◌==◌, Bool, true, false, List, [], ◌∷◌, length, map, refl, sym, ap, ◌∙◌, arith, inl, inr}
use Rattle.std.specs.Prelude.{Option, Some, None, codes, not, nat_lt, ◌&&◌, ◌||◌, if◌then◌else◌, slice_get, Ok}
use Rattle.std.specs.Option.{option_map_or}
use Rattle.std.specs.List.{list_any, list_all, AllByRecursion}
use Rattle.std.specs.Str.{bytes_eq}
use Rattle.std.proofs.lemmas.Bool.{eqb-true, eq-eqb, cases_lt, ltb-true}
use Rattle.std.proofs.lemmas.Option.{slice_get_within}
use Rattle.tta_list.proofs.Tests.{and_left, and_right}
use Rattle.tta_roundtrip.specs.Cited.{Declared, named_in, or_refuse, Units, Src, Step, Copy, Apply, Load, Store, Put, Take, If, Goto, When, Invoke, Return, Halt, End, Proc, Program, IsProc, is_src, is_call, is_step, is_over, UnknownLabel, CallTo, Draft, numbered, has_twice, params_of, link_step, link_steps, link_proc, link_procs, proc_said, vars_said, names}
use Rattle.tta_parse.specs.Steps.{◌>>=◌}
use Rattle.tta_tac.specs.Grammar.{step_lines}
use Rattle.tta_pretty.specs.Printed.{var_name, label_name, proc_name, var_names}
use Rattle.tta_roundtrip.specs.Readable.{is_in_order}
use Rattle.tta_roundtrip.proofs.Names.{procs_apart, main_named, vars_apart}
use Rattle.tta_roundtrip.proofs.Said.{steps_form, numbered_from}
use Rattle.tta_roundtrip.proofs.Nesting.{blocks_form}
use Rattle.tta_roundtrip.proofs.Variables.{vars, vars_length}
use Rattle.tta_roundtrip.proofs.Unlinking.{unlinked, labels_of, label_found, vars_in, steps_in, labels_in, lines_in}
use Rattle.tta_list.proofs.Lists.{any_there as any_from_one, same_bytes as bytes_self}

-- ---- names of procedures

abbrev pub proc_names : (main k count : ℕ) → List (List ℕ)
proc_names main k zero = []
proc_names main k (suc count) = proc_name main k ∷ proc_names main (k + 1) count

pub proc_found : (main count k callee : ℕ) → k ≤ callee → callee < k + count → k + count < 2 ^ 32 → named_in (numbered k (proc_names main k count)) (proc_name main callee) ≡ Some callee
proc_found main zero k callee low high small = absurd (omega arith)
proc_found main (suc count) k callee low high small = elim (cases_lt k callee) [
  | inl less ↦
      ap (λ b. if b then Some k else named_in (numbered (k + 1) (proc_names main (k + 1) count)) (proc_name main callee)) (procs_apart main k callee (omega arith) (omega arith) (λ e. omega arith))
      ∙ proc_found main count (k + 1) callee (omega arith) (omega arith) (omega arith)
  | inr past ↦
      let same : k ≡ callee = omega arith in
      ap (λ b. if b then Some k else named_in (numbered (k + 1) (proc_names main (k + 1) count)) (proc_name main callee)) (ap (λ y. bytes_eq (proc_name main y) (proc_name main callee)) same ∙ bytes_self (proc_name main callee)) ∙ ap Some same
]

pub main_found : (main count k : ℕ) → k ≤ main → main < k + count → named_in (numbered k (proc_names main k count)) (codes "main") ≡ Some main
main_found main zero k low high = absurd (omega arith)
main_found main (suc count) k low high =
    ap (λ b. if b then Some k else named_in (numbered (k + 1) (proc_names main (k + 1) count)) (codes "main")) (main_named main k)
    ∙ by (k == main) refl (main_found main count (k + 1))
  where
    by : (b : Bool) → (k == main) ≡ b → (k + 1 ≤ main → main < (k + 1) + count → named_in (numbered (k + 1) (proc_names main (k + 1) count)) (codes "main") ≡ Some main)
        → (if b then Some k else named_in (numbered (k + 1) (proc_names main (k + 1) count)) (codes "main")) ≡ Some main
    by true e rest = ap Some (eqb-true k main e)
    by false e rest = elim (cases_lt k main) [ inl less ↦ rest (omega arith) (omega arith) | inr past ↦ absurd (let same : (k == main) ≡ true = eq-eqb k main (omega arith) in cc) ]

procs_small : (main count k to : ℕ) → to < k → k + count < 2 ^ 32 → list_any (λ other. bytes_eq other (proc_name main to)) (proc_names main k count) ≡ false
procs_small main zero k to low small = refl
procs_small main (suc count) k to low small =
    ap (λ b. b || list_any (λ other. bytes_eq other (proc_name main to)) (proc_names main (k + 1) count)) (procs_apart main k to (omega arith) (omega arith) (λ e. omega arith))
    ∙ procs_small main count (k + 1) to (omega arith) (omega arith)

pub procs_once : (main count k : ℕ) → k + count < 2 ^ 32 → has_twice (proc_names main k count) ≡ false
procs_once main zero k small = refl
procs_once main (suc count) k small =
    ap (λ b. b || has_twice (proc_names main (k + 1) count)) (procs_small main count (k + 1) k (omega arith) (omega arith)) ∙ procs_once main count (k + 1) (omega arith)

vars_small : (count k to : ℕ) → to < k → k + count < 2 ^ 32 → list_any (λ other. bytes_eq other (var_name to)) (var_names k count) ≡ false
vars_small zero k to low small = refl
vars_small (suc count) k to low small =
    ap (λ b. b || list_any (λ other. bytes_eq other (var_name to)) (var_names (k + 1) count)) (vars_apart k to (omega arith) (omega arith) (λ e. omega arith))
    ∙ vars_small count (k + 1) to (omega arith) (omega arith)

pub vars_once : (count k : ℕ) → k + count < 2 ^ 32 → has_twice (var_names k count) ≡ false
vars_once zero k small = refl
vars_once (suc count) k small =
    ap (λ b. b || has_twice (var_names (k + 1) count)) (vars_small count (k + 1) k (omega arith) (omega arith)) ∙ vars_once count (k + 1) (omega arith)

pub names_length : (count k : ℕ) → length (var_names k count) ≡ count
names_length zero k = refl
names_length (suc count) k = ap suc (names_length count (k + 1))

module _ (u : Units) (main : ℕ) where
  pub block_names : (k line : ℕ) (qs : List Proc) → map (λ b. b.name) (blocks_form u main k line qs) ≡ proc_names main k (length qs)
  block_names k line [] = refl
  block_names k line (q ∷ qs) = ap (λ xs. proc_name main k ∷ xs) (block_names (k + 1) ((line + 1) + length (steps_form u main q.steps 0 q.steps)) qs)

  -- the numbers of parameters stay
  pub block_params : (k line : ℕ) (qs : List Proc) (i : ℕ) → params_of (map (proc_said u) (blocks_form u main k line qs)) i ≡ option_map_or (λ q. q.params) (slice_get qs i) 0
  block_params k line [] i = refl
  block_params k line (q ∷ qs) zero = names_length q.params 0
  block_params k line (q ∷ qs) (suc i) = block_params (k + 1) ((line + 1) + length (steps_form u main q.steps 0 q.steps)) qs i

-- ---- one procedure

-- the lines of a printed procedure's steps
abbrev pub lines_again : Units → (main line : ℕ) → Proc → List ℕ
lines_again u main line q = step_lines (numbered_from (line + 1) (steps_form u main q.steps 0 q.steps))

-- the procedure with these lines
abbrev pub proc_again : Units → (main line : ℕ) → Proc → Proc
proc_again u main line q = record { params = q.params; vars = q.vars; steps = q.steps; lines = lines_again u main line q }

module _ (u : Units) (p : Program) (d : Draft) (named : (callee : ℕ) → callee < length p.procs → named_in d.names (proc_name p.main callee) ≡ Some callee)
    (params : (callee : ℕ) → params_of d.procs callee ≡ option_map_or (λ q. q.params) (slice_get p.procs callee) 0) where
  linked_by : (dst : Option ℕ) (labels : Declared ℕ) (name : List ℕ) (callee : ℕ) (args : List Src) → bytes_eq name (codes "main") ≡ false → named_in d.names name ≡ Some callee
      → (params_of d.procs callee == length args) ≡ true → link_step d labels (CallTo dst name args) ≡ Ok (Invoke dst callee args)
  linked_by dst labels name callee args other there count = rw (other, there, count) refl

  callee_linked : (dst : Option ℕ) (labels : Declared ℕ) (callee : ℕ) (args : List Src) → is_call p callee args ≡ true → link_step d labels (CallTo dst (proc_name p.main callee) args) ≡ Ok (Invoke dst callee args)
  callee_linked dst labels callee args call =
      by (slice_get p.procs callee) refl (and_right (not (callee == p.main)) (option_map_or (λ q. length args == q.params) (slice_get p.procs callee) false) call)
    where
      other : (callee == p.main) ≡ false
      other = no (callee == p.main) (and_left (not (callee == p.main)) (option_map_or (λ q. length args == q.params) (slice_get p.procs callee) false) call) where
        no : (b : Bool) → not b ≡ true → b ≡ false
        no true e = absurd cc
        no false e = refl

      by : (o : Option Proc) → slice_get p.procs callee ≡ o → option_map_or (λ q. length args == q.params) o false ≡ true → link_step d labels (CallTo dst (proc_name p.main callee) args) ≡ Ok (Invoke dst callee args)
      by None there e = absurd cc
      by (Some x) there e =
          let there_name = named callee (slice_get_within p.procs callee x there) in
          let count : (params_of d.procs callee == length args) ≡ true =
          eq-eqb (params_of d.procs callee) (length args) (params callee ∙ ap (λ o. option_map_or (λ q. q.params) o 0) there ∙ sym (eqb-true (length args) x.params e)) in
          linked_by dst labels (proc_name p.main callee) callee args (main_named p.main callee ∙ other) there_name count

  module _ (q : Proc) (short : length q.steps < 2 ^ 32) where
    target_there : (to i : ℕ) (step : Step) → slice_get q.steps i ≡ Some step → names to step ≡ true → nat_lt to (length q.steps) ≡ true → named_in (labels_of q.steps 0 q.steps) (label_name to) ≡ Some to
    target_there to i step there name below =
        let less = ltb-true to (length q.steps) below in
        label_found q.steps 0 to q.steps (any_from_one (names to) q.steps i step there name) (omega arith) (omega arith) (omega arith)

    step_linked : (i : ℕ) (step : Step) → slice_get q.steps i ≡ Some step → is_step p q step ≡ true → link_step d (labels_of q.steps 0 q.steps) (unlinked p.main step) ≡ Ok step
    step_linked i (Copy x s) there ok = refl
    step_linked i (Apply x op a b) there ok = refl
    step_linked i (Load x a) there ok = refl
    step_linked i (Store a v) there ok = refl
    step_linked i (Put v) there ok = refl
    step_linked i (Take x) there ok = refl
    step_linked i (If rel a b to) there ok =
        ap (λ o. or_refuse UnknownLabel o >>= λ k. Ok (If rel a b k)) (target_there to i (If rel a b to) there (eq-eqb to to refl) (and_right (is_src q.vars a && is_src q.vars b) (nat_lt to (length q.steps)) ok))
    step_linked i (Goto to) there ok = ap (λ o. or_refuse UnknownLabel o >>= λ k. Ok (Goto k)) (target_there to i (Goto to) there (eq-eqb to to refl) ok)
    step_linked i (When rel a b x s) there ok = refl
    step_linked i (Invoke x callee args) there ok =
        callee_linked x (labels_of q.steps 0 q.steps) callee args (and_right (option_map_or (λ y. nat_lt y q.vars) x true && list_all (is_src q.vars) args) (is_call p callee args) ok)
    step_linked i (Return s) there ok = refl
    step_linked i Halt there ok = refl
    step_linked i End there ok = refl

    -- steps from the j-th on
    steps_linked : (j : ℕ) (steps : List Step) (lines : List ℕ) → ((i : ℕ) (step : Step) → slice_get steps i ≡ Some step → slice_get q.steps (j + i) ≡ Some step) → list_all (is_step p q) steps ≡ true
        → length lines ≡ length steps → link_steps d (labels_of q.steps 0 q.steps) (map (unlinked p.main) steps) lines ≡ Ok steps
    steps_linked j [] [] within ok count = refl
    steps_linked j [] (line ∷ lines) within ok count = absurd (omega arith)
    steps_linked j (step ∷ steps) [] within ok count = absurd (omega arith)
    steps_linked j (step ∷ steps) (line ∷ lines) within ok count =
        let here = step_linked j step (ap (slice_get q.steps) (let e : j ≡ j + 0 = omega arith in e) ∙ within 0 step refl) (and_left (is_step p q step) (list_all (is_step p q) steps) ok) in
        let rest = steps_linked (j + 1) steps lines (λ i x there. ap (slice_get q.steps) (let e : (j + 1) + i ≡ j + suc i = omega arith in e) ∙ within (suc i) x there) (and_right (is_step p q step) (list_all (is_step p q) steps) ok) (omega arith) in
        rw (here, rest) refl

  -- a procedure
  proc_linked : (k line : ℕ) (q : Proc) → length q.steps < 2 ^ 32 → IsProc p q → list_all (is_over u) q.steps ≡ true → is_in_order q ≡ true
      → link_proc d (proc_said u (record { line = line; name = proc_name p.main k; params = var_names 0 q.params; body = numbered_from (line + 1) (steps_form u p.main q.steps 0 q.steps) })) ≡ Ok (proc_again u p.main line q)
  proc_linked k line q short rules over order =
      let body = numbered_from (line + 1) (steps_form u p.main q.steps 0 q.steps) in
      let steps = steps_in u p.main q.steps q.params q.vars (line + 1) 0 q.steps over order rules.vars in
      let variables = vars_in u p.main q.steps q.params q.vars (line + 1) 0 q.steps over order rules.vars in
      let labels = labels_in u p.main q.steps (line + 1) 0 q.steps in
      let count = lines_in u p.main q.steps (line + 1) 0 q.steps in
      let linked = steps_linked q short 0 q.steps (step_lines body) (λ i step there. ap (slice_get q.steps) (let e : 0 + i ≡ i = omega arith in e) ∙ there) rules.steps count in
      let size : length (vars_said (vars q.params) body) ≡ q.vars = ap length variables ∙ vars_length q.vars in
      let number = names_length q.params 0 in
      rw (labels, steps, linked, size, number) refl

  -- procedures from the k-th on, where the first stands in this line
  abbrev pub procs_again : (line : ℕ) → List Proc → List Proc
  procs_again line [] = []
  procs_again line (q ∷ qs) = proc_again u p.main line q ∷ procs_again ((line + 1) + length (steps_form u p.main q.steps 0 q.steps)) qs

  pub procs_linked : (k line : ℕ) (qs : List Proc) → AllByRecursion (λ q. length q.steps < 2 ^ 32) qs → AllByRecursion (IsProc p) qs → list_all (λ q. list_all (is_over u) q.steps) qs ≡ true → list_all is_in_order qs ≡ true
      → link_procs d (map (proc_said u) (blocks_form u p.main k line qs)) ≡ Ok (procs_again line qs)
  procs_linked k line [] short rules over order = refl
  procs_linked k line (q ∷ qs) short rules over order =
      let here = proc_linked k line q short.0 rules.0 (and_left (list_all (is_over u) q.steps) (list_all (λ q. list_all (is_over u) q.steps) qs) over) (and_left (is_in_order q) (list_all is_in_order qs) order) in
      let rest = procs_linked (k + 1) ((line + 1) + length (steps_form u p.main q.steps 0 q.steps)) qs short.1 rules.1 (and_right (list_all (is_over u) q.steps) (list_all (λ q. list_all (is_over u) q.steps) qs) over) (and_right (is_in_order q) (list_all is_in_order qs) order) in
      rw (here, rest) refl
