-- What holds of a program after each line that was read, so that it keeps the rules once it is whole.
use Rattle.std.specs.Prelude.{◌≡◌, ℕ, ◌+◌, ◌<◌, ◌≤◌, Bool, true, false, ◌&&◌, nat_lt, List, [], ◌∷◌, ◌++◌, length, Some, slice_get, codes, option_to_list}
use Rattle.std.specs.Str.{bytes_eq}
use Rattle.std.specs.Option.{option_map_or, IfSome}
use Rattle.std.specs.List.{list_all, list_any, sum_by, AllByRecursion}
use Rattle.tta_tac.specs.Cited.{named_in, End, Proc, is_src, is_datum, are_apart}
use Rattle.tta_program.specs.Rules.{is_step}
use Rattle.tta_tac.specs.Text.{with_main}
use Rattle.tta_tac.specs.Draft.{Unlinked, Plain, IfTo, GotoTo, CallTo, ProcDraft, Draft}

-- ---- steps

-- a procedure with so many variables and no steps
abbrev pub bare : (vars : ℕ) → Proc
bare vars = record { params = 0; vars = vars; steps = []; lines = [] }

-- a step of a procedure with so many variables; one that names nothing neither branches nor calls
abbrev pub is_unlinked : (vars : ℕ) → Unlinked → Bool
is_unlinked vars (Plain s) = is_step (with_main [] 0) (bare vars) s
is_unlinked vars (IfTo rel a b label) = is_src vars a && is_src vars b
is_unlinked vars (GotoTo label) = true
is_unlinked vars (CallTo d callee args) = option_map_or (λ x. nat_lt x vars) d true && list_all (is_src vars) args

-- whether a step is an `end`
abbrev pub is_end_step : Unlinked → Bool
is_end_step (Plain End) = true
is_end_step step = false

-- whether the last step is End, and no other is
abbrev pub closes_once : List Unlinked → Bool
closes_once [] = false
closes_once (Plain End ∷ []) = true
closes_once (Plain End ∷ steps) = false
closes_once (step ∷ steps) = closes_once steps

-- ---- procedures

-- a procedure, whether it has ended or not
pub record IsProcDraft (q : ProcDraft) : Type 0 where
  pub params : q.params ≤ 8
  pub vars : length q.vars ≤ 4096
  pub among : q.params ≤ length q.vars
  pub numbers : (name : List ℕ) (k : ℕ) → named_in q.vars name ≡ Some k → k < length q.vars
  pub steps : list_all (is_unlinked (length q.vars)) q.steps ≡ true
  pub lines : length q.lines ≡ length q.steps

-- one that has not: a label may stand after the last step so far
pub record IsOpen (q : ProcDraft) : Type 0 where
  pub draft : IsProcDraft q
  pub labels : (name : List ℕ) (k : ℕ) → named_in q.labels name ≡ Some k → k ≤ length q.steps
  pub no_end : list_any is_end_step q.steps ≡ false

-- one that has ended
pub record IsEnded (q : ProcDraft) : Type 0 where
  pub draft : IsProcDraft q
  pub labels : (name : List ℕ) (k : ℕ) → named_in q.labels name ≡ Some k → k < length q.steps
  pub ends : closes_once q.steps ≡ true

-- ---- programs

-- the procedures with the one that has not ended, in the order of the text
abbrev pub all_procs : Draft → List ProcDraft
all_procs d = d.procs ++ option_to_list d.begun

-- Each procedure has its line and a line for each step, and each datum its line; each name is that of one procedure;
-- main has no parameters; no two data have one address.
pub record IsKept (d : Draft) : Type 0 where
  pub most : d.lines ≤ 65536
  pub lines : sum_by (λ q. length q.steps) (all_procs d) + length (all_procs d) + length d.init ≤ d.lines
  pub ended : AllByRecursion IsEnded d.procs
  pub begun : IfSome d.begun IsOpen
  pub names : (name : List ℕ) (k : ℕ) → named_in d.names name ≡ Some k → k < length (all_procs d)
  pub once : (a b : List ℕ) (k : ℕ) → named_in d.names a ≡ Some k → named_in d.names b ≡ Some k → bytes_eq a b ≡ true
  pub main : (k : ℕ) (q : ProcDraft) → named_in d.names (codes "main") ≡ Some k → slice_get (all_procs d) k ≡ Some q → q.params ≡ 0
  pub init : list_all is_datum d.init ≡ true
  pub apart : are_apart d.init ≡ true
