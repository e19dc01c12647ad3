-- A program while its text is read: variables get their numbers at their first appearance, labels and callees are
-- still names.
use Rattle.std.specs.Prelude.{ℕ, List, [], ◌∷◌, Option, Some, None}
use Rattle.std.specs.Option.{option_map_or}
use Rattle.tta_tac.specs.Cited.{Declared, Src, Step, DataLine, Rel}
use Rattle.tta_tac.specs.declared.draft.NamedStep.{NamedStep}
use Rattle.tta_tac.specs.declared.draft.NamedStep.TheVariants as code_step
use Rattle.tta_tac.specs.declared.draft.DraftProc.{DraftProc as CodeProc}
use Rattle.tta_tac.specs.declared.draft.Draft.{Draft as CodeDraft}

-- a step whose label or callee is still a name
pub data Unlinked : Type 0 where
  Plain : Step → Unlinked
  IfTo : (rel : Rel) (a b : Src) (label : List ℕ) → Unlinked
  GotoTo : (label : List ℕ) → Unlinked
  CallTo : (d : Option ℕ) (callee : List ℕ) (args : List Src) → Unlinked

-- a procedure: the line of its `proc`, its parameters, its variables and labels with their numbers, and its steps with
-- their lines
pub record ProcDraft : Type 0 where
  pub line : ℕ
  pub params : ℕ
  pub vars : Declared ℕ
  pub labels : Declared ℕ
  pub steps : List Unlinked
  pub lines : List ℕ

-- the procedures by name, those that have ended, the one that has not, the data, and how many lines were not blank
pub record Draft : Type 0 where
  pub names : Declared ℕ
  pub procs : List ProcDraft
  pub begun : Option ProcDraft
  pub init : List DataLine
  pub lines : ℕ

-- before the first line
abbrev pub nothing : Draft
nothing = record { names = []; procs = []; begun = None; init = []; lines = 0 }

-- ---- the same, of the code's values

-- a step
abbrev pub step_seen : NamedStep → Unlinked
step_seen (code_step.Plain step) = Plain step
step_seen (code_step.If rel a b label) = IfTo rel a b label.now
step_seen (code_step.Goto label) = GotoTo label.now
step_seen (code_step.Call d callee args) = CallTo d callee.now args

-- the steps of a procedure
abbrev pub steps_seen : List NamedStep → List Unlinked
steps_seen [] = []
steps_seen (s ∷ ss) = step_seen s ∷ steps_seen ss

-- a procedure
abbrev pub proc_seen : CodeProc → ProcDraft
proc_seen q = record { line = q.line; params = q.params; vars = q.vars; labels = q.labels; steps = steps_seen q.steps; lines = q.lines }

-- the procedures of a draft
abbrev pub procs_seen : List CodeProc → List ProcDraft
procs_seen [] = []
procs_seen (q ∷ qs) = proc_seen q ∷ procs_seen qs

-- a draft
abbrev pub draft_seen : CodeDraft → Draft
draft_seen d = record {
  names = d.names;
  procs = procs_seen d.procs;
  begun = option_map_or (λ q. Some (proc_seen q)) d.begun None;
  init = d.init;
  lines = d.lines;
}
