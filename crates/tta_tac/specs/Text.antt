-- Which program a text is, and where it is refused.
use Rattle.std.specs.Prelude.{◌≡◌, ℕ, ◌+◌, ◌<◌, List, [], ◌∷◌, Option, Some, None, slice_get, Result, Ok, Err, codes}
use Rattle.std.specs.Option.{option_map_or}
use Rattle.tta_tac.specs.Cited.{Line, lines_of, named_in, at_line, Units, Proc, Program, Reaches}
use Rattle.tta_parse.specs.Steps.{◌>>=◌}
use Rattle.tta_tac.specs.declared.refusal.Refusal.{Refusal}
use Rattle.tta_tac.specs.declared.refusal.Refusal.TheVariants.{Syntax, Recursive, NoMain}
use Rattle.tta_tac.specs.declared.refusal.TacError.{TacError}
use Rattle.tta_tac.specs.declared.refusal.TacError.TheVariants as tac_error
use Rattle.tta_tac.specs.Refusals.{code_of}
use Rattle.tta_tac.specs.Draft.{Draft, ProcDraft, nothing}
use Rattle.tta_tac.specs.FirstPass.{take_line}
use Rattle.tta_tac.specs.SecondPass.{Refused, link_procs}

-- the lines from this one on; the first that is refused is reported
abbrev pub take_lines : Units → (line : ℕ) → Draft → List Line → Result Draft Refused
take_lines u line d [] = if_closed d.begun where
  if_closed : Option ProcDraft → Result Draft Refused
  if_closed None = Ok d
  if_closed (Some q) = Err (line, Syntax)
take_lines u line d (words ∷ lines) = at_line line (take_line u line d words) >>= λ next. take_lines u (line + 1) next lines

-- what both passes make of a text: the procedures, with what was known of them before
pub record Linked : Type 0 where
  pub draft : Draft
  pub procs : List Proc

-- what both passes over a text make of it, or its first refusal
unfoldable pub linked_text : Units → List ℕ → Result Linked Refused
linked_text u text =
    take_lines u 1 nothing (lines_of text) >>= λ d. link_procs d d.procs >>= λ procs. Ok (record { draft = d; procs = procs })

-- the procedures, and which of them is main; without data
abbrev pub with_main : List Proc → ℕ → Program
with_main procs main = record { procs = procs; main = main; init = [] }

-- the first procedure that leads back to itself by calls. Who is main makes no difference to that.
pub record IsFirstRecursive (procs : List Proc) (k : ℕ) : Type 0 where
  pub returns : Reaches (with_main procs 0) k k
  pub first : (j : ℕ) → j < k → Reaches (with_main procs 0) j j → ⊥

-- the text is this program
pub record ProgramText (u : Units) (text : List ℕ) (p : Program) : Type 0 where
  pub linked : Linked
  pub passes : linked_text u text ≡ Ok linked
  pub procs : p.procs ≡ linked.procs
  pub main : named_in linked.draft.names (codes "main") ≡ Some p.main
  pub init : p.init ≡ linked.draft.init
  pub acyclic : (k : ℕ) → Reaches (with_main linked.procs 0) k k → ⊥

-- the text is refused because of a procedure that leads back to itself: reported at the line of its `proc`
pub record IsRecursive (u : Units) (text : List ℕ) (line : ℕ) : Type 0 where
  pub linked : Linked
  pub passes : linked_text u text ≡ Ok linked
  pub proc : ℕ
  pub first : IsFirstRecursive linked.procs proc
  pub there : option_map_or (λ q. Some q.line) (slice_get linked.draft.procs proc) None ≡ Some line

-- the text is refused because it has no main
pub record LacksMain (u : Units) (text : List ℕ) : Type 0 where
  pub linked : Linked
  pub passes : linked_text u text ≡ Ok linked
  pub acyclic : (k : ℕ) → Reaches (with_main linked.procs 0) k k → ⊥
  pub no_main : named_in linked.draft.names (codes "main") ≡ None

-- the first refusal of a text
pub data IsRefusedAt (u : Units) (text : List ℕ) : (line : ℕ) → Refusal → Type 0 where
  InPasses : (line : ℕ) (refusal : Refusal) → linked_text u text ≡ Err (line, refusal) → IsRefusedAt u text line refusal
  ByRecursion : (line : ℕ) → IsRecursive u text line → IsRefusedAt u text line Recursive
  WithoutMain : LacksMain u text → IsRefusedAt u text 0 NoMain

-- what is reported of a text that is no program; out of memory needs no cause
abbrev pub HasCause : Units → List ℕ → TacError → Type 0
HasCause u text (tac_error.Refused line code) = (refusal : Refusal) × (code ≡ code_of refusal) × IsRefusedAt u text line refusal
HasCause u text tac_error.NoMemory = Unit {0}
