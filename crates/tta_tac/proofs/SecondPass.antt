-- Steps and procedures that get their numbers one after the other.
use Rattle.std.proofs.Common.{◌≡◌, ℕ, suc, zero, ◌+◌, ◌<◌, List, [], ◌∷◌, ◌++◌, length, get_or, drop, Result, Ok, Err, refl, sym, ◌∙◌, ap, append_assoc, subst, arith}
use Rattle.std.specs.Prelude.{slice_get, ◌≤◌}
use Rattle.std.specs.Option.{option_map_or}
use Rattle.std.specs.List.{AllByRecursion}
use Rattle.std.proofs.lemmas.Option.{slice_get_read, slice_get_past}
use Rattle.std.proofs.lemmas.List.{at_drop_more}
use Rattle.tta_tac.specs.Cited.{Declared, at_line, Step, Proc}
use Rattle.tta_parse.specs.Steps.{◌>>=◌}
use Rattle.tta_tac.specs.declared.draft.NamedStep.{NamedStep}
use Rattle.tta_tac.specs.declared.draft.DraftProc.{DraftProc}
use Rattle.tta_tac.specs.declared.refusal.Refusal.{Refusal}
use Rattle.tta_tac.specs.Draft.{Draft, ProcDraft, step_seen, steps_seen, proc_seen, procs_seen}
use Rattle.tta_tac.specs.Kept.{IsEnded}
use Rattle.tta_tac.specs.declared.refusal.TacError.{TacError}
use Rattle.tta_tac.specs.declared.refusal.TacError.TheVariants as tac_error
use Rattle.tta_tac.specs.Reported.{Reports}
use Rattle.tta_tac.specs.SecondPass.{Refused, params_of, link_step, link_steps, link_proc, link_procs}

-- a procedure's parameters, by the code's procedures
pub params_seen : (procs : List DraftProc) (k : ℕ) → params_of (procs_seen procs) k ≡ option_map_or (λ q. q.params) (slice_get procs k) 0
params_seen [] k = refl
params_seen (q ∷ procs) zero = refl
params_seen (q ∷ procs) (suc k) = params_seen procs k

pub params_there : (procs : List DraftProc) (k : ℕ) (q : DraftProc) → k < length procs → q ≡ get_or procs k q
    → q.params ≡ params_of (procs_seen procs) k
params_there procs k q below is =
    sym (params_seen procs k ∙ ap (λ o. option_map_or (λ q. q.params) o 0) (slice_get_read procs (length procs) k q refl below is))

pub params_missing : (procs : List DraftProc) (k : ℕ) → length procs ≤ k → 0 ≡ params_of (procs_seen procs) k
params_missing procs k past = sym (params_seen procs k ∙ ap (λ o. option_map_or (λ q. q.params) o 0) (slice_get_past procs k past))

-- what comes after what was made
abbrev pub put_after : {A : Type 0} → List A → Result (List A) Refused → Result (List A) Refused
put_after done (Ok rest) = Ok (done ++ rest)
put_after done (Err e) = Err e

behind_one : {A : Type 0} (done : List A) (x : A) (r : Result (List A) Refused)
    → put_after done (r >>= λ rest. Ok (x ∷ rest)) ≡ put_after (done ++ x ∷ []) r
behind_one done x (Ok rest) = ap Ok (sym (append_assoc done (x ∷ []) rest))
behind_one done x (Err e) = refl

module _ (d : Draft) (labels : Declared ℕ) (steps : List NamedStep) (lines : List ℕ) where
  -- the steps of the procedure from the one of this number on, or the first refusal among them
  abbrev pub steps_from : ℕ → Result (List Step) Refused
  steps_from k = link_steps d labels (steps_seen (drop k steps)) (drop k lines)

  step_from : (k : ℕ) (s : NamedStep) → k < length steps → length lines ≡ length steps
      → steps_from k ≡ link_steps d labels (step_seen (get_or steps k s) ∷ steps_seen (drop (k + 1) steps)) (get_or lines k 0 ∷ drop (k + 1) lines)
  step_from k s below same =
      at_drop_more (λ ss. link_steps d labels (steps_seen ss) (drop k lines)) steps k s below
      ∙ at_drop_more (λ ls. link_steps d labels (step_seen (get_or steps k s) ∷ steps_seen (drop (k + 1) steps)) ls) lines k 0 (subst (λ n. k < n) (sym same) below)

  -- the next step is made or refused
  step_next : (k : ℕ) (s : NamedStep) (done : List Step) (r : Result Step Refusal) → k < length steps → length lines ≡ length steps → s ≡ get_or steps k s
      → r ≡ link_step d labels (step_seen s)
      → put_after done (steps_from k) ≡ put_after done (at_line (get_or lines k 0) r >>= λ first. steps_from (k + 1) >>= λ rest. Ok (first ∷ rest))
  step_next k s done r below same is made =
      ap (λ r. put_after done r) (step_from k s below same
      ∙ ap (λ r. at_line (get_or lines k 0) r >>= λ first. steps_from (k + 1) >>= λ rest. Ok (first ∷ rest))
      (ap (λ y. link_step d labels (step_seen y)) (sym is) ∙ sym made))

  pub steps_more : (k : ℕ) (s : NamedStep) (done : List Step) (x : Step) → k < length steps → length lines ≡ length steps → s ≡ get_or steps k s
      → Ok x ≡ link_step d labels (step_seen s)
      → put_after done (steps_from k) ≡ put_after (done ++ x ∷ []) (steps_from (k + 1))
  steps_more k s done x below same is made = step_next k s done (Ok x) below same is made ∙ behind_one done x (steps_from (k + 1))

module _ (d : Draft) (procs : List DraftProc) where
  -- the procedures of the text from the one of this number on, or the first refusal among them
  abbrev pub procs_from : ℕ → Result (List Proc) Refused
  procs_from k = link_procs d (procs_seen (drop k procs))

  -- the next procedure is made or refused
  proc_next : (k : ℕ) (q : DraftProc) (done : List Proc) (r : Result Proc Refused) → k < length procs → q ≡ get_or procs k q
      → link_proc d (proc_seen q) ≡ r
      → put_after done (procs_from k) ≡ put_after done (r >>= λ first. procs_from (k + 1) >>= λ rest. Ok (first ∷ rest))
  proc_next k q done r below is made =
      ap (λ r. put_after done r) (at_drop_more (λ qs. link_procs d (procs_seen qs)) procs k q below
      ∙ ap (λ r. r >>= λ first. procs_from (k + 1) >>= λ rest. Ok (first ∷ rest))
      (ap (λ y. link_proc d (proc_seen y)) (sym is) ∙ made))

  pub procs_more : (k : ℕ) (q : DraftProc) (done : List Proc) (x : Proc) → k < length procs → q ≡ get_or procs k q
      → link_proc d (proc_seen q) ≡ Ok x
      → put_after done (procs_from k) ≡ put_after (done ++ x ∷ []) (procs_from (k + 1))
  procs_more k q done x below is made = proc_next k q done (Ok x) below is made ∙ behind_one done x (procs_from (k + 1))

  pub procs_refused : (k : ℕ) (q : DraftProc) (done : List Proc) (e : Refused) → k < length procs → q ≡ get_or procs k q
      → link_proc d (proc_seen q) ≡ Err e
      → put_after done (procs_from k) ≡ Err e
  procs_refused k q done e below is made = proc_next k q done (Err e) below is made

-- each of the code's procedures keeps what all of them keep
pub ended_at : (procs : List DraftProc) (k : ℕ) (q : DraftProc) → AllByRecursion IsEnded (procs_seen procs) → k < length procs
    → q ≡ get_or procs k q → IsEnded (proc_seen q)
ended_at [] k q all below is = absurd (omega arith)
ended_at (p ∷ procs) zero q all below is = subst (λ x. IsEnded (proc_seen x)) (sym is) all.0
ended_at (p ∷ procs) (suc k) q all below is = ended_at procs k q all.1 (omega arith) is

-- what is reported of a procedure is reported of all
pub procs_reported : (d : Draft) (procs : List DraftProc) (k : ℕ) (q : DraftProc) (done : List Proc) (e : TacError) → k < length procs
    → q ≡ get_or procs k q → Reports {A = Proc} (Err e) (link_proc d (proc_seen q))
    → link_procs d (procs_seen procs) ≡ put_after done (procs_from d procs k) → Reports {A = List Proc} (Err e) (link_procs d (procs_seen procs))
procs_reported d procs k q done tac_error.NoMemory below is reported inv = tt
procs_reported d procs k q done (tac_error.Refused line code) below is reported inv =
    (reported.0, reported.1, inv ∙ procs_refused d procs k q done (line, reported.0) below is reported.2)

-- a procedure is refused as its steps are, and else has them
pub proc_reported : (d : Draft) (q : ProcDraft) (e : TacError) → Reports {A = List Step} (Err e) (link_steps d q.labels q.steps q.lines)
    → Reports {A = Proc} (Err e) (link_proc d q)
proc_reported d q tac_error.NoMemory reported = tt
proc_reported d q (tac_error.Refused line code) reported = (reported.0, reported.1, rw reported.2 refl)

pub proc_linked : (d : Draft) (q : ProcDraft) (steps : List Step) → link_steps d q.labels q.steps q.lines ≡ Ok steps
    → link_proc d q ≡ Ok (record { params = q.params; vars = length q.vars; steps = steps; lines = q.lines })
proc_linked d q steps made = rw made refl
