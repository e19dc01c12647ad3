-- What a line does to a draft where none of its tests refuses it.
use Rattle.std.proofs.Common.{◌≡◌, ℕ, ◌+◌, Bool, true, false, List, [], ◌∷◌, ◌++◌, length, refl, ap, ◌∙◌, sym}
use Rattle.std.specs.Prelude.{◌||◌, ◌&&◌, nat_lt, Option, Some, None, Result, Ok, Err, is_some, codes}
use Rattle.std.specs.Str.{bytes_eq}
use Rattle.std.specs.Option.{option_map_or}
use Rattle.tta_tac.specs.Cited.{Declared, named_in, refuse_if, Units}
use Rattle.tta_parse.proofs.Steps.{refuse_if-ok}
use Rattle.tta_tac.specs.declared.refusal.Refusal.{Refusal}
use Rattle.tta_tac.specs.declared.refusal.Refusal.TheVariants.{UnknownOp, Arity, TooMany}
use Rattle.tta_tac.specs.declared.draft.DraftProc.{DraftProc}
use Rattle.tta_tac.specs.Forms.{Form}
use Rattle.tta_tac.specs.declared.draft.NamedStep.{NamedStep}
use Rattle.tta_tac.specs.declared.draft.Draft.{Draft as CodeDraft}
use Rattle.tta_tac.specs.Draft.{Unlinked, ProcDraft, Draft, proc_seen, procs_seen, step_seen, draft_seen}
use Rattle.tta_tac.specs.FirstPass.{vars_after, lacks_op, has_wrong_arity, has_many_args, is_full, step_of, is_end, close_if, with_step, take_step, take_proc, with_fresh, has_twice, stepped}
use Rattle.tta_tac.proofs.Seen.{steps_seen_append, procs_seen_length}

last_or : (a b : Bool) → (a || b || true) ≡ true
last_or true b = refl
last_or false true = refl
last_or false false = refl

module _ (u : Units) (d : Draft) (q : ProcDraft) (line : ℕ) (f : Form) (x : Unit {0})
    (checked : Result (Unit {0}) Refusal) (checks : checked ≡ refuse_if (lacks_op u f) UnknownOp (refuse_if (has_wrong_arity u f) Arity (Ok x)))
    (passes : checked ≡ Ok x) where
  -- its variables are too many
  pub take_step_many : (vars : Declared ℕ) → vars ≡ vars_after q.vars f → nat_lt 4096 (length vars) ≡ true
      → take_step u d q line f ≡ Err TooMany
  take_step_many vars e many =
      let first = refuse_if-ok (lacks_op u f) UnknownOp (refuse_if (has_wrong_arity u f) Arity (Ok x)) x (sym checks ∙ passes) in
      let second = refuse_if-ok (has_wrong_arity u f) Arity (Ok x) x first.1 in
      let test : nat_lt 4096 (length (vars_after q.vars f)) ≡ true = ap (λ v. nat_lt 4096 (length v)) (sym e) ∙ many in
      rw (first.0, second.0, test, last_or (is_full d) (has_many_args f)) refl

  -- it is taken
  pub take_step_taken : (vars : Declared ℕ) (s : Unlinked) → vars ≡ vars_after q.vars f → is_full d ≡ false
      → has_many_args f ≡ false → nat_lt 4096 (length vars) ≡ false → Some s ≡ step_of u vars f
      → take_step u d q line f ≡ Ok (close_if (is_end f) (record d { lines = d.lines + 1 }) (with_step q vars s line))
  take_step_taken vars s e full args many step =
      let first = refuse_if-ok (lacks_op u f) UnknownOp (refuse_if (has_wrong_arity u f) Arity (Ok x)) x (sym checks ∙ passes) in
      let second = refuse_if-ok (has_wrong_arity u f) Arity (Ok x) x first.1 in
      rw (← e) (rw (first.0, second.0, full, args, many, ← step) refl)

-- a step that is taken, of the code's values
pub step_added : (d : Draft) (f : Form) (q : DraftProc) (line : ℕ) (vars : Declared ℕ) (step : NamedStep)
    (steps : List NamedStep) (lines : List ℕ) → steps ≡ q.steps ++ step ∷ [] → lines ≡ q.lines ++ line ∷ []
    → stepped d f (with_step (proc_seen q) vars (step_seen step) line)
    ≡ stepped d f (proc_seen (record q { vars = vars; steps = steps; lines = lines }))
step_added d f q line vars step steps lines e1 e2 = rw (e1, e2, steps_seen_append q.steps step) refl

-- a procedure that begins, of the code's values
pub begins : (d : CodeDraft) (q : DraftProc) (seen : ProcDraft) (name : List ℕ) (names : Declared ℕ) (number : ℕ)
    → names ≡ d.names ++ (name, number) ∷ [] → number ≡ length d.procs → proc_seen q ≡ seen
    → record (draft_seen d) { names = d.names ++ (name, length (procs_seen d.procs)) ∷ []; begun = Some seen; lines = d.lines + 1 }
    ≡ draft_seen (record d { names = names; begun = Some q; lines = d.lines + 1 })
begins d q seen name names number e1 e2 e3 = rw (e1, e2, ← e3, procs_seen_length d.procs) refl

-- no procedure has begun
pub none_begun : (o : Option DraftProc) (test : Bool) → test ≡ is_some o → test ≡ false → is_some (option_map_or (λ q. Some (proc_seen q)) o None) ≡ false
none_begun None test is e = refl
none_begun (Some q) test is e = cc

pub not_begun : (o : Option DraftProc) (test : Bool) → test ≡ is_some o → test ≡ false → option_map_or (λ q. Some (proc_seen q)) o None ≡ None
not_begun None test is e = refl
not_begun (Some q) test is e = cc

-- a procedure has begun
pub some_begun : (o : Option DraftProc) (test : Bool) → test ≡ is_some o → test ≡ true
    → (q : ProcDraft) × option_map_or (λ q. Some (proc_seen q)) o None ≡ Some q
some_begun None test is e = cc
some_begun (Some q) test is e = (proc_seen q, refl)

pub take_proc_taken : (d : Draft) (line : ℕ) (name : List ℕ) (params : List (List ℕ)) → is_some d.begun ≡ false
    → (bytes_eq name (codes "main") && nat_lt 0 (length params)) ≡ false
    → (is_some (named_in d.names name) || has_twice params) ≡ false → is_full d ≡ false → nat_lt 8 (length params) ≡ false
    → take_proc d line name params ≡ Ok (with_fresh d line name params)
take_proc_taken d line name params begun main twice full many = rw (begun, main, twice, full, many) refl
