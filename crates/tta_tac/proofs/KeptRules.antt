-- A draft that was kept right gives a program that keeps the rules.
use Rattle.std.proofs.Common.{◌≡◌, ℕ, suc, zero, ◌+◌, ◌<◌, ◌≤◌, ◌≢◌, Bool, true, false, List, [], ◌∷◌, ◌++◌, length, Option, Some, None, Ok, refl, sym, ◌∙◌, ap, subst, arith, append-nil, inl, inr, ◌⊎◌}
use Rattle.std.specs.Prelude.{◌==◌, not, slice_get, codes, option_to_list}
use Rattle.std.specs.Option.{option_map_or}
use Rattle.std.specs.Str.{bytes_eq}
use Rattle.std.specs.List.{AllByRecursion, sum_by}
use Rattle.std.proofs.lemmas.Bool.{and_from, eqb-true, eq-eqb}
use Rattle.std.proofs.lemmas.Bool.Decides.{eqb_tells}
use Rattle.std.proofs.lemmas.List.Sums.{sum_by-cons}
use Rattle.std.proofs.Math.Dec.{eqb}
use Rattle.tta_tac.specs.Cited.{Declared, named_in, or_refuse, refuse_if, Src, Step, Proc, DataLine, Program, is_call, IsProc, IsProgram, Reaches, ByCall, ByMore}
use Rattle.tta_parse.proofs.Steps.{then-ok}
use Rattle.tta_tac.specs.declared.refusal.Refusal.TheVariants.{UnknownProc}
use Rattle.tta_tac.specs.Draft.{Draft, ProcDraft}
use Rattle.tta_tac.specs.SecondPass.{callee_named, params_of, link_steps, link_proc, link_procs}
use Rattle.tta_tac.specs.Text.{with_main}
use Rattle.tta_tac.specs.Cycles.{IsAcyclic}
use Rattle.tta_tac.specs.Kept.{IsEnded, all_procs, IsKept}
use Rattle.tta_tac.proofs.Finished.{procs_cons, linked_length}
use Rattle.tta_tac.proofs.LinkedSteps.{steps_length, ends_kept, steps_kept}

-- what was made of a procedure
pub proc_ok : (d : Draft) (q : ProcDraft) (r : Proc) → link_proc d q ≡ Ok r
    → (steps : List Step) × (link_steps d q.labels q.steps q.lines ≡ Ok steps)
    × (r ≡ record { params = q.params; vars = length q.vars; steps = steps; lines = q.lines })
proc_ok d q r e =
    let c = then-ok (link_steps d q.labels q.steps q.lines) _ r e in
    let same : record { params = q.params; vars = length q.vars; steps = c.0; lines = q.lines } ≡ r = cc c.2 in
    (c.0, c.1, sym same)

-- what a test says of a draft's number of parameters it says of the procedure's
procs_params : (d : Draft) (test : ℕ → Bool) (qs : List ProcDraft) (procs : List Proc) (k : ℕ) → link_procs d qs ≡ Ok procs → k < length qs
    → test (params_of qs k) ≡ true → option_map_or (λ q. test q.params) (slice_get procs k) false ≡ true
procs_params d test [] procs k e below h = absurd (omega arith)
procs_params d test (q ∷ qs) procs zero e below h =
    let c = procs_cons d q qs procs e in
    ap (λ ps. option_map_or (λ q. test q.params) (slice_get ps zero) false) (sym c.4)
    ∙ ap (λ r. test r.params) (proc_ok d q c.0 c.2).2 ∙ h
procs_params d test (q ∷ qs) procs (suc k) e below h =
    let c = procs_cons d q qs procs e in
    ap (λ ps. option_map_or (λ q. test q.params) (slice_get ps (suc k)) false) (sym c.4)
    ∙ procs_params d test qs c.1 k c.3 (omega arith) h

-- as many steps are made as there were
procs_steps : (d : Draft) (qs : List ProcDraft) (procs : List Proc) → AllByRecursion IsEnded qs → link_procs d qs ≡ Ok procs
    → sum_by (λ q. length q.steps) procs ≡ sum_by (λ q. length q.steps) qs
procs_steps d [] procs all e = let none : [] ≡ procs = cc in ap (λ ps. sum_by (λ q. length q.steps) ps) (sym none)
procs_steps d (q ∷ qs) procs all e =
    let c = procs_cons d q qs procs e in
    let made = proc_ok d q c.0 c.2 in
    let size : length c.0.steps ≡ length q.steps = ap (λ r. length r.steps) made.2 ∙ steps_length d q.labels q.steps q.lines made.0 all.0.draft.lines made.1 in
    ap (λ ps. sum_by (λ q. length q.steps) ps) (sym c.4)
    ∙ sum_by-cons (λ q. length q.steps) c.0 c.1
    ∙ ap (λ n. n + sum_by (λ q. length q.steps) c.1) size
    ∙ ap (λ n. length q.steps + n) (procs_steps d qs c.1 all.1 c.3)
    ∙ sym (sum_by-cons (λ q. length q.steps) q qs)

module _ (d : Draft) (p : Program)
    (callee : (name : List ℕ) (k : ℕ) (args : List Src) → callee_named d.names name ≡ Ok k → (params_of d.procs k == length args) ≡ true
    → is_call p k args ≡ true) where
  proc_kept : (q : ProcDraft) (r : Proc) → IsEnded q → link_proc d q ≡ Ok r → IsProc p r
  proc_kept q r h e =
      let c = proc_ok d q r e in
      let size = steps_length d q.labels q.steps q.lines c.0 h.draft.lines c.1 in
      let made : Proc = record { params = q.params; vars = length q.vars; steps = c.0; lines = q.lines } in
      let target : (name : List ℕ) (k : ℕ) → named_in q.labels name ≡ Some k → k < length c.0
      = λ name k at. subst (λ n. k < n) (sym size) (h.labels name k at) in
      subst (λ r. IsProc p r) (sym c.2) (record {
        params = h.draft.params;
        vars = h.draft.vars;
        among = h.draft.among;
        steps = steps_kept d q.labels p made target callee q.steps q.lines c.0 h.draft.lines h.draft.steps c.1;
        ends = ends_kept d q.labels q.steps q.lines c.0 h.draft.lines c.1 ∙ h.ends;
        lines = h.draft.lines ∙ sym size;
      })

  procs_kept : (qs : List ProcDraft) (procs : List Proc) → AllByRecursion IsEnded qs → link_procs d qs ≡ Ok procs → AllByRecursion (IsProc p) procs
  procs_kept [] procs all e = let none : [] ≡ procs = cc in subst (λ ps. AllByRecursion (IsProc p) ps) none tt
  procs_kept (q ∷ qs) procs all e =
      let c = procs_cons d q qs procs e in
      subst (λ ps. AllByRecursion (IsProc p) ps) c.4 (proc_kept q c.0 all.0 c.2, procs_kept qs c.1 all.1 c.3)

-- a call names a procedure that is there, and not main
called : (names : Declared ℕ) (name : List ℕ) (k : ℕ) → callee_named names name ≡ Ok k
    → (bytes_eq name (codes "main") ≡ false) × (named_in names name ≡ Some k)
called names name k e = by (bytes_eq name (codes "main")) (named_in names name) e where
  by : (t : Bool) (o : Option ℕ) → refuse_if t UnknownProc (or_refuse UnknownProc o) ≡ Ok k → (t ≡ false) × (o ≡ Some k)
  by true o e = absurd cc
  by false None e = absurd cc
  by false (Some j) e = let same : j ≡ k = cc in (refl, ap Some same)

-- who is main, and what data there are, makes no difference to calls
other_main : (procs : List Proc) (main : ℕ) (init : List DataLine) (i j : ℕ)
    → Reaches (record { procs = procs; main = main; init = init }) i j → Reaches (with_main procs 0) i j
other_main procs main init i j (ByCall _ _ e) = ByCall i j e
other_main procs main init i j (ByMore _ via _ e r) = ByMore i via j e (other_main procs main init via j r)

-- ---- programs

-- the program of a draft in which no procedure is left open
pub keeps_rules : (d : Draft) (procs : List Proc) (main : ℕ) → IsKept d → d.begun ≡ None → link_procs d d.procs ≡ Ok procs
    → named_in d.names (codes "main") ≡ Some main → IsAcyclic procs
    → IsProgram (record { procs = procs; main = main; init = d.init })
keeps_rules d procs main kept ended link named acyclic = record {
  lines =
      let size = linked_length d d.procs procs link in
      let sum = procs_steps d d.procs procs kept.ended link in
      let few = subst (λ qs. sum_by (λ q. length q.steps) qs + length qs + length d.init ≤ d.lines) whole kept.lines in
      let most = kept.most in
      omega arith;
  procs = procs_kept d program callee d.procs procs kept.ended link;
  main = procs_params d (λ n. n == 0) d.procs procs main link (there (codes "main") main named) no_params;
  acyclic = λ k r. acyclic k (other_main procs main d.init k k r);
  init = kept.init;
  apart = kept.apart;
} where
  program : Program
  program = record { procs = procs; main = main; init = d.init }

  whole : all_procs d ≡ d.procs
  whole = ap (λ o. d.procs ++ option_to_list o) ended ∙ append-nil d.procs

  there : (name : List ℕ) (k : ℕ) → named_in d.names name ≡ Some k → k < length d.procs
  there name k at = subst (λ qs. k < length qs) whole (kept.names name k at)

  no_params : (params_of d.procs main == 0) ≡ true
  no_params = by (slice_get d.procs main) refl where
    by : (o : Option ProcDraft) → slice_get d.procs main ≡ o → (option_map_or (λ q. q.params) o 0 == 0) ≡ true
    by None at = refl
    by (Some q) at = eq-eqb q.params 0 (kept.main main q named (ap (λ qs. slice_get qs main) whole ∙ at))

  callee : (name : List ℕ) (k : ℕ) (args : List Src) → callee_named d.names name ≡ Ok k → (params_of d.procs k == length args) ≡ true
      → is_call program k args ≡ true
  callee name k args at test =
      let c = called d.names name k at in
      and_from (not (k == main)) _ (other c.0 c.1 (eqb_tells k main))
      (procs_params d (λ n. length args == n) d.procs procs k link (there name k c.1)
      (eq-eqb (length args) (params_of d.procs k) (sym (eqb-true (params_of d.procs k) (length args) test)))) where
        other : bytes_eq name (codes "main") ≡ false → named_in d.names name ≡ Some k
            → ((eqb k main ≡ true) × (k ≡ main)) ⊎ ((eqb k main ≡ false) × (k ≢ main)) → not (k == main) ≡ true
        other not_main at (inl t) =
            let is_main = kept.once name (codes "main") k at (named ∙ ap Some (sym t.1)) in
            absurd cc
        other not_main at (inr t) = ap not t.0
