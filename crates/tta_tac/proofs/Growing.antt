-- A draft whose last procedure has one step more.
use Rattle.std.proofs.Common.{◌≡◌, ℕ, suc, zero, ◌+◌, ◌<◌, ◌≤◌, true, List, [], ◌∷◌, ◌++◌, length, Some, None, refl, sym, ◌∙◌, ap, subst, arith, length-append, append-nil, inl, inr, ◌⊎◌, lit≤}
use Rattle.std.specs.Prelude.{◌&&◌, slice_get, codes, option_to_list}
use Rattle.std.specs.List.{list_all, sum_by, AllByRecursion}
use Rattle.std.proofs.lemmas.Bool.{and_from}
use Rattle.std.proofs.lemmas.List.Folds.{list_all-append}
use Rattle.std.proofs.lemmas.List.Sums.{sum_by-cons, sum_by-append}
use Rattle.tta_tac.specs.Cited.{Declared, named_in}
use Rattle.tta_tac.specs.Draft.{Unlinked, ProcDraft, Draft, nothing}
use Rattle.tta_tac.specs.FirstPass.{with_step}
use Rattle.tta_tac.specs.Kept.{is_unlinked, IsProcDraft, IsOpen, IsEnded, all_procs, IsKept}
use Rattle.tta_tac.proofs.VariableLists.{IsNumbered, Grows}
use Rattle.tta_tac.proofs.StepsKept.{all_more}

-- how many steps there are with one procedure more
pub sum_last : (qs : List ProcDraft) (q : ProcDraft)
    → sum_by (λ q. length q.steps) (qs ++ q ∷ []) ≡ sum_by (λ q. length q.steps) qs + length q.steps
sum_last qs q = let e = sum_by-append (λ q. length q.steps) qs (q ∷ []) in let f = sum_by-cons (λ q. length q.steps) q [] in omega arith

-- the procedure at a place, with one more after the others
pub get_last : (qs : List ProcDraft) (q : ProcDraft) (k : ℕ) (r : ProcDraft) → slice_get (qs ++ q ∷ []) k ≡ Some r
    → (slice_get qs k ≡ Some r) ⊎ ((k ≡ length qs) × (q ≡ r))
get_last [] q zero r e = let same : q ≡ r = cc in inr (refl, same)
get_last [] q (suc k) r e = absurd cc
get_last (p ∷ qs) q zero r e = inl e
get_last (p ∷ qs) q (suc k) r e = by (get_last qs q k r e) where
  by : (slice_get qs k ≡ Some r) ⊎ ((k ≡ length qs) × (q ≡ r)) → (slice_get qs k ≡ Some r) ⊎ ((suc k ≡ length (p ∷ qs)) × (q ≡ r))
  by (inl at) = inl at
  by (inr at) = inr (ap suc at.0, at.1)

-- and where the others and the new one stand
get_front : (qs : List ProcDraft) (q : ProcDraft) (k : ℕ) (r : ProcDraft) → slice_get qs k ≡ Some r → slice_get (qs ++ q ∷ []) k ≡ Some r
get_front [] q k r e = absurd cc
get_front (p ∷ qs) q zero r e = e
get_front (p ∷ qs) q (suc k) r e = get_front qs q k r e

get_new : (qs : List ProcDraft) (q : ProcDraft) → slice_get (qs ++ q ∷ []) (length qs) ≡ Some q
get_new [] q = refl
get_new (p ∷ qs) q = get_new qs q

all_last : (qs : List ProcDraft) (q : ProcDraft) → AllByRecursion IsEnded qs → IsEnded q → AllByRecursion IsEnded (qs ++ q ∷ [])
all_last [] q h k = (k, tt)
all_last (p ∷ qs) q h k = (h.0, all_last qs q h.1 k)

-- before the first line
pub nothing_kept : IsKept nothing
nothing_kept = record {
  most = lit≤ tt;
  lines = lit≤ tt;
  ended = tt;
  begun = tt;
  names = λ name k e. absurd cc;
  once = λ a b k e f. absurd cc;
  main = λ k q e f. absurd cc;
  init = refl;
  apart = refl;
}

-- ---- one more step

pub with_step_kept : (q : ProcDraft) (vars : Declared ℕ) (s : Unlinked) (line : ℕ) → IsProcDraft q → Grows q.vars vars → length vars ≤ 4096
    → is_unlinked (length vars) s ≡ true → IsProcDraft (with_step q vars s line)
with_step_kept q vars s line h g few fit = record {
  params = h.params;
  vars = few;
  among = let a = h.among in let b = g.longer in omega arith;
  numbers = let before : IsNumbered q.vars = record { below = h.numbers } in let n = g.numbered before in n.below;
  steps =
      list_all-append (is_unlinked (length vars)) q.steps (s ∷ [])
      ∙ and_from (list_all (is_unlinked (length vars)) q.steps) (is_unlinked (length vars) s && true)
      (all_more (length q.vars) (length vars) g.longer q.steps h.steps) (and_from (is_unlinked (length vars) s) true fit refl);
  lines =
      let a = h.lines in
      let b = length-append q.lines (line ∷ []) in
      let c = length-append q.steps (s ∷ []) in
      omega arith;
}

-- a draft whose last procedure has become another with one step more
module _ (d : Draft) (q new : ProcDraft) (kept : IsKept d) (begun : d.begun ≡ Some q) (room : d.lines < 65536)
    (params : new.params ≡ q.params) (size : length new.steps ≤ length q.steps + 1) where
  all_are : all_procs d ≡ d.procs ++ q ∷ []
  all_are = ap (λ o. d.procs ++ option_to_list o) begun

  next_lines : sum_by (λ q. length q.steps) (d.procs ++ new ∷ []) + length (d.procs ++ new ∷ []) + length d.init ≤ d.lines + 1
  next_lines =
      let before = subst (λ qs. sum_by (λ q. length q.steps) qs + length qs + length d.init ≤ d.lines) all_are kept.lines in
      let a = sum_last d.procs q in
      let b = sum_last d.procs new in
      let c = length-append d.procs (q ∷ []) in
      let e = length-append d.procs (new ∷ []) in
      omega arith

  next_names : (name : List ℕ) (k : ℕ) → named_in d.names name ≡ Some k → k < length (d.procs ++ new ∷ [])
  next_names name k at =
      let before = subst (λ qs. k < length qs) all_are (kept.names name k at) in
      let c = length-append d.procs (q ∷ []) in
      let e = length-append d.procs (new ∷ []) in
      omega arith

  next_main : (k : ℕ) (r : ProcDraft) → named_in d.names (codes "main") ≡ Some k → slice_get (d.procs ++ new ∷ []) k ≡ Some r → r.params ≡ 0
  next_main k r named at = by (get_last d.procs new k r at) where
    by : (slice_get d.procs k ≡ Some r) ⊎ ((k ≡ length d.procs) × (new ≡ r)) → r.params ≡ 0
    by (inl e) = kept.main k r named (ap (λ qs. slice_get qs k) all_are ∙ get_front d.procs q k r e)
    by (inr e) =
        ap (λ x. x.params) (sym e.1) ∙ params
        ∙ kept.main k q named (ap (λ qs. slice_get qs k) all_are ∙ ap (slice_get (d.procs ++ q ∷ [])) e.0 ∙ get_new d.procs q)

  -- the procedure goes on, or has ended
  pub open_kept : IsOpen new → IsKept (record d { begun = Some new; lines = d.lines + 1 })
  open_kept h = record {
    most = omega arith;
    lines = next_lines;
    ended = kept.ended;
    begun = h;
    names = next_names;
    once = kept.once;
    main = next_main;
    init = kept.init;
    apart = kept.apart;
  }

  pub ended_kept : IsEnded new → IsKept (record d { procs = d.procs ++ new ∷ []; begun = None; lines = d.lines + 1 })
  ended_kept h =
      let whole : all_procs (record d { procs = d.procs ++ new ∷ []; begun = None; lines = d.lines + 1 }) ≡ d.procs ++ new ∷ []
      = append-nil (d.procs ++ new ∷ []) in
      record {
        most = omega arith;
        lines = subst (λ qs. sum_by (λ q. length q.steps) qs + length qs + length d.init ≤ d.lines + 1) (sym whole) next_lines;
        ended = all_last d.procs new kept.ended h;
        begun = tt;
        names = λ name k at. subst (λ qs. k < length qs) (sym whole) (next_names name k at);
        once = kept.once;
        main = λ k r named at. next_main k r named (sym (ap (λ qs. slice_get qs k) whole) ∙ at);
        init = kept.init;
        apart = kept.apart;
      }
