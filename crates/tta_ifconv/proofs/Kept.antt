-- A converted program keeps the rules of programs.
use Rattle.std.proofs.Common.{◌≡◌, ◌≤◌, ◌<◌, ◌+◌, ℕ, zero, suc, List, [], ◌∷◌, Some, true, false, length, refl, sym, ap, ◌∙◌, arith, lit≤, inl, inr}
use Rattle.std.specs.Prelude.{◌&&◌, ◌==◌, not, if◌then◌else◌, nat_lt, slice_get}
use Rattle.std.specs.Option.{option_map_or}
use Rattle.std.specs.List.{list_all, list_any, sum_by, AllByRecursion}
use Rattle.std.proofs.lemmas.Bool.{and_from, ltb-true, lt-ltb, eq-eqb, cases_lt}
use Rattle.std.proofs.lemmas.List.Sums.{sum_by-cons}
use Rattle.tta_ifconv.specs.Cited.{AllPairs, Src, Step, Copy, Apply, Load, Store, Put, Take, If, Goto, When, Invoke, Return, Halt, End, Proc, Program, IsProgram, IsProc, is_src, is_call, is_step, is_end, ends_once, calls_proc, calls, Reaches, ByCall, ByMore, is_datum, are_apart}
use Rattle.tta_list.proofs.Lists.{list_all_one, all_from as all_from_each, any_there as any_from_one}
use Rattle.tta_list.proofs.Tests.{and_left, and_right}
use Rattle.tta_ifconv.specs.Triangles.{names, place, joined, renumbered, becomes}
use Rattle.tta_ifconv.specs.Converted.{IsConverted, Converted}
use Rattle.tta_ifconv.proofs.Lists.{one_from_any}
use Rattle.tta_ifconv.proofs.Places.{target_stays, other_stays, no_triangle, place_next, place_below, place_rises, place_least}
use Rattle.tta_ifconv.proofs.Pairs.{BothAt, Neither, Both, both_at}
use Rattle.tta_ifconv.proofs.Origins.{Kind, Joined, Renumbered, kind_of, Origin, origin_of}

-- ---- the last step

-- the last step of a procedure is `end`, and no other is
record EndsAt (steps : List Step) : Type 0 where
  last : ℕ
  count : length steps ≡ suc last
  there : slice_get steps last ≡ Some End
  only : (k : ℕ) (step : Step) → k < last → slice_get steps k ≡ Some step → is_end step ≡ false

-- one more step before
ends_later : (x y : Step) (xs : List Step) → is_end x ≡ false → EndsAt (y ∷ xs) → EndsAt (x ∷ y ∷ xs)
ends_later x y xs other e = record { last = suc e.last; count = ap suc e.count; there = e.there; only = only } where
  only : (k : ℕ) (step : Step) → k < suc e.last → slice_get (x ∷ y ∷ xs) k ≡ Some step → is_end step ≡ false
  only zero step less there = let same : x ≡ step = cc in sym (ap is_end same) ∙ other
  only (suc k) step less there = e.only k step (omega arith) there

ends_by : (x y : Step) (xs : List Step) → (ends_once (y ∷ xs) ≡ true → EndsAt (y ∷ xs)) → ends_once (x ∷ y ∷ xs) ≡ true → EndsAt (x ∷ y ∷ xs)
ends_by End y xs rest e = absurd cc
ends_by (Copy d s) y xs rest e = ends_later _ y xs refl (rest e)
ends_by (Apply d op a b) y xs rest e = ends_later _ y xs refl (rest e)
ends_by (Load d a) y xs rest e = ends_later _ y xs refl (rest e)
ends_by (Store a v) y xs rest e = ends_later _ y xs refl (rest e)
ends_by (Put v) y xs rest e = ends_later _ y xs refl (rest e)
ends_by (Take d) y xs rest e = ends_later _ y xs refl (rest e)
ends_by (If rel a b to) y xs rest e = ends_later _ y xs refl (rest e)
ends_by (Goto to) y xs rest e = ends_later _ y xs refl (rest e)
ends_by (When rel a b d s) y xs rest e = ends_later _ y xs refl (rest e)
ends_by (Invoke d callee args) y xs rest e = ends_later _ y xs refl (rest e)
ends_by (Return s) y xs rest e = ends_later _ y xs refl (rest e)
ends_by Halt y xs rest e = ends_later _ y xs refl (rest e)

ends_alone : (x : Step) → ends_once (x ∷ []) ≡ true → EndsAt (x ∷ [])
ends_alone End e = record { last = zero; count = refl; there = refl; only = λ k step less there. absurd (omega arith) }
ends_alone (Copy d s) e = absurd cc
ends_alone (Apply d op a b) e = absurd cc
ends_alone (Load d a) e = absurd cc
ends_alone (Store a v) e = absurd cc
ends_alone (Put v) e = absurd cc
ends_alone (Take d) e = absurd cc
ends_alone (If rel a b to) e = absurd cc
ends_alone (Goto to) e = absurd cc
ends_alone (When rel a b d s) e = absurd cc
ends_alone (Invoke d callee args) e = absurd cc
ends_alone (Return s) e = absurd cc
ends_alone Halt e = absurd cc

ends_at : (steps : List Step) → ends_once steps ≡ true → EndsAt steps
ends_at [] e = absurd cc
ends_at (x ∷ []) e = ends_alone x e
ends_at (x ∷ y ∷ xs) e = ends_by x y xs (ends_at (y ∷ xs)) e

-- the other way round
pub skip_first : (x y : Step) (xs : List Step) → is_end x ≡ false → ends_once (x ∷ y ∷ xs) ≡ ends_once (y ∷ xs)
skip_first End y xs other = absurd cc
skip_first (Copy d s) y xs other = refl
skip_first (Apply d op a b) y xs other = refl
skip_first (Load d a) y xs other = refl
skip_first (Store a v) y xs other = refl
skip_first (Put v) y xs other = refl
skip_first (Take d) y xs other = refl
skip_first (If rel a b to) y xs other = refl
skip_first (Goto to) y xs other = refl
skip_first (When rel a b d s) y xs other = refl
skip_first (Invoke d callee args) y xs other = refl
skip_first (Return s) y xs other = refl
skip_first Halt y xs other = refl

once_from : (steps : List Step) (last : ℕ) → length steps ≡ suc last → slice_get steps last ≡ Some End
    → ((k : ℕ) (step : Step) → k < last → slice_get steps k ≡ Some step → is_end step ≡ false) → ends_once steps ≡ true
once_from [] last count there only = absurd (omega arith)
once_from (x ∷ []) zero count there only = let same : x ≡ End = cc in ap (λ s. ends_once (s ∷ [])) same
once_from (x ∷ []) (suc last) count there only = absurd (omega arith)
once_from (x ∷ y ∷ xs) zero count there only = absurd (omega arith)
once_from (x ∷ y ∷ xs) (suc last) count there only =
    skip_first x y xs (only zero x (omega arith) refl)
    ∙ once_from (y ∷ xs) last (omega arith) there (λ k step less at. only (suc k) step (omega arith) at)

-- a step is no `end` exactly where it becomes none
end_becomes : (steps : List Step) (i : ℕ) (step : Step) → slice_get steps i ≡ Some step → is_end (becomes steps i step) ≡ is_end step
end_becomes steps i step there = by (kind_of steps i step there) where
  renumbered_end : (number : ℕ → ℕ) (x : Step) → is_end (renumbered number x) ≡ is_end x
  renumbered_end number (If rel a b to) = refl
  renumbered_end number (Goto to) = refl
  renumbered_end number x = refl

  by : Kind steps i step → is_end (becomes steps i step) ≡ is_end step
  by (Joined rel a b d s same copy begins new) = ap is_end new ∙ sym (ap is_end same)
  by (Renumbered other new) = ap is_end new ∙ renumbered_end (place steps) step

converted_ends : (a b : Proc) → IsConverted a b → ends_once a.steps ≡ true → ends_once b.steps ≡ true
converted_ends a b is ends = by (ends_at a.steps ends) where
  by : EndsAt a.steps → ends_once b.steps ≡ true
  by e =
      let stays = other_stays a.steps e.last End e.there refl in
      let plain = no_triangle a.steps e.last End e.there refl in
      let one : e.last + 1 ≡ suc e.last = omega arith in
      let number = place_next a.steps e.last stays in
      let size = is.count ∙ ap (place a.steps) (e.count ∙ sym one) ∙ number in
      once_from b.steps (place a.steps e.last) (omega arith)
      (is.steps e.last End e.there stays ∙ ap (λ x. Some (if x then joined End (slice_get a.steps (e.last + 1)) else renumbered (place a.steps) End)) plain)
      only
    where
      only : (k : ℕ) (step : Step) → k < place a.steps e.last → slice_get b.steps k ≡ Some step → is_end step ≡ false
      only k step less there =
          let o = origin_of a b is k step there in
          let number = o.number in
          let before : o.at < e.last = elim (cases_lt o.at e.last) [ inl l ↦ l | inr past ↦ absurd (let rises = place_rises a.steps e.last o.at past in omega arith) ] in
          sym (ap is_end o.becomes) ∙ end_becomes a.steps o.at o.old o.there ∙ e.only o.at o.old before o.there

-- ---- steps and procedures

module _ (p q : Program) (is : Converted p q) where
  call_kept : (callee : ℕ) (args : List Src) → is_call p callee args ≡ true → is_call q callee args ≡ true
  call_kept callee args call =
      ap (λ m. not (callee == m) && option_map_or (λ x. length args == x.params) (slice_get q.procs callee) false) is.main
      ∙ ap (λ b. not (callee == p.main) && b) (by (both_at p.procs q.procs is.procs callee)) ∙ call
    where
      by : BothAt p.procs q.procs callee → option_map_or (λ x. length args == x.params) (slice_get q.procs callee) false ≡ option_map_or (λ x. length args == x.params) (slice_get p.procs callee) false
      by (Neither left right) = ap (λ o. option_map_or (λ x. length args == x.params) o false) (right ∙ sym left)
      by (Both x y left right pair) =
          ap (λ o. option_map_or (λ z. length args == z.params) o false) right ∙ ap (λ n. length args == n) pair.params
          ∙ sym (ap (λ o. option_map_or (λ z. length args == z.params) o false) left)

  module _ (a b : Proc) (pair : IsConverted a b) where
    target_kept : (to i : ℕ) (step : Step) → slice_get a.steps i ≡ Some step → names to step ≡ true → nat_lt to (length a.steps) ≡ true → nat_lt (place a.steps to) (length b.steps) ≡ true
    target_kept to i step there name below =
        let stays = target_stays a.steps to (any_from_one (names to) a.steps i step there name) in
        let less = place_below a.steps to (length a.steps) stays (ltb-true to (length a.steps) below) in
        lt-ltb _ _ (let n = pair.count in omega arith)

    src_kept : (s : Src) → is_src b.vars s ≡ is_src a.vars s
    src_kept s = ap (λ n. is_src n s) pair.vars

    plain_kept : (i : ℕ) (step : Step) → slice_get a.steps i ≡ Some step → is_step p a step ≡ true → is_step q b (renumbered (place a.steps) step) ≡ true
    plain_kept i (Copy d s) there ok = ap (λ n. nat_lt d n && is_src n s) pair.vars ∙ ok
    plain_kept i (Apply d op x y) there ok = ap (λ n. nat_lt d n && is_src n x && is_src n y) pair.vars ∙ ok
    plain_kept i (Load d x) there ok = ap (λ n. nat_lt d n && is_src n x) pair.vars ∙ ok
    plain_kept i (Store x v) there ok = ap (λ n. is_src n x && is_src n v) pair.vars ∙ ok
    plain_kept i (Put v) there ok = src_kept v ∙ ok
    plain_kept i (Take d) there ok = ap (nat_lt d) pair.vars ∙ ok
    plain_kept i (If rel x y to) there ok =
        and_from (is_src b.vars x && is_src b.vars y) (nat_lt (place a.steps to) (length b.steps))
        (ap (λ n. is_src n x && is_src n y) pair.vars ∙ and_left (is_src a.vars x && is_src a.vars y) (nat_lt to (length a.steps)) ok)
        (target_kept to i (If rel x y to) there (eq-eqb to to refl) (and_right (is_src a.vars x && is_src a.vars y) (nat_lt to (length a.steps)) ok))
    plain_kept i (Goto to) there ok = target_kept to i (Goto to) there (eq-eqb to to refl) ok
    plain_kept i (When rel x y d s) there ok = ap (λ n. is_src n x && is_src n y && nat_lt d n && is_src n s) pair.vars ∙ ok
    plain_kept i (Invoke d callee args) there ok =
        let first = option_map_or (λ x. nat_lt x a.vars) d true && list_all (is_src a.vars) args in
        and_from (option_map_or (λ x. nat_lt x b.vars) d true && list_all (is_src b.vars) args) (is_call q callee args)
        (ap (λ n. option_map_or (λ x. nat_lt x n) d true && list_all (is_src n) args) pair.vars ∙ and_left first (is_call p callee args) ok)
        (call_kept callee args (and_right first (is_call p callee args) ok))
    plain_kept i (Return s) there ok = ap (λ n. option_map_or (is_src n) s true) pair.vars ∙ ok
    plain_kept i Halt there ok = refl
    plain_kept i End there ok = refl

    step_kept : list_all (is_step p a) a.steps ≡ true → (k : ℕ) (step : Step) → slice_get b.steps k ≡ Some step → is_step q b step ≡ true
    step_kept all k step there = by (origin_of a b pair k step there) where
      by : Origin a b k step → is_step q b step ≡ true
      by o = sym (ap (is_step q b) o.becomes) ∙ kind (kind_of a.steps o.at o.old o.there) where
        ok : is_step p a o.old ≡ true
        ok = list_all_one (is_step p a) a.steps o.at o.old all o.there

        kind : Kind a.steps o.at o.old → is_step q b (becomes a.steps o.at o.old) ≡ true
        kind (Renumbered other new) = ap (is_step q b) new ∙ plain_kept o.at o.old o.there ok
        kind (Joined rel x y d s same copy begins new) =
            let branch = sym (ap (is_step p a) same) ∙ ok in
            let first = is_src a.vars x && is_src a.vars y in
            let sources = and_left first (nat_lt (o.at + 2) (length a.steps)) branch in
            let moved = list_all_one (is_step p a) a.steps (o.at + 1) (Copy d s) all copy in
            ap (is_step q b) new ∙ ap (λ n. is_src n x && is_src n y && nat_lt d n && is_src n s) pair.vars
            ∙ and_from (first && nat_lt d a.vars) (is_src a.vars s)
            (and_from first (nat_lt d a.vars) sources (and_left (nat_lt d a.vars) (is_src a.vars s) moved)) (and_right (nat_lt d a.vars) (is_src a.vars s) moved)

    proc_kept : IsProc p a → IsProc q b
    proc_kept r = record {
      params = let n = pair.params in omega (arith, r.params);
      vars = let n = pair.vars in omega (arith, r.vars);
      among = let n = pair.params in let m = pair.vars in omega (arith, r.among);
      steps = all_from_each (is_step q b) b.steps (step_kept r.steps);
      ends = converted_ends a b pair r.ends;
      lines = pair.line_count;
    }

  procs_kept : (xs ys : List Proc) → AllPairs IsConverted xs ys → AllByRecursion (IsProc p) xs → AllByRecursion (IsProc q) ys
  procs_kept [] [] pairs rules = tt
  procs_kept [] (y ∷ ys) pairs rules = absurd pairs
  procs_kept (x ∷ xs) [] pairs rules = tt
  procs_kept (x ∷ xs) (y ∷ ys) pairs rules = (proc_kept x y pairs.0 rules.0, procs_kept xs ys pairs.1 rules.1)

  -- ---- calls

  calls_becomes : (callee : ℕ) (steps : List Step) (i : ℕ) (step : Step) → slice_get steps i ≡ Some step → calls_proc callee (becomes steps i step) ≡ true → calls_proc callee step ≡ true
  calls_becomes callee steps i step there call = by (kind_of steps i step there) where
    renumbered_calls : (number : ℕ → ℕ) (x : Step) → calls_proc callee (renumbered number x) ≡ calls_proc callee x
    renumbered_calls number (If rel a b to) = refl
    renumbered_calls number (Goto to) = refl
    renumbered_calls number x = refl

    by : Kind steps i step → calls_proc callee step ≡ true
    by (Joined rel a b d s same copy begins new) = absurd (let none : calls_proc callee (becomes steps i step) ≡ false = ap (calls_proc callee) new in cc)
    by (Renumbered other new) = sym (renumbered_calls (place steps) step) ∙ sym (ap (calls_proc callee) new) ∙ call

  calls_kept : (caller callee : ℕ) → calls q caller callee ≡ true → calls p caller callee ≡ true
  calls_kept caller callee call = by (both_at p.procs q.procs is.procs caller) where
    by : BothAt p.procs q.procs caller → calls p caller callee ≡ true
    by (Neither left right) = absurd (let none : calls q caller callee ≡ false = ap (λ o. option_map_or (λ x. list_any (calls_proc callee) x.steps) o false) right in cc)
    by (Both x y left right pair) =
        let here = sym (ap (λ o. option_map_or (λ z. list_any (calls_proc callee) z.steps) o false) right) ∙ call in
        let w = one_from_any (calls_proc callee) y.steps here in
        let o = origin_of x y pair w.at w.item w.there in
        ap (λ z. option_map_or (λ r. list_any (calls_proc callee) r.steps) z false) left
        ∙ any_from_one (calls_proc callee) x.steps o.at o.old o.there (calls_becomes callee x.steps o.at o.old o.there (ap (calls_proc callee) o.becomes ∙ w.holds))

  reaches_kept : {from to : ℕ} → Reaches q from to → Reaches p from to
  reaches_kept (ByCall from to call) = ByCall from to (calls_kept from to call)
  reaches_kept (ByMore from via to call more) = ByMore from via to (calls_kept from via call) (reaches_kept more)

  -- ---- the program

  pub procs_count : (xs ys : List Proc) → AllPairs IsConverted xs ys → length ys ≡ length xs
  procs_count [] [] pairs = refl
  procs_count [] (y ∷ ys) pairs = absurd pairs
  procs_count (x ∷ xs) [] pairs = absurd pairs
  procs_count (x ∷ xs) (y ∷ ys) pairs = ap suc (procs_count xs ys pairs.1)

  pub steps_least : (xs ys : List Proc) → AllPairs IsConverted xs ys → sum_by (λ x. length x.steps) ys ≤ sum_by (λ x. length x.steps) xs
  steps_least [] [] pairs = lit≤ tt
  steps_least [] (y ∷ ys) pairs = absurd pairs
  steps_least (x ∷ xs) [] pairs = absurd pairs
  steps_least (x ∷ xs) (y ∷ ys) pairs =
      let rest = steps_least xs ys pairs.1 in
      let here = place_least x.steps (length x.steps) in
      let count = pairs.0.count in
      omega (arith, sum_by-cons (λ (z : Proc). length z.steps) x xs, sum_by-cons (λ (z : Proc). length z.steps) y ys)

  pub program_kept : IsProgram p → IsProgram q
  program_kept r = record {
    lines = omega (arith, r.lines, steps_least p.procs q.procs is.procs, procs_count p.procs q.procs is.procs, ap length is.init);
    procs = procs_kept p.procs q.procs is.procs r.procs;
    main = main;
    acyclic = λ k leads. r.acyclic k (reaches_kept leads);
    init = ap (list_all is_datum) is.init ∙ r.init;
    apart = ap are_apart is.init ∙ r.apart;
  } where
    main : option_map_or (λ x. x.params == 0) (slice_get q.procs q.main) false ≡ true
    main = ap (λ k. option_map_or (λ x. x.params == 0) (slice_get q.procs k) false) is.main ∙ by (both_at p.procs q.procs is.procs p.main) where
      by : BothAt p.procs q.procs p.main → option_map_or (λ x. x.params == 0) (slice_get q.procs p.main) false ≡ true
      by (Neither left right) = absurd (let none : option_map_or (λ x. x.params == 0) (slice_get p.procs p.main) false ≡ false = ap (λ o. option_map_or (λ x. x.params == 0) o false) left in let rule = r.main in cc)
      by (Both x y left right pair) =
          ap (λ o. option_map_or (λ z. z.params == 0) o false) right ∙ ap (λ n. n == 0) pair.params
          ∙ sym (ap (λ o. option_map_or (λ z. z.params == 0) o false) left) ∙ r.main
