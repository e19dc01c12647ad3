-- The steps of a converted procedure as a list that is made step by step.
use Rattle.std.proofs.Common.{◌≡◌, ◌≤◌, ◌+◌, ◌++◌, ℕ, zero, suc, Bool, List, [], ◌∷◌, Some, true, false, length, take, refl, sym, ap, ◌∙◌, subst, arith, append-nil}
use Rattle.std.specs.Prelude.{if◌then◌else◌, slice_get}
use Rattle.std.specs.Option.{option_map_or}
use Rattle.std.specs.List.{sum_by}
use Rattle.std.proofs.lemmas.List.Sums.{sum_by-cons, sum_by-append}
use Rattle.std.proofs.Math.Seq.{take-suc, take-length}
use Rattle.std.proofs.lemmas.Option.{slice_get_within, get_or_from_slice_get}
use Rattle.tta_ifconv.specs.Cited.{AllPairs, Step, Copy, If, Goto, Proc, Program, args_in}
use Rattle.tta_ifconv.specs.Triangles.{is_dropped, place, renumbered, becomes}
use Rattle.tta_ifconv.specs.Tables.{AreConverted}
use Rattle.tta_ifconv.specs.Converted.{IsConverted, Converted}
use Rattle.tta_ifconv.specs.Statement.{IsNoGreater}
use Rattle.tta_ifconv.proofs.Lists.{stands_within, same_items}
use Rattle.tta_ifconv.proofs.Places.{triangle_of}
use Rattle.tta_ifconv.proofs.Origins.{Kind, Joined, Renumbered, kind_of, origin_of}
use Rattle.tta_ifconv.proofs.Kept.{procs_count, steps_least}
use Rattle.tta_ifconv.proofs.Tabling.{kept_none, kept_more, kept_same}

-- the steps that a step becomes: itself, or none
abbrev pub piece : List Step → ℕ → List Step
piece steps i = if is_dropped steps i then [] else option_map_or (λ s. becomes steps i s ∷ []) (slice_get steps i) []

-- what the first steps become
abbrev pub pieces : List Step → ℕ → List Step
pieces steps zero = []
pieces steps (suc n) = pieces steps n ++ piece steps n

-- they are kept
pieces_kept : (steps : List Step) (n : ℕ) → n ≤ length steps → AreConverted steps n (pieces steps n)
pieces_kept steps zero le = kept_none steps (becomes steps) steps
pieces_kept steps (suc n) le = subst (λ k. AreConverted steps k (pieces steps n ++ piece steps n)) (let e : n + 1 ≡ suc n = omega arith in e) (by (is_dropped steps n) refl (pieces_kept steps n (omega arith))) where
  by : (b : Bool) → is_dropped steps n ≡ b → AreConverted steps n (pieces steps n) → AreConverted steps (n + 1) (pieces steps n ++ piece steps n)
  by true drops before =
      let none : piece steps n ≡ [] = ap (λ b. if b then [] else option_map_or (λ s. becomes steps n s ∷ []) (slice_get steps n) []) drops in
      subst (λ xs. AreConverted steps (n + 1) xs) (sym (ap (λ xs. pieces steps n ++ xs) none ∙ append-nil (pieces steps n))) (kept_same steps (becomes steps) steps n (pieces steps n) before drops)
  by false stays before =
      let s = stands_within steps n (omega arith) in
      let one : piece steps n ≡ becomes steps n s.item ∷ [] =
      ap (λ b. if b then [] else option_map_or (λ s. becomes steps n s ∷ []) (slice_get steps n) []) stays
      ∙ ap (λ o. option_map_or (λ s. becomes steps n s ∷ []) o []) s.there in
      kept_more steps (becomes steps) steps n (pieces steps n) (pieces steps n ++ piece steps n) (becomes steps n s.item) before stays (ap (λ xs. pieces steps n ++ xs) one)
      (λ item there. ap (becomes steps n) (let e = s.there in cc))

-- the steps of a converted procedure are all pieces
pub steps_listed : (a b : Proc) → IsConverted a b → b.steps ≡ pieces a.steps (length a.steps)
steps_listed a b is = by (pieces_kept a.steps (length a.steps) (omega arith)) where
  by : AreConverted a.steps (length a.steps) (pieces a.steps (length a.steps)) → b.steps ≡ pieces a.steps (length a.steps)
  by kept = same_items b.steps (pieces a.steps (length a.steps)) (is.count ∙ sym kept.count) each where
    each : (k : ℕ) (x : Step) → slice_get b.steps k ≡ Some x → slice_get (pieces a.steps (length a.steps)) k ≡ Some x
    each k x there =
        let o = origin_of a b is k x there in
        sym (ap (slice_get (pieces a.steps (length a.steps))) o.number) ∙ kept.each o.at o.old (slice_get_within a.steps o.at o.old o.there) o.there o.stays ∙ ap Some o.becomes

-- ---- sums

-- arguments stay
args_become : (steps : List Step) (i : ℕ) (step : Step) → slice_get steps i ≡ Some step → args_in (becomes steps i step) ≡ args_in step
args_become steps i step there = by (kind_of steps i step there) where
  renumbered_args : (number : ℕ → ℕ) (x : Step) → args_in (renumbered number x) ≡ args_in x
  renumbered_args number (If rel a b to) = refl
  renumbered_args number (Goto to) = refl
  renumbered_args number x = refl

  by : Kind steps i step → args_in (becomes steps i step) ≡ args_in step
  by (Joined rel a b d s same copy begins new) = ap args_in new ∙ sym (ap args_in same)
  by (Renumbered other new) = ap args_in new ∙ renumbered_args (place steps) step

-- a step that is dropped has none
args_dropped : (steps : List Step) (i : ℕ) (step : Step) → slice_get steps i ≡ Some step → is_dropped steps i ≡ true → args_in step ≡ 0
args_dropped steps zero step there drops = absurd cc
args_dropped steps (suc i) step there drops =
    let t = triangle_of steps i drops in
    let here : slice_get steps (i + 1) ≡ Some step = ap (slice_get steps) (let e : i + 1 ≡ suc i = omega arith in e) ∙ there in
    let same : step ≡ Copy t.d t.s = let c = t.copy in cc in
    ap args_in same

args_piece : (steps : List Step) (n : ℕ) (s : Step) → slice_get steps n ≡ Some s → (b : Bool) → is_dropped steps n ≡ b → sum_by args_in (if b then [] else becomes steps n s ∷ []) ≡ sum_by args_in (s ∷ [])
args_piece steps n s there true drops = sym (sum_by-cons args_in s [] ∙ (let e = args_dropped steps n s there drops in omega arith))
args_piece steps n s there false stays = sum_by-cons args_in (becomes steps n s) [] ∙ ap (λ k. k + sum_by args_in []) (args_become steps n s there) ∙ sym (sum_by-cons args_in s [])

args_pieces : (steps : List Step) (n : ℕ) → n ≤ length steps → sum_by args_in (pieces steps n) ≡ sum_by args_in (take n steps)
args_pieces steps zero le = refl
args_pieces steps (suc n) le =
    let s = stands_within steps n (omega arith) in
    let front : take (suc n) steps ≡ take n steps ++ s.item ∷ [] = take-suc steps n s.item (omega arith) ∙ ap (λ x. take n steps ++ x ∷ []) (get_or_from_slice_get steps n s.item s.item s.there) in
    let one : piece steps n ≡ (if is_dropped steps n then [] else becomes steps n s.item ∷ []) = ap (λ o. if is_dropped steps n then [] else option_map_or (λ s. becomes steps n s ∷ []) o []) s.there in
    sum_by-append args_in (pieces steps n) (piece steps n)
    ∙ ap (λ k. k + sum_by args_in (piece steps n)) (args_pieces steps n (omega arith))
    ∙ ap (λ k. sum_by args_in (take n steps) + k) (ap (sum_by args_in) one ∙ args_piece steps n s.item s.there (is_dropped steps n) refl)
    ∙ sym (sum_by-append args_in (take n steps) (s.item ∷ []))
    ∙ ap (sum_by args_in) (sym front)

args_converted : (a b : Proc) → IsConverted a b → sum_by args_in b.steps ≡ sum_by args_in a.steps
args_converted a b is =
    ap (sum_by args_in) (steps_listed a b is) ∙ args_pieces a.steps (length a.steps) (omega arith) ∙ ap (sum_by args_in) (take-length a.steps)

vars_sum : (xs ys : List Proc) → AllPairs IsConverted xs ys → sum_by (λ q. q.vars) ys ≡ sum_by (λ q. q.vars) xs
vars_sum [] [] pairs = refl
vars_sum [] (y ∷ ys) pairs = absurd pairs
vars_sum (x ∷ xs) [] pairs = absurd pairs
vars_sum (x ∷ xs) (y ∷ ys) pairs =
    let rest = vars_sum xs ys pairs.1 in
    let here = pairs.0.vars in
    sum_by-cons (λ (q : Proc). q.vars) y ys ∙ (let e : y.vars + sum_by (λ (q : Proc). q.vars) ys ≡ x.vars + sum_by (λ (q : Proc). q.vars) xs = omega arith in e) ∙ sym (sum_by-cons (λ (q : Proc). q.vars) x xs)

args_sum : (xs ys : List Proc) → AllPairs IsConverted xs ys → sum_by (λ q. sum_by args_in q.steps) ys ≡ sum_by (λ q. sum_by args_in q.steps) xs
args_sum [] [] pairs = refl
args_sum [] (y ∷ ys) pairs = absurd pairs
args_sum (x ∷ xs) [] pairs = absurd pairs
args_sum (x ∷ xs) (y ∷ ys) pairs =
    let rest = args_sum xs ys pairs.1 in
    let here = args_converted x y pairs.0 in
    sum_by-cons (λ (q : Proc). sum_by args_in q.steps) y ys
    ∙ (let e : sum_by args_in y.steps + sum_by (λ (q : Proc). sum_by args_in q.steps) ys ≡ sum_by args_in x.steps + sum_by (λ (q : Proc). sum_by args_in q.steps) xs = omega arith in e)
    ∙ sym (sum_by-cons (λ (q : Proc). sum_by args_in q.steps) x xs)

pub no_greater : (p q : Program) → Converted p q → IsNoGreater p q
no_greater p q is = record {
  procs = procs_count p q is p.procs q.procs is.procs;
  vars = vars_sum p.procs q.procs is.procs;
  args = args_sum p.procs q.procs is.procs;
  steps = steps_least p q is p.procs q.procs is.procs;
}
