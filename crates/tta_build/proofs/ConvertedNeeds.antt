-- A converted program needs what the program needs: the same operations in the same lines, the same frame words, and no more room.
use Rattle.std.proofs.Common.{◌≡◌, ◌≤◌, ℕ, zero, suc, ◌+◌, ◌-◌, ◌*◌, ◌<◌, Bool, true, false, List, [], ◌∷◌, length, Some, None, refl, sym, ap, ◌∙◌, arith, inl, inr}
use Rattle.std.specs.Prelude.{if◌then◌else◌, slice_get, slice_index, option_map}
use Rattle.std.specs.Option.{option_map_or}
use Rattle.std.specs.List.{AllByRecursion}
use Rattle.std.proofs.lemmas.Bool.{cases_lt}
use Rattle.std.proofs.lemmas.Option.{slice_get_within, get_or_from_slice_get}
use Rattle.std.proofs.Math.Nat.{mul-le-mul}
use Rattle.tta_build.specs.Cited.{AllPairs, Units, Machine, first_some, or_else, Rel, Eq, Ne, Lt, Ge, Ltu, Geu, Step, Copy, If, Goto, Proc, Program, step_count, IsProgram, IsProc, frame_need, var_count, arg_count, test_op, longest, need_of, first_failing, room_on, opposite, is_triangle, is_dropped, place, renumbered, becomes, IsConverted, Converted}
use Rattle.tta_ifconv.proofs.Lists.{stands_within}
use Rattle.tta_ifconv.proofs.Places.{triangle_of, place_rises}
use Rattle.tta_ifconv.proofs.Origins.{Kind, Joined, Renumbered, kind_of, origin_of}
use Rattle.tta_ifconv.proofs.Listed.{no_greater}
use Rattle.tta_build.specs.Statement.{has_offer, is_supplied, unsupplied_in, unsupplied}

-- ---- the first step that fails a test

-- all steps pass, or one fails and those before it pass
data Fails (test : Step → Bool) (xs : List Step) : Type 0 where
  Never : ((i : ℕ) (x : Step) → slice_get xs i ≡ Some x → test x ≡ true) → Fails test xs
  FailsAt : (i : ℕ) (x : Step) → slice_get xs i ≡ Some x → test x ≡ false → ((j : ℕ) (y : Step) → j < i → slice_get xs j ≡ Some y → test y ≡ true) → Fails test xs

fails_of : (test : Step → Bool) (xs : List Step) → Fails test xs
fails_of test [] = Never (λ i x there. absurd cc)
fails_of test (s ∷ ss) = by (test s) refl (fails_of test ss) where
  by : (b : Bool) → test s ≡ b → Fails test ss → Fails test (s ∷ ss)
  by false fails rest = FailsAt zero s refl fails (λ j y less there. absurd (omega arith))
  by true passes (Never all) = Never each where
    each : (i : ℕ) (x : Step) → slice_get (s ∷ ss) i ≡ Some x → test x ≡ true
    each zero x there = let same : s ≡ x = cc in sym (ap test same) ∙ passes
    each (suc i) x there = all i x there
  by true passes (FailsAt i x there fails before) = FailsAt (suc i) x there fails each where
    each : (j : ℕ) (y : Step) → j < suc i → slice_get (s ∷ ss) j ≡ Some y → test y ≡ true
    each zero y less at = let same : s ≡ y = cc in sym (ap test same) ∙ passes
    each (suc j) y less at = before j y (omega arith) at

failing_none : (test : Step → Bool) (k : ℕ) (xs : List Step) → ((i : ℕ) (x : Step) → slice_get xs i ≡ Some x → test x ≡ true) → first_failing test k xs ≡ None
failing_none test k [] all = refl
failing_none test k (s ∷ ss) all =
    ap (λ b. if b then first_failing test (k + 1) ss else Some k) (all zero s refl) ∙ failing_none test (k + 1) ss (λ i x there. all (suc i) x there)

failing_some : (test : Step → Bool) (xs : List Step) (k i : ℕ) (x : Step) → slice_get xs i ≡ Some x → test x ≡ false → ((j : ℕ) (y : Step) → j < i → slice_get xs j ≡ Some y → test y ≡ true)
    → first_failing test k xs ≡ Some (k + i)
failing_some test [] k i x there fails before = absurd cc
failing_some test (s ∷ ss) k zero x there fails before =
    let same : s ≡ x = cc in
    ap (λ b. if b then first_failing test (k + 1) ss else Some k) (ap test same ∙ fails) ∙ ap Some (let e : k ≡ k + zero = omega arith in e)
failing_some test (s ∷ ss) k (suc i) x there fails before =
    ap (λ b. if b then first_failing test (k + 1) ss else Some k) (before zero s (omega arith) refl)
    ∙ failing_some test ss (k + 1) i x there fails (λ j y less at. before (suc j) y (omega arith) at)
    ∙ ap Some (let e : (k + 1) + i ≡ k + suc i = omega arith in e)

-- ---- the needs of a converted step

need_opposite : (u : Units) (rel : Rel) → test_op u (opposite rel) ≡ test_op u rel
need_opposite u Eq = refl
need_opposite u Ne = refl
need_opposite u Lt = refl
need_opposite u Ge = refl
need_opposite u Ltu = refl
need_opposite u Geu = refl

need_renumbered : (u : Units) (number : ℕ → ℕ) (step : Step) → need_of u (renumbered number step) ≡ need_of u step
need_renumbered u number (If rel a b to) = refl
need_renumbered u number (Goto to) = refl
need_renumbered u number step = refl

module _ (u : Units) (m : Machine) where
  supplied_becomes : (steps : List Step) (i : ℕ) (step : Step) → slice_get steps i ≡ Some step → is_supplied u m (becomes steps i step) ≡ is_supplied u m step
  supplied_becomes steps i step there = by (kind_of steps i step there) where
    by : Kind steps i step → is_supplied u m (becomes steps i step) ≡ is_supplied u m step
    by (Joined rel a b d s same copy begins new) =
        ap (is_supplied u m) new ∙ ap (λ op. option_map_or (has_offer m) (Some op) true) (need_opposite u rel) ∙ sym (ap (is_supplied u m) same)
    by (Renumbered other new) = ap (is_supplied u m) new ∙ ap (λ o. option_map_or (has_offer m) o true) (need_renumbered u (place steps) step)

  -- a step that is not supplied stays
  unsupplied_stays : (steps : List Step) (i : ℕ) (step : Step) → slice_get steps i ≡ Some step → is_supplied u m step ≡ false → is_dropped steps i ≡ false
  unsupplied_stays steps zero step there fails = refl
  unsupplied_stays steps (suc i) step there fails = by (is_triangle steps i) refl where
    by : (b : Bool) → is_triangle steps i ≡ b → b ≡ false
    by false e = refl
    by true begins =
        let t = triangle_of steps i begins in
        let here : slice_get steps (i + 1) ≡ Some step = ap (slice_get steps) (let e : i + 1 ≡ suc i = omega arith in e) ∙ there in
        let same : step ≡ Copy t.d t.s = let c = t.copy in cc in
        absurd (let passes : is_supplied u m step ≡ true = ap (is_supplied u m) same in cc)

  module _ (p : Program) (a b : Proc) (rules : IsProc p a) (is : IsConverted a b) where
    line_same : (i : ℕ) → is_dropped a.steps i ≡ false → i < length a.steps → slice_index b.lines (place a.steps i) ≡ slice_index a.lines i
    line_same i stays below =
        let line = stands_within a.lines i (omega (arith, rules.lines)) in
        let there = is.lines i line.item line.there stays in
        get_or_from_slice_get b.lines (place a.steps i) line.item 0 there ∙ sym (get_or_from_slice_get a.lines i line.item 0 line.there)

    unsupplied_same : unsupplied_in u m b ≡ unsupplied_in u m a
    unsupplied_same = by (fails_of (is_supplied u m) a.steps) where
      by : Fails (is_supplied u m) a.steps → unsupplied_in u m b ≡ unsupplied_in u m a
      by (Never all) =
          ap (option_map (slice_index b.lines)) (failing_none (is_supplied u m) 0 b.steps (λ k x there.
          let o = origin_of a b is k x there in sym (ap (is_supplied u m) o.becomes) ∙ supplied_becomes a.steps o.at o.old o.there ∙ all o.at o.old o.there))
          ∙ sym (ap (option_map (slice_index a.lines)) (failing_none (is_supplied u m) 0 a.steps all))
      by (FailsAt i x there fails before) =
          let stays = unsupplied_stays a.steps i x there fails in
          let new = is.steps i x there stays in
          ap (option_map (slice_index b.lines)) (failing_some (is_supplied u m) b.steps 0 (place a.steps i) (becomes a.steps i x) new (supplied_becomes a.steps i x there ∙ fails) (earlier stays))
          ∙ ap Some (ap (slice_index b.lines) (let e : 0 + place a.steps i ≡ place a.steps i = omega arith in e) ∙ line_same i stays (slice_get_within a.steps i x there) ∙ ap (slice_index a.lines) (let e : i ≡ 0 + i = omega arith in e))
          ∙ sym (ap (option_map (slice_index a.lines)) (failing_some (is_supplied u m) a.steps 0 i x there fails before))
        where
          earlier : is_dropped a.steps i ≡ false → (k : ℕ) (y : Step) → k < place a.steps i → slice_get b.steps k ≡ Some y → is_supplied u m y ≡ true
          earlier stays k y less at =
              let o = origin_of a b is k y at in
              let number = o.number in
              let below : o.at < i = elim (cases_lt o.at i) [ inl l ↦ l | inr past ↦ absurd (let rises = place_rises a.steps i o.at past in omega arith) ] in
              sym (ap (is_supplied u m) o.becomes) ∙ supplied_becomes a.steps o.at o.old o.there ∙ before o.at o.old below o.there

  procs_unsupplied : (p : Program) (xs ys : List Proc) → AllByRecursion (IsProc p) xs → AllPairs IsConverted xs ys → first_some (unsupplied_in u m) ys ≡ first_some (unsupplied_in u m) xs
  procs_unsupplied p [] [] rules pairs = refl
  procs_unsupplied p [] (y ∷ ys) rules pairs = absurd pairs
  procs_unsupplied p (x ∷ xs) [] rules pairs = absurd pairs
  procs_unsupplied p (x ∷ xs) (y ∷ ys) rules pairs =
      ap (λ o. or_else o (first_some (unsupplied_in u m) ys)) (unsupplied_same p x y rules.0 pairs.0)
      ∙ ap (or_else (unsupplied_in u m x)) (procs_unsupplied p xs ys rules.1 pairs.1)

  pub unsupplied_converted : (p q : Program) → IsProgram p → Converted p q → unsupplied u m q ≡ unsupplied u m p
  unsupplied_converted p q rules is = procs_unsupplied p p.procs q.procs rules.procs is.procs

-- ---- frames and room

pub need_converted : (p q : Program) → Converted p q → frame_need q ≡ frame_need p
need_converted p q is = let size = no_greater p q is in ap (λ n. n + 2 * (length q.procs - 1)) size.vars ∙ ap (λ n. var_count p + 2 * (n - 1)) size.procs

pub room_converted : (m : Machine) (p q : Program) → Converted p q → room_on m q ≤ room_on m p
room_converted m p q is =
    let size = no_greater p q is in
    let steps = size.steps in
    let args = size.args in
    let vars = size.vars in
    let procs = size.procs in
    let items : 32 * step_count q + 8 * (arg_count q + var_count q) + 16 * length q.procs ≤ 32 * step_count p + 8 * (arg_count p + var_count p) + 16 * length p.procs = omega arith in
    let blocks : 2 * step_count q + 3 * length q.procs ≤ 2 * step_count p + 3 * length p.procs = omega arith in
    let one = mul-le-mul items (let z : longest m + 1 ≤ longest m + 1 = omega arith in z) in
    let two = mul-le-mul blocks (let z : m.control.delay + longest m + 2 ≤ m.control.delay + longest m + 2 = omega arith in z) in
    omega (arith, one, two)
