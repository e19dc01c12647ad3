-- Where the steps of a converted procedure come from.
use Rattle.std.proofs.Common.{◌≡◌, ◌+◌, ℕ, Bool, List, Some, true, false, length, refl, sym, ap, ◌∙◌, arith}
use Rattle.std.specs.Prelude.{not, if◌then◌else◌, slice_get}
use Rattle.std.specs.Option.{option_map_or}
use Rattle.std.proofs.lemmas.Bool.{eqb-true, eq-eqb, and_from}
use Rattle.std.proofs.lemmas.Option.{slice_get_within}
use Rattle.tta_ifconv.specs.Cited.{Src, Rel, Step, Copy, Apply, Load, Store, Put, Take, If, Goto, When, Invoke, Return, Halt, End, Proc}
use Rattle.tta_ifconv.specs.Triangles.{names, is_target, skips, is_copy, is_triangle, is_dropped, place, joined, renumbered, becomes, opposite}
use Rattle.tta_ifconv.specs.Converted.{IsConverted}
use Rattle.tta_ifconv.proofs.Lists.{stands_within, one_from_any}
use Rattle.tta_ifconv.proofs.Places.{triangle_of, target_stays, other_stays, next_stays, no_triangle, place_next, place_once, numbered, triangle_drops}
use Rattle.tta_list.proofs.Lists.{any_there as any_from_one}

-- the branch of a triangle becomes a copy under the opposite condition, and each other step the same with a new target
pub data Kind (steps : List Step) (i : ℕ) (step : Step) : Type 0 where
  Joined : (rel : Rel) (a b : Src) (d : ℕ) (s : Src) → step ≡ If rel a b (i + 2) → slice_get steps (i + 1) ≡ Some (Copy d s) → is_triangle steps i ≡ true
      → becomes steps i step ≡ When (opposite rel) a b d s → Kind steps i step
  Renumbered : is_triangle steps i ≡ false → becomes steps i step ≡ renumbered (place steps) step → Kind steps i step

pub kind_of : (steps : List Step) (i : ℕ) (step : Step) → slice_get steps i ≡ Some step → Kind steps i step
kind_of steps i step there = by (is_triangle steps i) refl where
  by : (b : Bool) → is_triangle steps i ≡ b → Kind steps i step
  by true begins =
      let t = triangle_of steps i begins in
      let same : step ≡ If t.rel t.a t.b (i + 2) = let c = t.branch in cc in
      Joined t.rel t.a t.b t.d t.s same t.copy begins
      (ap (λ b. if b then joined step (slice_get steps (i + 1)) else renumbered (place steps) step) begins
      ∙ ap (λ x. joined x (slice_get steps (i + 1))) same ∙ ap (joined (If t.rel t.a t.b (i + 2))) t.copy)
  by false other = Renumbered other (ap (λ b. if b then joined step (slice_get steps (i + 1)) else renumbered (place steps) step) other)

-- a step of the procedure from which a step of the converted one comes
pub record Origin (a b : Proc) (k : ℕ) (step : Step) : Type 0 where
  pub at : ℕ
  pub old : Step
  pub there : slice_get a.steps at ≡ Some old
  pub stays : is_dropped a.steps at ≡ false
  pub number : place a.steps at ≡ k
  pub becomes : becomes a.steps at old ≡ step

module _ (a b : Proc) (is : IsConverted a b) where
  -- each step of the converted procedure comes from a step
  pub origin_of : (k : ℕ) (step : Step) → slice_get b.steps k ≡ Some step → Origin a b k step
  origin_of k step there =
      let less = slice_get_within b.steps k step there in
      let count = is.count in
      let n = numbered a.steps (length a.steps) k (omega arith) in
      let old = stands_within a.steps n.at n.below in
      let new = is.steps n.at old.item old.there n.stays in
      let here : slice_get b.steps (place a.steps n.at) ≡ Some step = ap (slice_get b.steps) n.number ∙ there in
      record { at = n.at; old = old.item; there = old.there; stays = n.stays; number = n.number; becomes = let e = sym new ∙ here in cc }

  -- ---- there is no triangle

  -- a branch comes from a branch
  renumbered_if : (number : ℕ → ℕ) (old : Step) (rel : Rel) (x y : Src) (to : ℕ) → renumbered number old ≡ If rel x y to
      → (from : ℕ) × (old ≡ If rel x y from) × (number from ≡ to)
  renumbered_if number (If rel' x' y' from) rel x y to e = (from, cc, cc)
  renumbered_if number (Goto from) rel x y to e = absurd cc
  renumbered_if number (Copy d s) rel x y to e = absurd cc
  renumbered_if number (Apply d op x' y') rel x y to e = absurd cc
  renumbered_if number (Load d x') rel x y to e = absurd cc
  renumbered_if number (Store x' v) rel x y to e = absurd cc
  renumbered_if number (Put v) rel x y to e = absurd cc
  renumbered_if number (Take d) rel x y to e = absurd cc
  renumbered_if number (When rel' x' y' d s) rel x y to e = absurd cc
  renumbered_if number (Invoke d callee args) rel x y to e = absurd cc
  renumbered_if number (Return s) rel x y to e = absurd cc
  renumbered_if number Halt rel x y to e = absurd cc
  renumbered_if number End rel x y to e = absurd cc

  -- and a copy from a copy
  renumbered_copy : (number : ℕ → ℕ) (old : Step) (d : ℕ) (s : Src) → renumbered number old ≡ Copy d s → old ≡ Copy d s
  renumbered_copy number (If rel' x' y' from) d s e = absurd cc
  renumbered_copy number (Goto from) d s e = absurd cc
  renumbered_copy number step d s e = e

  branch_from : (k : ℕ) (rel : Rel) (x y : Src) (to : ℕ) → (o : Origin a b k (If rel x y to))
      → (from : ℕ) × (o.old ≡ If rel x y from) × (place a.steps from ≡ to) × (is_triangle a.steps o.at ≡ false)
  branch_from k rel x y to o = by (kind_of a.steps o.at o.old o.there) where
    by : Kind a.steps o.at o.old → (from : ℕ) × (o.old ≡ If rel x y from) × (place a.steps from ≡ to) × (is_triangle a.steps o.at ≡ false)
    by (Joined rel' x' y' d s same copy begins new) = absurd (let e : When (opposite rel') x' y' d s ≡ If rel x y to = sym new ∙ o.becomes in cc)
    by (Renumbered other new) = let r = renumbered_if (place a.steps) o.old rel x y to (sym new ∙ o.becomes) in (r.0, r.1, r.2, other)

  copy_from : (k d : ℕ) (s : Src) → (o : Origin a b k (Copy d s)) → o.old ≡ Copy d s
  copy_from k d s o = by (kind_of a.steps o.at o.old o.there) where
    by : Kind a.steps o.at o.old → o.old ≡ Copy d s
    by (Joined rel' x' y' d' s' same copy begins new) = absurd (let e : When (opposite rel') x' y' d' s' ≡ Copy d s = sym new ∙ o.becomes in cc)
    by (Renumbered other new) = renumbered_copy (place a.steps) o.old d s (sym new ∙ o.becomes)

  -- a step that names another names its number afterwards, and is no copy
  renumbered_names : (to : ℕ) (step : Step) → names to step ≡ true → (is_copy step ≡ false) × (names (place a.steps to) (renumbered (place a.steps) step) ≡ true)
  renumbered_names to (If rel x y from) e = (refl, eq-eqb (place a.steps from) (place a.steps to) (ap (place a.steps) (eqb-true from to e)))
  renumbered_names to (Goto from) e = (refl, eq-eqb (place a.steps from) (place a.steps to) (ap (place a.steps) (eqb-true from to e)))
  renumbered_names to step e = absurd cc

  -- a step that names one that is not the next but one names its number afterwards
  target_moves : (i : ℕ) → is_dropped a.steps i ≡ false → is_target a.steps (i + 1) ≡ true → is_target b.steps (place a.steps (i + 1)) ≡ true
  target_moves i stays e =
      let n = one_from_any (names (i + 1)) a.steps e in
      let r = renumbered_names (i + 1) n.item n.holds in
      let kept = other_stays a.steps n.at n.item n.there r.0 in
      any_from_one (names (place a.steps (i + 1))) b.steps (place a.steps n.at) (becomes a.steps n.at n.item) (is.steps n.at n.item n.there kept)
      (by n.at n.item n.there r.1 (kind_of a.steps n.at n.item n.there) n.holds)
    where
      by : (m : ℕ) (step : Step) → slice_get a.steps m ≡ Some step → names (place a.steps (i + 1)) (renumbered (place a.steps) step) ≡ true → Kind a.steps m step → names (i + 1) step ≡ true
          → names (place a.steps (i + 1)) (becomes a.steps m step) ≡ true
      by m step there renamed (Joined rel x y d s same copy begins new) named =
          let to : m + 2 ≡ i + 1 = eqb-true (m + 2) (i + 1) (sym (ap (names (i + 1)) same) ∙ named) in
          let drops = triangle_drops a.steps m begins in
          let here : m + 1 ≡ i = omega arith in
          absurd (let gone = sym (ap (is_dropped a.steps) here) ∙ drops in cc)
      by m step there renamed (Renumbered other new) named = ap (names (place a.steps (i + 1))) new ∙ renamed

  pub none_left : (k : ℕ) → is_triangle b.steps k ≡ false
  none_left k = by (is_triangle b.steps k) refl where
    by : (x : Bool) → is_triangle b.steps k ≡ x → x ≡ false
    by false e = refl
    by true begins =
        let t = triangle_of b.steps k begins in
        let o = origin_of k (If t.rel t.a t.b (k + 2)) t.branch in
        let first = branch_from k t.rel t.a t.b (k + 2) o in
        let number = o.number in
        let next = place_next a.steps o.at o.stays in
        let after = next_stays a.steps o.at first.3 in
        let c = origin_of (k + 1) (Copy t.d t.s) t.copy in
        let second = copy_from (k + 1) t.d t.s c in
        let once = place_once a.steps c.at (o.at + 1) c.stays after (let m = c.number in omega arith) in
        let copy : slice_get a.steps (o.at + 1) ≡ Some (Copy t.d t.s) = ap (slice_get a.steps) (sym once) ∙ c.there ∙ ap Some second in
        let beyond = next_stays a.steps (o.at + 1) (no_triangle a.steps (o.at + 1) (Copy t.d t.s) copy refl) in
        let place_then = place_next a.steps (o.at + 1) after in
        let named = target_stays a.steps first.0 (any_from_one (names first.0) a.steps o.at o.old o.there (ap (names first.0) first.1 ∙ eq-eqb first.0 first.0 refl)) in
        let target_is = place_once a.steps first.0 ((o.at + 1) + 1) named beyond (let m = first.2 in omega arith) in
        let branch : slice_get a.steps o.at ≡ Some (If t.rel t.a t.b (o.at + 2)) = o.there ∙ ap Some first.1 ∙ ap (λ to. Some (If t.rel t.a t.b to)) (let e : first.0 ≡ o.at + 2 = omega arith in e) in
        let free = free_or_named o.at first.3 (ap (λ x. option_map_or (skips o.at) x false) branch ∙ eq-eqb (o.at + 2) (o.at + 2) refl) (ap (λ x. option_map_or is_copy x false) copy) in
        let moved = target_moves o.at o.stays free in
        let here : place a.steps (o.at + 1) ≡ k + 1 = omega arith in
        absurd (let taken : is_target b.steps (k + 1) ≡ true = sym (ap (is_target b.steps) here) ∙ moved in let open_ = t.free in cc)
      where
        free_or_named : (i : ℕ) → is_triangle a.steps i ≡ false → option_map_or (skips i) (slice_get a.steps i) false ≡ true → option_map_or is_copy (slice_get a.steps (i + 1)) false ≡ true → is_target a.steps (i + 1) ≡ true
        free_or_named i none skip copy = named (is_target a.steps (i + 1)) refl where
          named : (x : Bool) → is_target a.steps (i + 1) ≡ x → x ≡ true
          named true e = refl
          named false e =
              let both = and_from (option_map_or (skips i) (slice_get a.steps i) false) (option_map_or is_copy (slice_get a.steps (i + 1)) false) skip copy in
              absurd (let all : is_triangle a.steps i ≡ true = and_from _ (not (is_target a.steps (i + 1))) both (ap not e) in cc)
