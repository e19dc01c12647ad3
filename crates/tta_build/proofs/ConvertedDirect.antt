-- A program and the converted one are a direct pair with the same machines.
use Rattle.std.proofs.Common.{◌≡◌, ℕ, zero, suc, ◌+◌, ◌==◌, Bool, true, false, List, [], ◌∷◌, length, Some, refl, sym, ap, ◌∙◌}
use Rattle.std.specs.Prelude.{◌&&◌, if◌then◌else◌, slice_get}
use Rattle.std.specs.List.{list_all}
use Rattle.tta_build.specs.Cited.{AllPairs, Machine, Word, Var, Step, Copy, Apply, Load, Store, Put, Take, If, Goto, When, Invoke, Return, Halt, End, Proc, Program, only_constants, is_direct, is_direct_proc, is_brought, is_triangle, is_dropped, place, renumbered, becomes, IsConverted, Converted}
use Rattle.tta_ifconv.proofs.Lists.{same_items}
use Rattle.tta_ifconv.proofs.Places.{triangle_of, triangle_stays}
use Rattle.tta_ifconv.proofs.Origins.{Kind, Joined, Renumbered, kind_of, Origin, origin_of}
use Rattle.tta_ifconv.proofs.Listed.{no_greater}

-- a step that only outputs a constant, halts or ends
abbrev is_plain : Step → Bool
is_plain (Put (Word w)) = true
is_plain Halt = true
is_plain End = true
is_plain step = false

only_plain : (steps : List Step) → only_constants steps ≡ true → (i : ℕ) (x : Step) → slice_get steps i ≡ Some x → is_plain x ≡ true
only_plain [] e i x there = absurd cc
only_plain (Put (Word w) ∷ steps) e zero x there = let same : Put (Word w) ≡ x = cc in sym (ap is_plain same)
only_plain (Put (Word w) ∷ steps) e (suc i) x there = only_plain steps e i x there
only_plain (Halt ∷ steps) e zero x there = let same : Halt ≡ x = cc in sym (ap is_plain same)
only_plain (Halt ∷ steps) e (suc i) x there = only_plain steps e i x there
only_plain (End ∷ []) e zero x there = let same : End ≡ x = cc in sym (ap is_plain same)
only_plain (End ∷ []) e (suc i) x there = absurd cc
only_plain (End ∷ s ∷ steps) e i x there = absurd cc
only_plain (Put (Var v) ∷ steps) e i x there = absurd cc
only_plain (Copy d s ∷ steps) e i x there = absurd cc
only_plain (Apply d op a b ∷ steps) e i x there = absurd cc
only_plain (Load d a ∷ steps) e i x there = absurd cc
only_plain (Store a v ∷ steps) e i x there = absurd cc
only_plain (Take d ∷ steps) e i x there = absurd cc
only_plain (If rel a b to ∷ steps) e i x there = absurd cc
only_plain (Goto to ∷ steps) e i x there = absurd cc
only_plain (When rel a b d s ∷ steps) e i x there = absurd cc
only_plain (Invoke d callee args ∷ steps) e i x there = absurd cc
only_plain (Return s ∷ steps) e i x there = absurd cc

ArePlain : List Step → Type 0
ArePlain steps = (i : ℕ) (x : Step) → slice_get steps i ≡ Some x → is_plain x ≡ true

-- plain steps have no triangles, and get the numbers that they have
plain_stays : (steps : List Step) → ArePlain steps → (i : ℕ) → is_dropped steps i ≡ false
unfolding ArePlain
plain_stays steps plain zero = refl
plain_stays steps plain (suc i) = by (is_triangle steps i) refl where
  by : (b : Bool) → is_triangle steps i ≡ b → b ≡ false
  by false e = refl
  by true begins = let t = triangle_of steps i begins in absurd (let e = plain i (If t.rel t.a t.b (i + 2)) t.branch in cc)

plain_place : (steps : List Step) → ArePlain steps → (i : ℕ) → place steps i ≡ i
plain_place steps plain zero = refl
plain_place steps plain (suc i) = ap (λ b. if b then place steps i else suc (place steps i)) (plain_stays steps plain i) ∙ ap suc (plain_place steps plain i)

plain_renumbered : (number : ℕ → ℕ) (x : Step) → is_plain x ≡ true → renumbered number x ≡ x
plain_renumbered number (If rel a b to) e = absurd cc
plain_renumbered number (Goto to) e = absurd cc
plain_renumbered number x e = refl

renumbered_plain : (number : ℕ → ℕ) (x : Step) → is_plain (renumbered number x) ≡ true → is_plain x ≡ true
renumbered_plain number (If rel a b to) e = absurd cc
renumbered_plain number (Goto to) e = absurd cc
renumbered_plain number x e = e

module _ (a b : Proc) (is : IsConverted a b) where
  -- so they stay as they are
  plain_same : ArePlain a.steps → b.steps ≡ a.steps
  unfolding ArePlain
  plain_same plain = same_items b.steps a.steps (is.count ∙ plain_place a.steps plain (length a.steps)) (λ k x there.
      let o = origin_of a b is k x there in
      let at : o.at ≡ k = sym (plain_place a.steps plain o.at) ∙ o.number in
      let one = kind_of a.steps o.at o.old o.there in
      sym (ap (slice_get a.steps) at) ∙ o.there ∙ ap Some (by k x o one))
    where
      by : (k : ℕ) (x : Step) (o : Origin a b k x) → Kind a.steps o.at o.old → o.old ≡ x
      by k x o (Joined rel y z d s same copy begins new) = absurd (let e = plain o.at o.old o.there in let f : is_plain o.old ≡ false = ap is_plain same in cc)
      by k x o (Renumbered other new) = sym (plain_renumbered (place a.steps) o.old (plain o.at o.old o.there)) ∙ sym new ∙ o.becomes

  -- steps that become plain ones were plain
  plain_before : ArePlain b.steps → ArePlain a.steps
  unfolding ArePlain
  plain_before plain i x there = dropped (is_dropped a.steps i) refl where
    kept : (j : ℕ) (y : Step) → slice_get a.steps j ≡ Some y → is_dropped a.steps j ≡ false → Kind a.steps j y → (is_plain y ≡ true) × (is_triangle a.steps j ≡ false)
    kept j y at stays (Joined rel z w d s same copy begins new) =
        absurd (let e = plain (place a.steps j) (becomes a.steps j y) (is.steps j y at stays) in let f : is_plain (becomes a.steps j y) ≡ false = ap is_plain new in cc)
    kept j y at stays (Renumbered other new) =
        (renumbered_plain (place a.steps) y (sym (ap is_plain new) ∙ plain (place a.steps j) (becomes a.steps j y) (is.steps j y at stays)), other)

    none : (j : ℕ) → is_dropped a.steps j ≡ true → ⊥
    none zero e = cc
    none (suc j) begins =
        let t = triangle_of a.steps j begins in
        let branch = If t.rel t.a t.b (j + 2) in
        let k = kept j branch t.branch (triangle_stays a.steps j begins) (kind_of a.steps j branch t.branch) in
        let other = k.1 in
        cc

    dropped : (b : Bool) → is_dropped a.steps i ≡ b → is_plain x ≡ true
    dropped true drops = absurd (none i drops)
    dropped false stays = (kept i x there stays (kind_of a.steps i x there)).0

  direct_same : (m : Machine) → is_direct_proc m b ≡ is_direct_proc m a
  unfolding ArePlain
  direct_same m = by (only_constants b.steps) refl (only_constants a.steps) refl where
    same : (steps : List Step) → steps ≡ a.steps → (only_constants steps && list_all (is_brought m) steps) ≡ (only_constants a.steps && list_all (is_brought m) a.steps)
    same steps e = ap (λ s. only_constants s && list_all (is_brought m) s) e

    by : (x : Bool) → only_constants b.steps ≡ x → (y : Bool) → only_constants a.steps ≡ y → (only_constants b.steps && list_all (is_brought m) b.steps) ≡ (only_constants a.steps && list_all (is_brought m) a.steps)
    by true e y f = same b.steps (plain_same (plain_before (only_plain b.steps e)))
    by false e true f = same b.steps (plain_same (only_plain a.steps f))
    by false e false f = ap (λ z. z && list_all (is_brought m) b.steps) e ∙ sym (ap (λ z. z && list_all (is_brought m) a.steps) f)

direct_procs : (m : Machine) (xs ys : List Proc) → AllPairs IsConverted xs ys → list_all (is_direct_proc m) ys ≡ list_all (is_direct_proc m) xs
direct_procs m [] [] pairs = refl
direct_procs m [] (y ∷ ys) pairs = absurd pairs
direct_procs m (x ∷ xs) [] pairs = absurd pairs
direct_procs m (x ∷ xs) (y ∷ ys) pairs =
    ap (λ b. b && list_all (is_direct_proc m) ys) (direct_same x y pairs.0 m) ∙ ap (λ b. is_direct_proc m x && b) (direct_procs m xs ys pairs.1)

pub direct_converted : (m : Machine) (p q : Program) → Converted p q → is_direct m q ≡ is_direct m p
direct_converted m p q is =
    let size = no_greater p q is in
    ap (λ n. n == 1 && list_all (is_direct_proc m) q.procs) size.procs ∙ ap (λ b. length p.procs == 1 && b) (direct_procs m p.procs q.procs is.procs)
