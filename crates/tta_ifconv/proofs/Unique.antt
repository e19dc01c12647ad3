-- A program is converted to one program, and that has no triangle and stands over the same units.
use Rattle.std.proofs.Common.{◌≡◌, ℕ, List, [], ◌∷◌, Some, true, false, length, refl, sym, ap, ◌∙◌, subst, arith}
use Rattle.std.specs.Prelude.{slice_get}
use Rattle.std.specs.List.{list_all, AllByRecursion}
use Rattle.std.proofs.lemmas.Bool.{and_from}
use Rattle.std.proofs.lemmas.Option.{slice_get_within}
use Rattle.tta_ifconv.specs.Cited.{AllPairs, Units, Rel, Eq, Ne, Lt, Ge, Ltu, Geu, Step, If, Goto, Proc, Program, IsProgram, IsProc, StandsOver, is_over, has_test}
use Rattle.tta_list.proofs.Lists.{list_all_one, all_from as all_from_each}
use Rattle.tta_list.proofs.Tests.{and_left, and_right}
use Rattle.tta_ifconv.specs.Triangles.{opposite, is_triangle, place, renumbered, becomes}
use Rattle.tta_ifconv.specs.Converted.{IsConverted, Converted, HasNoTriangle}
use Rattle.tta_ifconv.proofs.Lists.{stands_within, same_items}
use Rattle.tta_ifconv.proofs.Places.{numbered}
use Rattle.tta_ifconv.proofs.Pairs.{BothAt, Neither, Both, both_at}
use Rattle.tta_ifconv.proofs.Origins.{Kind, Joined, Renumbered, kind_of, origin_of, none_left}

-- ---- one program

module _ (a b c : Proc) (one : IsConverted a b) (other : IsConverted a c) (count : length a.lines ≡ length a.steps) where
  steps_same : b.steps ≡ c.steps
  steps_same = same_items b.steps c.steps (one.count ∙ sym other.count) each where
    each : (k : ℕ) (x : Step) → slice_get b.steps k ≡ Some x → slice_get c.steps k ≡ Some x
    each k x there =
        let o = origin_of a b one k x there in
        sym (ap (slice_get c.steps) o.number) ∙ other.steps o.at o.old o.there o.stays ∙ ap Some o.becomes

  lines_same : b.lines ≡ c.lines
  lines_same = same_items b.lines c.lines (one.line_count ∙ one.count ∙ sym other.count ∙ sym other.line_count) each where
    each : (k line : ℕ) → slice_get b.lines k ≡ Some line → slice_get c.lines k ≡ Some line
    each k line there =
        let less = slice_get_within b.lines k line there in
        let n = numbered a.steps (length a.steps) k (omega (arith, one.line_count, one.count)) in
        let old = stands_within a.lines n.at (omega (arith, n.below, count)) in
        let left = one.lines n.at old.item old.there n.stays in
        let right = other.lines n.at old.item old.there n.stays in
        sym (ap (slice_get c.lines) n.number) ∙ right ∙ sym left ∙ ap (slice_get b.lines) n.number ∙ there

  proc_same : b ≡ c
  proc_same =
      ap (λ x. record { params = x; vars = b.vars; steps = b.steps; lines = b.lines }) (one.params ∙ sym other.params)
      ∙ ap (λ x. record { params = c.params; vars = x; steps = b.steps; lines = b.lines }) (one.vars ∙ sym other.vars)
      ∙ ap (λ x. record { params = c.params; vars = c.vars; steps = x; lines = b.lines }) steps_same
      ∙ ap (λ x. record { params = c.params; vars = c.vars; steps = c.steps; lines = x }) lines_same

procs_same : (p : Program) (xs ys zs : List Proc) → AllPairs IsConverted xs ys → AllPairs IsConverted xs zs → AllByRecursion (IsProc p) xs → ys ≡ zs
procs_same p [] [] [] left right rules = refl
procs_same p [] (y ∷ ys) zs left right rules = absurd left
procs_same p [] [] (z ∷ zs) left right rules = absurd right
procs_same p (x ∷ xs) [] zs left right rules = absurd left
procs_same p (x ∷ xs) (y ∷ ys) [] left right rules = absurd right
procs_same p (x ∷ xs) (y ∷ ys) (z ∷ zs) left right rules =
    let first : y ≡ z = proc_same x y z left.0 right.0 rules.0.lines in
    let rest = procs_same p xs ys zs left.1 right.1 rules.1 in
    ap (λ w. w ∷ ys) first ∙ ap (λ ws. z ∷ ws) rest

pub one_conversion : (p q other : Program) → IsProgram p → Converted p q → Converted p other → q ≡ other
one_conversion p q other rules left right =
    ap (λ x. record { procs = x; main = q.main; init = q.init }) (procs_same p p.procs q.procs other.procs left.procs right.procs rules.procs)
    ∙ ap (λ x. record { procs = other.procs; main = x; init = q.init }) (left.main ∙ sym right.main)
    ∙ ap (λ x. record { procs = other.procs; main = other.main; init = x }) (left.init ∙ sym right.init)

-- ---- no triangle

pub no_triangle_left : (p q : Program) → Converted p q → HasNoTriangle q
no_triangle_left p q is k i b there = by (both_at p.procs q.procs is.procs k) where
  by : BothAt p.procs q.procs k → is_triangle b.steps i ≡ false
  by (Neither left right) = absurd cc
  by (Both x y left right pair) =
      let same : y ≡ b = cc in
      subst (λ z. is_triangle z.steps i ≡ false) same (none_left x y pair i)

-- ---- the same units

has_test_opposite : (u : Units) (rel : Rel) → has_test u (opposite rel) ≡ has_test u rel
has_test_opposite u Eq = refl
has_test_opposite u Ne = refl
has_test_opposite u Lt = refl
has_test_opposite u Ge = refl
has_test_opposite u Ltu = refl
has_test_opposite u Geu = refl

over_renumbered : (u : Units) (number : ℕ → ℕ) (step : Step) → is_over u (renumbered number step) ≡ is_over u step
over_renumbered u number (If rel a b to) = refl
over_renumbered u number (Goto to) = refl
over_renumbered u number step = refl

over_becomes : (u : Units) (steps : List Step) (i : ℕ) (step : Step) → slice_get steps i ≡ Some step → is_over u step ≡ true → is_over u (becomes steps i step) ≡ true
over_becomes u steps i step there is = by (kind_of steps i step there) where
  by : Kind steps i step → is_over u (becomes steps i step) ≡ true
  by (Joined rel a b d s same copy begins new) = ap (is_over u) new ∙ has_test_opposite u rel ∙ sym (ap (is_over u) same) ∙ is
  by (Renumbered other new) = ap (is_over u) new ∙ over_renumbered u (place steps) step ∙ is

over_procs : (u : Units) (xs ys : List Proc) → AllPairs IsConverted xs ys → list_all (λ q. list_all (is_over u) q.steps) xs ≡ true → list_all (λ q. list_all (is_over u) q.steps) ys ≡ true
over_procs u [] [] pairs is = refl
over_procs u [] (y ∷ ys) pairs is = absurd pairs
over_procs u (x ∷ xs) [] pairs is = refl
over_procs u (x ∷ xs) (y ∷ ys) pairs is =
    let here = and_left (list_all (is_over u) x.steps) (list_all (λ q. list_all (is_over u) q.steps) xs) is in
    let rest = and_right (list_all (is_over u) x.steps) (list_all (λ q. list_all (is_over u) q.steps) xs) is in
    and_from (list_all (is_over u) y.steps) (list_all (λ q. list_all (is_over u) q.steps) ys)
    (all_from_each (is_over u) y.steps (each here)) (over_procs u xs ys pairs.1 rest)
  where
    each : list_all (is_over u) x.steps ≡ true → (k : ℕ) (step : Step) → slice_get y.steps k ≡ Some step → is_over u step ≡ true
    each all k step there =
        let o = origin_of x y pairs.0 k step there in
        sym (ap (is_over u) o.becomes) ∙ over_becomes u x.steps o.at o.old o.there (list_all_one (is_over u) x.steps o.at o.old all o.there)

pub stands_over : (u : Units) (p q : Program) → Converted p q → StandsOver u p → StandsOver u q
stands_over u p q is over = record { steps = over_procs u p.procs q.procs is.procs over.steps }
