-- How long the placed lists of a program are together at most.
use Rattle.std.proofs.Common.{◌≡◌, ◌≤◌, ◌+◌, ◌*◌, ℕ, suc, List, [], ◌∷◌, Some, refl, ap, arith, length, slice_get}
use Rattle.std.proofs.Math.Nat.{add-mul, suc-mul, mul-le-mul}
use Rattle.std.proofs.lemmas.List.Sums.{sum_by-cons}
use Rattle.tta_compiler_laws.specs.Cited.{Machine, step_count, BlockList, Placed, longest, HasRoom, arg_count, var_count, items_in, total_length}
use Rattle.tta_select.proofs.Selecting.{selects}
use Rattle.tta_compiler_laws.specs.Compiler.{AreStandIns, raw}
use Rattle.tta_compiler_laws.specs.Room.{ListsFit}
use Rattle.tta_compiler_laws.proofs.Composed.{code, law, given}
use Rattle.tta_compiler_laws.proofs.Planning.{lists_planned}

-- placed lists with room take at most a number for each item and one for each list
total_fits : (m : Machine) (lists : List BlockList) (ps : List Placed) → length ps ≡ length lists
    → ((k : ℕ) (b : BlockList) (q : Placed) → slice_get lists k ≡ Some b → slice_get ps k ≡ Some q → HasRoom m b.items q)
    → total_length ps ≤ items_in lists * (longest m + 1) + length lists * (m.control.delay + longest m + 2)
total_fits m [] [] n each = omega arith
total_fits m [] (p ∷ ps) n each = absurd (omega (arith, n))
total_fits m (b ∷ lists) [] n each = absurd (omega (arith, n))
total_fits m (b ∷ lists) (p ∷ ps) n each =
    let one = each 0 b p refl refl in
    let rest = total_fits m lists ps (omega (arith, n)) (λ k c q is at. each (suc k) c q is at) in
    let s = sum_by-cons (λ (c : BlockList). length c.items) b lists in
    sum_up (longest m + 1) (m.control.delay + longest m + 2) p.length (total_length ps) (length b.items) (items_in lists) (length lists) (items_in (b ∷ lists)) one rest s where
      sum_up : (c e x t n i l s : ℕ) → x ≤ n * c + e → t ≤ i * c + l * e → s ≡ n + i → x + t ≤ s * c + suc l * e
      sum_up c e x t n i l s one rest same =
          let a = add-mul n i c in
          let b = suc-mul l e in
          let d : s * c ≡ (n + i) * c = ap (λ (k : ℕ). k * c) same in
          omega (arith, one, rest, a, b, d)

-- lists that may be placed for others have no more items
no_more_items : (m : Machine) (lists others : List BlockList) → AreStandIns m lists others → items_in others ≤ items_in lists
no_more_items m [] [] all = omega arith
no_more_items m [] (o ∷ others) all = absurd all
no_more_items m (b ∷ lists) [] all = absurd all
no_more_items m (b ∷ lists) (o ∷ others) all =
    let few = all.0.spare.few in
    let rest = no_more_items m lists others all.1 in
    let s = sum_by-cons (λ (c : BlockList). length c.items) b lists in
    let t = sum_by-cons (λ (c : BlockList). length c.items) o others in
    omega (arith, few, rest, s, t)

pub lists_fit : ListsFit
lists_fit u m c p known lists ps pair is_known stand are =
    let total = total_fits m lists ps are.respected.count are.room in
    let less = no_more_items m (raw u m c p known) lists stand in
    let light = (selects u m c (code u m c p known pair is_known) (given u m c p known pair is_known)).size.items in
    let w = (law u m c p known pair is_known).light in
    let few = (law u m c p known pair is_known).few in
    let q = (lists_planned u m c p known lists pair is_known stand).count in
    let items : items_in lists ≤ 32 * step_count p + 8 * (arg_count p + var_count p) + 16 * length p.procs = omega (arith, less, light, w) in
    let count : length lists ≤ 2 * step_count p + 3 * length p.procs = omega (arith, q, few) in
    let a : items_in lists * (longest m + 1) ≤ (32 * step_count p + 8 * (arg_count p + var_count p) + 16 * length p.procs) * (longest m + 1) = mul-le-mul items (let z : longest m + 1 ≤ longest m + 1 = omega arith in z) in
    let b : length lists * (m.control.delay + longest m + 2) ≤ (2 * step_count p + 3 * length p.procs) * (m.control.delay + longest m + 2) =
    mul-le-mul count (let z : m.control.delay + longest m + 2 ≤ m.control.delay + longest m + 2 = omega arith in z) in
    omega (arith, total, a, b)
