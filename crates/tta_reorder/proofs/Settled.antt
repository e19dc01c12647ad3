-- How many items of a list stay where they are, item by item.
use Rattle.std.proofs.Common.{◌≡◌, ℕ, suc, ◌+◌, ◌<◌, ◌≤◌, true, false, Bool, List, [], ◌∷◌, length, drop, get_or, refl, sym, ap, arith, ◌∙◌}
use Rattle.std.specs.Prelude.{if◌then◌else◌, not, ◌&&◌}
use Rattle.std.proofs.lemmas.List.{drop_more, drop_all}
use Rattle.tta_reorder.specs.Cited.{Machine, Item}
use Rattle.tta_reorder.specs.Channels.{may_wait}
use Rattle.tta_reorder.specs.Orders.{goes_through, settled}

-- after the first n items: so many stay, if none of the rest may wait
pub record SettledTo (m : Machine) (items : List Item) (count n : ℕ) : Type 0 where
  pub all : settled m items ≡ (if goes_through m (drop n items) then count else n + settled m (drop n items))

begins : (g : Bool) (s : ℕ) → (if g then 0 else suc s) ≡ (if g then 0 else 0 + (if g then 0 else suc s))
begins true s = refl
begins false s = omega arith

pub settled_begin : (m : Machine) (items : List Item) → SettledTo m items 0 0
settled_begin m [] = record { all = refl }
settled_begin m (x ∷ xs) = record { all = begins (goes_through m (x ∷ xs)) (settled m xs) }

settled_none : (m : Machine) (xs : List Item) → goes_through m xs ≡ true → settled m xs ≡ 0
settled_none m [] dry = refl
settled_none m (x ∷ xs) dry = rw dry refl

later_by : (goes waits : Bool) (total count n rest : ℕ) → (goes ≡ true → rest ≡ 0)
    → total ≡ (if not waits && goes then count else n + (if not waits && goes then 0 else suc rest))
    → total ≡ (if goes then (if waits then n + 1 else count) else (n + 1) + rest)
later_by true true total count n rest none e = let zero = none refl in omega (arith, e, zero)
later_by true false total count n rest none e = e
later_by false true total count n rest none e = omega (arith, e)
later_by false false total count n rest none e = omega (arith, e)

pub settled_next : (m : Machine) (items : List Item) (count later n : ℕ) (other : Item) → n < length items → later ≡ (if may_wait m (get_or items n other) then n + 1 else count)
    → SettledTo m items count n → SettledTo m items later (n + 1)
settled_next m items count later n other lt e s =
    let x : Item = get_or items n other in
    let old = s.all ∙ ap (λ (l : List Item). if goes_through m l then count else n + settled m l) (drop_more items n other lt) in
    record {
      all = later_by (goes_through m (drop (n + 1) items)) (may_wait m x) (settled m items) count n (settled m (drop (n + 1) items)) (settled_none m (drop (n + 1) items)) old
          ∙ ap (λ c. if goes_through m (drop (n + 1) items) then c else (n + 1) + settled m (drop (n + 1) items)) (sym e);
    }

pub settled_done : (m : Machine) (items : List Item) (count n : ℕ) → SettledTo m items count n → length items ≤ n → count ≡ settled m items
settled_done m items count n s le =
    sym (s.all ∙ ap (λ (l : List Item). if goes_through m l then count else n + settled m l) (drop_all n items le))
