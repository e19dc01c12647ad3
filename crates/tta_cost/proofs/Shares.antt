-- The long immediate: its parts cost nothing, and it has 32 bits.
use Rattle.std.proofs.Common.{◌≡◌, ℕ, zero, suc, ◌+◌, ◌≤◌, ◌==◌, Bool, true, false, ◌&&◌, ◌-◌, List, [], ◌∷◌, length, take, drop, refl, sym, ap, ◌∙◌, arith}
use Rattle.std.specs.Prelude.{if◌then◌else◌, nat_lt, min}
use Rattle.std.proofs.lemmas.Bool.{and_parts, eqb-true}
use Rattle.tta_arch.specs.declared.parts.Template.{Template}
use Rattle.tta_arch.specs.Fields.{bus_width}
use Rattle.tta_arch.specs.Joins.{has_bit}
use Rattle.tta_circuit.specs.Widths.{is_sized}
use Rattle.tta_cost.specs.Cited.{Machine, IsMachine, Expression, Select, Signal, Slice, Join, Whole, LongOf, signal_width, store_width, Cost, free, beside, chosen, shares_from}
use Rattle.tta_hardware.specs.Parts.{above, buses_width, has_template, long_from, long_width}
use Rattle.tta_hardware.proofs.FieldsFit.{field_fits}
use Rattle.tta_cost.specs.Chains.{AreWide, bits_of}
use Rattle.tta_cost.specs.Depths.{cost_of}
use Rattle.tta_cost.proofs.Listed.{after_one}
use Rattle.tta_cost.proofs.Depths.{nothing_more, whole}

one_more : (t : List ℕ) (m : Machine) (taken bus count : ℕ) → cost_of t m (shares_from m (Signal Whole) taken (bus + 1) count) ≡ free
    → cost_of t m (shares_from m (Signal Whole) taken bus (suc count)) ≡ free
one_more t m taken bus count rest_free = by (has_bit taken bus && nat_lt left 32) where
  left : ℕ
  left = long_width m taken (bus + 1) count

  rest : Expression
  rest = shares_from m (Signal Whole) taken (bus + 1) count

  own : Expression
  own = Slice (buses_width m (bus + 1) count) (min (bus_width m bus) (32 - left)) (Signal Whole)

  over : (b : Bool) → cost_of t m (if b then own else Join left own rest) ≡ free
  over true = whole t m
  over false = ap (λ (c : Cost). beside c (cost_of t m rest)) (whole t m) ∙ ap (beside free) rest_free ∙ nothing_more

  by : (b : Bool) → cost_of t m
      (if b then above (Signal Whole) left (buses_width m (bus + 1) count) (min (bus_width m bus) (32 - left)) rest else rest) ≡ free
  by true = over (left == 0)
  by false = rest_free

-- parts of the instruction's word, joined, cost nothing
pub shares_free : (t : List ℕ) (m : Machine) (taken bus count : ℕ) → cost_of t m (shares_from m (Signal Whole) taken bus count) ≡ free
shares_free t m taken bus zero = refl
shares_free t m taken bus (suc count) = one_more t m taken bus count (shares_free t m taken (bus + 1) count)

abbrev sized : Machine → Expression → Bool
sized m e = is_sized (signal_width m) (store_width m) e

wider : (m : Machine) (test on off : Expression) → sized m (Select test on off) ≡ true → (sized m off ≡ true → bits_of m off ≡ 32)
    → bits_of m on ≡ 32
wider m test on off h of_off =
    let both = and_parts (bits_of m test == 1 && bits_of m on == bits_of m off) (sized m test && (sized m on && sized m off)) h in
    let words = and_parts (sized m test) (sized m on && sized m off) both.1 in
    eqb-true (bits_of m on) (bits_of m off) (and_parts (bits_of m test == 1) (bits_of m on == bits_of m off) both.0).1
    ∙ of_off (and_parts (sized m on) (sized m off) words.1).1

off_sized : (m : Machine) (test on off : Expression) → sized m (Select test on off) ≡ true → sized m off ≡ true
off_sized m test on off h =
    let both = and_parts (bits_of m test == 1 && bits_of m on == bits_of m off) (sized m test && (sized m on && sized m off)) h in
    (and_parts (sized m on) (sized m off) (and_parts (sized m test) (sized m on && sized m off) both.1).1).1

-- where a chain over templates is sized, it has 32 bits
chain_wide : (m : Machine) (k : ℕ) (ts : List Template) → sized m (long_from m (Signal Whole) k ts) ≡ true
    → bits_of m (long_from m (Signal Whole) k ts) ≡ 32
chain_wide m k [] h = refl
chain_wide m k (t ∷ ts) h =
    wider m (has_template m (Signal Whole) k) (shares_from m (Signal Whole) t.buses 0 (length m.buses)) (long_from m (Signal Whole) (k + 1) ts)
    h (chain_wide m (k + 1) ts)

-- and so has each immediate
sized_wide : (m : Machine) (k : ℕ) (ts : List Template) → sized m (long_from m (Signal Whole) k ts) ≡ true → AreWide m ts
sized_wide m k [] h = tt
sized_wide m k (t ∷ ts) h =
    let test = has_template m (Signal Whole) k in
    let on = shares_from m (Signal Whole) t.buses 0 (length m.buses) in
    let off = long_from m (Signal Whole) (k + 1) ts in
    (wider m test on off h (chain_wide m (k + 1) ts), sized_wide m (k + 1) ts (off_sized m test on off h))

-- the immediates of all templates of a machine have 32 bits
pub all_wide : (m : Machine) → IsMachine m → AreWide m m.templates
all_wide m rules = let f = field_fits m rules LongOf refl in let h = f.sized in sized_wide m 0 m.templates h

-- one more template
long_more : (t : List ℕ) (m : Machine) (k : ℕ) (xs : List Template) → 1 ≤ length xs → AreWide m xs
    → chosen 32 (beside (cost_of t m (has_template m (Signal Whole) k)) (beside free (cost_of t m (long_from m (Signal Whole) (k + 1) (take (length xs - 1) (drop 1 xs))))))
    ≡ cost_of t m (long_from m (Signal Whole) k xs)
long_more t m k [] some wide = absurd (omega (arith, some))
long_more t m k (x ∷ ts) some wide =
    let same : take (suc (length ts) - 1) ts ≡ ts = after_one ts in
    let test = cost_of t m (has_template m (Signal Whole) k) in let off = cost_of t m (long_from m (Signal Whole) (k + 1) ts) in
    let on = shares_from m (Signal Whole) x.buses 0 (length m.buses) in
    ap (λ (l : List Template). chosen 32 (beside test (beside free (cost_of t m (long_from m (Signal Whole) (k + 1) l))))) same
    ∙ ap (λ (c : Cost). chosen 32 (beside test (beside c off))) (sym (shares_free t m x.buses 0 (length m.buses)))
    ∙ ap (λ (n : ℕ). chosen n (beside test (beside (cost_of t m on) off))) (sym wide.0)

-- the same of costs that were counted
pub long_of : (t : List ℕ) (m : Machine) (k : ℕ) (xs : List Template) → 1 ≤ length xs → AreWide m xs → (test on off r : Cost)
    → r ≡ chosen 32 (beside test (beside on off)) → test ≡ cost_of t m (has_template m (Signal Whole) k) → on ≡ free
    → off ≡ cost_of t m (long_from m (Signal Whole) (k + 1) (take (length xs - 1) (drop 1 xs))) → r ≡ cost_of t m (long_from m (Signal Whole) k xs)
long_of t m k xs some wide test on off r is of_test of_on of_off =
    is ∙ ap (λ (c : Cost). chosen 32 (beside c (beside on off))) of_test
    ∙ ap (λ (c : Cost). chosen 32 (beside (cost_of t m (has_template m (Signal Whole) k)) (beside c off))) of_on
    ∙ ap (λ (c : Cost). chosen 32 (beside (cost_of t m (has_template m (Signal Whole) k)) (beside free c))) of_off
    ∙ long_more t m k xs some wide
