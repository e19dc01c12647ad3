-- The short field of a bus has 32 bits once it is extended.
use Rattle.std.proofs.Common.{◌≡◌, ℕ, ◌≤◌, ◌+◌, ◌-◌, ◌^◌, ◌==◌, Bool, true, false, List, Option, None, Some, refl, sym, ap, ◌∙◌, arith}
use Rattle.std.specs.Prelude.{if◌then◌else◌, slice_get}
use Rattle.std.specs.Option.{option_map_or}
use Rattle.std.proofs.lemmas.Bool.{eqb-true}
use Rattle.tta_arch.specs.declared.parts.Bus.{Bus}
use Rattle.tta_arch.specs.Fields.{short_width}
use Rattle.tta_arch.specs.Rules.{is_bus}
use Rattle.tta_list.proofs.Lists.{list_all_one}
use Rattle.tta_cost.specs.Cited.{Machine, IsMachine, Const, Join, Slice, Signal, Whole, Expression, Select, Cost, free, beside, chosen}
use Rattle.tta_hardware.specs.Parts.{below_payload, short_part, with_high}
use Rattle.tta_cost.specs.Chains.{bits_of}
use Rattle.tta_cost.specs.Depths.{cost_of}
use Rattle.tta_cost.proofs.Depths.{nothing_more, whole}

-- a short field has 32 bits at most
short_few : (m : Machine) → IsMachine m → (bus : ℕ) → short_width m bus ≤ 32
short_few m rules bus = by (slice_get m.buses bus) refl where
  of : (b : Bus) → is_bus b ≡ true → b.short ≤ 32
  of b good = grind (arith, good)

  by : (o : Option Bus) → slice_get m.buses bus ≡ o → option_map_or (λ b. b.short) o 0 ≤ 32
  by None at = omega arith
  by (Some b) at = of b (list_all_one is_bus m.buses bus b rules.buses at)

-- with what stands above it, it has 32
high_wide : (m : Machine) → IsMachine m → (bus high : ℕ) → bits_of m (with_high m (Signal Whole) bus high) ≡ 32
high_wide m rules bus high = by (short_width m bus == 32) refl where
  by : (b : Bool) → (short_width m bus == 32) ≡ b
      → bits_of m (if b then Slice (below_payload m bus) (short_width m bus) (Signal Whole)
      else Join (short_width m bus) (Const (32 - short_width m bus) high) (Slice (below_payload m bus) (short_width m bus) (Signal Whole)))
      ≡ 32
  by true is = eqb-true (short_width m bus) 32 is
  by false is = let few = short_few m rules bus in omega (arith, few)

-- and costs nothing
high_free : (t : List ℕ) (m : Machine) (bus high : ℕ) → cost_of t m (with_high m (Signal Whole) bus high) ≡ free
high_free t m bus high = by (short_width m bus == 32) where
  by : (b : Bool) → cost_of t m (if b then Slice (below_payload m bus) (short_width m bus) (Signal Whole)
      else Join (short_width m bus) (Const (32 - short_width m bus) high) (Slice (below_payload m bus) (short_width m bus) (Signal Whole)))
      ≡ free
  by true = whole t m
  by false = ap (beside free) (whole t m) ∙ nothing_more

-- a short field, extended
short_cost : (t : List ℕ) (m : Machine) → IsMachine m → (bus : ℕ) → cost_of t m (short_part m (Signal Whole) bus)
    ≡ (if option_map_or (λ b. b.signed) (slice_get m.buses bus) false then chosen 32 (beside free (beside free free)) else free)
short_cost t m rules bus = by (option_map_or (λ b. b.signed) (slice_get m.buses bus) false) where
  ones : Expression
  ones = with_high m (Signal Whole) bus (2 ^ (32 - short_width m bus) - 1)

  zeros : Expression
  zeros = with_high m (Signal Whole) bus 0

  top : Expression
  top = Slice (below_payload m bus + (short_width m bus - 1)) 1 (Signal Whole)

  by : (b : Bool) → cost_of t m (if b then Select top ones zeros else zeros) ≡ (if b then chosen 32 (beside free (beside free free)) else free)
  by true =
      ap (λ (n : ℕ). chosen n (beside (cost_of t m top) (beside (cost_of t m ones) (cost_of t m zeros))))
      (high_wide m rules bus (2 ^ (32 - short_width m bus) - 1))
      ∙ ap (λ (c : Cost). chosen 32 (beside c (beside (cost_of t m ones) (cost_of t m zeros)))) (whole t m)
      ∙ ap (λ (c : Cost). chosen 32 (beside free (beside c (cost_of t m zeros))))
      (high_free t m bus (2 ^ (32 - short_width m bus) - 1))
      ∙ ap (λ (c : Cost). chosen 32 (beside free (beside free c))) (high_free t m bus 0)
  by false = high_free t m bus 0

-- the same by a test that was made
pub short_of : (t : List ℕ) (m : Machine) → IsMachine m → (bus : ℕ) (b : Bool) (r : Cost) → b ≡ option_map_or (λ b. b.signed) (slice_get m.buses bus) false
    → r ≡ (if b then chosen 32 (beside free (beside free free)) else free) → r ≡ cost_of t m (short_part m (Signal Whole) bus)
short_of t m rules bus b r is has =
    has ∙ ap (λ (x : Bool). if x then chosen 32 (beside free (beside free free)) else free) is ∙ sym (short_cost t m rules bus)
