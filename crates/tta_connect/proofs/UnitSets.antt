-- Units by their numbers, and sets of them.
use Rattle.std.proofs.Common.{◌≡◌, ◌<◌, ◌≤◌, ◌+◌, ℕ, Bool, false, List, [], ◌∷◌, length, get_or, refl, sym, ap, ◌∙◌, inl, inr, arith}
use Rattle.std.specs.Prelude.{◌&&◌, slice_get, nat_lt}
use Rattle.std.specs.Option.{option_map_or}
use Rattle.std.proofs.lemmas.Bool.{cases_lt, lt-ltb, le-ltb}
use Rattle.std.proofs.lemmas.Option.{slice_get_read, slice_get_past}
use Rattle.tta_arch.specs.declared.parts.Unit.{Unit as OpUnit}
use Rattle.tta_connect.specs.Cited.{Op, Machine}
use Rattle.tta_connect.specs.Coverage.{is_usable, is_usable_at, first_by, call_in}

-- the unit that stands at a place of the list
pub unit_at : (m : Machine) (hub unit : ℕ) (units : List OpUnit) (v : OpUnit) → units ≡ m.units → v ≡ get_or units unit v → unit < length units
    → is_usable_at m hub unit ≡ is_usable m hub unit v
unit_at m hub unit units v all read below =
    ap (λ l. option_map_or (is_usable m hub unit) (slice_get l unit) false) (sym all)
    ∙ ap (λ o. option_map_or (is_usable m hub unit) o false) (slice_get_read units (length units) unit v refl below read)

-- no unit is past the end of the list
pub units_all : (m : Machine) (hub n unit : ℕ) (units : List OpUnit) → units ≡ m.units → length units ≤ n
    → (nat_lt unit n && is_usable_at m hub unit) ≡ is_usable_at m hub unit
units_all m hub n unit units all whole = elim (cases_lt unit n) [
  | inl below ↦ ap (λ b. b && is_usable_at m hub unit) (lt-ltb unit n below)
  | inr past ↦
      let none : is_usable_at m hub unit ≡ false =
      ap (λ l. option_map_or (is_usable m hub unit) (slice_get l unit) false) (sym all)
      ∙ ap (λ o. option_map_or (is_usable m hub unit) o false) (slice_get_past units unit (omega arith)) in
      ap (λ b. b && is_usable_at m hub unit) (le-ltb unit n past) ∙ sym none
]

-- what units offer depends on which units they are
pub same_offer : (usable usable' : ℕ → Bool) → ((k : ℕ) → usable k ≡ usable' k) → (op : Op) (k : ℕ) (units : List OpUnit)
    → first_by (call_in usable op) k units ≡ first_by (call_in usable' op) k units
same_offer usable usable' same op k [] = refl
same_offer usable usable' same op k (v ∷ vs) = rw (same k, same_offer usable usable' same op (k + 1) vs) refl
