-- No two fields of an instruction are one.
use Rattle.std.proofs.Common.{◌≡◌, ℕ, ◌<◌, ◌≤◌, Bool, true, false, [], ◌∷◌, ◌++◌, length, refl, arith}
use Rattle.std.specs.Prelude.{if◌then◌else◌, nat_lt}
use Rattle.std.specs.List.{flat_map, AllByRecursion}
use Rattle.tta_hardware.specs.Cited.{Machine, numbers, guard_width, dest_width, template_width}
use Rattle.tta_hardware.specs.Signals.{Field, GuardOf, IsShort, SourceOf, ShortOf, DestOf, TemplateOf, LongOf}
use Rattle.tta_hardware.specs.Hardware.{with_bits, bus_fields, all_fields}
use Rattle.tta_hardware.proofs.WiresFit.{both_lists}
use Rattle.tta_hardware.proofs.PlainWires.{every_piece}
use Rattle.tta_hardware.proofs.Different.{Apart, split, risen, numbers_rise, pieces}

-- ---- fields

-- the bus of a field
abbrev bus_of : Field → ℕ
bus_of (GuardOf bus) = bus
bus_of (IsShort bus) = bus
bus_of (SourceOf bus) = bus
bus_of (ShortOf bus) = bus
bus_of (DestOf bus) = bus
bus_of TemplateOf = 0
bus_of LongOf = 0

-- where a field stands among those of its bus
abbrev place_of : Field → ℕ
place_of (GuardOf bus) = 0
place_of (IsShort bus) = 1
place_of (SourceOf bus) = 2
place_of (ShortOf bus) = 3
place_of (DestOf bus) = 4
place_of TemplateOf = 5
place_of LongOf = 6

with_one : (P : Field → Type 0) (width : ℕ) (f : Field) → P f → AllByRecursion P (with_bits width f)
with_one P width f is = by (nat_lt 0 width) where
  by : (b : Bool) → AllByRecursion P (if b then f ∷ [] else [])
  by true = (is, tt)
  by false = tt

one_apart : (width : ℕ) (f : Field) → Apart (with_bits width f)
one_apart width f = by (nat_lt 0 width) where
  by : (b : Bool) → Apart (if b then f ∷ [] else [])
  by true = (tt, tt)
  by false = tt

bus_apart : (m : Machine) (bus : ℕ) → Apart (bus_fields m bus)
bus_apart m bus =
    split place_of 0 (with_bits (guard_width m bus) (GuardOf bus))
    (IsShort bus ∷ SourceOf bus ∷ ShortOf bus ∷ with_bits (dest_width m bus) (DestOf bus))
    (with_one (λ f. place_of f ≤ 0) (guard_width m bus) (GuardOf bus) (omega arith))
    (omega arith, (omega arith, (omega arith, with_one (λ f. 0 < place_of f) (dest_width m bus) (DestOf bus) (omega arith))))
    (one_apart (guard_width m bus) (GuardOf bus))
    (split place_of 3 (IsShort bus ∷ SourceOf bus ∷ ShortOf bus ∷ []) (with_bits (dest_width m bus) (DestOf bus))
    (omega arith, (omega arith, (omega arith, tt))) (with_one (λ f. 3 < place_of f) (dest_width m bus) (DestOf bus) (omega arith))
    (risen place_of 1 (IsShort bus ∷ SourceOf bus ∷ ShortOf bus ∷ []) refl) (one_apart (dest_width m bus) (DestOf bus)))

of_bus : (m : Machine) (bus : ℕ) (P : Field → Type 0) → P (GuardOf bus) → P (IsShort bus) → P (SourceOf bus) → P (ShortOf bus)
    → P (DestOf bus)
    → AllByRecursion P (bus_fields m bus)
of_bus m bus P guard short src word dst =
    both_lists P (with_bits (guard_width m bus) (GuardOf bus))
    (IsShort bus ∷ SourceOf bus ∷ ShortOf bus ∷ with_bits (dest_width m bus) (DestOf bus))
    (with_one P (guard_width m bus) (GuardOf bus) guard) (short, (src, (word, with_one P (dest_width m bus) (DestOf bus) dst)))

pub fields_apart : (m : Machine) → Apart (all_fields m)
fields_apart m =
    split place_of 5 (flat_map (bus_fields m) (numbers (length m.buses)) ++ with_bits (template_width m) TemplateOf) (LongOf ∷ [])
    (both_lists (λ f. place_of f ≤ 5) (flat_map (bus_fields m) (numbers (length m.buses))) (with_bits (template_width m) TemplateOf)
    (every_piece (λ f. place_of f ≤ 5) (bus_fields m) (numbers (length m.buses))
    (λ bus. of_bus m bus (λ f. place_of f ≤ 5) (omega arith) (omega arith) (omega arith) (omega arith) (omega arith)))
    (with_one (λ f. place_of f ≤ 5) (template_width m) TemplateOf (omega arith)))
    (omega arith, tt)
    (split place_of 4 (flat_map (bus_fields m) (numbers (length m.buses))) (with_bits (template_width m) TemplateOf)
    (every_piece (λ f. place_of f ≤ 4) (bus_fields m) (numbers (length m.buses))
    (λ bus. of_bus m bus (λ f. place_of f ≤ 4) (omega arith) (omega arith) (omega arith) (omega arith) (omega arith)))
    (with_one (λ f. 4 < place_of f) (template_width m) TemplateOf (omega arith))
    (pieces (λ (i : ℕ). i) bus_of (bus_fields m) 0 (numbers (length m.buses)) (numbers_rise 0 (length m.buses))
    (λ bus. of_bus m bus (λ f. bus_of f ≡ bus) refl refl refl refl refl) (bus_apart m))
    (one_apart (template_width m) TemplateOf))
    (tt, tt)
