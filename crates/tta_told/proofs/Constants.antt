-- Constants in lists of choices, and in the fields of an instruction, are narrow.
use Rattle.std.proofs.Common.{◌≡◌, ℕ, zero, suc, ◌+◌, ◌-◌, ◌<◌, ◌^◌, ◌==◌, Bool, true, false, ◌&&◌, List, [], ◌∷◌, ◌++◌, length, map, refl, arith}
use Rattle.std.specs.Prelude.{if◌then◌else◌, nat_lt, nat_le, min}
use Rattle.std.specs.List.{AllByRecursion}
use Rattle.std.proofs.lemmas.Bool.{and_parts, and_from, lt-ltb, ltb-true, le-leb}
use Rattle.tta_arch.specs.Fields.{template_width, short_width, guard_width, payload_width, dest_width}
use Rattle.tta_arch.specs.Joins.{has_bit}
use Rattle.tta_arch.specs.declared.parts.Template.{Template}
use Rattle.tta_image.proofs.NarrowFields.{narrow as narrow_fields, narrow_template}
use Rattle.tta_circuit.specs.Circuit.{Const, Signal, Slice, Join, Select, Either}
use Rattle.tta_hardware.specs.Cited.{Machine, IsMachine, word_width}
use Rattle.tta_hardware.specs.Signals.{Field, GuardOf, IsShort, SourceOf, ShortOf, DestOf, TemplateOf, LongOf, Signal as Named, Whole, Expression}
use Rattle.tta_hardware.specs.Chains.{any_of, first_of, pick_from}
use Rattle.tta_hardware.specs.Stands.{has_field}
use Rattle.tta_arch.specs.Fields.{bus_width}
use Rattle.tta_image.specs.Decoding.{is_signed}
use Rattle.tta_hardware.specs.Parts.{buses_width, long_width, below_bus, below_payload, above, has_template, takes_from, shares_from, long_from, with_high, short_part}
use Rattle.tta_hardware.specs.Wires.{fetched}
use Rattle.tta_told.proofs.Narrow.{narrow, word_most}

module _ (m : Machine) where
  pub three : (a b c : Expression) → narrow m a ≡ true → narrow m b ≡ true → narrow m c ≡ true → narrow m (Select a b c) ≡ true
  three a b c p q r = and_from (narrow m a) (narrow m b && narrow m c) p (and_from (narrow m b) (narrow m c) q r)

  pub any_narrow : {A : Type 0} (f : A → Expression) (xs : List A) → AllByRecursion (λ x. narrow m (f x) ≡ true) xs
      → narrow m (any_of (map f xs)) ≡ true
  any_narrow f [] all = refl
  any_narrow f (x ∷ xs) all = and_from (narrow m (f x)) (narrow m (any_of (map f xs))) all.0 (any_narrow f xs all.1)

  pub first_narrow : {A : Type 0} (f e : A → Expression) (xs : List A) (other : Expression)
      → AllByRecursion (λ x. (narrow m (f x) ≡ true) × (narrow m (e x) ≡ true)) xs → narrow m other ≡ true
      → narrow m (first_of (map (λ x. (f x, e x)) xs) other) ≡ true
  first_narrow f e [] other all rest = rest
  first_narrow f e (x ∷ xs) other all rest =
      three (f x) (e x) (first_of (map (λ x. (f x, e x)) xs) other) all.0.0 all.0.1 (first_narrow f e xs other all.1 rest)

  pub both_narrow : (xs ys : List (Expression × Expression)) (other : Expression)
      → AllByRecursion (λ c. (narrow m c.0 ≡ true) × (narrow m c.1 ≡ true)) xs → narrow m (first_of ys other) ≡ true
      → narrow m (first_of (xs ++ ys) other) ≡ true
  both_narrow [] ys other all rest = rest
  both_narrow (x ∷ xs) ys other all rest =
      three x.0 x.1 (first_of (xs ++ ys) other) all.0.0 all.0.1 (both_narrow xs ys other all.1 rest)

  pub pick_narrow : {A : Type 0} (width j : ℕ) (n : Named) (f : A → Expression) (xs : List A) (other : Expression) → nat_le width 64 ≡ true
      → ((x : A) → narrow m (f x) ≡ true) → narrow m other ≡ true → narrow m (pick_from width (Signal n) j (map f xs) other) ≡ true
  pick_narrow width j n f [] other few each rest = rest
  pick_narrow width j n f (x ∷ xs) other few each rest =
      and_from (nat_le width 64) _ few (and_from (narrow m (f x)) _ (each x) (pick_narrow width (j + 1) n f xs other few each rest))

module _ (m : Machine) (rules : IsMachine m) where
  -- ---- how wide fields and addresses are

  word_short : nat_lt (word_width m) (2 ^ 64) ≡ true
  word_short = let w = word_most m rules in lt-ltb (word_width m) (2 ^ 64) (omega (arith, w))

  pub template_short : nat_le (template_width m) 64 ≡ true
  template_short = let t = narrow_template m rules in le-leb (template_width m) 64 (omega (arith, t))

  module _ (bus : ℕ) (less : bus < length m.buses) where
    pub dest_short : nat_le (dest_width m bus) 64 ≡ true
    dest_short = let f = (narrow_fields m bus rules less).dest in le-leb (dest_width m bus) 64 (omega (arith, f))

    pub guard_short : nat_le (guard_width m bus) 64 ≡ true
    guard_short = let f = (narrow_fields m bus rules less).guard in le-leb (guard_width m bus) 64 (omega (arith, f))

    pub payload_short : nat_le (payload_width m bus) 64 ≡ true
    payload_short = let f = (narrow_fields m bus rules less).payload in le-leb (payload_width m bus) 64 (omega (arith, f))

  -- ---- the fields of the instruction

  -- parts of the instruction's word
  cut_narrow : (low width : ℕ) → narrow m (Slice low width (Signal Whole)) ≡ true
  cut_narrow low width = word_short

  template_narrow : (template : ℕ) → narrow m (has_template m (Signal Whole) template) ≡ true
  template_narrow template = and_from (nat_lt (word_width m) (2 ^ 64)) (nat_le (template_width m) 64) word_short template_short

  takes_narrow : (bus template : ℕ) (ts : List Template) → narrow m (takes_from m (Signal Whole) bus template ts) ≡ true
  takes_narrow bus template [] = refl
  takes_narrow bus template (t ∷ ts) = by (has_bit t.buses bus) (takes_narrow bus (template + 1) ts) where
    by : (b : Bool) → narrow m (takes_from m (Signal Whole) bus (template + 1) ts) ≡ true
        → narrow m (if b then Either (has_template m (Signal Whole) template) (takes_from m (Signal Whole) bus (template + 1) ts)
        else takes_from m (Signal Whole) bus (template + 1) ts) ≡ true
    by true rest =
        and_from (narrow m (has_template m (Signal Whole) template)) (narrow m (takes_from m (Signal Whole) bus (template + 1) ts))
        (template_narrow template) rest
    by false rest = rest

  above_narrow : (left low width : ℕ) (rest : Expression) → narrow m rest ≡ true → narrow m (above (Signal Whole) left low width rest) ≡ true
  above_narrow left low width rest is = by (left == 0) where
    by : (b : Bool) → narrow m (if b then Slice low width (Signal Whole) else Join left (Slice low width (Signal Whole)) rest) ≡ true
    by true = word_short
    by false = and_from (nat_lt (word_width m) (2 ^ 64)) (narrow m rest) word_short is

  shares_narrow : (taken bus count : ℕ) → narrow m (shares_from m (Signal Whole) taken bus count) ≡ true
  shares_narrow taken bus zero = refl
  shares_narrow taken bus (suc count) =
      by (has_bit taken bus && nat_lt (long_width m taken (bus + 1) count) 32) (shares_narrow taken (bus + 1) count) where
        by : (b : Bool) → narrow m (shares_from m (Signal Whole) taken (bus + 1) count) ≡ true
            → narrow m (if b then above (Signal Whole) (long_width m taken (bus + 1) count) (buses_width m (bus + 1) count)
            (min (bus_width m bus) (32 - long_width m taken (bus + 1) count)) (shares_from m (Signal Whole) taken (bus + 1) count)
            else shares_from m (Signal Whole) taken (bus + 1) count) ≡ true
        by true rest =
            above_narrow (long_width m taken (bus + 1) count) (buses_width m (bus + 1) count)
            (min (bus_width m bus) (32 - long_width m taken (bus + 1) count)) (shares_from m (Signal Whole) taken (bus + 1) count) rest
        by false rest = rest

  long_narrow : (template : ℕ) (ts : List Template) → narrow m (long_from m (Signal Whole) template ts) ≡ true
  long_narrow template [] = refl
  long_narrow template (t ∷ ts) =
      three m (has_template m (Signal Whole) template) (shares_from m (Signal Whole) t.buses 0 (length m.buses))
      (long_from m (Signal Whole) (template + 1) ts) (template_narrow template) (shares_narrow t.buses 0 (length m.buses))
      (long_narrow (template + 1) ts)

  high_narrow : (bus high : ℕ) → narrow m (with_high m (Signal Whole) bus high) ≡ true
  high_narrow bus high = by (short_width m bus == 32) where
    by : (b : Bool) → narrow m (if b then Slice (below_payload m bus) (short_width m bus) (Signal Whole)
        else Join (short_width m bus) (Const (32 - short_width m bus) high) (Slice (below_payload m bus) (short_width m bus) (Signal Whole)))
        ≡ true
    by true = word_short
    by false = and_from (nat_le (32 - short_width m bus) 64) (nat_lt (word_width m) (2 ^ 64)) (le-leb (32 - short_width m bus) 64 (omega arith)) word_short

  short_narrow : (bus : ℕ) → narrow m (short_part m (Signal Whole) bus) ≡ true
  short_narrow bus = by (is_signed m bus) where
    by : (b : Bool) → narrow m (if b then Select (Slice (below_payload m bus + (short_width m bus - 1)) 1 (Signal Whole))
        (with_high m (Signal Whole) bus (2 ^ (32 - short_width m bus) - 1)) (with_high m (Signal Whole) bus 0)
        else with_high m (Signal Whole) bus 0) ≡ true
    by true =
        three m (Slice (below_payload m bus + (short_width m bus - 1)) 1 (Signal Whole))
        (with_high m (Signal Whole) bus (2 ^ (32 - short_width m bus) - 1)) (with_high m (Signal Whole) bus 0) word_short
        (high_narrow bus (2 ^ (32 - short_width m bus) - 1)) (high_narrow bus 0)
    by false = high_narrow bus 0

  pub field_narrow : (f : Field) → has_field m f ≡ true → narrow m (fetched m f) ≡ true
  field_narrow (GuardOf bus) is = word_short
  field_narrow (IsShort bus) is = word_short
  field_narrow (SourceOf bus) is = word_short
  field_narrow (ShortOf bus) is = short_narrow bus
  field_narrow (DestOf bus) is =
      three m (takes_from m (Signal Whole) bus 0 m.templates) (Const (dest_width m bus) 0) (Slice (below_bus m bus) (dest_width m bus) (Signal Whole))
      (takes_narrow bus 0 m.templates) (dest_short bus (ltb-true bus (length m.buses) (and_parts (nat_lt bus (length m.buses)) _ is).0)) word_short
  field_narrow TemplateOf is = word_short
  field_narrow LongOf is = long_narrow 0 m.templates
