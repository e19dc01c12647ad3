-- The wires of a machine's circuit are plain.
use Rattle.std.proofs.Common.{◌≡◌, ℕ, zero, suc, ◌+◌, ◌<◌, ◌≤◌, Bool, true, false, List, [], ◌∷◌, ◌++◌, length, map, refl, arith}
use Rattle.std.specs.Prelude.{if◌then◌else◌, nat_lt}
use Rattle.std.specs.List.{flat_map, enumerate_from, range_with_len, AllByRecursion}
use Rattle.std.proofs.lemmas.Bool.{and_parts, and_from, ltb-true, lt-ltb}
use Rattle.tta_arch.specs.declared.parts.Unit.{Unit as OpUnit}
use Rattle.tta_hardware.specs.Cited.{Machine, IsMachine, numbers, guard_width, dest_width, template_width, IsWritten, IsWrittenWire}
use Rattle.tta_hardware.specs.Signals.{Field, GuardOf, IsShort, SourceOf, ShortOf, DestOf, TemplateOf, LongOf, Signal as Named, Expression, Port, Fetched, Starts, Trigger, Operand, Controls, GoalNow, EndsNow, Lands, Asks, Gives, Goes, NextPc, Puts, PutWord}
use Rattle.tta_hardware.specs.Fields.{field_width}
use Rattle.tta_hardware.specs.Hardware.{with_bits, bus_fields, all_fields, bus_wires, unit_wires, first_wires, wire_names, wire}
use Rattle.tta_hardware.specs.Stands.{has_field}
use Rattle.tta_hardware.specs.Sized.{signal_width, store_width, Fits, WiresFit}
use Rattle.tta_hardware.proofs.Bits.{payload_some, address_some}
use Rattle.tta_hardware.proofs.WiresFit.{both_lists, all_map, wires_fit}
use Rattle.tta_hardware.proofs.RegistersFit.{weaker, registers_fit}
use Rattle.tta_hardware.proofs.FieldsFit.{field_fits}

-- ---- lists

pub below_all : (n a k : ℕ) → a + k ≤ n → AllByRecursion (λ i. i < n) (range_with_len a k)
below_all n a zero few = tt
below_all n a (suc k) few = (omega (arith, few), below_all n (a + 1) k (omega (arith, few)))

pub all_each : {A : Type 0} (P : A → Type 0) (xs : List A) → ((x : A) → P x) → AllByRecursion P xs
all_each P [] each = tt
all_each P (x ∷ xs) each = (each x, all_each P xs each)

pub all_made : {A B : Type 0} (P : B → Type 0) (f : A → B) (xs : List A) → ((x : A) → P (f x)) → AllByRecursion P (map f xs)
all_made P f xs each = all_map P f xs (all_each (λ x. P (f x)) xs each)

pub all_pieces : {A B : Type 0} (Q : A → Type 0) (P : B → Type 0) (f : A → List B) (xs : List A) → AllByRecursion Q xs
    → ((x : A) → Q x → AllByRecursion P (f x)) → AllByRecursion P (flat_map f xs)
all_pieces Q P f [] all each = tt
all_pieces Q P f (x ∷ xs) all each = both_lists P (f x) (flat_map f xs) (each x all.0) (all_pieces Q P f xs all.1 each)

pub every_piece : {A B : Type 0} (P : B → Type 0) (f : A → List B) (xs : List A) → ((x : A) → AllByRecursion P (f x))
    → AllByRecursion P (flat_map f xs)
every_piece P f [] each = tt
every_piece P f (x ∷ xs) each = both_lists P (f x) (flat_map f xs) (each x) (every_piece P f xs each)

module _ (m : Machine) (rules : IsMachine m) where
  -- an expression that fits
  pub written : (e : Expression) (width : ℕ) → Fits m e width → IsWritten (signal_width m) (store_width m) e width
  written e width f = record { plain = f.plain; sized = f.sized; wide = f.wide }

  -- ---- fields

  bits_have : (width : ℕ) (f : Field) → (0 < width → has_field m f ≡ true) → AllByRecursion (λ g. has_field m g ≡ true) (with_bits width f)
  bits_have width f has = by (nat_lt 0 width) refl where
    by : (b : Bool) → nat_lt 0 width ≡ b → AllByRecursion (λ g. has_field m g ≡ true) (if b then f ∷ [] else [])
    by true some = (has (ltb-true 0 width some), tt)
    by false none = tt

  of_bus : (bus : ℕ) → bus < length m.buses → AllByRecursion (λ f. has_field m f ≡ true) (bus_fields m bus)
  of_bus bus less =
      both_lists (λ f. has_field m f ≡ true) (with_bits (guard_width m bus) (GuardOf bus))
      (IsShort bus ∷ SourceOf bus ∷ ShortOf bus ∷ with_bits (dest_width m bus) (DestOf bus))
      (bits_have (guard_width m bus) (GuardOf bus) (λ some. and_from (nat_lt bus (length m.buses)) (nat_lt 0 (guard_width m bus)) there
      (lt-ltb 0 (guard_width m bus) some))) (
        there,
        (
          there,
          (
            there,
            bits_have (dest_width m bus) (DestOf bus)
                (λ some. and_from (nat_lt bus (length m.buses)) (nat_lt 0 (dest_width m bus)) there (lt-ltb 0 (dest_width m bus) some)),
          ),
        ),
      )
    where
      there : nat_lt bus (length m.buses) ≡ true
      there = lt-ltb bus (length m.buses) less

  pub fields_have : AllByRecursion (λ f. has_field m f ≡ true) (all_fields m)
  fields_have =
      both_lists (λ f. has_field m f ≡ true) (flat_map (bus_fields m) (numbers (length m.buses)) ++ with_bits (template_width m) TemplateOf)
      (LongOf ∷ [])
      (both_lists (λ f. has_field m f ≡ true) (flat_map (bus_fields m) (numbers (length m.buses))) (with_bits (template_width m) TemplateOf)
      (all_pieces (λ bus. bus < length m.buses) (λ f. has_field m f ≡ true) (bus_fields m) (numbers (length m.buses))
      (below_all (length m.buses) 0 (length m.buses) (omega arith)) of_bus)
      (bits_have (template_width m) TemplateOf (λ some. lt-ltb 0 (template_width m) some)))
      (refl, tt)

  -- a field that the machine has has bits
  wide_field : (f : Field) → has_field m f ≡ true → 0 < field_width m f
  wide_field (GuardOf bus) has = let p = and_parts (nat_lt bus (length m.buses)) (nat_lt 0 (guard_width m bus)) has in
      ltb-true 0 (guard_width m bus) p.1
  wide_field (IsShort bus) has = omega arith
  wide_field (SourceOf bus) has = payload_some m bus rules (ltb-true bus (length m.buses) has)
  wide_field (ShortOf bus) has = omega arith
  wide_field (DestOf bus) has = let p = and_parts (nat_lt bus (length m.buses)) (nat_lt 0 (dest_width m bus)) has in
      ltb-true 0 (dest_width m bus) p.1
  wide_field TemplateOf has = ltb-true 0 (template_width m) has
  wide_field LongOf has = omega arith

  -- ---- wires

  abbrev Written : Named → Type 0
  Written n = IsWrittenWire (signal_width m) (store_width m) (wire m n)

  fit : WiresFit m
  fit = wires_fit m rules

  field_written : (f : Field) → has_field m f ≡ true → Written (Fetched f)
  field_written f has = record { some = wide_field f has; wide = refl; word = written _ _ (field_fits m rules f has) }

  port_written : (unit : ℕ) → Written (Port unit)
  port_written unit = record { some = omega arith; wide = refl; word = written _ _ (fit.port unit) }

  bus_written : (bus : ℕ) → bus < length m.buses → AllByRecursion Written (bus_wires bus)
  bus_written bus less = (
    record { some = omega arith; wide = refl; word = written _ _ (fit.acts bus) },
    (record { some = omega arith; wide = refl; word = written _ _ (fit.word bus less) }, tt),
  )

  unit_written : (x : ℕ × OpUnit) → AllByRecursion Written (unit_wires x)
  unit_written x =
      both_lists Written (map (Starts x.0) (numbers (length x.1.ops))) (Trigger x.0 ∷ Operand x.0 ∷ [])
      (all_made Written (Starts x.0) (numbers (length x.1.ops))
      (λ op. record { some = omega arith; wide = refl; word = written _ _ (fit.starts x.0 op) })) (
        record { some = omega arith; wide = refl; word = written _ _ (fit.trigger x.0) },
        (record { some = omega arith; wide = refl; word = written _ _ (fit.operand x.0) }, tt),
      )

  last_written : AllByRecursion Written (Controls ∷ GoalNow ∷ EndsNow ∷ Lands ∷ Asks ∷ Gives ∷ Goes ∷ NextPc ∷ Puts ∷ PutWord ∷ [])
  last_written = (
    record { some = omega arith; wide = refl; word = written _ _ fit.controls },
    (
      record { some = omega arith; wide = refl; word = written _ _ fit.goal },
      (
        record { some = omega arith; wide = refl; word = written _ _ fit.ends },
        (
          record { some = omega arith; wide = refl; word = written _ _ fit.lands },
          (
            record { some = omega arith; wide = refl; word = written _ _ fit.asks },
            (
              record { some = omega arith; wide = refl; word = written _ _ fit.gives },
              (
                record { some = omega arith; wide = refl; word = written _ _ fit.goes },
                (
                  record { some = address_some m rules; wide = refl; word = written _ _ (registers_fit m rules).next_pc },
                  (
                    record { some = omega arith; wide = refl; word = written _ _ fit.puts },
                    (record { some = omega arith; wide = refl; word = written _ _ fit.put_word }, tt),
                  ),
                ),
              ),
            ),
          ),
        ),
      ),
    ),
  )

  pub names_written : AllByRecursion Written (wire_names m)
  names_written =
      both_lists Written (first_wires m ++ flat_map bus_wires (numbers (length m.buses)) ++ flat_map unit_wires (enumerate_from 0 m.units))
      _
      (both_lists Written (first_wires m ++ flat_map bus_wires (numbers (length m.buses))) (flat_map unit_wires (enumerate_from 0 m.units))
      (both_lists Written (first_wires m) (flat_map bus_wires (numbers (length m.buses)))
      (both_lists Written (map Fetched (all_fields m)) (map Port (numbers (length m.units)))
      (all_map Written Fetched (all_fields m) (weaker (λ f. has_field m f ≡ true) (λ f. Written (Fetched f)) (all_fields m)
      field_written fields_have))
      (all_made Written Port (numbers (length m.units)) port_written))
      (all_pieces (λ bus. bus < length m.buses) Written bus_wires (numbers (length m.buses))
      (below_all (length m.buses) 0 (length m.buses) (omega arith)) bus_written))
      (every_piece Written unit_wires (enumerate_from 0 m.units) unit_written))
      last_written
