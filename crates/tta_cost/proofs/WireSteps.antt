-- Wires, one after another.
use Rattle.std.proofs.Common.{◌≡◌, ℕ, ◌+◌, ◌-◌, ◌≤◌, List, [], ◌∷◌, ◌++◌, map, length, take, drop, get_or, sym, ap, ◌∙◌, arith}
use Rattle.std.specs.List.{flat_map, enumerate_from}
use Rattle.std.proofs.lemmas.List.{map-append}
use Rattle.tta_cost.specs.Cited.{Machine, Field, Fetched, GuardOf, IsShort, SourceOf, ShortOf, DestOf, bus_fields, with_bits, all_fields, TemplateOf, LongOf, numbers}
use Rattle.tta_arch.specs.Fields.{dest_width, guard_width, template_width}
use Rattle.tta_hardware.specs.Signals.{Signal as Named}
use Rattle.tta_cost.specs.declared.parts.Parts.{Parts}
use Rattle.tta_cost.specs.Tally.{wires_put}
use Rattle.tta_cost.proofs.Listed.{after_one}
use Rattle.tta_cost.proofs.Tally.{wires_append, wires_over}

module _ (t : List ℕ) (m : Machine) where
  abbrev W : List Named → Parts → Parts
  W ns p = wires_put t m ns p

  -- fields and more fields
  fields_put : (fs gs : List Field) (p : Parts) → W (map Fetched (fs ++ gs)) p ≡ W (map Fetched gs) (W (map Fetched fs) p)
  fields_put fs gs p = ap (λ (l : List Named). W l p) (map-append Fetched fs gs) ∙ wires_append t m (map Fetched fs) (map Fetched gs) p

  -- the fields of a bus
  pub bus_fields_put : (bus : ℕ) (p0 p1 p2 p3 : Parts) → p1 ≡ W (map Fetched (with_bits (guard_width m bus) (GuardOf bus))) p0
      → p2 ≡ W (Fetched (IsShort bus) ∷ Fetched (SourceOf bus) ∷ Fetched (ShortOf bus) ∷ []) p1
      → p3 ≡ W (map Fetched (with_bits (dest_width m bus) (DestOf bus))) p2 → p3 ≡ W (map Fetched (bus_fields m bus)) p0
  bus_fields_put bus p0 p1 p2 p3 first second third =
      let guard = with_bits (guard_width m bus) (GuardOf bus) in let dest = with_bits (dest_width m bus) (DestOf bus) in
      third ∙ ap (W (map Fetched dest)) (second ∙ ap (W (Fetched (IsShort bus) ∷ Fetched (SourceOf bus) ∷ Fetched (ShortOf bus) ∷ [])) first)
      ∙ sym (fields_put guard (IsShort bus ∷ SourceOf bus ∷ ShortOf bus ∷ dest) p0)

  -- all fields
  pub all_fields_put : (p0 p1 p2 p3 : Parts) → p1 ≡ W (map Fetched (flat_map (bus_fields m) (numbers (length m.buses)))) p0
      → p2 ≡ W (map Fetched (with_bits (template_width m) TemplateOf)) p1 → p3 ≡ W (Fetched LongOf ∷ []) p2
      → p3 ≡ W (map Fetched (all_fields m)) p0
  all_fields_put p0 p1 p2 p3 first second third =
      let buses = flat_map (bus_fields m) (numbers (length m.buses)) in let template = with_bits (template_width m) TemplateOf in
      third ∙ ap (W (Fetched LongOf ∷ [])) (second ∙ ap (W (map Fetched template)) first ∙ sym (fields_put buses template p0))
      ∙ sym (fields_put (buses ++ template) (LongOf ∷ []) p0)

  -- wires over elements with their numbers
  pub list_step : {A : Type 0} (F : ℕ × A → List Named) (k : ℕ) (xs : List A) (x d : A) (old mid new : Parts) → 1 ≤ length xs
      → x ≡ get_or xs 0 d → mid ≡ W (F (k, x)) old
      → new ≡ W (flat_map F (enumerate_from (k + 1) (take (length xs - 1) (drop 1 xs)))) mid → new ≡ W (flat_map F (enumerate_from k xs)) old
  list_step F k [] x d old mid new some is of_mid of_new = absurd (omega (arith, some))
  list_step {A} F k (y ∷ ys) x d old mid new some is of_mid of_new =
      of_new ∙ ap (λ (l : List A). W (flat_map F (enumerate_from (k + 1) l)) mid) (after_one ys)
      ∙ ap (W (flat_map F (enumerate_from (k + 1) ys))) (of_mid ∙ ap (λ (z : A). W (F (k, z)) old) is)
      ∙ wires_over t m F (k, y) (enumerate_from (k + 1) ys) old
