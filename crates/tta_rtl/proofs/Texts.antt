-- Texts that are put one after another.
use Rattle.std.proofs.Common.{◌≡◌, ℕ, ◌+◌, List, [], ◌∷◌, ◌++◌, map, length, sym, ap, append_assoc, ◌∙◌}
use Rattle.std.specs.List.{flat_map, range_with_len}
use Rattle.std.proofs.lemmas.List.{append-nil, map-append, flat_map_more}
use Rattle.std.proofs.lemmas.Grind.{flat_map-append}
use Rattle.tta_list.proofs.Lists.{range_more}
use Rattle.tta_rtl.specs.Cited.{Machine, numbers, template_width, Field, Fetched, TemplateOf, LongOf, all_fields, bus_fields, with_bits, wire, wire_text, names_of}
use Rattle.tta_hardware.specs.Signals.{Signal as Named}
use Rattle.tta_rtl.specs.Texts.{wires_text}
use Rattle.tta_rtl.specs.Parts.{fields_text}

-- a text that is put last
pub alone : (old new a : List ℕ) → new ≡ old ++ a → new ≡ old ++ (a ++ [])
alone old new a put = put ∙ ap (λ (t : List ℕ). old ++ t) (sym (append-nil a))

-- texts of numbers from one on, and that of one number more
pub number_more : (F : ℕ → List ℕ) (old mid new : List ℕ) (a k j : ℕ) → a + k ≡ j → mid ≡ old ++ flat_map F (range_with_len a k) → new ≡ mid ++ F j
    → new ≡ old ++ flat_map F (range_with_len a (k + 1))
number_more F old mid new a k j is before put =
    put ∙ ap (λ (t : List ℕ). t ++ F j) before ∙ flat_map_more F old (range_with_len a k) j
    ∙ ap (λ (ns : List ℕ). old ++ flat_map F ns) (sym (range_more a k j is))

-- wires one after another
pub wires_append : (m : Machine) (ns ms : List Named) → wires_text m (ns ++ ms) ≡ wires_text m ns ++ wires_text m ms
wires_append m ns ms =
    ap (flat_map (wire_text (names_of m))) (map-append (wire m) ns ms) ∙ flat_map-append (wire_text (names_of m)) (map (wire m) ns) (map (wire m) ms)

-- fields one after another
pub fields_append : (m : Machine) (fs gs : List Field) → fields_text m (fs ++ gs) ≡ fields_text m fs ++ fields_text m gs
fields_append m fs gs = ap (wires_text m) (map-append Fetched fs gs) ∙ wires_append m (map Fetched fs) (map Fetched gs)

-- all fields
pub all_fields_text : (m : Machine)
    → fields_text m (all_fields m)
    ≡ fields_text m (flat_map (bus_fields m) (numbers (length m.buses)))
    ++ (fields_text m (with_bits (template_width m) TemplateOf) ++ fields_text m (LongOf ∷ []))
all_fields_text m =
    let buses = flat_map (bus_fields m) (numbers (length m.buses)) in
    let template = with_bits (template_width m) TemplateOf in
    let long = fields_text m (LongOf ∷ []) in
    fields_append m (buses ++ template) (LongOf ∷ []) ∙ ap (λ (t : List ℕ). t ++ long) (fields_append m buses template)
    ∙ append_assoc (fields_text m buses) (fields_text m template) long
