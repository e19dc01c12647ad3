-- A template that a name stands for is one of the machine's.
use Rattle.std.proofs.Common.{◌≡◌, ℕ, ◌+◌, ◌<◌, Bool, true, false, if◌then◌else◌, List, [], ◌∷◌, ◌++◌, length, map, Option, Some, None, is_some, refl, sym, ap, ◌∙◌, arith}
use Rattle.std.specs.Prelude.{IfSome, slice_get}
use Rattle.std.specs.Str.{bytes_eq}
use Rattle.std.proofs.lemmas.List.{length-map}
use Rattle.std.proofs.lemmas.Option.{none-some, same_Some}
use Rattle.tta_list.proofs.Lists.{some_within}
use Rattle.tta_asm.specs.Cited.{named_in, Machine}
use Rattle.tta_parse.specs.Steps.{◌>>?◌}
use Rattle.tta_arch.specs.declared.parts.Template.{Template}
use Rattle.tta_asm.specs.declared.parts.Part.{Part}
use Rattle.tta_asm.specs.declared.parts.Part.TheVariants as part
use Rattle.tta_asm.specs.Parts.{by_place, parts_of}
use Rattle.tta_asm.specs.Resolving.{template_at}
use Rattle.tta_asm.proofs.NameLists.{either, named_in-append}

-- names of parts that are no templates name none
no_template : (at : ℕ → Part) → ((k : ℕ) → template_at (at k) ≡ None) → (place : ℕ) (names : List (List ℕ)) (name : List ℕ)
    → (named_in (by_place at place names) name >>? template_at) ≡ None
no_template at other place [] name = refl
no_template at other place (n ∷ names) name = by (bytes_eq n name) (no_template at other (place + 1) names name) where
  by : (b : Bool) → (named_in (by_place at (place + 1) names) name >>? template_at) ≡ None
      → ((if b then Some (at place) else named_in (by_place at (place + 1) names) name) >>? template_at) ≡ None
  by true rest = other place
  by false rest = rest

-- so they are passed over
passed_over : (o rest : Option Part) (k : ℕ) → (o >>? template_at) ≡ None → (either o rest >>? template_at) ≡ Some k → (rest >>? template_at) ≡ Some k
passed_over None rest k none some = some
passed_over (Some p) rest k none some = absurd (none-some k (sym none ∙ some))

-- names of templates name places from the first on
template_within : (place : ℕ) (names : List (List ℕ)) (name : List ℕ) (k : ℕ)
    → (named_in (by_place part.Template place names) name >>? template_at) ≡ Some k → k < place + length names
template_within place [] name k some = absurd (none-some k some)
template_within place (n ∷ names) name k some = by (bytes_eq n name) (template_within (place + 1) names name k) some where
  by : (b : Bool) → ((named_in (by_place part.Template (place + 1) names) name >>? template_at) ≡ Some k → k < place + 1 + length names)
      → ((if b then Some (part.Template place) else named_in (by_place part.Template (place + 1) names) name) >>? template_at) ≡ Some k
      → k < place + length (n ∷ names)
  by true rest e = let same = same_Some place k e in omega arith
  by false rest e = let within = rest e in omega arith

-- the template of a name is there
pub template_there : (m : Machine) (name : List ℕ) (k : ℕ) → (named_in (parts_of m) name >>? template_at) ≡ Some k
    → is_some (slice_get m.templates k) ≡ true
unfolding parts_of
template_there m name k some =
    let files = by_place part.File 0 (map (λ f. f.name) m.files) in
    let imms = by_place part.Imm 0 (map (λ i. i.name) m.imms) in
    let units = by_place part.Unit 0 (map (λ u. u.name) m.units) in
    let templates = by_place part.Template 0 (map (λ t. t.name) m.templates) in
    let look : Option Part → Option ℕ = λ o. o >>? template_at in
    let one = passed_over (named_in files name) (named_in (imms ++ (units ++ templates)) name) k (no_template part.File (λ j. refl) 0 _ name)
    (ap look (sym (named_in-append files (imms ++ (units ++ templates)) name)) ∙ some) in
    let two = passed_over (named_in imms name) (named_in (units ++ templates) name) k (no_template part.Imm (λ j. refl) 0 _ name)
    (ap look (sym (named_in-append imms (units ++ templates) name)) ∙ one) in
    let three = passed_over (named_in units name) (named_in templates name) k (no_template part.Unit (λ j. refl) 0 _ name)
    (ap look (sym (named_in-append units templates name)) ∙ two) in
    let within = template_within 0 (map (λ (t : Template). t.name) m.templates) name k three in
    let count = length-map m.templates (λ (t : Template). t.name) in
    some_within m.templates k (omega arith)

-- the same of what a look-up gives
pub template_found : (m : Machine) (name : List ℕ) (found : Option ℕ) → found ≡ (named_in (parts_of m) name >>? template_at)
    → IfSome found (λ k. is_some (slice_get m.templates k) ≡ true)
template_found m name None is = tt
template_found m name (Some k) is = template_there m name k (sym is)
