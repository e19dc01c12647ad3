-- The names of a machine's parts and of its units' operations.
use Rattle.std.proofs.Common.{◌≡◌, ℕ, ◌+◌, ◌<◌, ◌≤◌, Bool, true, false, nat_lt, List, [], ◌∷◌, ◌++◌, length, map, drop, get_or, Option, Some, refl, sym, ap, ◌∙◌, subst, arith}
use Rattle.std.specs.Prelude.{slice_get}
use Rattle.std.proofs.lemmas.Bool.{ltb-true, ltb-false}
use Rattle.std.proofs.lemmas.List.{drop_all, get_or_default}
use Rattle.std.proofs.lemmas.List.Elements.{All-get_or}
use Rattle.std.proofs.lemmas.Option.{slice_get_past, slice_get_read}
use Rattle.tta_list.proofs.Lists.{slice_get-front, item_behind}
use Rattle.tta_asm.specs.Cited.{Declared, named_in, Units, ImmUnit, UnitOp, Machine, IsMachine}
use Rattle.tta_parse.specs.Steps.{◌>>?◌}
use Rattle.tta_arch.specs.declared.parts.File.{File}
use Rattle.tta_arch.specs.declared.parts.Unit.{Unit as OpUnit}
use Rattle.tta_arch.specs.declared.parts.Template.{Template}
use Rattle.tta_arch.proofs.BusSources.{few_ops}
use Rattle.tta_asm.specs.declared.parts.Part.{Part}
use Rattle.tta_asm.specs.declared.parts.Part.TheVariants as part
use Rattle.tta_asm.specs.Parts.{by_place, parts_of, ops_of, op_name}
use Rattle.tta_asm.specs.Table.{NameTheSame, named_at, op_named}
use Rattle.tta_asm.proofs.NameLists.{names_more, names_end}

-- ---- parts

-- the names of all files, immediate units, units and templates are the machine's
pub all_named : (m : Machine) (old names : Declared Part) (files : List File) (imms : List ImmUnit) (units : List OpUnit)
    (templates : List Template) → files ≡ m.files → imms ≡ m.imms → units ≡ m.units → templates ≡ m.templates
    → NameTheSame names (old ++ (by_place part.File 0 (map (λ f. f.name) files) ++ (by_place part.Imm 0 (map (λ i. i.name) imms)
    ++ (by_place part.Unit 0 (map (λ u. u.name) units) ++ by_place part.Template 0 (map (λ t. t.name) templates)))))
    → NameTheSame names (old ++ parts_of m)
unfolding parts_of
all_named m old names files imms units templates f i u t all = rw (sym f, sym i, sym u, sym t) all

-- ---- the operations of a unit

-- one operation more
pub ops_more : (u : Units) (q : OpUnit) (items : List UnitOp) (i : ℕ) (d : UnitOp) (called : List ℕ) (new old all : Declared ℕ)
    → items ≡ q.ops → i < length items → called ≡ op_name u (get_or items i d).op → NameTheSame new (old ++ (called, i) ∷ [])
    → NameTheSame (old ++ by_place (λ k. k) i (map (λ (o : UnitOp). op_name u o.op) (drop i q.ops))) all
    → NameTheSame (new ++ by_place (λ k. k) (i + 1) (map (λ (o : UnitOp). op_name u o.op) (drop (i + 1) q.ops))) all
ops_more u q items i d called new old all same inside calls added was =
    let here : i < length q.ops = let e = ap length same in omega arith in
    let item : get_or items i d ≡ get_or q.ops i d = ap (λ (l : List UnitOp). get_or l i d) same in
    names_more (λ k. k) (λ (o : UnitOp). op_name u o.op) q.ops i (get_or q.ops i d) called i new old all here
    (get_or_default q.ops i d (get_or q.ops i d) here) (calls ∙ ap (λ (o : UnitOp). op_name u o.op) item) refl added was

-- no operation is left
pub ops_end : (u : Units) (q : OpUnit) (items : List UnitOp) (i : ℕ) (old names : Declared ℕ) → items ≡ q.ops → length items ≤ i
    → NameTheSame (names ++ by_place (λ k. k) i (map (λ (o : UnitOp). op_name u o.op) (drop i q.ops)))
    (old ++ by_place (λ k. k) 0 (map (λ (o : UnitOp). op_name u o.op) q.ops))
    → NameTheSame names (old ++ ops_of u q)
unfolding ops_of
ops_end u q items i old names same past was =
    let here : length q.ops ≤ i = let e = ap length same in omega arith in
    names_end (λ k. k) i (map (λ (o : UnitOp). op_name u o.op) (drop i q.ops)) names _
    (ap (map (λ (o : UnitOp). op_name u o.op)) (drop_all i q.ops here)) was

-- ---- units

-- a unit that an index gives
pub unit_there : (m : Machine) (items : List OpUnit) (i : ℕ) (q : OpUnit) → items ≡ m.units → i < length items → q ≡ get_or items i q
    → slice_get m.units i ≡ Some q
unit_there m items i q same inside is = subst (λ (l : List OpUnit). slice_get l i ≡ Some q) same (slice_get_read items (length items) i q refl inside is)

-- it has few operations
pub unit_few : (m : Machine) (items : List OpUnit) (i : ℕ) (q : OpUnit) → IsMachine m → items ≡ m.units → i < length items → q ≡ get_or items i q
    → length q.ops ≤ 256
unit_few m items i q rules same inside is =
    let here : i < length m.units = let e = ap length same in omega arith in
    let item : q ≡ get_or m.units i q = is ∙ ap (λ (l : List OpUnit). get_or l i q) same in
    subst (λ (x : OpUnit). length x.ops ≤ 256) (sym item)
    (All-get_or (λ (x : OpUnit). length x.ops ≤ 256) m.units i q here (few_ops m.sockets m.units rules.units))

-- the operations of the first units
abbrev pub AreOpsUntil : Units → Machine → List (Declared ℕ) → (count : ℕ) → Type 0
AreOpsUntil u m all count = (unit : ℕ) (name : List ℕ) → unit < count → named_at all unit name ≡ op_named u m unit name

-- one unit more
pub units_more : (u : Units) (m : Machine) (all more : List (Declared ℕ)) (ops : Declared ℕ) (q : OpUnit) (i : ℕ) → more ≡ all ++ ops ∷ []
    → length all ≡ i → slice_get m.units i ≡ Some q → NameTheSame ops (ops_of u q) → AreOpsUntil u m all i → AreOpsUntil u m more (i + 1)
units_more u m all more ops q i pushed count there same was unit name h = by (nat_lt unit i) refl where
  look : Option (Declared ℕ) → Option ℕ
  look o = o >>? λ names. named_in names name

  by : (b : Bool) → nat_lt unit i ≡ b → named_at more unit name ≡ op_named u m unit name
  by true is =
      let below = ltb-true unit i is in
      ap (λ (l : List (Declared ℕ)). named_at l unit name) pushed
      ∙ ap look (slice_get-front all (ops ∷ []) unit (omega arith)) ∙ was unit name below
  by false is =
      let past = ltb-false unit i is in
      let last : unit ≡ length all = omega arith in
      ap (λ (l : List (Declared ℕ)). named_at l unit name) pushed
      ∙ ap (λ (k : ℕ). named_at (all ++ ops ∷ []) k name) last
      ∙ ap look (item_behind all ops) ∙ same name
      ∙ ap (λ (o : Option OpUnit). o >>? λ x. named_in (ops_of u x) name) (sym there)
      ∙ ap (λ (k : ℕ). op_named u m k name) (sym (last ∙ count))

-- no unit is left
pub units_end : (u : Units) (m : Machine) (all : List (Declared ℕ)) (items : List OpUnit) (i : ℕ) → items ≡ m.units → length items ≡ i → length all ≡ i
    → AreOpsUntil u m all i → (unit : ℕ) (name : List ℕ) → named_at all unit name ≡ op_named u m unit name
units_end u m all items i same many count was unit name = by (nat_lt unit i) refl where
  by : (b : Bool) → nat_lt unit i ≡ b → named_at all unit name ≡ op_named u m unit name
  by true is = was unit name (ltb-true unit i is)
  by false is =
      let past = ltb-false unit i is in
      let e = ap length same in
      ap (λ (o : Option (Declared ℕ)). o >>? λ names. named_in names name) (slice_get_past all unit (omega arith))
      ∙ ap (λ (o : Option OpUnit). o >>? λ x. named_in (ops_of u x) name) (sym (slice_get_past m.units unit (omega arith)))
