-- What the names of a machine's parts stand for.
use Rattle.std.specs.Prelude.{ℕ, ◌+◌, List, [], ◌∷◌, ◌++◌, map}
use Rattle.tta_asm.specs.Cited.{Declared, Units, Machine}
pub use Rattle.tta_disasm.specs.Canonical.{op_name}
use Rattle.tta_arch.specs.declared.parts.Unit.{Unit as OpUnit}
use Rattle.tta_asm.specs.declared.parts.Part.{Part}
use Rattle.tta_asm.specs.declared.parts.Part.TheVariants.{File, Imm, Template}
use Rattle.tta_asm.specs.declared.parts.Part.TheVariants as part

-- names in their order, each with what its place makes of it, from this place on
abbrev pub by_place : {P : Type 0} → (at : ℕ → P) → (place : ℕ) → List (List ℕ) → Declared P
by_place at place [] = []
by_place at place (name ∷ names) = (name, at place) ∷ by_place at (place + 1) names

-- the parts that assembly can name: files, immediate units, units and templates
unfoldable pub parts_of : Machine → Declared Part
parts_of m =
    by_place File 0 (map (λ f. f.name) m.files)
    ++ (by_place Imm 0 (map (λ i. i.name) m.imms)
    ++ (by_place part.Unit 0 (map (λ u. u.name) m.units) ++ by_place Template 0 (map (λ t. t.name) m.templates)))

-- the operations of a unit by their names, each with its place in the unit
unfoldable pub ops_of : Units → OpUnit → Declared ℕ
ops_of u unit = by_place (λ k. k) 0 (map (λ o. op_name u o.op) unit.ops)
