-- What a table of a machine's names gives.
use Rattle.std.specs.Prelude.{◌≡◌, ℕ, List, Option, length, slice_get}
use Rattle.tta_asm.specs.Cited.{Declared, named_in, UnitSet, stated, Units, Machine}
use Rattle.tta_parse.specs.Steps.{◌>>?◌}
use Rattle.tta_asm.specs.declared.parts.Part.{Part}
use Rattle.tta_asm.specs.declared.parts.Part.TheVariants as part
use Rattle.tta_asm.specs.declared.naming.Kind.{Kind}
use Rattle.tta_asm.specs.declared.naming.Kind.TheVariants as kind
use Rattle.tta_asm.specs.declared.table.NameTable.{NameTable}
use Rattle.tta_asm.specs.Parts.{parts_of, ops_of}

-- the part of a kind at a place
abbrev pub part_at : Kind → ℕ → Part
part_at kind.File = part.File
part_at kind.Imm = part.Imm
part_at kind.Unit = part.Unit
part_at kind.Template = part.Template

-- each name names the same in both lists
abbrev pub NameTheSame : {P : Type 0} → Declared P → Declared P → Type 0
NameTheSame a b = (name : List ℕ) → named_in a name ≡ named_in b name

-- what a name names in the list at this place
abbrev pub named_at : List (Declared ℕ) → (place : ℕ) → List ℕ → Option ℕ
named_at all place name = slice_get all place >>? λ names. named_in names name

-- the operation of a unit that has this name
abbrev pub op_named : Units → Machine → (unit : ℕ) → List ℕ → Option ℕ
op_named u m unit name = slice_get m.units unit >>? λ q. named_in (ops_of u q) name

-- A table is a machine's where a name names the part that the machine has of this name, and in the k-th list of
-- operations the one that the k-th unit has.
pub record IsTableOf (u : Units) (m : Machine) (t : NameTable) : Type 0 where
  pub parts : NameTheSame t.parts (parts_of m)
  pub count : length t.ops ≡ length m.units
  pub ops : (unit : ℕ) (name : List ℕ) → named_at t.ops unit name ≡ op_named u m unit name

-- what a set of units states where each operation gives 0, so that it tells what they are called and not what they mean
abbrev pub listed : {I : Type 0} {V : I → Type 0} → UnitSet I V → Units
listed s = stated (λ v op a b. 0) s
