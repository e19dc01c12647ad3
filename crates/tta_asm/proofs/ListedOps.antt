-- What the operations of a set of units are called does not depend on what they mean.
use Rattle.std.proofs.Common.{◌≡◌, ℕ, List}
use Rattle.tta_asm.specs.Cited.{UnitSet, stated, stated_by, Machine}
use Rattle.tta_asm.specs.declared.table.NameTable.{NameTable}
use Rattle.tta_asm.specs.Parts.{ops_of}
use Rattle.tta_asm.specs.Table.{IsTableOf, listed, named_at, op_named}

module _ {I : Type 0} {V : I → Type 0} (meaning : (v : I) × V v → ℕ → ℕ → ℕ → ℕ) (s : UnitSet I V) (m : Machine) (t : NameTable) where
  -- a table of what a set of units lists gives the operations of what it states
  pub op_in_table : IsTableOf (listed s) m t → (unit : ℕ) (name : List ℕ) → named_at t.ops unit name ≡ op_named (stated meaning s) m unit name
  unfolding stated_by ops_of
  op_in_table table unit name = table.ops unit name

  -- a table of what it states is one of what it lists
  pub table_listed : IsTableOf (stated meaning s) m t → IsTableOf (listed s) m t
  unfolding stated_by ops_of
  table_listed table = record { parts = table.parts; count = table.count; ops = table.ops }
