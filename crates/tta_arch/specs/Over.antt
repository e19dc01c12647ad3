-- Machines over a set of operation units.
use Rattle.std.specs.Prelude.{◌≡◌, ℕ, Bool, true, false, List, Option, Some, slice_get}
use Rattle.std.specs.Option.{option_map_or}
use Rattle.tta_text.specs.Words.{is_name}
use Rattle.tta_ops.specs.Units.{Units}
use Rattle.tta_ops.specs.declared.OpId.{OpId}
use Rattle.tta_arch.specs.declared.parts.UnitOp.{UnitOp}
use Rattle.tta_arch.specs.declared.parts.Op.TheVariants.{Set}
use Rattle.tta_arch.specs.Machine.{Machine}
use Rattle.tta_arch.specs.Effects.{op_at}

-- a name that a text can hold
abbrev pub is_named : Option (List ℕ) → Bool
is_named name = option_map_or is_name name false

-- A machine stands over a set of units where each operation of the set that it names is there: it takes as many words as
-- the set states, and its name is one that a text can hold.
pub record StandsOver (u : Units) (m : Machine) : Type 0 where
  pub arities : (unit k : ℕ) (o : UnitOp) (id : OpId) → op_at m unit k ≡ Some o → o.op ≡ Set id → slice_get u.arities id.0 ≡ Some o.arity
  pub names : (unit k : ℕ) (o : UnitOp) (id : OpId) → op_at m unit k ≡ Some o → o.op ≡ Set id → is_named (slice_get u.names id.0) ≡ true
