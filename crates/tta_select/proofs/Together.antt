-- Where two units offer one operation, a list may start it on each. Each unit alone is triggered once, and the operation is
-- started twice.
use Rattle.std.proofs.Common.{◌≡◌, ℕ, List, [], ◌∷◌, Some, refl}
use Rattle.tta_select.specs.Cited.{UnitOp, Out, Machine, op_at, Call, Port, Item}
use Rattle.tta_arch.specs.declared.ends.Source.TheVariants as source
use Rattle.tta_select.specs.Counts.{targets, is_trigger_of, is_start_of}
use Rattle.tta_select.specs.Select.{goes, trigger_at}

abbrev output : UnitOp
output = record { op = Out; arity = 1; latency = 0 }

abbrev on_unit : ℕ → Call
on_unit unit = record { unit = unit; op = 0; does = output }

abbrev items : List Item
items = goes (Port (source.Value 1)) (trigger_at (on_unit 0)) ∷ goes (Port (source.Value 2)) (trigger_at (on_unit 1)) ∷ []

first_alone : targets (is_trigger_of 0 0) items ≡ 1
first_alone = refl

second_alone : targets (is_trigger_of 1 0) items ≡ 1
second_alone = refl

together : (m : Machine) → op_at m 0 0 ≡ Some output → op_at m 1 0 ≡ Some output → targets (is_start_of m Out) items ≡ 2
together m first second = rw (first, second) refl
