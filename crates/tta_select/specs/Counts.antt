-- How much lists do: items, triggers of operations, and writes of home registers.
use Rattle.std.specs.Prelude.{ℕ, ◌==◌, Bool, true, false, ◌&&◌, if◌then◌else◌, List, length}
use Rattle.std.specs.Option.{option_map_or}
use Rattle.std.specs.List.{list_any, sum_by}
use Rattle.tta_select.specs.Cited.{Op, Ldw, Stw, Out, Set, Machine, Target, Imm, Operand, Trigger, Control, op_at, same_op, is_frame_op, Choice, Item, BlockList, target_of_item, Need, Loads, Stores, Puts, Takes, Named}
use Rattle.tta_arch.specs.declared.parts.Op.TheVariants.{Take}
use Rattle.tta_arch.specs.Effects.{Reg}

-- one for each item whose target passes a test
abbrev pub targets : (Target → Bool) → List Item → ℕ
targets test items = sum_by (λ x. if test (target_of_item x) then 1 else 0) items

-- whether a target is a home register
abbrev pub is_home : Choice → Target → Bool
is_home c (Reg file index) = list_any (λ h. h.0 == file && h.1 == index) c.homes
is_home c (Imm unit index) = false
is_home c (Operand unit) = false
is_home c (Trigger unit op) = false
is_home c (Control kind) = false

-- whether a target starts a load or a store of the frame space
abbrev pub is_frame_trigger : Machine → Target → Bool
is_frame_trigger m (Reg file index) = false
is_frame_trigger m (Imm unit index) = false
is_frame_trigger m (Operand unit) = false
is_frame_trigger m (Trigger unit op) = option_map_or (λ o. is_frame_op o.op) (op_at m unit op) false
is_frame_trigger m (Control kind) = false

-- whether a target starts an operation of a unit
abbrev pub is_trigger_of : (unit op : ℕ) → Target → Bool
is_trigger_of unit op (Reg file index) = false
is_trigger_of unit op (Imm i index) = false
is_trigger_of unit op (Operand i) = false
is_trigger_of unit op (Trigger i k) = i == unit && k == op
is_trigger_of unit op (Control kind) = false

-- whether a target starts an operation, on whichever unit
abbrev pub is_start_of : Machine → Op → Target → Bool
is_start_of m does (Reg file index) = false
is_start_of m does (Imm i index) = false
is_start_of m does (Operand i) = false
is_start_of m does (Trigger unit op) = option_map_or (λ o. same_op o.op does) (op_at m unit op) false
is_start_of m does (Control kind) = false

-- whether an operation is what is needed
abbrev pub is_need : Op → Need → Bool
is_need Ldw Loads = true
is_need Stw Stores = true
is_need Out Puts = true
is_need Take Takes = true
is_need (Set id) (Named op) = id.0 == op
is_need o need = false

-- how many items some lists have
abbrev pub items_in : List BlockList → ℕ
items_in lists = sum_by (λ b. length b.items) lists
