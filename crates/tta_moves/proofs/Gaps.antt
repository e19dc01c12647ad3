-- The least cycle that one earlier item allows, row by row, where that item stands in cycle 5 of the machine of three
-- buses.
use Rattle.std.specs.Prelude.{◌≡◌, List, [], ◌∷◌, false, Some, refl}
use Rattle.tta_arch.specs.declared.ends.Source.TheVariants as source
use Rattle.tta_arch.specs.declared.ends.Dest.TheVariants as dest
use Rattle.tta_arch.proofs.Samples.{three_buses}
use Rattle.tta_moves.specs.declared.items.ItemSource.TheVariants.{Port}
use Rattle.tta_moves.specs.declared.items.LongValue.TheVariants.{Word}
use Rattle.tta_moves.specs.declared.items.Item.{Item}
use Rattle.tta_moves.specs.declared.items.Item.TheVariants.{Move, Long}
use Rattle.tta_moves.specs.declared.items.Slot.TheVariants.{Bus}
use Rattle.tta_moves.specs.declared.items.PlacedItem.{PlacedItem}
use Rattle.tta_moves.specs.Bounds.{least}
use Rattle.tta_moves.proofs.Rows.{go, r, into, o, t, shown}

-- an item in cycle 5
placed : Item → List PlacedItem
placed x = record { item = x; cycle = 5; slot = Bus 0 } ∷ []

-- a register is read a cycle after it is written, as a source and as a guard
read-after_write : least three_buses (placed (go (r 3) (into 4))) (go (r 4) (into 5)) ≡ 6
unfolding placed
read-after_write = refl

guard-after_write : least three_buses (placed (go (r 3) (dest.Reg 2 0))) (Move (Some (record { file = 2; index = 0; inverted = false })) (Port (r 5)) (into 6)) ≡ 6
unfolding placed
guard-after_write = refl

-- it is written in the cycle in which it is read, or later, and a cycle after it is written
write-at_read : least three_buses (placed (go (r 3) (into 4))) (go (r 5) (into 3)) ≡ 5
unfolding placed
write-at_read = refl

write-after_write : least three_buses (placed (go (r 3) (into 4))) (go (r 5) (into 4)) ≡ 6
unfolding placed
write-after_write = refl

-- an immediate register is written as others are, by a long immediate
long-after_read : least three_buses (placed (go (source.Imm 0 0) (into 4))) (Long 0 0 (Word 7)) ≡ 5
unfolding placed
long-after_read = refl

-- an operand port is moved into a cycle after the last move into it, and after a trigger of the unit
operand-after_operand : least three_buses (placed (go (r 3) (o 1))) (go (r 4) (o 1)) ≡ 6
unfolding placed
operand-after_operand = refl

operand-after_trigger : least three_buses (placed (go (r 3) (t 1 0))) (go (r 4) (o 1)) ≡ 6
unfolding placed
operand-after_trigger = refl

-- a unit is triggered with its operand or later, and a cycle after the last trigger
trigger-at_operand : least three_buses (placed (go (r 3) (o 1))) (go (r 4) (t 1 0)) ≡ 5
unfolding placed
trigger-at_operand = refl

trigger-after_trigger : least three_buses (placed (go (r 3) (t 2 1))) (go (r 4) (t 2 0)) ≡ 6
unfolding placed
trigger-after_trigger = refl

-- a result is due a cycle after the one before, and after a read of the port
due-after_due : least three_buses (placed (go (r 3) (t 1 0))) (go (r 4) (t 1 1)) ≡ 8
unfolding placed
due-after_due = refl

due-after_read : least three_buses (placed (go (shown 1) (into 3))) (go (r 4) (t 1 0)) ≡ 3
unfolding placed
due-after_read = refl

-- a port is read from when the result is due on
read-at_due : least three_buses (placed (go (r 3) (t 1 0))) (go (shown 1) (into 3)) ≡ 8
unfolding placed
read-at_due = refl

-- control does not end the block before an item is carried out, nor before a result is due; there are two delay slots
control-after_item : least three_buses (placed (go (r 3) (into 4))) (go (r 5) dest.Jump) ≡ 3
unfolding placed
control-after_item = refl

control-after_due : least three_buses (placed (go (r 3) (t 1 0))) (go (r 5) dest.Jump) ≡ 5
unfolding placed
control-after_due = refl

-- a call writes the return address, so it is no earlier than a read of it
call-at_read : least three_buses (placed (go source.Ra (into 4))) (go (r 5) dest.Call) ≡ 5
unfolding placed
call-at_read = refl
