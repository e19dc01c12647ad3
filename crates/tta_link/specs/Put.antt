-- One item in its instruction.
use Rattle.std.specs.Prelude.{ℕ, ◌^◌, Bool, true, nat_lt, List, Some, slice_set}
use Rattle.std.specs.Option.{option_map_or}
use Rattle.tta_link.specs.Cited.{Instruction, Item, Slot, Bus, Template, linked}
use Rattle.tta_moves.specs.declared.items.Item.TheVariants as item
use Rattle.tta_link.specs.Linked.{long_word}

-- an instruction with one item more, on a slot
abbrev pub with_item : (starts : List ℕ) → Instruction → Slot → Item → Instruction
with_item starts i (Bus b) (item.Move guard src dst) =
    record i { moves = slice_set i.moves b (Some (record { guard = guard; src = linked starts src; dst = dst })) }
with_item starts i (Bus b) (item.Long unit index value) = i
with_item starts i (Template t) (item.Move guard src dst) = i
with_item starts i (Template t) (item.Long unit index value) =
    record i { long = Some (record { template = t; value = long_word starts value }) }

-- whether the long immediate of an instruction, if it has one, is a word
abbrev pub is_word_in : Instruction → Bool
is_word_in i = option_map_or (λ l. nat_lt l.value (2 ^ 32)) i.long true
