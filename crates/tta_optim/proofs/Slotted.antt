-- Each item of a list of a machine has a slot.
use Rattle.std.proofs.Common.{◌≡◌, true, List, length}
use Rattle.std.specs.Prelude.{◌&&◌, nat_le}
use Rattle.std.specs.List.{list_all}
use Rattle.std.proofs.lemmas.Bool.{and_parts}
use Rattle.tta_optim.specs.Cited.{Machine, Item, has_slot, control_is_last, is_list}

pub slotted : (m : Machine) (items : List Item) → is_list m items ≡ true → list_all (has_slot m) items ≡ true
slotted m items h =
    (and_parts (nat_le (length items) 16777216) (list_all (has_slot m) items) (and_parts (nat_le (length items) 16777216 && list_all (has_slot m) items) (control_is_last items) h).0).1
