-- A list whose numbers agree keeps the meaning of the list, and asks for no more.
use Rattle.std.proofs.Common.{◌≡◌, ℕ, ◌<◌, Some, true, false, List, length, replicate, sym, ap, subst, ◌∙◌}
use Rattle.std.specs.Prelude.{◌&&◌, nat_le, slice_get}
use Rattle.std.specs.List.{list_all}
use Rattle.std.proofs.lemmas.Bool.{and_parts}
use Rattle.tta_reorder.specs.Cited.{Machine, IsMachine, KeptReg, Item, is_place, is_list, has_slot, control_is_last, KeepsMeaning, AsksNoMore}
use Rattle.tta_optim.proofs.Slotted.{slotted}
use Rattle.tta_reorder.specs.declared.rows.Found.{Found}
use Rattle.tta_reorder.specs.Orders.{bare, picked, settled, IsOrder}
use Rattle.tta_reorder.specs.Channels.{Division}
use Rattle.tta_reorder.specs.Slots.{AreParts}
use Rattle.tta_reorder.specs.Rows.{none_changed, rows_from, table_after, table_by, agrees, same_ends, same_parts}
use Rattle.tta_reorder.proofs.Drawn.{orders_keep}
use Rattle.tta_reorder.proofs.Counts.{orders_ask_no_more}
use Rattle.tta_reorder.proofs.Agreed.{agree_is, numbers_are}
use Rattle.tta_reorder.proofs.Ranges.{all_ranged}
use Rattle.tta_reorder.proofs.Parting.{all_few}

-- all that is tested
pub record Tested (m : Machine) (live : List (ℕ × ℕ)) (items others : List Item) (parts : List ℕ) (rows : List Found) (end other numbers : List ℕ) : Type 0 where
  pub rules : IsMachine m
  pub list : is_list m items ≡ true
  pub front : (k : ℕ) → k < settled m items → slice_get numbers k ≡ Some k
  pub limits : list_all (λ r. is_place (KeptReg r.0 r.1)) live ≡ true
  pub rows_are : rows ≡ rows_from m parts none_changed 0 items
  pub end_is : end ≡ table_after m parts none_changed 0 items
  pub agree : agrees m parts items rows none_changed (replicate (length items) false) numbers ≡ true
  pub other_is : other ≡ table_by m parts items none_changed numbers
  pub ends : same_ends live other end ≡ true
  pub stores : same_parts m parts other end 0 items ≡ true
  pub parted : AreParts m items parts
  pub picked_are : others ≡ bare (picked items numbers)
  pub other_list : is_list m others ≡ true

pub order_is : (m : Machine) (live : List (ℕ × ℕ)) (items others : List Item) (parts : List ℕ) (rows : List Found) (end other numbers : List ℕ) → Tested m live items others parts rows end other numbers → IsOrder m live items (picked items numbers)
order_is m live items others parts rows end other numbers t =
    let d : Division = record { apart = t.parted.apart; parts = parts } in
    let agree = rw t.rows_are at t.agree in
    let ends = rw (t.other_is, t.end_is) at t.ends in
    let stores = rw (t.other_is, t.end_is) at t.stores in
    let ranged = all_ranged m t.rules items (slotted m items t.list) in
    let few = all_few parts t.parted.few in
    let two = agree_is m d items ranged few live t.limits numbers agree (ends, stores) in
    record {
      division = d;
      divided = t.parted.divided;
      front = λ k lt. ap (λ l. slice_get l k) (numbers_are m d items ranged few numbers none_changed (replicate (length items) false) agree) ∙ t.front k lt;
      drawn = two.0;
      once = two.1;
      control = ap control_is_last (sym t.picked_are) ∙ (and_parts (nat_le (length others) 16777216 && list_all (has_slot m) others) (control_is_last others) t.other_list).1;
    }

pub ordered_meaning : (m : Machine) (live : List (ℕ × ℕ)) (items others : List Item) (parts : List ℕ) (rows : List Found) (end other numbers : List ℕ) → Tested m live items others parts rows end other numbers → KeepsMeaning m live items others
ordered_meaning m live items others parts rows end other numbers t =
    subst (λ (l : List Item). KeepsMeaning m live items l) (sym t.picked_are) (orders_keep m live items (picked items numbers) (order_is m live items others parts rows end other numbers t))

pub ordered_no_more : (m : Machine) (live : List (ℕ × ℕ)) (items others : List Item) (parts : List ℕ) (rows : List Found) (end other numbers : List ℕ) → Tested m live items others parts rows end other numbers → AsksNoMore m items others
ordered_no_more m live items others parts rows end other numbers t =
    subst (λ (l : List Item). AsksNoMore m items l) (sym t.picked_are) (orders_ask_no_more m live items (picked items numbers) (order_is m live items others parts rows end other numbers t))
