-- What a table of facts says of the items before, the newest first.
use Rattle.std.specs.Prelude.{◌≡◌, ℕ, ◌==◌, Bool, true, ◌&&◌, List, ◌∷◌, Option, Some, IfSome, option_map, ◌++◌, []}
use Rattle.std.specs.List.{list_all, list_any}
use Rattle.tta_arch.specs.declared.ends.Source.TheVariants as source
use Rattle.tta_loadelim.specs.Cited.{Machine, KeptOperand, Port, Item, same_end, copied, target_of_item, place_written, is_unguarded, place_number, starts, stores_frame, operand_place}
use Rattle.tta_loadelim.specs.declared.accesses.Operand.{Operand}
use Rattle.tta_loadelim.specs.declared.available_slots.AvailableSlots.{AvailableSlots}
use Rattle.tta_loadelim.specs.declared.available_slots.Change.{Change}
use Rattle.tta_loadelim.specs.declared.facts.Fact.{Fact}
use Rattle.tta_loadelim.specs.AvailableSlots.{known, stored, IsServed}

-- two facts are of one slot and one source
abbrev pub same_fact : Fact → Fact → Bool
same_fact f g = f.slot == g.slot && same_end f.from g.from

-- a fact is one of some
abbrev pub is_among : (all : List Fact) → Fact → Bool
is_among all f = list_any (same_fact f) all

-- all of some facts are among others
abbrev pub are_among : (all : List Fact) → List Fact → Bool
are_among all fs = list_all (is_among all) fs

-- the operand port of a unit still has a word that was moved there in any case, if one is noted
abbrev pub IsOperand : Machine → (before : List Item) → Option Operand → Type 0
IsOperand m before o = IfSome o (λ a. IfSome a.word (λ w. copied m (KeptOperand a.unit) before ≡ Some (Port (source.Value w))))

-- an item stores into the frame in any case, with the operand of a unit
pub record StoresBy (m : Machine) (x : Item) (unit : ℕ) : Type 0 where
  pub store : starts m stores_frame (target_of_item x) ≡ true
  pub operand : operand_place m (target_of_item x) ≡ Some (KeptOperand unit)
  pub sure : is_unguarded x ≡ true

-- an item is the newest, if one is noted
abbrev pub IsNewest : (before : List Item) → Option Item → Type 0
IsNewest before o = IfSome o (λ w. (older : List Item) × (before ≡ w ∷ older))

-- what is noted is so
pub record Knows (m : Machine) (before : List Item) (k : AvailableSlots) : Type 0 where
  pub operand : IsOperand m before k.operand
  pub newest : IsNewest before k.newest
  pub facts : are_among (known m before) k.facts.items ≡ true

-- what an item changes, after others
pub record IsChange (m : Machine) (before : List Item) (x : Item) (c : Change) : Type 0 where
  pub written : c.written ≡ option_map place_number (place_written m (target_of_item x))
  pub stores : c.stores ≡ starts m stores_frame (target_of_item x)
  pub slot : IfSome c.slot (λ v. stored m before x ≡ Some v)

-- one item more is served, and what is known after it is noted
pub record GoesOn (m : Machine) (k : AvailableSlots) (out : List Item) (x : Item) (later : AvailableSlots) (more : List Item) : Type 0 where
  pub one : Item
  pub are : more ≡ out ++ one ∷ []
  pub serves : (before : List Item) → Knows m before k → IsServed m before x one
  pub passes : (before : List Item) → Knows m before k → Knows m (x ∷ before) later
