-- A block's list with copies and served reads, and without stores that are stored over.
use Rattle.std.specs.Prelude.{◌≡◌, ℕ, true, List, [], Option, IfSome}
use Rattle.tta_loadelim.specs.Cited.{Machine, Item, BlockList, is_list, IsEquivalent}
use Rattle.tta_loadelim.specs.AvailableSlots.{AreServed}
use Rattle.tta_loadelim.specs.Copied.{AreCopied, AreSpare}
use Rattle.tta_loadelim.specs.Thinned.{AreThinned}

-- a list came from another with copies into some registers, and then with served reads
pub record AreWorked (m : Machine) (fresh : List (ℕ × ℕ)) (items others : List Item) : Type 0 where
  pub with_copies : List Item
  pub copied : AreCopied fresh items with_copies
  pub served : AreServed m [] with_copies others

-- A list came from another in three steps: copies into spare registers, served reads, and fewer stores.
pub record IsReworked (m : Machine) (hub : ℕ) (b r : BlockList) : Type 0 where
  pub fresh : List (ℕ × ℕ)
  pub with_copies : List Item
  pub with_served : List Item
  pub spare : AreSpare hub b fresh
  pub copied : AreCopied fresh b.items with_copies
  pub served : AreServed m [] with_copies with_served
  pub thinned : AreThinned m [] with_served r.items
  pub list : is_list m r.items ≡ true
  pub live : r.live_out ≡ b.live_out

-- a list that may be placed for that of a block, if there is one
abbrev pub IsReloaded : Machine → (b : BlockList) → Option BlockList → Type 0
IsReloaded m b o = IfSome o (λ r. IsEquivalent m b r)
