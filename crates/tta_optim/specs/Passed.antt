-- What the three passes make of a list, one after another.
use Rattle.std.specs.Prelude.{◌≡◌, List, []}
use Rattle.tta_optim.specs.Cited.{Machine, Item, BlockList}
use Rattle.tta_optim.specs.declared.together.Passed.{Passed}
use Rattle.tta_optim.specs.Passes.{bypass_items, share_items, dead_items}

-- a list with these items, and the registers of another that are read after it
abbrev pub with_items : BlockList → List Item → BlockList
with_items b items = record { items = items; live_out = b.live_out }

-- a list after each of the three passes, one after another
pub record IsPassed (m : Machine) (list : BlockList) (r : Passed) : Type 0 where
  pub bypassed : r.bypassed ≡ with_items list (bypass_items m [] list.items)
  pub shared : r.shared ≡ with_items list (share_items m [] r.bypassed.items)
  pub lively : r.lively ≡ with_items list (dead_items m list.live_out r.shared.items)
