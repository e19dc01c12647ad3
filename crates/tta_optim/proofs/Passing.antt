-- The three passes, one after another.
use Rattle.std.proofs.Common.{◌≡◌, ℕ, List, [], ap, ◌∙◌}
use Rattle.tta_optim.specs.Cited.{Machine, Item, BlockList}
use Rattle.tta_optim.specs.declared.together.Passed.{Passed}
use Rattle.tta_optim.specs.Passes.{share_items, dead_items, optimise_items}
use Rattle.tta_optim.specs.Passed.{with_items, IsPassed}

-- a list is one with these items where it is so part by part
pub list_is : (r b : BlockList) (items : List Item) → r.items ≡ items → r.live_out ≡ b.live_out → r ≡ with_items b items
list_is r b items same live =
    ap (λ (xs : List Item). record { items = xs; live_out = r.live_out }) same ∙ ap (λ (l : List (ℕ × ℕ)). record { items = items; live_out = l }) live

-- the list after the last pass is what the passes make of the list before the first
pub passed_is : (m : Machine) (list : BlockList) (r : Passed) → IsPassed m list r → r.lively ≡ with_items list (optimise_items m list.live_out list.items)
passed_is m list r is =
    is.lively
    ∙ ap (λ (b : BlockList). with_items list (dead_items m list.live_out b.items)) is.shared
    ∙ ap (λ (b : BlockList). with_items list (dead_items m list.live_out (share_items m [] b.items))) is.bypassed
