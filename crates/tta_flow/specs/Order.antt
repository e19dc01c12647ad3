-- A depth-first walk along the edges of a procedure.
use Rattle.std.specs.Prelude.{◌≡◌, ℕ, ◌+◌, ◌-◌, ◌*◌, ◌<◌, ◌≤◌, ◌==◌, false, ◌||◌, List, [], ◌∷◌, ◌++◌, length}
use Rattle.std.specs.List.{All}
use Rattle.tta_flow.specs.declared.order.Walk.{Walk}
use Rattle.tta_flow.specs.Bits.{has}
use Rattle.tta_flow.specs.Search.{count_below}

-- all numbers of a list are places of steps
abbrev pub ArePlaces : (places : ℕ) → List ℕ → Type 0
ArePlaces places list = All (λ k. k < places) list

-- a walk that keeps to the places of steps
pub record IsWalk (places : ℕ) (w : Walk) : Type 0 where
  pub room : places ≤ 64 * length w.seen.words.items
  pub path : ArePlaces places w.path.items
  pub left : ArePlaces places w.left.items

-- there is a step at a place, and the walk has not come to it
pub record IsNew (places : ℕ) (w : Walk) (place : ℕ) : Type 0 where
  pub there : place < places
  pub unseen : has w.seen place ≡ false

-- how often a walk can go on or leave a step at most: twice for each step that it has not come to, and once for each of
-- its path
abbrev pub ahead : (places : ℕ) → Walk → ℕ
ahead places w = 2 * (places - count_below (has w.seen) places) + length w.path.items

-- a walk has come to a step, from which it may go on
pub record Comes (place : ℕ) (old new : Walk) : Type 0 where
  pub seen : (k : ℕ) → has new.seen k ≡ (has old.seen k || place == k)
  pub room : length new.seen.words.items ≡ length old.seen.words.items
  pub path : new.path.items ≡ old.path.items ++ place ∷ []
  pub left : new.left.items ≡ old.left.items

-- a walk has gone on from a step that its path has no longer, or has left it
pub record GoesOn (places : ℕ) (old new : Walk) : Type 0 where
  pub walk : IsWalk places new
  pub ahead : ahead places new ≤ ahead places old
