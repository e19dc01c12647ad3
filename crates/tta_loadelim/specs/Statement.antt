-- What is proved of the steps of the pass, whose own clause says with the words of stand-ins that its list may be placed for
-- the block's.
use Rattle.std.specs.Prelude.{◌≡◌, ℕ, true, List, [], length}
use Rattle.tta_loadelim.specs.Cited.{Units, Machine, Item, Held, do_items, has_meaning, KeepsMeaning, KeepsFramed}
use Rattle.tta_loadelim.specs.AvailableSlots.{AreServed}
use Rattle.tta_loadelim.specs.Copied.{are_unread, AreCopied}
use Rattle.tta_loadelim.specs.Thinned.{AreThinned}

-- From every state with the machine's frame from which a list has a meaning, the list with served reads has one, and leaves
-- the same state.
abbrev pub ServedAlike : Type 0
ServedAlike =
    (u : Units) (m : Machine) (addr : List ℕ) (back : ℕ) (h : Held) (items others : List Item) → AreServed m [] items others → length h.frame ≡ m.frame_words
    → has_meaning u m addr back h items ≡ true
    → (has_meaning u m addr back h others ≡ true) × (do_items u m addr back h others ≡ do_items u m addr back h items)

-- a list with copies into registers that nothing reads keeps its meaning
abbrev pub CopiesKeep : Type 0
CopiesKeep = (m : Machine) (live fresh : List (ℕ × ℕ)) (items others : List Item) → are_unread live fresh items ≡ true → AreCopied fresh items others → KeepsMeaning m live items others

-- so a list with served reads may stand for the list
abbrev pub ServedKeep : Type 0
ServedKeep = (m : Machine) (live : List (ℕ × ℕ)) (items others : List Item) → AreServed m [] items others → KeepsFramed m live items others

-- and so may a list without some stores into slots that it stores into again, from every state
abbrev pub ThinnedKeep : Type 0
ThinnedKeep = (m : Machine) (live : List (ℕ × ℕ)) (items others : List Item) → AreThinned m [] items others → KeepsMeaning m live items others
