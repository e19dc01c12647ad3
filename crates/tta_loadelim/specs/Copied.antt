-- Copies of words into registers that a list does not use.
use Rattle.std.specs.Prelude.{◌≡◌, ℕ, ◌==◌, Bool, true, not, ◌&&◌, nat_lt, List, [], ◌∷◌, None}
use Rattle.std.specs.List.{list_all, list_any}
use Rattle.tta_arch.specs.declared.ends.Dest.TheVariants as dest
use Rattle.tta_loadelim.specs.Cited.{Place, KeptReg, same_place, Item, Move, source_of, reads, is_unguarded, BlockList, lives}

-- a register, as file and index, is one of some
abbrev pub is_one_of : List (ℕ × ℕ) → Place → Bool
is_one_of fresh p = list_any (λ r. same_place (KeptReg r.0 r.1) p) fresh

-- no item of a list reads one of these registers, and the next list does not
abbrev pub are_unread : (live fresh : List (ℕ × ℕ)) → List Item → Bool
are_unread live fresh items =
    list_all (λ x. list_all (λ r. not (reads (KeptReg r.0 r.1) x)) fresh) items && list_all (λ r. not (lives live (KeptReg r.0 r.1))) fresh

-- the move of an item's word into a register as well
abbrev pub copy_of : Item → (ℕ × ℕ) → Item
copy_of x r = Move None (source_of x) (dest.Reg r.0 r.1)

-- A list with copies: before some items that act in any case their words are moved into one of these registers as well.
pub data AreCopied (fresh : List (ℕ × ℕ)) : List Item → List Item → Type 0 where
  ends : AreCopied fresh [] []
  stays : (x : Item) (xs ys : List Item) → AreCopied fresh xs ys → AreCopied fresh (x ∷ xs) (x ∷ ys)
  copies : (x : Item) (r : ℕ × ℕ) (xs ys : List Item) → is_unguarded x ≡ true → is_one_of fresh (KeptReg r.0 r.1) ≡ true → AreCopied fresh xs ys
      → AreCopied fresh (x ∷ xs) (copy_of x r ∷ x ∷ ys)

-- Registers into which words of a block's list may be copied: scratch registers that it does not read, and the next list
-- does not.
pub record AreSpare (hub : ℕ) (b : BlockList) (fresh : List (ℕ × ℕ)) : Type 0 where
  pub unread : are_unread b.live_out fresh b.items ≡ true
  pub scratch : list_all (λ r. hub == r.0 && nat_lt r.1 3) fresh ≡ true
