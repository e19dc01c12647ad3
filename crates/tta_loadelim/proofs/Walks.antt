-- Walks down a list, item by item.
use Rattle.std.proofs.Common.{◌≡◌, ℕ, ◌+◌, ◌<◌, ◌≤◌, true, List, [], ◌∷◌, ◌++◌, length, drop, get_or, sym, ap, subst, ◌∙◌, append_assoc, append-nil}
use Rattle.std.proofs.lemmas.List.{drop_more, drop_all}
use Rattle.tta_loadelim.specs.Cited.{Machine, Item, KeptReg, is_unguarded}
use Rattle.tta_loadelim.specs.declared.available_slots.AvailableSlots.{AvailableSlots}
use Rattle.tta_loadelim.specs.AvailableSlots.{AreServed}
use Rattle.tta_loadelim.specs.Facts.{Knows, GoesOn}
use Rattle.tta_loadelim.specs.Reworked.{AreWorked}
use Rattle.tta_loadelim.specs.Copied.{is_one_of, copy_of, AreCopied, ends, stays, copies}

-- The copies so far are made, the items so far are served, and what is known after them is noted.
pub record WorkedTo (m : Machine) (fresh : List (ℕ × ℕ)) (items : List Item) (k : AvailableSlots) (out : List Item) (i : ℕ) : Type 0 where
  pub before : List Item
  pub knows : Knows m before k
  pub all : (one ys : List Item) → AreCopied fresh (drop i items) one → AreServed m before one ys → AreWorked m fresh items (out ++ ys)

pub worked_begin : (m : Machine) (fresh : List (ℕ × ℕ)) (items : List Item) (k : AvailableSlots) → Knows m [] k → WorkedTo m fresh items k [] 0
worked_begin m fresh items k knows = record {
  before = [];
  knows = knows;
  all = λ one ys made are. record { with_copies = one; copied = made; served = are };
}

pub split_at : (items : List Item) (i : ℕ) (x d : Item) → i < length items → x ≡ get_or items i d → drop i items ≡ x ∷ drop (i + 1) items
split_at items i x d lt is = drop_more items i d lt ∙ ap (λ z. z ∷ drop (i + 1) items) (sym is)

pub worked_stays : (m : Machine) (fresh : List (ℕ × ℕ)) (items : List Item) (k later : AvailableSlots) (out more : List Item) (i : ℕ) (x d : Item) → i < length items → x ≡ get_or items i d
    → GoesOn m k out x later more → WorkedTo m fresh items k out i → WorkedTo m fresh items later more (i + 1)
worked_stays m fresh items k later out more i x d lt is g t = record {
  before = x ∷ t.before;
  knows = g.passes t.before t.knows;
  all = λ one ys made are.
      let longer : AreCopied fresh (drop i items) (x ∷ one) = subst (λ (l : List Item). AreCopied fresh l (x ∷ one)) (sym (split_at items i x d lt is)) (stays x (drop (i + 1) items) one made) in
      let same : more ++ ys ≡ out ++ (g.one ∷ ys) = ap (λ (l : List Item). l ++ ys) g.are ∙ append_assoc out (g.one ∷ []) ys in
      subst (λ (l : List Item). AreWorked m fresh items l) (sym same) (t.all (x ∷ one) (g.one ∷ ys) longer (g.serves t.before t.knows, are));
}

pub worked_more : (m : Machine) (fresh : List (ℕ × ℕ)) (items : List Item) (k mid later : AvailableSlots) (out next more : List Item) (i : ℕ) (r : ℕ × ℕ) (x d : Item) → i < length items → x ≡ get_or items i d
    → is_unguarded x ≡ true → is_one_of fresh (KeptReg r.0 r.1) ≡ true → GoesOn m k out (copy_of x r) mid next → GoesOn m mid next x later more
    → WorkedTo m fresh items k out i → WorkedTo m fresh items later more (i + 1)
worked_more m fresh items k mid later out next more i r x d lt is sure one_of c g t = record {
  before = x ∷ (copy_of x r ∷ t.before);
  knows = g.passes (copy_of x r ∷ t.before) (c.passes t.before t.knows);
  all = λ one ys made are.
      let longer : AreCopied fresh (drop i items) (copy_of x r ∷ x ∷ one) =
      subst (λ (l : List Item). AreCopied fresh l (copy_of x r ∷ x ∷ one)) (sym (split_at items i x d lt is)) (copies x r (drop (i + 1) items) one sure one_of made) in
      let same : more ++ ys ≡ out ++ (c.one ∷ g.one ∷ ys) =
      ap (λ (l : List Item). l ++ ys) g.are ∙ append_assoc next (g.one ∷ []) ys ∙ ap (λ (l : List Item). l ++ (g.one ∷ ys)) c.are ∙ append_assoc out (c.one ∷ []) (g.one ∷ ys) in
      subst (λ (l : List Item). AreWorked m fresh items l) (sym same)
      (t.all (copy_of x r ∷ x ∷ one) (c.one ∷ g.one ∷ ys) longer (c.serves t.before t.knows, (g.serves (copy_of x r ∷ t.before) (c.passes t.before t.knows), are)));
}

pub worked_done : (m : Machine) (fresh : List (ℕ × ℕ)) (items : List Item) (k : AvailableSlots) (out : List Item) (i : ℕ) → WorkedTo m fresh items k out i → length items ≤ i → AreWorked m fresh items out
worked_done m fresh items k out i t le =
    subst (λ (l : List Item). AreWorked m fresh items l) (append-nil out) (t.all [] [] (subst (λ (l : List Item). AreCopied fresh l []) (sym (drop_all i items le)) ends) tt)
