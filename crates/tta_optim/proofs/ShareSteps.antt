-- The walk that shares, item by item.
use Rattle.std.proofs.Common.{◌≡◌, ℕ, suc, ◌+◌, ◌<◌, ◌≤◌, Bool, true, false, List, [], ◌∷◌, ◌++◌, length, replicate, get_or, drop, Option, refl, sym, ap, subst, arith, ◌∙◌, append_assoc, add-one, drop-cons}
use Rattle.std.specs.Prelude.{if◌then◌else◌, reverse}
use Rattle.std.specs.Option.{option_map_or}
use Rattle.std.specs.List.{list_all}
use Rattle.std.proofs.lemmas.List.{reverse-append, length-reverse, append-nil, drop_all}
use Rattle.std.proofs.lemmas.Option.{slice_get-get_or}
use Rattle.tta_list.proofs.Lists.{list_all_one}
use Rattle.tta_arch.specs.declared.ends.Dest.TheVariants as dest
use Rattle.tta_optim.specs.Cited.{Machine, IsMachine, KeptOperand, ItemSource, Item, Move, Long, has_slot, same_source, is_redundant}
use Rattle.tta_moves.proofs.InRange.{InRange, in_range}
use Rattle.tta_optim.specs.declared.notes.Note.{Note}
use Rattle.tta_optim.specs.Notes.{blank, noted, redundant_by}
use Rattle.tta_optim.specs.Passes.{share_items}
use Rattle.tta_optim.proofs.Noted.{Noted, noted_none, noted_more, copied_noted}

redundant_is_by : (m : Machine) (notes : List Note) (before : List Item) (x : Item) → Noted m notes before → InRange m x → redundant_by notes x ≡ is_redundant m before x
redundant_is_by m notes before (Long unit index value) n range = refl
redundant_is_by m notes before (Move guard src (dest.Reg f i)) n range = refl
redundant_is_by m notes before (Move guard src (dest.Trigger f i)) n range = refl
redundant_is_by m notes before (Move guard src dest.Jump) n range = refl
redundant_is_by m notes before (Move guard src dest.Call) n range = refl
redundant_is_by m notes before (Move guard src dest.Halt) n range = refl
redundant_is_by m notes before (Move guard src (dest.Operand unit)) n range =
    ap (λ (o : Option ItemSource). option_map_or (same_source src) o false) (copied_noted m notes before (KeptOperand unit) n (range.target (KeptOperand unit) refl))

-- the walk has come so far
pub record SharedTo (m : Machine) (items : List Item) (notes : List Note) (done : List Item) (at : ℕ) : Type 0 where
  pub so_far : share_items m [] items ≡ done ++ share_items m (reverse done) (drop at items)
  pub known : Noted m notes (reverse done)

pub share_begin : (m : Machine) (items : List Item) (notes : List Note) → notes ≡ replicate 641 blank → SharedTo m items notes [] 0
share_begin m items notes e = record { so_far = refl; known = subst (λ (n : List Note). Noted m n []) (sym e) (noted_none m) }

rest_of : (items : List Item) (at : ℕ) (d : Item) → at < length items → drop at items ≡ get_or items at d ∷ drop (at + 1) items
rest_of items at d lt = drop-cons items at d lt ∙ ap (λ k. get_or items at d ∷ drop k items) (sym (add-one at))

pub slot_of : (m : Machine) → IsMachine m → (items : List Item) (at : ℕ) (d : Item) → list_all (has_slot m) items ≡ true → at < length items → InRange m (get_or items at d)
slot_of m rules items at d slots lt =
    in_range m rules (get_or items at d) (list_all_one (has_slot m) items at (get_or items at d) slots (slice_get-get_or items at d lt))

pub share_left : (m : Machine) → IsMachine m → (items : List Item) (notes : List Note) (done : List Item) (at : ℕ) (d : Item) → list_all (has_slot m) items ≡ true → at < length items
    → SharedTo m items notes done at → redundant_by notes (get_or items at d) ≡ true → SharedTo m items notes done (at + 1)
share_left m rules items notes done at d slots lt t red =
    let range = slot_of m rules items at d slots lt in
    let is : is_redundant m (reverse done) (get_or items at d) ≡ true = sym (redundant_is_by m notes (reverse done) (get_or items at d) t.known range) ∙ red in
    record {
      so_far = t.so_far ∙ ap (λ l. done ++ share_items m (reverse done) l) (rest_of items at d lt)
          ∙ ap (λ (b : Bool). done ++ (if b then share_items m (reverse done) (drop (at + 1) items) else get_or items at d ∷ share_items m (get_or items at d ∷ reverse done) (drop (at + 1) items))) is;
      known = t.known;
    }

pub share_next : (m : Machine) → IsMachine m → (items : List Item) (notes notes' : List Note) (done done' : List Item) (at number : ℕ) (d : Item) → list_all (has_slot m) items ≡ true → at < length items
    → SharedTo m items notes done at → redundant_by notes (get_or items at d) ≡ false → number ≡ length done + 1 → notes' ≡ noted m notes number (get_or items at d) → done' ≡ done ++ get_or items at d ∷ []
    → SharedTo m items notes' done' (at + 1)
share_next m rules items notes notes' done done' at count d slots lt t new e f g =
    let x : Item = get_or items at d in
    let range = slot_of m rules items at d slots lt in
    let is : is_redundant m (reverse done) x ≡ false = sym (redundant_is_by m notes (reverse done) x t.known range) ∙ new in
    let turned : reverse (done ++ x ∷ []) ≡ x ∷ reverse done = reverse-append done (x ∷ []) in
    let number : suc (length (reverse done)) ≡ length done + 1 = (let long = length-reverse done in omega arith) in
    let more = noted_more m notes (reverse done) x range t.known in
    let next : SharedTo m items (noted m notes (length done + 1) x) (done ++ x ∷ []) (at + 1) = record {
      so_far = t.so_far ∙ ap (λ l. done ++ share_items m (reverse done) l) (rest_of items at d lt)
          ∙ ap (λ (b : Bool). done ++ (if b then share_items m (reverse done) (drop (at + 1) items) else x ∷ share_items m (x ∷ reverse done) (drop (at + 1) items))) is
          ∙ sym (append_assoc done (x ∷ []) (share_items m (x ∷ reverse done) (drop (at + 1) items)))
          ∙ ap (λ b. (done ++ x ∷ []) ++ share_items m b (drop (at + 1) items)) (sym turned);
      known = subst (λ (b : List Item). Noted m (noted m notes (length done + 1) x) b) (sym turned) (subst (λ k. Noted m (noted m notes k x) (x ∷ reverse done)) number more);
    } in
    rw (f, g, e) next

pub share_done : (m : Machine) (items : List Item) (notes : List Note) (done : List Item) (at : ℕ) → SharedTo m items notes done at → length items ≤ at → done ≡ share_items m [] items
share_done m items notes done at t past =
    let none : drop at items ≡ [] = drop_all at items past in
    sym (t.so_far ∙ ap (λ l. done ++ share_items m (reverse done) l) none ∙ append-nil done)
