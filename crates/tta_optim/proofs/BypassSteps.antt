-- The walk that bypasses, item by item.
use Rattle.std.proofs.Common.{◌≡◌, ℕ, suc, ◌+◌, ◌<◌, ◌≤◌, true, List, [], ◌∷◌, ◌++◌, length, replicate, get_or, drop, Option, Some, None, refl, sym, ap, subst, arith, ◌∙◌, append_assoc, add-one, drop-cons, length-append}
use Rattle.std.specs.Prelude.{if◌then◌else◌, reverse, option_and_then, slice_get}
use Rattle.std.specs.Option.{option_map_or}
use Rattle.std.specs.List.{list_all}
use Rattle.std.proofs.lemmas.List.{reverse-append, length-reverse, append-nil, drop_all}
use Rattle.std.proofs.lemmas.Option.{slice_get-get_or}
use Rattle.std.proofs.lemmas.Grind.{common_steps}
use Rattle.tta_list.proofs.Lists.{list_all_one}
use Rattle.tta_arch.specs.declared.ends.Source.TheVariants as source
use Rattle.tta_optim.specs.Cited.{Machine, IsMachine, Place, KeptReg, ItemSource, Port, Address, Item, Move, Long, place_of_source, is_place, joined, has_slot, is_port_source, is_wide_file, shown_in_place_of, port_for}
use Rattle.tta_moves.proofs.InRange.{InRange, in_range}
use Rattle.tta_optim.specs.declared.notes.Note.{Note}
use Rattle.tta_optim.specs.Notes.{blank, noted, shown_by, bypassed_by}
use Rattle.tta_optim.specs.Passes.{with_source, bypassed, bypass_items}
use Rattle.tta_optim.proofs.Noted.{Noted, noted_none, noted_more, copied_noted}
use Rattle.tta_optim.proofs.Shorter.{port_turned}

shown_is : (m : Machine) (notes : List Note) (before : List Item) (src : ItemSource) → Noted m notes before → ((p : Place) → place_of_source src ≡ Some p → is_place p ≡ true)
    → shown_by m notes src ≡ shown_in_place_of m before src
shown_is m notes before (Port (source.Reg f i)) n range =
    ap (λ (o : Option ItemSource). if is_wide_file m f then option_and_then (λ s. if is_port_source s then Some s else None) o else None) (copied_noted m notes before (KeptReg f i) n (range (KeptReg f i) refl))
shown_is m notes before (Port (source.Imm f i)) n range = refl
shown_is m notes before (Port (source.Shown unit)) n range = refl
shown_is m notes before (Port source.Ra) n range = refl
shown_is m notes before (Port (source.Value w)) n range = refl
shown_is m notes before (Address b) n range = refl

pub bypassed_is : (m : Machine) (notes : List Note) (before : List Item) (x : Item) → Noted m notes before → InRange m x → bypassed_by m notes x ≡ bypassed m before x
bypassed_is m notes before (Long unit index value) n range = refl
bypassed_is m notes before (Move guard src dst) n range =
    ap (λ (o : Option ItemSource). option_map_or (λ port. Move guard port dst) (option_and_then (λ port. if joined m port dst guard then Some port else None) o) (Move guard src dst)) (shown_is m notes before src n range.source)

-- it has a slot as the item has
bypassed_slot : (m : Machine) (before : List Item) (x : Item) → has_slot m x ≡ true → has_slot m (bypassed m before x) ≡ true
bypassed_slot m before x h = on (port_for m before x) refl where
  on : (o : Option ItemSource) → port_for m before x ≡ o → has_slot m (option_map_or (with_source x) o x) ≡ true
  on None e = h
  on (Some port) e = let t = port_turned m before x port e in t.slot

-- the walk has come so far
pub record BypassedTo (m : Machine) (items : List Item) (notes : List Note) (done : List Item) (at : ℕ) : Type 0 where
  pub so_far : bypass_items m [] items ≡ done ++ bypass_items m (reverse done) (drop at items)
  pub known : Noted m notes (reverse done)
  pub count : length done ≡ at

pub bypass_step : (m : Machine) → IsMachine m → (items : List Item) (notes : List Note) (done : List Item) (at : ℕ) (x : Item) → list_all (has_slot m) items ≡ true → at < length items → x ≡ get_or items at x
    → BypassedTo m items notes done at
    → BypassedTo m items (noted m notes (at + 1) (bypassed_by m notes x)) (done ++ bypassed_by m notes x ∷ []) (at + 1)
bypass_step m rules items notes done at x slots lt is t =
    subst (λ (y : Item). BypassedTo m items (noted m notes (at + 1) y) (done ++ y ∷ []) (at + 1)) (sym same) next where
      here : slice_get items at ≡ Some x
      here = slice_get-get_or items at x lt ∙ ap (λ (z : Item). Some z) (sym is)

      slot : has_slot m x ≡ true
      slot = list_all_one (has_slot m) items at x slots here

      y : Item
      y = bypassed m (reverse done) x

      same : bypassed_by m notes x ≡ bypassed m (reverse done) x
      same = bypassed_is m notes (reverse done) x t.known (in_range m rules x slot)

      turned : reverse (done ++ y ∷ []) ≡ y ∷ reverse done
      turned = reverse-append done (y ∷ [])

      rest : drop at items ≡ x ∷ drop (at + 1) items
      rest = drop-cons items at x lt ∙ ap (λ z. z ∷ drop (suc at) items) (sym is) ∙ ap (λ k. x ∷ drop k items) (sym (add-one at))

      number : suc (length (reverse done)) ≡ at + 1
      number = let long = length-reverse done in let count = t.count in omega arith

      more : Noted m (noted m notes (suc (length (reverse done))) y) (y ∷ reverse done)
      more = noted_more m notes (reverse done) y (in_range m rules y (bypassed_slot m (reverse done) x slot)) t.known

      next : BypassedTo m items (noted m notes (at + 1) (bypassed m (reverse done) x)) (done ++ bypassed m (reverse done) x ∷ []) (at + 1)
      next = record {
        so_far = t.so_far ∙ ap (λ l. done ++ bypass_items m (reverse done) l) rest
            ∙ sym (append_assoc done (y ∷ []) (bypass_items m (y ∷ reverse done) (drop (at + 1) items)))
            ∙ ap (λ b. (done ++ y ∷ []) ++ bypass_items m b (drop (at + 1) items)) (sym turned);
        known = subst (λ (b : List Item). Noted m (noted m notes (at + 1) y) b) (sym turned) (subst (λ k. Noted m (noted m notes k y) (y ∷ reverse done)) number more);
        count = length-append done (y ∷ []) ∙ ap (λ n. n + 1) t.count;
      }

pub bypass_begin : (m : Machine) (items : List Item) (notes : List Note) → notes ≡ replicate 641 blank → BypassedTo m items notes [] 0
bypass_begin m items notes e = record { so_far = refl; known = subst (λ (n : List Note). Noted m n []) (sym e) (noted_none m); count = refl }

pub bypass_done : (m : Machine) (items : List Item) (notes : List Note) (done : List Item) (at : ℕ) → BypassedTo m items notes done at → length items ≤ at → done ≡ bypass_items m [] items
bypass_done m items notes done at t past =
    let none : drop at items ≡ [] = drop_all at items past in
    sym (t.so_far ∙ ap (λ l. done ++ bypass_items m (reverse done) l) none ∙ append-nil done)

pub bypass_next : (m : Machine) → IsMachine m → (items : List Item) (notes notes' : List Note) (done done' : List Item) (at : ℕ) (d y : Item) → list_all (has_slot m) items ≡ true → at < length items
    → BypassedTo m items notes done at → y ≡ bypassed_by m notes (get_or items at d) → notes' ≡ noted m notes (at + 1) y → done' ≡ done ++ y ∷ []
    → BypassedTo m items notes' done' (at + 1)
bypass_next m rules items notes notes' done done' at d y slots lt t e f g =
    let x : Item = get_or items at d in
    let is : x ≡ get_or items at x = grind (arith, common_steps) in
    rw (f, g, e) (bypass_step m rules items notes done at x slots lt is t)
