-- The notes on the way down a list say which source's word a place still has.
use Rattle.std.proofs.Common.{◌≡◌, ℕ, suc, ◌<◌, ◌≤◌, Bool, true, false, List, [], ◌∷◌, length, replicate, Option, Some, None, refl, sym, ap, arith, ◌∙◌}
use Rattle.std.specs.Prelude.{if◌then◌else◌, nat_le, is_none, option_map, option_and_then, slice_get, slice_set}
use Rattle.std.specs.Option.{option_map_or}
use Rattle.std.proofs.lemmas.Bool.{le-leb, lt-leb}
use Rattle.std.proofs.lemmas.List.{get_or-replicate, length-replicate, length-set}
use Rattle.std.proofs.lemmas.Option.{slice_get-get_or}
use Rattle.tta_optim.specs.Cited.{GuardRef, Machine, Place, same_place, ItemSource, Item, guard_of, source_of, target_of_item, place_of_source, place_written, writes, is_at, place_number, is_place, sure_source, unless_written, copied}
use Rattle.tta_moves.proofs.Places.{either}
use Rattle.tta_moves.proofs.InRange.{one_place, number_below, InRange}
use Rattle.tta_optim.specs.declared.notes.Note.{Note}
use Rattle.tta_optim.specs.Notes.{blank, since, still, copied_by, noted}
use Rattle.tta_list.proofs.Sets.{set_same as get_set_same, set_other as get_set_other}
use Rattle.tta_arch.proofs.Places.{same_is}

-- ---- one entry of a list

-- ---- the last item that wrote a place

-- which item it was, counted from 1 from the oldest; 0 where there was none
abbrev pub last_write : Machine → Place → List Item → ℕ
last_write m p [] = 0
last_write m p (x ∷ before) = if writes m p x then suc (length before) else last_write m p before

-- its source, where it had no guard
abbrev pub last_source : Machine → Place → List Item → Option ItemSource
last_source m p [] = None
last_source m p (x ∷ before) = if writes m p x then sure_source x else last_source m p before

-- when the place of a source was last written
abbrev pub source_written : Machine → List Item → Option Place → ℕ
source_written m before o = option_map_or (λ q. last_write m q before) o 0

last_le : (m : Machine) (p : Place) (before : List Item) → last_write m p before ≤ length before
last_le m p [] = omega arith
last_le m p (x ∷ before) = on (writes m p x) (last_le m p before) where
  on : (b : Bool) → last_write m p before ≤ length before → (if b then suc (length before) else last_write m p before) ≤ suc (length before)
  on true h = omega arith
  on false h = omega arith

source_le : (m : Machine) (before : List Item) (o : Option Place) → source_written m before o ≤ length before
source_le m before None = omega arith
source_le m before (Some q) = last_le m q before

-- a source, unless what it is was written later
abbrev pub if_still : (written at : ℕ) → ItemSource → Option ItemSource
if_still written at s = if nat_le written at then Some s else None

still_now : (m : Machine) (x : Item) (before : List Item) (s : ItemSource) → if_still (source_written m (x ∷ before) (place_of_source s)) (suc (length before)) s ≡ Some s
still_now m x before s =
    let le = source_le m (x ∷ before) (place_of_source s) in
    let yes_le = le-leb (source_written m (x ∷ before) (place_of_source s)) (suc (length before)) le in
    rw yes_le refl

-- what a place still has follows from these
pub copied_is : (m : Machine) (p : Place) (before : List Item)
    → copied m p before ≡ option_and_then (λ s. if_still (source_written m before (place_of_source s)) (last_write m p before) s) (last_source m p before)
copied_is m p [] = refl
copied_is m p (x ∷ before) = on (writes m p x) refl (copied_is m p before) where
  first : (o : Option ItemSource) → o ≡ option_and_then (λ s. if_still (source_written m (x ∷ before) (place_of_source s)) (suc (length before)) s) o
  first None = refl
  first (Some s) = sym (still_now m x before s)

  place_by : (s : ItemSource) (o : Option Place) (at : ℕ) → at ≤ length before
      → (if option_map_or (λ q. writes m q x) o false then None else if_still (source_written m before o) at s)
      ≡ if_still (source_written m (x ∷ before) o) at s
  place_by s None at le = refl
  place_by s (Some q) at le = by (writes m q x) refl where
    by : (b : Bool) → writes m q x ≡ b → (if b then None else if_still (last_write m q before) at s) ≡ if_still (if b then suc (length before) else last_write m q before) at s
    by true e = let late = lt-leb (suc (length before)) at (omega arith) in rw late refl
    by false e = refl

  pulled : (o : Option ItemSource) (s : ItemSource) (n at : ℕ) → (if option_map_or (λ q. writes m q x) (place_of_source s) false then None else if_still n at s) ≡ unless_written m x (if_still n at s)
  pulled o s n at = by (nat_le n at) where
    by : (b : Bool) → (if option_map_or (λ q. writes m q x) (place_of_source s) false then None else (if b then Some s else None)) ≡ unless_written m x (if b then Some s else None)
    by true = refl
    by false = none (option_map_or (λ q. writes m q x) (place_of_source s) false) where
      none : (c : Bool) → ◌≡◌ {A = Option ItemSource} (if c then None else None) None
      none true = refl
      none false = refl

  later : (o : Option ItemSource) → unless_written m x (option_and_then (λ s. if_still (source_written m before (place_of_source s)) (last_write m p before) s) o)
      ≡ option_and_then (λ s. if_still (source_written m (x ∷ before) (place_of_source s)) (last_write m p before) s) o
  later None = refl
  later (Some s) = sym (pulled (Some s) s (source_written m before (place_of_source s)) (last_write m p before)) ∙ place_by s (place_of_source s) (last_write m p before) (last_le m p before)

  on : (b : Bool) → writes m p x ≡ b → copied m p before ≡ option_and_then (λ s. if_still (source_written m before (place_of_source s)) (last_write m p before) s) (last_source m p before)
      → (if b then sure_source x else unless_written m x (copied m p before))
      ≡ option_and_then (λ s. if_still (source_written m (x ∷ before) (place_of_source s)) (if b then suc (length before) else last_write m p before) s) (if b then sure_source x else last_source m p before)
  on true e ih = first (sure_source x)
  on false e ih = ap (unless_written m x) ih ∙ later (last_source m p before)

-- ---- the notes

-- what is noted of a place after these items, the newest first
abbrev pub note_of : Machine → List Item → Place → Note
note_of m before p = record { at = last_write m p before; from = last_source m p before }

pub record Noted (m : Machine) (notes : List Note) (before : List Item) : Type 0 where
  pub size : length notes ≡ 641
  pub each : (p : Place) → is_place p ≡ true → slice_get notes (place_number p) ≡ Some (note_of m before p)
  pub from : (p q : Place) (s : ItemSource) → last_source m p before ≡ Some s → place_of_source s ≡ Some q → is_place q ≡ true

pub noted_none : (m : Machine) → Noted m (replicate 641 blank) []
noted_none m = record {
  size = length-replicate 641 blank;
  each = λ p is.
      let lt = number_below p is in
      let long : length (replicate 641 blank) ≡ 641 = length-replicate 641 blank in
      slice_get-get_or (replicate 641 blank) (place_number p) blank (omega arith)
      ∙ ap (λ (n : Note). Some n) (get_or-replicate 641 (place_number p) blank blank lt);
  from = λ p q s e f. absurd cc;
}

pub noted_more : (m : Machine) (notes : List Note) (before : List Item) (x : Item) → InRange m x → Noted m notes before → Noted m (noted m notes (suc (length before)) x) (x ∷ before)
noted_more m notes before x range n = on (place_written m (target_of_item x)) refl where
  source_range : (p q : Place) (s : ItemSource) (b : Bool) → (if b then sure_source x else last_source m p before) ≡ Some s → place_of_source s ≡ Some q → is_place q ≡ true
  source_range p q s false e f = n.from p q s e f
  source_range p q s true e f = by (guard_of x) e where
    by : (g : Option GuardRef) → (if is_none g then Some (source_of x) else None) ≡ Some s → is_place q ≡ true
    by None e = let same : source_of x ≡ s = cc in range.source q (ap place_of_source same ∙ f)
    by (Some g) e = absurd cc

  on : (o : Option Place) → place_written m (target_of_item x) ≡ o
      → Noted m (option_map_or (λ place. slice_set notes place (record { at = suc (length before); from = sure_source x })) (option_map place_number o) notes) (x ∷ before)
  on None e = record {
    size = n.size;
    each = λ p is. n.each p is ∙ ap (λ (o : Option Place). Some (record { at = (if is_at p o then suc (length before) else last_write m p before); from = (if is_at p o then sure_source x else last_source m p before) })) (sym e);
    from = λ p q s h f. source_range p q s (writes m p x) h f;
  }
  on (Some w) e = record {
    size = length-set notes (place_number w) (record { at = suc (length before); from = sure_source x }) ∙ n.size;
    each = λ p is. here p is ∙ ap (λ (o : Option Place). Some (record { at = (if is_at p o then suc (length before) else last_write m p before); from = (if is_at p o then sure_source x else last_source m p before) })) (sym e);
    from = λ p q s h f. source_range p q s (writes m p x) h f;
  } where
    there : is_place w ≡ true
    there = range.target w e

    within : place_number w < length notes
    within = let lt = number_below w there in let long = n.size in omega arith

    here : (p : Place) → is_place p ≡ true → slice_get (slice_set notes (place_number w) (record { at = suc (length before); from = sure_source x })) (place_number p)
        ≡ Some (record { at = (if same_place w p then suc (length before) else last_write m p before); from = (if same_place w p then sure_source x else last_source m p before) })
    here p is = either (same_place w p)
        (λ s. rw s (ap (λ (q : Place). slice_get (slice_set notes (place_number w) (record { at = suc (length before); from = sure_source x })) (place_number q)) (sym (same_is w p s))
        ∙ get_set_same notes (place_number w) (record { at = suc (length before); from = sure_source x }) within))
        (λ s. rw s (get_set_other notes (place_number w) (place_number p) (record { at = suc (length before); from = sure_source x }) (λ same. let t = one_place w p there is same in absurd cc) ∙ n.each p is))

since_is : (m : Machine) (notes : List Note) (before : List Item) (o : Option Place) → Noted m notes before → ((q : Place) → o ≡ Some q → is_place q ≡ true)
    → since notes (option_map place_number o) ≡ source_written m before o
since_is m notes before None n range = refl
since_is m notes before (Some q) n range = ap (λ (o : Option Note). option_map_or (λ k. k.at) o 0) (n.each q (range q refl))

-- the notes say what a place still has
pub copied_noted : (m : Machine) (notes : List Note) (before : List Item) (p : Place) → Noted m notes before → is_place p ≡ true → copied_by notes (place_number p) ≡ copied m p before
copied_noted m notes before p n is =
    ap (λ (o : Option Note). option_and_then (λ k. option_and_then (still notes k.at) k.from) o) (n.each p is)
    ∙ on (last_source m p before) refl
    ∙ sym (copied_is m p before) where
      on : (o : Option ItemSource) → last_source m p before ≡ o
          → option_and_then (still notes (last_write m p before)) o ≡ option_and_then (λ s. if_still (source_written m before (place_of_source s)) (last_write m p before) s) o
      on None e = refl
      on (Some s) e = ap (λ w. if_still w (last_write m p before) s) (since_is m notes before (place_of_source s) n (λ q f. n.from p q s e f))
