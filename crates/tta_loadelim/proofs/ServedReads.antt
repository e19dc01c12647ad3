-- A list with served reads does the same.
use Rattle.std.proofs.Common.{◌≡◌, ℕ, true, false, List, [], ◌∷◌, length, Option, Some, None, refl, sym, ap, subst, ◌∙◌, inl, inr}
use Rattle.std.specs.Prelude.{if◌then◌else◌, ◌&&◌, ◌||◌, is_none, map}
use Rattle.std.specs.Option.{option_map_or}
use Rattle.tta_loadelim.specs.Cited.{Units, Source, Machine, Effect, is_active, has_unset_guard, lacks_operand, start_of, Port, Item, Move, Long, source_of, is_waiting, Held, linked, effect_of, read_held, arrives, does, lacks, do_items, has_meaning, with_source, KeepsFramed}
use Rattle.tta_moves.proofs.Places.{either}
use Rattle.tta_optim.specs.Kept.{Alike as AlikeAt}
use Rattle.tta_optim.proofs.FrameKept.{frame_long}
use Rattle.tta_optim.specs.Kept.{Alike as AlikeAt}
use Rattle.tta_optim.proofs.Copies.{Copies, none_yet, one_more, stuck_means, first_means}
use Rattle.tta_loadelim.specs.AvailableSlots.{known, IsServed, AreServed}
use Rattle.tta_loadelim.proofs.Holding.{Hold, have_one_word}
use Rattle.tta_loadelim.proofs.Later.{known_later}
use Rattle.tta_moves.proofs.Waiting.{stuck_all}

-- ---- an effect with another source of the same word

does_source : (u : Units) (m : Machine) (back : ℕ) (h : Held) (e : Effect) (b : Source) → read_held h.written b ≡ read_held h.written e.src → does u m back h (record e { src = b }) ≡ does u m back h e
unfolding does
does_source u m back h e b same =
    ap (λ (o : Option ℕ). if is_waiting h.exit then h else arrives u m back h (option_map_or (λ word. Some (e.target, word)) (if is_active (read_held h.written) e then o else None) None)) same

lacks_source : (m : Machine) (h : Held) (e : Effect) (b : Source) → read_held h.written b ≡ read_held h.written e.src → lacks m h (record e { src = b }) ≡ lacks m h e
unfolding lacks
lacks_source m h e b same =
    ap (λ (o : Option ℕ). has_unset_guard (read_held h.written) e || (is_active (read_held h.written) e && true && is_none o)
    || option_map_or (λ b. option_map_or lacks_operand (start_of m h.written b) false) (option_map_or (λ word. Some (e.target, word)) (if is_active (read_held h.written) e then o else None) None) false) same

-- ---- the list

module _ (u : Units) (m : Machine) (addr : List ℕ) (back : ℕ) where
  -- what a served item does
  served_item : (h : Held) (before : List Item) (x y : Item) → Hold h (known m before) → IsServed m before x y
      → (does u m back h (effect_of addr y) ≡ does u m back h (effect_of addr x)) × (lacks m h (effect_of addr y) ≡ lacks m h (effect_of addr x))
  served_item h before x y holds s = elim s as (λ s. (does u m back h (effect_of addr y) ≡ does u m back h (effect_of addr x)) × (lacks m h (effect_of addr y) ≡ lacks m h (effect_of addr x))) [
    | inl same ↦ (ap (λ (z : Item). does u m back h (effect_of addr z)) same, ap (λ (z : Item). lacks m h (effect_of addr z)) same)
    | inr other ↦ by x y other.0 other.1 other.2 other.3 (have_one_word h other.0 other.1 (known m before) holds other.4)
  ] where
    by : (x y : Item) (a b : Source) → source_of x ≡ Port a → y ≡ with_source x (Port b) → read_held h.written b ≡ read_held h.written a
        → (does u m back h (effect_of addr y) ≡ does u m back h (effect_of addr x)) × (lacks m h (effect_of addr y) ≡ lacks m h (effect_of addr x))
    by (Long unit index value) y a b from is same = (ap (λ (z : Item). does u m back h (effect_of addr z)) is, ap (λ (z : Item). lacks m h (effect_of addr z)) is)
    by (Move guard src dst) y a b from is same =
        let e : Effect = effect_of addr (Move guard src dst) in
        let read : read_held h.written b ≡ read_held h.written e.src = same ∙ ap (λ s. read_held h.written (linked addr s)) (sym from) in (
          ap (λ (z : Item). does u m back h (effect_of addr z)) is ∙ does_source u m back h e b read,
          ap (λ (z : Item). lacks m h (effect_of addr z)) is ∙ lacks_source m h e b read,
        )

  abbrev Alike : List Item → List Item → Held → Type 0
  Alike xs ys h = (has_meaning u m addr back h ys ≡ true) × (do_items u m addr back h ys ≡ do_items u m addr back h xs)

  stuck : (xs ys : List Item) (h : Held) → is_waiting h.exit ≡ true → Alike xs ys h
  stuck xs ys h waits = (stuck_means u m back h (map (effect_of addr) ys) waits, stuck_all u m back h (map (effect_of addr) ys) waits ∙ sym (stuck_all u m back h (map (effect_of addr) xs) waits))

  one : (before : List Item) (x y : Item) (xs ys : List Item) (h : Held) → IsServed m before x y → Hold h (known m before) → is_waiting h.exit ≡ false → lacks m h (effect_of addr x) ≡ false
      → Alike xs ys (does u m back h (effect_of addr x)) → Alike (x ∷ xs) (y ∷ ys) h
  one before x y xs ys h s holds runs fine more =
      let same = served_item h before x y holds s in
      let fine_too : lacks m h (effect_of addr y) ≡ false = same.1 ∙ fine in (
        rw (runs, fine_too) (subst (λ (k : Held). has_meaning u m addr back k ys ≡ true) (sym same.0) more.0),
        ap (λ (k : Held). do_items u m addr back k ys) same.0 ∙ more.1,
      )

  served : (before xs ys : List Item) (h : Held) → AreServed m before xs ys → Hold h (known m before) → Copies m addr before h.written → length h.frame ≡ m.frame_words
      → has_meaning u m addr back h xs ≡ true → Alike xs ys h
  served before [] [] h are holds copies long ok = (refl, refl)
  served before [] (y ∷ ys) h are holds copies long ok = absurd are
  served before (x ∷ xs) [] h are holds copies long ok = absurd are
  served before (x ∷ xs) (y ∷ ys) h are holds copies long ok = either (is_waiting h.exit)
      (λ waits. stuck (x ∷ xs) (y ∷ ys) h waits)
      (λ runs.
      let first = first_means u m back h (effect_of addr x) (map (effect_of addr) xs) runs ok in
      one before x y xs ys h are.0 holds runs first.0
      (served (x ∷ before) xs ys (does u m back h (effect_of addr x)) are.1
      (known_later u m addr back before x h (record { holds = holds; copies = copies; runs = runs; fine = first.0; frame = long }))
      (one_more u m addr back before x h runs first.0 copies)
      (frame_long u m back h (effect_of addr x) ∙ long) first.1))

pub served_alike : (u : Units) (m : Machine) (addr : List ℕ) (back : ℕ) (h : Held) (items others : List Item) → AreServed m [] items others → length h.frame ≡ m.frame_words
    → has_meaning u m addr back h items ≡ true
    → (has_meaning u m addr back h others ≡ true) × (do_items u m addr back h others ≡ do_items u m addr back h items)
served_alike u m addr back h items others are long ok = served u m addr back [] items others h are tt (none_yet m addr h.written) long ok

alike_self : (live : List (ℕ × ℕ)) (h k : Held) → k ≡ h → AlikeAt live h k
alike_self live h k e = subst (λ (l : Held). AlikeAt live h l) (sym e) (record { memory = refl; frame = refl; rest = refl; output = refl; exit = refl; registers = λ runs p l. refl })

pub served_keep : (m : Machine) (live : List (ℕ × ℕ)) (items others : List Item) → AreServed m [] items others → KeepsFramed m live items others
served_keep m live items others are = record {
  meaning = λ u addr back h long ok. (served_alike u m addr back h items others are long ok).0;
  end = λ u addr back h long ok. alike_self live _ _ (served_alike u m addr back h items others are long ok).1;
}
