-- A list without stores that are stored over does the same.
use Rattle.std.proofs.Common.{◌≡◌, ◌≢◌, ℕ, Bool, true, false, List, [], ◌∷◌, length, Option, Some, refl, sym, ap, subst, arith, ◌∙◌, get_or-set_other}
use Rattle.std.specs.Prelude.{◌==◌, not, map, filter, slice_index, slice_set}
use Rattle.std.specs.Option.{option_map_or}
use Rattle.std.proofs.lemmas.Bool.{not-true}
use Rattle.std.proofs.lemmas.Bool.Decides.{nat_tests}
use Rattle.tta_loadelim.specs.Cited.{Units, Machine, Effect, moved, ItemSource, Port, Item, target_of_item, is_waiting, Held, linked, effect_of, read_held, does, lacks, do_items, has_meaning, Alike, KeepsMeaning, starts, stores_frame, may_wait}
use Rattle.tta_arch.specs.declared.ends.Source.TheVariants as source
use Rattle.tta_moves.proofs.Places.{either}
use Rattle.tta_optim.proofs.Copies.{Copies, none_yet, one_more, stuck_means, first_means, sure_word}
use Rattle.tta_optim.proofs.FrameKept.{frame_long}
use Rattle.tta_reorder.proofs.Carried.{does_open, still_runs}
use Rattle.tta_reorder.proofs.SameItem.{moves}
use Rattle.tta_loadelim.specs.AvailableSlots.{is_load, stored}
use Rattle.tta_loadelim.specs.Thinned.{is_in, is_over, AreThinned, ends, stays, goes}
use Rattle.tta_loadelim.proofs.Opened.{store_dry, store_puts}
use Rattle.tta_loadelim.proofs.Seen.{loads_is, Stores, stores_is, operand_whole}
use Rattle.tta_loadelim.proofs.Frames.{frame_of, does_framed, frame_is, set_alike}
use Rattle.tta_loadelim.proofs.Nearness.{over_tail, stored_some, over_dry, over_load, Near, near_equal, frame_of_alike, store_only, in_filtered, not_filtered, lacks_framed}
use Rattle.tta_moves.proofs.Waiting.{stuck_all}

-- ---- the list

module _ (u : Units) (m : Machine) (addr : List ℕ) (back : ℕ) where
  abbrev Thin : List Item → List Item → Held → List ℕ → Type 0
  Thin xs ys h fr = (has_meaning u m addr back (record h { frame = fr }) ys ≡ true) × (do_items u m addr back (record h { frame = fr }) ys ≡ do_items u m addr back h xs)

  stuck : (xs ys : List Item) (h : Held) (fr : List ℕ) → is_waiting h.exit ≡ true → fr ≡ h.frame → Thin xs ys h fr
  stuck xs ys h fr w e = (
    stuck_means u m back (record h { frame = fr }) (map (effect_of addr) ys) w,
    stuck_all u m back (record h { frame = fr }) (map (effect_of addr) ys) w ∙ ap (λ (f : List ℕ). record h { frame = f }) e ∙ sym (stuck_all u m back h (map (effect_of addr) xs) w),
  )

  -- an item that stays, from equal frames
  equal_stays : (x : Item) (xs ys : List Item) (h : Held) (fr : List ℕ) → fr ≡ h.frame → is_waiting h.exit ≡ false → lacks m h (effect_of addr x) ≡ false
      → Thin xs ys (does u m back h (effect_of addr x)) (does u m back h (effect_of addr x)).frame → Thin (x ∷ xs) (x ∷ ys) h fr
  equal_stays x xs ys h fr e runs fine more =
      let here : Thin (x ∷ xs) (x ∷ ys) h h.frame = (rw (runs, fine) more.0, more.1) in
      subst (λ (f : List ℕ). Thin (x ∷ xs) (x ∷ ys) h f) (sym e) here

  -- an item that stays, from other frames
  dry_stays : (x : Item) (xs ys : List Item) (h : Held) (fr : List ℕ) → is_waiting h.exit ≡ false → may_wait m x ≡ false → lacks m h (effect_of addr x) ≡ false
      → ((w : ℕ) → moved (read_held h.written) (effect_of addr x) ≡ Some w → starts m is_load (target_of_item x) ≡ true → slice_index fr w ≡ slice_index h.frame w)
      → Thin xs ys (does u m back h (effect_of addr x)) (frame_of m h fr (target_of_item x) (moved (read_held h.written) (effect_of addr x))) → Thin (x ∷ xs) (x ∷ ys) h fr
  dry_stays x xs ys h fr runs dry fine same more =
      let step = does_framed u m back h fr (effect_of addr x) runs dry same in
      let fine_too = lacks_framed m h fr (effect_of addr x) ∙ fine in (
        rw (runs, fine_too) (subst (λ (k : Held). has_meaning u m addr back k ys ≡ true) (sym step) more.0),
        ap (λ (k : Held). do_items u m addr back k ys) step ∙ more.1,
      )

  -- what a load moves is no slot that is stored over
  load_near : (before : List Item) (x : Item) (xs : List Item) (h : Held) (pending fr : List ℕ) → Near m before (x ∷ xs) pending fr h.frame
      → (w : ℕ) → moved (read_held h.written) (effect_of addr x) ≡ Some w → starts m is_load (target_of_item x) ≡ true → slice_index fr w ≡ slice_index h.frame w
  load_near before x xs h pending fr near w is load = either (is_in w pending)
      (λ there.
      let o = over_load m w before x xs (near.over w there) load in
      let l = loads_is m x o.0 o.1 in
      let word = moves h (effect_of addr x) o.0 l.unguarded (ap (λ (s : ItemSource). read_held h.written (linked addr s)) l.word) in
      let some : ◌≡◌ {A = Option ℕ} (Some o.0) (Some w) = sym word ∙ is in
      let same : o.0 ≡ w = cc in
      let yes_same : (o.0 == w) ≡ true = grind (arith, nat_tests, same) in
      let clash : true ≡ false = sym yes_same ∙ o.2 in absurd cc)
      (λ away. near.same w away)

  kept_slots : (before : List Item) (x : Item) → ℕ → Bool
  kept_slots before x v = not (option_map_or (λ w. w == v) (stored m before x) false)

  -- the frames after an item that stays
  near_stays : (before : List Item) (x : Item) (xs : List Item) (h : Held) (pending fr : List ℕ) → Near m before (x ∷ xs) pending fr h.frame → Copies m addr before h.written
      → is_waiting h.exit ≡ false → may_wait m x ≡ false → lacks m h (effect_of addr x) ≡ false
      → Near m (x ∷ before) xs (filter (λ v. not (option_map_or (λ w. w == v) (stored m before x) false)) pending) (frame_of m h fr (target_of_item x) (moved (read_held h.written) (effect_of addr x)))
      (does u m back h (effect_of addr x)).frame
  near_stays before x xs h pending fr near copies runs dry fine = record {
    long = long_is;
    same = λ v away. either (option_map_or (λ w. w == v) (stored m before x) false)
        (λ here. over_now v (stored_some m v before x here))
        (λ other. beside v (not_filtered (λ v. not (option_map_or (λ w. w == v) (stored m before x) false)) v pending away (rw other refl)));
    over = λ v there.
        let two = in_filtered (λ v. not (option_map_or (λ w. w == v) (stored m before x) false)) v pending there in
        over_tail m v before x xs (near.over v two.0) (not-true (option_map_or (λ w. w == v) (stored m before x) false) two.1);
  } where
    e : Effect
    e = effect_of addr x

    o : Option ℕ
    o = moved (read_held h.written) (effect_of addr x)

    now : (does u m back h e).frame ≡ frame_of m h h.frame (target_of_item x) o
    now = frame_is u m back h e runs dry

    step : does u m back (record h { frame = fr }) e ≡ record (does u m back h e) { frame = frame_of m h fr (target_of_item x) o }
    step = does_framed u m back h fr e runs dry (load_near before x xs h pending fr near)

    long_is : length (frame_of m h fr (target_of_item x) o) ≡ length (does u m back h e).frame
    long_is = ap (λ (k : Held). length k.frame) (sym step) ∙ frame_long u m back (record h { frame = fr }) e ∙ near.long ∙ sym (frame_long u m back h e)

    beside : (v : ℕ) → is_in v pending ≡ false → slice_index (frame_of m h fr (target_of_item x) o) v ≡ slice_index (does u m back h e).frame v
    beside v away = frame_of_alike m h fr h.frame (target_of_item x) o v near.long (near.same v away) ∙ ap (λ (f : List ℕ). slice_index f v) (sym now)

    over_now : (v : ℕ) → stored m before x ≡ Some v → slice_index (frame_of m h fr (target_of_item x) o) v ≡ slice_index (does u m back h e).frame v
    over_now v is =
        let s = stores_is m before x v is in
        let word = sure_word m h e s.unguarded fine in
        let slot = copies.same s.place (Port (source.Value v)) (operand_whole m (target_of_item x) s.place s.at) s.word in
        let new = store_puts u m back (record h { frame = fr }) e v word.0 s.place runs s.unguarded word.1 s.store s.at slot in
        let old = store_puts u m back h e v word.0 s.place runs s.unguarded word.1 s.store s.at slot in
        ap (λ (k : Held). slice_index k.frame v) (sym step) ∙ ap (λ (f : List ℕ). slice_index f v) new
        ∙ set_alike fr h.frame v word.0 v near.long (λ other. absurd (other refl)) ∙ ap (λ (f : List ℕ). slice_index f v) (sym old)

  -- the frames after a store that goes
  near_goes : (before : List Item) (x : Item) (xs : List Item) (h : Held) (pending fr : List ℕ) (v : ℕ) → Near m before (x ∷ xs) pending fr h.frame → Copies m addr before h.written
      → is_waiting h.exit ≡ false → lacks m h (effect_of addr x) ≡ false → stored m before x ≡ Some v → is_over m v (x ∷ before) xs ≡ true
      → Near m (x ∷ before) xs (v ∷ pending) fr (does u m back h (effect_of addr x)).frame
  near_goes before x xs h pending fr v near copies runs fine is over = record {
    long = near.long ∙ sym (frame_long u m back h e);
    same = λ w away. either (v == w)
        (λ here. let no_away : true ≡ false = sym (rw here refl) ∙ away in absurd cc)
        (λ differ.
        let other : w ≢ v = λ same. let yes_same : (v == w) ≡ true = grind (arith, nat_tests, same) in absurd cc in
        let out : is_in w pending ≡ false = rw differ at away in
        near.same w out ∙ sym (get_or-set_other h.frame v w word.0 0 other) ∙ ap (λ (f : List ℕ). slice_index f w) (sym old));
    over = λ w there. either (v == w)
        (λ here. let same : v ≡ w = grind (arith, nat_tests, here) in subst (λ i. is_over m i (x ∷ before) xs ≡ true) same over)
        (λ differ.
        let deep : is_in w pending ≡ true = rw differ at there in
        over_tail m w before x xs (near.over w deep) (rw (is, differ) refl));
  } where
    e : Effect
    e = effect_of addr x

    s : Stores m before x v
    s = stores_is m before x v is

    word : (w : ℕ) × (read_held h.written e.src ≡ Some w)
    word = sure_word m h e s.unguarded fine

    old : (does u m back h e).frame ≡ slice_set h.frame v word.0
    old = store_puts u m back h e v word.0 s.place runs s.unguarded word.1 s.store s.at (copies.same s.place (Port (source.Value v)) (operand_whole m (target_of_item x) s.place s.at) s.word)

  -- a store that goes changes nothing but the frame
  goes_only : (x : Item) (h : Held) (fr : List ℕ) → is_waiting h.exit ≡ false → starts m stores_frame (target_of_item x) ≡ true → record (does u m back h (effect_of addr x)) { frame = fr } ≡ record h { frame = fr }
  goes_only x h fr runs store =
      ap (λ (k : Held). record k { frame = fr }) (does_open u m back h (effect_of addr x) runs (store_dry m (target_of_item x) store) ∙ store_only u m back h (target_of_item x) (moved (read_held h.written) (effect_of addr x)) store)

  thinned : (before xs ys : List Item) → AreThinned m before xs ys → (h : Held) (pending fr : List ℕ) → Near m before xs pending fr h.frame → Copies m addr before h.written
      → (is_waiting h.exit ≡ true → fr ≡ h.frame) → has_meaning u m addr back h xs ≡ true → Thin xs ys h fr
  thinned _ _ _ (ends before) h pending fr near copies calm ok =
      let e : fr ≡ h.frame = near_equal m before [] pending fr h.frame near (λ v over. absurd cc) in (refl, ap (λ (f : List ℕ). record h { frame = f }) e)
  thinned _ _ _ (stays before x xs ys a) h pending fr near copies calm ok = either (is_waiting h.exit)
      (λ w. stuck (x ∷ xs) (x ∷ ys) h fr w (calm w))
      (λ runs.
      let first = first_means u m back h (effect_of addr x) (map (effect_of addr) xs) runs ok in
      let k : Held = does u m back h (effect_of addr x) in
      let later = one_more u m addr back before x h runs first.0 copies in
      either (may_wait m x)
      (λ takes.
      let e : fr ≡ h.frame = near_equal m before (x ∷ xs) pending fr h.frame near (λ v over. let dry = over_dry m v before x xs over in let clash : true ≡ false = sym takes ∙ dry in absurd cc) in
      equal_stays x xs ys h fr e runs first.0
      (thinned (x ∷ before) xs ys a k [] k.frame (record { long = refl; same = λ v away. refl; over = λ v there. absurd cc }) later (λ w. refl) first.1))
      (λ dry.
      dry_stays x xs ys h fr runs dry first.0 (load_near before x xs h pending fr near)
      (thinned (x ∷ before) xs ys a k _ _ (near_stays before x xs h pending fr near copies runs dry first.0) later
      (λ w. let on = still_runs u m addr back h x runs dry in let clash : true ≡ false = sym w ∙ on in absurd cc) first.1)))
  thinned _ _ _ (goes before x xs ys v is over a) h pending fr near copies calm ok = either (is_waiting h.exit)
      (λ w. stuck (x ∷ xs) ys h fr w (calm w))
      (λ runs.
      let first = first_means u m back h (effect_of addr x) (map (effect_of addr) xs) runs ok in
      let s = stores_is m before x v is in
      let dry : may_wait m x ≡ false = store_dry m (target_of_item x) s.store in
      let rest = thinned (x ∷ before) xs ys a (does u m back h (effect_of addr x)) (v ∷ pending) fr (near_goes before x xs h pending fr v near copies runs first.0 is over)
      (one_more u m addr back before x h runs first.0 copies)
      (λ w. let on = still_runs u m addr back h x runs dry in let clash : true ≡ false = sym w ∙ on in absurd cc) first.1 in
      let state = goes_only x h fr runs s.store in (
        subst (λ (k : Held). has_meaning u m addr back k ys ≡ true) state rest.0,
        ap (λ (k : Held). do_items u m addr back k ys) (sym state) ∙ rest.1,
      ))

alike_self : (live : List (ℕ × ℕ)) (h k : Held) → k ≡ h → Alike live h k
alike_self live h k e = subst (λ (l : Held). Alike live h l) (sym e) (record { memory = refl; frame = refl; rest = refl; output = refl; exit = refl; registers = λ runs p l. refl })

pub thinned_keep : (m : Machine) (live : List (ℕ × ℕ)) (items others : List Item) → AreThinned m [] items others → KeepsMeaning m live items others
thinned_keep m live items others a = record {
  meaning = λ u addr back h ok. (all u addr back h ok).0;
  end = λ u addr back h ok. alike_self live _ _ (all u addr back h ok).1;
} where
  all : (u : Units) (addr : List ℕ) (back : ℕ) (h : Held) → has_meaning u m addr back h items ≡ true → (has_meaning u m addr back h others ≡ true) × (do_items u m addr back h others ≡ do_items u m addr back h items)
  all u addr back h ok = thinned u m addr back [] items others a h [] h.frame (record { long = refl; same = λ v away. refl; over = λ v there. absurd cc }) (none_yet m addr h.written) (λ w. refl) ok
