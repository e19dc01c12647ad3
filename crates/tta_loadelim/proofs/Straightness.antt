-- A list without a detour by the table of trails is straight.
use Rattle.std.proofs.Common.{◌≡◌, ◌≢◌, ℕ, ◌+◌, ◌<◌, ◌≤◌, Bool, true, false, List, [], ◌∷◌, ◌++◌, length, drop, replicate, get_or, Option, Some, None, refl, sym, ap, arith, ◌∙◌, length-set, append-nil}
use Rattle.std.specs.Prelude.{not, ◌&&◌, ◌||◌, if◌then◌else◌, is_some, option_map, slice_get, slice_set}
use Rattle.std.specs.Option.{option_map_or, option_to_list}
use Rattle.std.specs.List.{list_any, list_all}
use Rattle.std.proofs.lemmas.Bool.{and_parts, or_parts, not-true}
use Rattle.std.proofs.lemmas.List.{get_or-replicate, length-replicate, drop_more, drop_all}
use Rattle.std.proofs.lemmas.Option.{slice_get-get_or}
use Rattle.tta_loadelim.specs.Cited.{Machine, IsMachine, Place, same_place, ItemSource, Item, Move, Long, source_of, target_of_item, place_of_source, place_written, is_at, is_unguarded, place_number, is_place, joined, has_slot, sure_source, is_port_source, is_passing, trail, is_detour, none_after, is_straight}
use Rattle.tta_moves.proofs.Places.{either}
use Rattle.tta_moves.proofs.InRange.{one_place, number_below, InRange, in_range}
use Rattle.tta_loadelim.specs.declared.straight.Trail.{Trail}
use Rattle.tta_loadelim.specs.Trails.{empty, longer, trail_in, next_trail, trails_after, could_take, may_detour, no_detours}
use Rattle.tta_list.proofs.Sets.{set_same as get_set_same, set_other as get_set_other}
use Rattle.tta_arch.proofs.Places.{same_is}

-- a trail that is not long has all sources
abbrev pub Covers : Trail → List ItemSource → Type 0
Covers t l = t.is_long ≡ false → l ≡ option_to_list t.one ++ option_to_list t.two

covers_empty : Covers empty []
covers_empty e = refl

covers_longer : (src : ItemSource) (t : Trail) (l : List ItemSource) → Covers t l → Covers (longer src t) (src ∷ l)
covers_longer src t l c e = on t.two refl where
  two : (t.is_long ≡ false) × (is_some t.two ≡ false)
  two = or_parts t.is_long (is_some t.two) e

  on : (o : Option ItemSource) → t.two ≡ o → src ∷ l ≡ src ∷ option_to_list t.one
  on None is = ap (λ k. src ∷ k) (c two.0 ∙ ap (λ (o : Option ItemSource). option_to_list t.one ++ option_to_list o) is ∙ append-nil (option_to_list t.one))
  on (Some s) is = let some : is_some t.two ≡ true = rw is refl in let clash : true ≡ false = sym some ∙ two.1 in absurd cc

module _ (m : Machine) (hub : ℕ) where
  abbrev at : List Trail → Place → Trail
  at trails p = option_map_or (λ t. t) (slice_get trails (place_number p)) empty

  -- the table has the trails of all places of the machine
  pub record Trailed (trails : List Trail) (before : List Item) : Type 0 where
    pub size : length trails ≡ 641
    pub each : (p : Place) → is_place p ≡ true → Covers (at trails p) (trail m (Some hub) p before)

  pub trailed_none : Trailed (replicate 641 empty) []
  trailed_none = record {
    size = length-replicate 641 empty;
    each = λ p is.
        let lt = number_below p is in
        let there : slice_get (replicate 641 empty) (place_number p) ≡ Some (get_or (replicate 641 empty) (place_number p) empty) = slice_get-get_or (replicate 641 empty) (place_number p) empty (let long = length-replicate 641 empty in omega (arith, lt, long)) in
        let blank = get_or-replicate 641 (place_number p) empty empty lt in
        rw (there, blank) covers_empty;
  }

  -- the trail that a source's place has
  source_covers : (trails : List Trail) (before : List Item) (x : Item) → InRange m x → Trailed trails before
      → Covers (if is_passing (Some hub) (source_of x) then trail_in trails (source_of x) else empty)
      (option_map_or (λ q. if is_passing (Some hub) (source_of x) then trail m (Some hub) q before else []) (place_of_source (source_of x)) [])
  source_covers trails before x range t = either (is_passing (Some hub) (source_of x))
      (λ passing. rw passing (on (place_of_source (source_of x)) refl))
      (λ other. rw other (none (place_of_source (source_of x)))) where
        on : (o : Option Place) → place_of_source (source_of x) ≡ o
            → Covers (option_map_or (λ n. option_map_or (λ t. t) (slice_get trails n) empty) (option_map place_number o) empty) (option_map_or (λ q. trail m (Some hub) q before) o [])
        on None is = covers_empty
        on (Some q) is = t.each q (range.source q is)

        none : (o : Option Place) → Covers empty (option_map_or (λ (q : Place). []) o [])
        none None = covers_empty
        none (Some q) = covers_empty

  -- the trail of what an item writes
  next_covers : (trails : List Trail) (before : List Item) (x : Item) → InRange m x → Trailed trails before
      → Covers (next_trail hub trails x)
      (option_map_or (λ s. s ∷ option_map_or (λ q. if is_passing (Some hub) s then trail m (Some hub) q before else []) (place_of_source s) []) (sure_source x) [])
  next_covers trails before x range t = either (is_unguarded x)
      (λ sure. rw sure (covers_longer (source_of x) _ _ (source_covers trails before x range t)))
      (λ guarded. rw guarded covers_empty)

  place_by : (trails : List Trail) (before : List Item) (x : Item) → InRange m x → Trailed trails before → (o : Option Place) → place_written m (target_of_item x) ≡ o → (p : Place) → is_place p ≡ true
      → Covers (at (option_map_or (λ n. slice_set trails n (next_trail hub trails x)) (option_map place_number o) trails) p)
      (if is_at p o
      then option_map_or (λ s. s ∷ option_map_or (λ q. if is_passing (Some hub) s then trail m (Some hub) q before else []) (place_of_source s) []) (sure_source x) []
      else trail m (Some hub) p before)
  place_by trails before x range t None is p ok = t.each p ok
  place_by trails before x range t (Some w) is p ok =
      let within = range.target w is in
      let lt = number_below w within in
      either (same_place w p)
      (λ here.
      let same : w ≡ p = same_is w p here in
      let there : slice_get (slice_set trails (place_number w) (next_trail hub trails x)) (place_number p) ≡ Some (next_trail hub trails x) =
      ap (λ (q : Place). slice_get (slice_set trails (place_number w) (next_trail hub trails x)) (place_number q)) (sym same) ∙ get_set_same trails (place_number w) (next_trail hub trails x) (let long = t.size in omega (arith, lt, long)) in
      rw (here, there) (next_covers trails before x range t))
      (λ away.
      let other : place_number w ≢ place_number p = λ e. let clash : true ≡ false = sym (one_place w p within ok e) ∙ away in absurd cc in
      let there = get_set_other trails (place_number w) (place_number p) (next_trail hub trails x) other in
      rw (away, there) (t.each p ok))

  pub trailed_more : (trails : List Trail) (before : List Item) (x : Item) → InRange m x → Trailed trails before → Trailed (trails_after m hub trails x) (x ∷ before)
  trailed_more trails before x range t = record {
    size = long (place_written m (target_of_item x)) ∙ t.size;
    each = λ p is. place_by trails before x range t (place_written m (target_of_item x)) refl p is;
  } where
    long : (o : Option Place) → length (option_map_or (λ n. slice_set trails n (next_trail hub trails x)) (option_map place_number o) trails) ≡ length trails
    long None = refl
    long (Some w) = length-set trails (place_number w) (next_trail hub trails x)

  -- ---- detours

  abbrev takes : Item → ItemSource → Bool
  takes x s = could_take m x (Some s)

  none_taken : (x : Item) (one two : Option ItemSource) → could_take m x one ≡ false → could_take m x two ≡ false → list_any (takes x) (option_to_list one ++ option_to_list two) ≡ false
  none_taken x None None a b = refl
  none_taken x None (Some s) a b = rw b refl
  none_taken x (Some s) None a b = rw a refl
  none_taken x (Some s) (Some r) a b = rw (a, b) refl

  pub no_detour : (trails : List Trail) (before : List Item) (x : Item) → InRange m x → Trailed trails before → may_detour m hub trails x ≡ false → is_detour m (Some hub) before x ≡ false
  no_detour trails before (Long unit index value) range t e = refl
  no_detour trails before (Move guard src dst) range t e = either (is_passing (Some hub) src)
      (λ passing. rw passing (on (place_of_source src) refl (rw passing at e)))
      (λ other. rw other refl) where
        x : Item
        x = Move guard src dst

        on : (o : Option Place) → place_of_source src ≡ o
            → (let r = option_map_or (λ n. option_map_or (λ t. t) (slice_get trails n) empty) (option_map place_number o) empty in (r.is_long || (could_take m x r.one || could_take m x r.two)) ≡ false)
            → option_map_or (λ p. list_any (λ s. not (is_port_source s) && joined m s dst guard) (trail m (Some hub) p before)) o false ≡ false
        on None is none = refl
        on (Some p) is none =
            let r : Trail = at trails p in
            let two = or_parts r.is_long (could_take m x r.one || could_take m x r.two) none in
            let both = or_parts (could_take m x r.one) (could_take m x r.two) two.1 in
            ap (λ (l : List ItemSource). list_any (takes x) l) (t.each p (range.source p is) two.0) ∙ none_taken x r.one r.two both.0 both.1

  pub straight_from : IsMachine m → (trails : List Trail) (before xs : List Item) → list_all (has_slot m) xs ≡ true → Trailed trails before → no_detours m hub trails xs ≡ true → none_after (is_detour m (Some hub)) before xs ≡ true
  straight_from rules trails before [] slots t e = refl
  straight_from rules trails before (x ∷ xs) slots t e =
      let two = and_parts (not (may_detour m hub trails x)) (no_detours m hub (trails_after m hub trails x) xs) e in
      let all = and_parts (has_slot m x) (list_all (has_slot m) xs) slots in
      let range = in_range m rules x all.0 in
      let none = no_detour trails before x range t (not-true (may_detour m hub trails x) two.0) in
      rw none (straight_from rules (trails_after m hub trails x) (x ∷ before) xs all.1 (trailed_more trails before x range t) two.1)

-- no detour from the start on, where there is none from here on
pub record DetoursTo (m : Machine) (hub : ℕ) (items : List Item) (trails : List Trail) (i : ℕ) : Type 0 where
  pub all : no_detours m hub trails (drop i items) ≡ true → no_detours m hub (replicate 641 empty) items ≡ true

pub detours_begin : (m : Machine) (hub : ℕ) (items : List Item) (trails : List Trail) → trails ≡ replicate 641 empty → DetoursTo m hub items trails 0
detours_begin m hub items trails e = record { all = λ h. rw e at h }

pub detours_next : (m : Machine) (hub : ℕ) (items : List Item) (trails later : List Trail) (i : ℕ) (x d : Item) → i < length items → x ≡ get_or items i d → may_detour m hub trails x ≡ false
    → later ≡ trails_after m hub trails x → DetoursTo m hub items trails i → DetoursTo m hub items later (i + 1)
detours_next m hub items trails later i x d lt is none e t = record { all = λ h. t.all (on h) } where
  split : drop i items ≡ x ∷ drop (i + 1) items
  split = drop_more items i d lt ∙ ap (λ z. z ∷ drop (i + 1) items) (sym is)

  on : no_detours m hub later (drop (i + 1) items) ≡ true → no_detours m hub trails (drop i items) ≡ true
  on h =
      let rest : no_detours m hub (trails_after m hub trails x) (drop (i + 1) items) ≡ true = rw e at h in
      ap (λ l. no_detours m hub trails l) split ∙ rw none rest

pub detours_done : (m : Machine) (hub : ℕ) (items : List Item) (trails : List Trail) (i : ℕ) → IsMachine m → list_all (has_slot m) items ≡ true → DetoursTo m hub items trails i → length items ≤ i → is_straight m (Some hub) items ≡ true
detours_done m hub items trails i rules slots t le =
    straight_from m hub rules (replicate 641 empty) [] items slots (trailed_none m hub) (t.all (ap (λ l. no_detours m hub trails l) (drop_all i items le)))
