-- The walk that leaves dead writes out, item by item from the last.
use Rattle.std.proofs.Common.{◌≡◌, ℕ, suc, ◌-◌, ◌<◌, ◌≤◌, Bool, true, false, List, [], ◌∷◌, ◌++◌, length, replicate, get_or, drop, Option, Some, None, refl, sym, ap, subst, arith, ◌∙◌, drop-cons, length-set}
use Rattle.std.specs.Prelude.{if◌then◌else◌, ◌&&◌, ◌||◌, ◌==◌, not, nat_lt, reverse, option_map, slice_get, slice_set}
use Rattle.std.specs.Option.{option_map_or}
use Rattle.std.specs.List.{list_all}
use Rattle.std.proofs.lemmas.Bool.{and_parts}
use Rattle.std.proofs.lemmas.Bool.Decides.{nat_tests}
use Rattle.std.proofs.lemmas.List.{reverse-reverse, reverse-append, drop_all, get_or-replicate, length-replicate}
use Rattle.std.proofs.lemmas.Option.{slice_get-get_or}
use Rattle.tta_optim.specs.Cited.{GuardRef, Machine, IsMachine, Place, KeptReg, KeptImm, KeptOperand, KeptRa, KeptPort, same_place, Item, guard_of, source_of, target_of_item, guard_place, place_of_source, place_written, is_at, writes, is_unguarded, place_number, is_place, has_slot, lives, register_of, is_wanted, is_dead}
use Rattle.tta_moves.proofs.Places.{either}
use Rattle.tta_moves.proofs.InRange.{one_place, number_below, InRange}
use Rattle.tta_optim.specs.Notes.{wanted_at, dead_by, set_wanted, wanted_before, wanted_behind}
use Rattle.tta_optim.specs.Passes.{dead_items}
use Rattle.tta_optim.proofs.DeadWrites.{written_by}
use Rattle.tta_optim.proofs.ShareSteps.{slot_of as range_from}
use Rattle.tta_list.proofs.Sets.{set_same as get_set_same, set_other as get_set_other}
use Rattle.tta_arch.proofs.Places.{same_is}

-- ---- one place

-- a place after another, or itself, is set
set_at : (w : List Bool) (o : Option Place) (b : Bool) (p : Place) → length w ≡ 641 → ((q : Place) → o ≡ Some q → is_place q ≡ true) → is_place p ≡ true
    → slice_get (set_wanted w (option_map place_number o) b) (place_number p) ≡ (if is_at p o then Some b else slice_get w (place_number p))
set_at w None b p long range is = refl
set_at w (Some q) b p long range is = either (same_place q p)
    (λ s. rw s (let lt = number_below q (range q refl) in
    ap (λ (r : Place). slice_get (slice_set w (place_number q) b) (place_number r)) (sym (same_is q p s)) ∙ get_set_same w (place_number q) b (omega arith)))
    (λ s. rw s (get_set_other w (place_number q) (place_number p) b (λ same. let t = one_place q p (range q refl) is same in absurd cc)))

set_long : (w : List Bool) (o : Option ℕ) (b : Bool) → length (set_wanted w o b) ≡ length w
set_long w None b = refl
set_long w (Some n) b = length-set w n b

-- each place is wanted by the table as it is before these items
pub record IsWanted (m : Machine) (live : List (ℕ × ℕ)) (wanted : List Bool) (behind : List Item) : Type 0 where
  pub size : length wanted ≡ 641
  pub each : (p : Place) → is_place p ≡ true → slice_get wanted (place_number p) ≡ Some (is_wanted m live p behind)

-- ---- after the list

live_place : (ℕ × ℕ) → Option Place
live_place r = if nat_lt r.0 8 && nat_lt r.1 64 then Some (KeptReg r.0 r.1) else None

live_range : (r : ℕ × ℕ) (q : Place) → live_place r ≡ Some q → is_place q ≡ true
unfolding live_place
live_range r q e = on (nat_lt r.0 8 && nat_lt r.1 64) refl e where
  on : (b : Bool) → (nat_lt r.0 8 && nat_lt r.1 64) ≡ b → (if b then Some (KeptReg r.0 r.1) else None) ≡ Some q → is_place q ≡ true
  on true t e = let same : KeptReg r.0 r.1 ≡ q = cc in ap is_place (sym same) ∙ t
  on false t e = absurd cc

live_number : (r : ℕ × ℕ) → (if nat_lt r.0 8 && nat_lt r.1 64 then Some (place_number (KeptReg r.0 r.1)) else None) ≡ option_map place_number (live_place r)
unfolding live_place
live_number r = on (nat_lt r.0 8 && nat_lt r.1 64) where
  on : (b : Bool) → (if b then Some (place_number (KeptReg r.0 r.1)) else None) ≡ option_map place_number (if b then Some (KeptReg r.0 r.1) else None)
  on true = refl
  on false = refl

lives_more : (m : Machine) (r : ℕ × ℕ) (live : List (ℕ × ℕ)) (p : Place) → is_place p ≡ true → (if is_at p (live_place r) then Some true else Some (lives live p)) ≡ Some (lives (r ∷ live) p)
unfolding live_place
lives_more m r live (KeptReg f i) is = on (nat_lt r.0 8 && nat_lt r.1 64) refl where
  same : (b : Bool) → (r.0 == f && r.1 == i) ≡ b → (if b then Some true else Some (lives live (KeptReg f i))) ≡ Some (b || lives live (KeptReg f i))
  same true e = refl
  same false e = refl

  apart : (b : Bool) → (nat_lt r.0 8 && nat_lt r.1 64) ≡ false → (r.0 == f && r.1 == i) ≡ b → Some (lives live (KeptReg f i)) ≡ Some (b || lives live (KeptReg f i))
  apart false t e = refl
  apart true t e =
      let ends = and_parts (r.0 == f) (r.1 == i) e in
      let a : r.0 ≡ f = grind (arith, nat_tests, ends.0) in
      let b : r.1 ≡ i = grind (arith, nat_tests, ends.1) in
      let there : (nat_lt r.0 8 && nat_lt r.1 64) ≡ true = rw (a, b) is in
      absurd cc

  on : (b : Bool) → (nat_lt r.0 8 && nat_lt r.1 64) ≡ b → (if is_at (KeptReg f i) (if b then Some (KeptReg r.0 r.1) else None) then Some true else Some (lives live (KeptReg f i))) ≡ Some (lives (r ∷ live) (KeptReg f i))
  on true t = same (r.0 == f && r.1 == i) refl
  on false t = apart (r.0 == f && r.1 == i) t refl
lives_more m r live (KeptImm f i) is = on (nat_lt r.0 8 && nat_lt r.1 64) where
  on : (b : Bool) → (if is_at (KeptImm f i) (if b then Some (KeptReg r.0 r.1) else None) then Some true else Some false) ≡ Some false
  on true = refl
  on false = refl
lives_more m r live (KeptOperand u) is = on (nat_lt r.0 8 && nat_lt r.1 64) where
  on : (b : Bool) → (if is_at (KeptOperand u) (if b then Some (KeptReg r.0 r.1) else None) then Some true else Some false) ≡ Some false
  on true = refl
  on false = refl
lives_more m r live KeptRa is = on (nat_lt r.0 8 && nat_lt r.1 64) where
  on : (b : Bool) → (if is_at KeptRa (if b then Some (KeptReg r.0 r.1) else None) then Some true else Some true) ≡ Some true
  on true = refl
  on false = refl
lives_more m r live (KeptPort u) is = on (nat_lt r.0 8 && nat_lt r.1 64) where
  on : (b : Bool) → (if is_at (KeptPort u) (if b then Some (KeptReg r.0 r.1) else None) then Some true else Some false) ≡ Some false
  on true = refl
  on false = refl

none_blank : (n : ℕ) → n < 641 → slice_get (replicate 641 false) n ≡ Some false
none_blank n lt =
    let long : length (replicate 641 false) ≡ 641 = length-replicate 641 false in
    slice_get-get_or (replicate 641 false) n false (omega arith) ∙ ap (λ b. Some b) (get_or-replicate 641 n false false lt)

ra_alone : (p : Place) → (if is_at p (Some KeptRa) then Some true else Some false) ≡ Some (lives [] p)
ra_alone (KeptReg f i) = refl
ra_alone (KeptImm f i) = refl
ra_alone (KeptOperand u) = refl
ra_alone KeptRa = refl
ra_alone (KeptPort u) = refl

pub wanted_end : (m : Machine) (live : List (ℕ × ℕ)) → IsWanted m live (wanted_behind live (replicate 641 false)) []
wanted_end m [] = record {
  size = length-set (replicate 641 false) 640 true ∙ length-replicate 641 false;
  each = λ p is.
      set_at (replicate 641 false) (Some KeptRa) true p (length-replicate 641 false) (λ q e. let same : KeptRa ≡ q = cc in ap is_place (sym same)) is
      ∙ ap (λ (o : Option Bool). if is_at p (Some KeptRa) then Some true else o) (none_blank (place_number p) (number_below p is))
      ∙ ra_alone p;
}
wanted_end m (r ∷ live) = on (wanted_end m live) where
  on : IsWanted m live (wanted_behind live (replicate 641 false)) [] → IsWanted m (r ∷ live) (wanted_behind (r ∷ live) (replicate 641 false)) []
  on t = record {
    size = set_long (wanted_behind live (replicate 641 false)) _ true ∙ t.size;
    each = λ p is.
        ap (λ o. slice_get (set_wanted (wanted_behind live (replicate 641 false)) o true) (place_number p)) (live_number r)
        ∙ set_at (wanted_behind live (replicate 641 false)) (live_place r) true p t.size (live_range r) is
        ∙ ap (λ (o : Option Bool). if is_at p (live_place r) then Some true else o) (t.each p is)
        ∙ lives_more m r live p is;
  }

-- ---- before an item

combined : (s g w u v : Bool) → (if s then Some true else (if g then Some true else (if u then (if w then Some false else Some v) else Some v))) ≡ Some ((s || g) || (not (w && u) && v))
combined true g w u v = refl
combined false true w u v = refl
combined false false true true v = refl
combined false false true false v = refl
combined false false false true v = refl
combined false false false false v = refl

guard_number : (o : Option GuardRef) → option_map (λ g. place_number (guard_place g)) o ≡ option_map place_number (option_map guard_place o)
guard_number None = refl
guard_number (Some g) = refl

guard_at : (p : Place) (o : Option GuardRef) → is_at p (option_map guard_place o) ≡ option_map_or (λ g. same_place (guard_place g) p) o false
guard_at p None = refl
guard_at p (Some g) = refl

guard_range : (o : Option GuardRef) → ((g : GuardRef) → o ≡ Some g → is_place (guard_place g) ≡ true) → (q : Place) → option_map guard_place o ≡ Some q → is_place q ≡ true
guard_range None range q e = absurd cc
guard_range (Some g) range q e = let same : guard_place g ≡ q = cc in ap is_place (sym same) ∙ range g refl

pub wanted_more : (m : Machine) (live : List (ℕ × ℕ)) (w : List Bool) (behind : List Item) (x : Item) → InRange m x → IsWanted m live w behind → IsWanted m live (wanted_before m w x) (x ∷ behind)
wanted_more m live w behind x range t = record {
  size = set_long two (option_map place_number (place_of_source (source_of x))) true ∙ long_two;
  each = λ p is.
      set_at two (place_of_source (source_of x)) true p long_two range.source is
      ∙ ap (λ (o : Option Bool). if is_at p (place_of_source (source_of x)) then Some true else o) (second p is)
      ∙ combined (is_at p (place_of_source (source_of x))) (option_map_or (λ g. same_place (guard_place g) p) (guard_of x) false) (writes m p x) (is_unguarded x) (is_wanted m live p behind);
} where
  one : List Bool
  one = if is_unguarded x then set_wanted w (option_map place_number (place_written m (target_of_item x))) false else w

  two : List Bool
  two = set_wanted one (option_map (λ g. place_number (guard_place g)) (guard_of x)) true

  long_one : length one ≡ 641
  long_one = on (is_unguarded x) where
    on : (b : Bool) → length (if b then set_wanted w (option_map place_number (place_written m (target_of_item x))) false else w) ≡ 641
    on true = set_long w (option_map place_number (place_written m (target_of_item x))) false ∙ t.size
    on false = t.size

  long_two : length two ≡ 641
  long_two = set_long one (option_map (λ g. place_number (guard_place g)) (guard_of x)) true ∙ long_one

  first : (p : Place) → is_place p ≡ true → slice_get one (place_number p) ≡ (if is_unguarded x then (if writes m p x then Some false else Some (is_wanted m live p behind)) else Some (is_wanted m live p behind))
  first p is = on (is_unguarded x) where
    on : (b : Bool) → slice_get (if b then set_wanted w (option_map place_number (place_written m (target_of_item x))) false else w) (place_number p)
        ≡ (if b then (if writes m p x then Some false else Some (is_wanted m live p behind)) else Some (is_wanted m live p behind))
    on true = set_at w (place_written m (target_of_item x)) false p t.size range.target is ∙ ap (λ (o : Option Bool). if writes m p x then Some false else o) (t.each p is)
    on false = t.each p is

  second : (p : Place) → is_place p ≡ true → slice_get two (place_number p)
      ≡ (if option_map_or (λ g. same_place (guard_place g) p) (guard_of x) false then Some true else (if is_unguarded x then (if writes m p x then Some false else Some (is_wanted m live p behind)) else Some (is_wanted m live p behind)))
  second p is =
      ap (λ o. slice_get (set_wanted one o true) (place_number p)) (guard_number (guard_of x))
      ∙ set_at one (option_map guard_place (guard_of x)) true p long_one (guard_range (guard_of x) range.guard) is
      ∙ ap (λ (b : Bool). if b then Some true else slice_get one (place_number p)) (guard_at p (guard_of x))
      ∙ ap (λ (o : Option Bool). if option_map_or (λ g. same_place (guard_place g) p) (guard_of x) false then Some true else o) (first p is)

dead_is_by : (m : Machine) (live : List (ℕ × ℕ)) (w : List Bool) (behind : List Item) (x : Item) → InRange m x → IsWanted m live w behind → dead_by w x ≡ is_dead m live x behind
dead_is_by m live w behind x range t = on (register_of (target_of_item x)) refl where
  on : (o : Option Place) → register_of (target_of_item x) ≡ o
      → option_map_or (λ place. not (wanted_at w place)) (option_map place_number o) false ≡ option_map_or (λ p. not (is_wanted m live p behind)) o false
  on None e = refl
  on (Some p) e =
      let is : is_place p ≡ true = range.target p (written_by m (target_of_item x) p e) in
      ap (λ (o : Option Bool). not (option_map_or (λ b. b) o false)) (t.each p is)

-- ---- the walk

-- the walk has come up to this item
pub record DroppedTo (m : Machine) (live : List (ℕ × ℕ)) (items : List Item) (wanted : List Bool) (done : List Item) (first : ℕ) : Type 0 where
  pub within : first ≤ length items
  pub so_far : done ≡ reverse (dead_items m live (drop first items))
  pub known : IsWanted m live wanted (dead_items m live (drop first items))

pub dead_begin : (m : Machine) (live : List (ℕ × ℕ)) (items : List Item) (wanted : List Bool) → wanted ≡ wanted_behind live (replicate 641 false) → DroppedTo m live items wanted [] (length items)
dead_begin m live items wanted e =
    let none : drop (length items) items ≡ [] = drop_all (length items) items (omega arith) in
    record {
      within = omega arith;
      so_far = rw none refl;
      known = rw (none, e) (wanted_end m live);
    }

rest_from : (items : List Item) (first : ℕ) (d : Item) → 0 < first → first ≤ length items → drop (first - 1) items ≡ get_or items (first - 1) d ∷ drop first items
rest_from items first d some le =
    let next : suc (first - 1) ≡ first = omega arith in
    drop-cons items (first - 1) d (omega arith) ∙ ap (λ k. get_or items (first - 1) d ∷ drop k items) next

pub dead_goes : (m : Machine) → IsMachine m → (live : List (ℕ × ℕ)) (items : List Item) (wanted : List Bool) (done : List Item) (first : ℕ) (d : Item) → list_all (has_slot m) items ≡ true → 0 < first
    → DroppedTo m live items wanted done first → dead_by wanted (get_or items (first - 1) d) ≡ true → DroppedTo m live items wanted done (first - 1)
dead_goes m rules live items wanted done first d slots some t dead =
    let le = t.within in
    let x : Item = get_or items (first - 1) d in
    let range = range_from m rules items (first - 1) d slots (omega arith) in
    let is : is_dead m live x (dead_items m live (drop first items)) ≡ true = sym (dead_is_by m live wanted (dead_items m live (drop first items)) x range t.known) ∙ dead in
    let same : dead_items m live (drop (first - 1) items) ≡ dead_items m live (drop first items) =
    ap (λ l. dead_items m live l) (rest_from items first d some le) ∙ ap (λ (b : Bool). if b then dead_items m live (drop first items) else x ∷ dead_items m live (drop first items)) is in
    record { within = omega arith; so_far = t.so_far ∙ ap (λ l. reverse l) (sym same); known = subst (λ l. IsWanted m live wanted l) (sym same) t.known }

pub dead_stays : (m : Machine) → IsMachine m → (live : List (ℕ × ℕ)) (items : List Item) (wanted wanted' : List Bool) (done done' : List Item) (first : ℕ) (d : Item) → list_all (has_slot m) items ≡ true → 0 < first
    → DroppedTo m live items wanted done first → dead_by wanted (get_or items (first - 1) d) ≡ false → wanted' ≡ wanted_before m wanted (get_or items (first - 1) d) → done' ≡ done ++ get_or items (first - 1) d ∷ []
    → DroppedTo m live items wanted' done' (first - 1)
dead_stays m rules live items wanted wanted' done done' first d slots some t alive f g =
    let le = t.within in
    let x : Item = get_or items (first - 1) d in
    let range = range_from m rules items (first - 1) d slots (omega arith) in
    let is : is_dead m live x (dead_items m live (drop first items)) ≡ false = sym (dead_is_by m live wanted (dead_items m live (drop first items)) x range t.known) ∙ alive in
    let same : dead_items m live (drop (first - 1) items) ≡ x ∷ dead_items m live (drop first items) =
    ap (λ l. dead_items m live l) (rest_from items first d some le) ∙ ap (λ (b : Bool). if b then dead_items m live (drop first items) else x ∷ dead_items m live (drop first items)) is in
    record {
      within = omega arith;
      so_far = g ∙ ap (λ l. l ++ x ∷ []) t.so_far ∙ sym (reverse-append (x ∷ []) (dead_items m live (drop first items))) ∙ ap (λ l. reverse l) (sym same);
      known = subst (λ l. IsWanted m live wanted' l) (sym same) (rw f (wanted_more m live wanted (dead_items m live (drop first items)) x range t.known));
    }

pub dead_done : (m : Machine) (live : List (ℕ × ℕ)) (items : List Item) (wanted : List Bool) (done result : List Item) (first : ℕ) → first ≤ 0 → DroppedTo m live items wanted done first → result ≡ reverse done
    → result ≡ dead_items m live items
dead_done m live items wanted done result first none t e =
    let zero_first : first ≡ 0 = omega arith in
    e ∙ ap (λ l. reverse l) t.so_far ∙ reverse-reverse (dead_items m live (drop first items)) ∙ ap (λ k. dead_items m live (drop k items)) zero_first

-- ---- the table after the list

pub live_more : (live : List (ℕ × ℕ)) (first : ℕ) (d : ℕ × ℕ) (blank : List Bool) → 0 < first → first ≤ length live
    → set_wanted (wanted_behind (drop first live) blank) (let r = get_or live (first - 1) d in if nat_lt r.0 8 && nat_lt r.1 64 then Some (place_number (KeptReg r.0 r.1)) else None) true ≡ wanted_behind (drop (first - 1) live) blank
live_more live first d blank some le =
    let next : suc (first - 1) ≡ first = omega arith in
    sym (ap (λ l. wanted_behind l blank) (drop-cons live (first - 1) d (omega arith) ∙ ap (λ k. get_or live (first - 1) d ∷ drop k live) next))
