-- Frames that are alike but at slots that are stored over.
use Rattle.std.proofs.Common.{◌≡◌, ℕ, suc, Bool, true, false, List, [], ◌∷◌, length, Option, Some, None, refl, sym, ap, arith, ◌∙◌, get_or}
use Rattle.std.specs.Prelude.{if◌then◌else◌, ◌==◌, ◌||◌, not, filter, fold, slice_index, option_map}
use Rattle.std.specs.Option.{option_map_or, option_to_list}
use Rattle.std.proofs.lemmas.Bool.{and_parts, not-true}
use Rattle.std.proofs.lemmas.Bool.Decides.{nat_tests}
use Rattle.tta_loadelim.specs.Cited.{Units, UnitOp, Op, Ldw, Stw, Ldf, Stf, Out, Take, Set, Machine, Target, Reg, Imm, Trigger, Control, Effect, op_at, Start, start_of, operand_word, store_frame, Item, target_of_item, Held, lacks, starts, stores_frame, may_wait}
use Rattle.tta_arch.specs.Effects.{Operand}
use Rattle.tta_moves.proofs.Places.{either}
use Rattle.tta_reorder.proofs.Carried.{carried_on}
use Rattle.tta_loadelim.specs.AvailableSlots.{is_load, loaded, stored}
use Rattle.tta_loadelim.specs.Thinned.{is_in, is_over}
use Rattle.tta_loadelim.proofs.Opened.{load_dry, store_dry}
use Rattle.tta_loadelim.proofs.Seen.{stores_is}
use Rattle.tta_loadelim.proofs.Frames.{frame_of, set_alike}

-- ---- slots that are stored over

pub if_first : (b x y : Bool) → b ≡ true → (if b then x else y) ≡ true → x ≡ true
if_first true x y e h = h
if_first false x y e h = absurd cc

pub if_second : (b x y : Bool) → b ≡ false → (if b then x else y) ≡ true → y ≡ true
if_second true x y e h = absurd cc
if_second false x y e h = h

pub over_tail : (m : Machine) (v : ℕ) (before : List Item) (x : Item) (xs : List Item) → is_over m v before (x ∷ xs) ≡ true → option_map_or (λ w. w == v) (stored m before x) false ≡ false → is_over m v (x ∷ before) xs ≡ true
over_tail m v before x xs e other = either (starts m is_load (target_of_item x))
    (λ load. (and_parts (option_map_or (λ w. not (w == v)) (loaded m x) false) (is_over m v (x ∷ before) xs) (if_first _ _ _ load e)).1)
    (λ no_load. (and_parts (not (may_wait m x)) (is_over m v (x ∷ before) xs) (if_second _ _ _ other (if_second _ _ _ no_load e))).1)

pub stored_some : (m : Machine) (v : ℕ) (before : List Item) (x : Item) → option_map_or (λ w. w == v) (stored m before x) false ≡ true → stored m before x ≡ Some v
stored_some m v before x e = on (stored m before x) e where
  on : (o : Option ℕ) → option_map_or (λ w. w == v) o false ≡ true → o ≡ Some v
  on None e = absurd cc
  on (Some w) e = let same : w ≡ v = grind (arith, nat_tests, e) in ap (λ n. Some n) same

pub over_dry : (m : Machine) (v : ℕ) (before : List Item) (x : Item) (xs : List Item) → is_over m v before (x ∷ xs) ≡ true → may_wait m x ≡ false
over_dry m v before x xs e = either (starts m is_load (target_of_item x))
    (λ load. load_dry m (target_of_item x) load)
    (λ no_load. either (option_map_or (λ w. w == v) (stored m before x) false)
    (λ here. store_dry m (target_of_item x) (stores_is m before x v (stored_some m v before x here)).store)
    (λ other. not-true (may_wait m x) (and_parts (not (may_wait m x)) (is_over m v (x ∷ before) xs) (if_second _ _ _ other (if_second _ _ _ no_load e))).0))

pub over_load : (m : Machine) (v : ℕ) (before : List Item) (x : Item) (xs : List Item) → is_over m v before (x ∷ xs) ≡ true → starts m is_load (target_of_item x) ≡ true → (w : ℕ) × (loaded m x ≡ Some w) × ((w == v) ≡ false)
over_load m v before x xs e load = on (loaded m x) refl (and_parts (option_map_or (λ w. not (w == v)) (loaded m x) false) (is_over m v (x ∷ before) xs) (if_first _ _ _ load e)).0 where
  on : (o : Option ℕ) → loaded m x ≡ o → option_map_or (λ w. not (w == v)) o false ≡ true → (w : ℕ) × (loaded m x ≡ Some w) × ((w == v) ≡ false)
  on None is t = absurd cc
  on (Some w) is t = (w, is, not-true (w == v) t)

-- ---- two frames

-- two frames are alike but at slots that are stored over
pub record Near (m : Machine) (before behind : List Item) (pending fr fs : List ℕ) : Type 0 where
  pub long : length fr ≡ length fs
  pub same : (v : ℕ) → is_in v pending ≡ false → slice_index fr v ≡ slice_index fs v
  pub over : (v : ℕ) → is_in v pending ≡ true → is_over m v before behind ≡ true

pub alike_lists : (a b : List ℕ) → length a ≡ length b → ((v : ℕ) → get_or a v 0 ≡ get_or b v 0) → a ≡ b
alike_lists [] [] e h = refl
alike_lists [] (y ∷ b) e h = absurd (omega (arith, e))
alike_lists (x ∷ a) [] e h = absurd (omega (arith, e))
alike_lists (x ∷ a) (y ∷ b) e h =
    let first : x ≡ y = h 0 in
    let rest = alike_lists a b (omega (arith, e)) (λ v. h (suc v)) in rw (first, rest) refl

-- where no slot can be stored over they are equal
pub near_equal : (m : Machine) (before behind : List Item) (pending fr fs : List ℕ) → Near m before behind pending fr fs → ((v : ℕ) → is_over m v before behind ≡ true → ⊥) → fr ≡ fs
near_equal m before behind pending fr fs near none = alike_lists fr fs near.long (λ v. either (is_in v pending) (λ there. absurd (none v (near.over v there))) (λ away. near.same v away))

pub frame_of_alike : (m : Machine) (h : Held) (fr fs : List ℕ) (t : Target) (o : Option ℕ) (v : ℕ) → length fr ≡ length fs → slice_index fr v ≡ slice_index fs v
    → slice_index (frame_of m h fr t o) v ≡ slice_index (frame_of m h fs t o) v
frame_of_alike m h fr fs t None v long same = same
frame_of_alike m h fr fs t (Some w) v long same = on (start_of m h.written (t, w)) where
  by : (s : Start) (q : Op) → s.does.op ≡ q → slice_index (store_frame fr s) v ≡ slice_index (store_frame fs s) v
  by s Ldw is = rw is same
  by s Stw is = rw is same
  by s Ldf is = rw is same
  by s Stf is = rw is (set_alike fr fs (operand_word s) s.word v long (λ other. same))
  by s Out is = rw is same
  by s Take is = rw is same
  by s (Set id) is = rw is same

  on : (o : Option Start) → slice_index (fold store_frame fr (option_to_list o)) v ≡ slice_index (fold store_frame fs (option_to_list o)) v
  on None = same
  on (Some s) = by s s.does.op refl

-- what stores into the frame changes nothing else
pub store_only : (u : Units) (m : Machine) (back : ℕ) (h : Held) (t : Target) (o : Option ℕ) → starts m stores_frame t ≡ true → carried_on u m back h t o ≡ record h { frame = frame_of m h h.frame t o }
store_only u m back h t None store = refl
store_only u m back h (Reg f i) (Some w) store = absurd cc
store_only u m back h (Imm f i) (Some w) store = absurd cc
store_only u m back h (Operand unit) (Some w) store = absurd cc
store_only u m back h (Control kind) (Some w) store = absurd cc
store_only u m back h (Trigger unit op) (Some w) store = on (op_at m unit op) refl store where
  by : (o : UnitOp) (q : Op) → o.op ≡ q → stores_frame q ≡ true → op_at m unit op ≡ Some o → carried_on u m back h (Trigger unit op) (Some w) ≡ record h { frame = frame_of m h h.frame (Trigger unit op) (Some w) }
  by o Ldw is s at = absurd cc
  by o Stw is s at = absurd cc
  by o Ldf is s at = absurd cc
  by o Stf is s at = rw (at, is) refl
  by o Out is s at = absurd cc
  by o Take is s at = absurd cc
  by o (Set id) is s at = absurd cc

  on : (o : Option UnitOp) → op_at m unit op ≡ o → option_map_or stores_frame (option_map (λ o. o.op) o) false ≡ true → carried_on u m back h (Trigger unit op) (Some w) ≡ record h { frame = frame_of m h h.frame (Trigger unit op) (Some w) }
  on None at s = absurd cc
  on (Some o) at s = by o o.op refl s at

pub in_filtered : (keep : ℕ → Bool) (v : ℕ) (pending : List ℕ) → is_in v (filter keep pending) ≡ true → (is_in v pending ≡ true) × (keep v ≡ true)
in_filtered keep v [] e = absurd cc
in_filtered keep v (w ∷ pending) e = either (keep w)
    (λ kept.
    either (w == v)
    (λ here. let same : w ≡ v = grind (arith, nat_tests, here) in (rw here refl, ap keep (sym same) ∙ kept))
    (λ away.
    let rest : is_in v (filter keep pending) ≡ true = if_or _ _ away (rw kept at e) in
    let r = in_filtered keep v pending rest in (rw away r.0, r.1)))
    (λ dropped.
    let rest : is_in v (filter keep pending) ≡ true = rw dropped at e in
    let r = in_filtered keep v pending rest in (later (w == v) r.0, r.1)) where
      if_or : (a b : Bool) → a ≡ false → (a || b) ≡ true → b ≡ true
      if_or true b f h = absurd cc
      if_or false b f h = h

      later : (a : Bool) {b : Bool} → b ≡ true → (a || b) ≡ true
      later true h = refl
      later false h = h

pub not_filtered : (keep : ℕ → Bool) (v : ℕ) (pending : List ℕ) → is_in v (filter keep pending) ≡ false → keep v ≡ true → is_in v pending ≡ false
not_filtered keep v [] e k = refl
not_filtered keep v (w ∷ pending) e k = either (w == v)
    (λ here.
    let same : w ≡ v = grind (arith, nat_tests, here) in
    let kept : keep w ≡ true = ap keep same ∙ k in
    let clash : (w == v) || is_in v (filter keep pending) ≡ false = rw kept at e in
    let no_more : true ≡ false = sym (rw here refl) ∙ clash in absurd cc)
    (λ away. either (keep w)
    (λ kept. let rest : (w == v) || is_in v (filter keep pending) ≡ false = rw kept at e in rw away (not_filtered keep v pending (rw away at rest) k))
    (λ dropped. let rest : is_in v (filter keep pending) ≡ false = rw dropped at e in rw away (not_filtered keep v pending rest k)))

pub lacks_framed : (m : Machine) (h : Held) (fr : List ℕ) (e : Effect) → lacks m (record h { frame = fr }) e ≡ lacks m h e
unfolding lacks
lacks_framed m h fr e = refl
