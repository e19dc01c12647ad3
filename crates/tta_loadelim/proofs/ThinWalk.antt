-- The walk that leaves out stores, item by item.
use Rattle.std.proofs.Common.{◌≡◌, ℕ, ◌+◌, ◌<◌, ◌≤◌, Bool, true, false, List, [], ◌∷◌, ◌++◌, length, drop, get_or, Option, Some, None, refl, sym, ap, subst, arith, ◌∙◌, append_assoc, append-nil}
use Rattle.std.specs.Prelude.{if◌then◌else◌, ◌==◌, ◌||◌, not, filter, IfSome}
use Rattle.std.specs.Option.{option_map_or}
use Rattle.std.proofs.lemmas.Bool.Decides.{nat_tests}
use Rattle.std.proofs.lemmas.List.{drop_all}
use Rattle.std.proofs.lemmas.List.Folds.{list_any-append}
use Rattle.std.proofs.lemmas.Bool.{and_from}
use Rattle.tta_loadelim.specs.Cited.{Machine, Target, Item, target_of_item, starts, stores_frame}
use Rattle.tta_moves.proofs.Places.{either}
use Rattle.tta_loadelim.specs.declared.accesses.Operand.{Operand}
use Rattle.tta_loadelim.specs.AvailableSlots.{is_load, stored}
use Rattle.tta_loadelim.specs.Facts.{IsOperand}
use Rattle.tta_loadelim.specs.Thinned.{is_in, lets_stay, is_over, AreThinned, ends, stays, goes}
use Rattle.tta_loadelim.proofs.Opened.{load_keeps, store_dry}
use Rattle.tta_loadelim.proofs.Seen.{stores_is}
use Rattle.tta_loadelim.proofs.Nearness.{if_first, if_second}
use Rattle.tta_loadelim.proofs.Walks.{split_at}

-- ---- slots that are stored over, one item more

-- a slot is the one that is given, if one is
abbrev is_here : Option ℕ → ℕ → Bool
is_here o v = option_map_or (λ w. w == v) o false

store_loads_none : (m : Machine) (t : Target) → starts m stores_frame t ≡ true → starts m is_load t ≡ false
store_loads_none m t e = either (starts m is_load t)
    (λ load. let clash : true ≡ false = sym e ∙ load_keeps m t load in absurd cc)
    (λ none. none)

if_yes : (b x y : Bool) → b ≡ true → x ≡ true → (if b then x else y) ≡ true
if_yes true x y e h = h
if_yes false x y e h = absurd cc

if_no : (b x y : Bool) → b ≡ false → y ≡ true → (if b then x else y) ≡ true
if_no true x y e h = absurd cc
if_no false x y e h = h

load_stores : (m : Machine) (before : List Item) (x : Item) (v : ℕ) → starts m is_load (target_of_item x) ≡ true → is_here (stored m before x) v ≡ false
load_stores m before x v load = on (stored m before x) refl where
  on : (o : Option ℕ) → stored m before x ≡ o → is_here o v ≡ false
  on None is = refl
  on (Some w) is = let none = store_loads_none m (target_of_item x) (stores_is m before x w is).store in let clash : true ≡ false = sym load ∙ none in absurd cc

-- an item that stays, and that lets a store go before it
over_stays : (m : Machine) (v : ℕ) (before : List Item) (x : Item) (xs : List Item) → lets_stay m v x ≡ true → (is_here (stored m before x) v ≡ false → is_over m v (x ∷ before) xs ≡ true) → is_over m v before (x ∷ xs) ≡ true
over_stays m v before x xs lets more = either (starts m is_load (target_of_item x))
    (λ load. if_yes _ _ _ load (and_from _ _ (if_first _ _ _ load lets) (more (load_stores m before x v load))))
    (λ no_load. if_no _ _ _ no_load (either (is_here (stored m before x) v)
    (λ here. if_yes _ _ _ here refl)
    (λ away. if_no _ _ _ away (and_from _ _ (if_second _ _ _ no_load lets) (more away)))))

-- a store that goes
over_goes : (m : Machine) (v slot : ℕ) (before : List Item) (x : Item) (xs : List Item) → stored m before x ≡ Some slot → is_over m v (x ∷ before) xs ≡ true → is_over m v before (x ∷ xs) ≡ true
over_goes m v slot before x xs is more =
    let store = (stores_is m before x slot is).store in
    let dry = store_dry m (target_of_item x) store in
    let no_load = store_loads_none m (target_of_item x) store in
    if_no _ _ _ no_load (either (is_here (stored m before x) v)
    (λ here. if_yes _ _ _ here refl)
    (λ away. if_no _ _ _ away (and_from _ _ (not-false dry) more))) where
      not-false : {b : Bool} → b ≡ false → not b ≡ true
      not-false e = ap not e

-- ---- the walk

-- What is left is a list without stores into slots that are stored over, where those are that were left out last.
pub record ThinnedTo (m : Machine) (items : List Item) (last : Option Operand) (pending : List ℕ) (out : List Item) (i : ℕ) : Type 0 where
  pub before : List Item
  pub operand : IsOperand m before last
  pub all : (ys : List Item) → AreThinned m before (drop i items) ys → ((v : ℕ) → is_in v pending ≡ true → is_over m v before (drop i items) ≡ true) → AreThinned m [] items (out ++ ys)

pub thinned_begin : (m : Machine) (items : List Item) → ThinnedTo m items None [] [] 0
thinned_begin m items = record { before = []; operand = tt; all = λ ys are over. are }

pub thinned_goes : (m : Machine) (items : List Item) (last later : Option Operand) (pending : List ℕ) (out : List Item) (i slot : ℕ) (x d : Item) → i < length items → x ≡ get_or items i d
    → ((before : List Item) → IsOperand m before last → stored m before x ≡ Some slot) → ((before : List Item) → IsOperand m before last → IsOperand m (x ∷ before) later)
    → ThinnedTo m items last pending out i → ThinnedTo m items later (pending ++ slot ∷ []) out (i + 1)
thinned_goes m items last later pending out i slot x d lt at is passes t = record {
  before = x ∷ t.before;
  operand = passes t.before t.operand;
  all = λ ys are over.
      let split = split_at items i x d lt at in
      let stored_is = is t.before t.operand in
      let there : is_in slot (pending ++ slot ∷ []) ≡ true = in_last pending slot in
      let longer : AreThinned m t.before (x ∷ drop (i + 1) items) ys = goes t.before x (drop (i + 1) items) ys slot stored_is (over slot there) are in
      t.all ys (subst (λ (l : List Item). AreThinned m t.before l ys) (sym split) longer)
      (λ v among. subst (λ (l : List Item). is_over m v t.before l ≡ true) (sym split) (over_goes m v slot t.before x (drop (i + 1) items) stored_is (over v (in_front pending slot v among))));
} where
  in_last : (pending : List ℕ) (slot : ℕ) → is_in slot (pending ++ slot ∷ []) ≡ true
  in_last pending slot = let same : (slot == slot) ≡ true = grind (arith, nat_tests) in list_any-append (λ w. w == slot) pending (slot ∷ []) ∙ rw same (or_true (is_in slot pending)) where
    or_true : (b : Bool) → (b || true) ≡ true
    or_true true = refl
    or_true false = refl

  in_front : (pending : List ℕ) (slot v : ℕ) → is_in v pending ≡ true → is_in v (pending ++ slot ∷ []) ≡ true
  in_front pending slot v among = list_any-append (λ w. w == v) pending (slot ∷ []) ∙ rw among refl

in_filtered : (o : Option ℕ) (v : ℕ) (pending : List ℕ) → is_in v pending ≡ true → is_here o v ≡ false → is_in v (filter (λ w. not (option_map_or (λ u. u == w) o false)) pending) ≡ true
in_filtered o v [] among away = absurd cc
in_filtered o v (w ∷ pending) among away = either (w == v)
    (λ here.
    let same : w ≡ v = grind (arith, nat_tests, here) in
    let kept : option_map_or (λ u. u == w) o false ≡ false = ap (is_here o) same ∙ away in
    rw (kept, here) refl)
    (λ differ.
    let rest = in_filtered o v pending (rw differ at among) away in
    either (option_map_or (λ u. u == w) o false)
    (λ dropped. rw dropped rest)
    (λ kept. rw (kept, differ) rest))

pub thinned_stays : (m : Machine) (items : List Item) (last later : Option Operand) (pending : List ℕ) (out : List Item) (i : ℕ) (slot : Option ℕ) (x d : Item) → i < length items → x ≡ get_or items i d
    → ((before : List Item) → IsOperand m before last → IfSome slot (λ v. stored m before x ≡ Some v)) → ((before : List Item) → IsOperand m before last → IsOperand m (x ∷ before) later)
    → ((v : ℕ) → is_in v pending ≡ true → lets_stay m v x ≡ true)
    → ThinnedTo m items last pending out i → ThinnedTo m items later (filter (λ w. not (option_map_or (λ v. v == w) slot false)) pending) (out ++ x ∷ []) (i + 1)
thinned_stays m items last later pending out i slot x d lt at is passes lets t = record {
  before = x ∷ t.before;
  operand = passes t.before t.operand;
  all = λ ys are over.
      let split = split_at items i x d lt at in
      let longer : AreThinned m t.before (x ∷ drop (i + 1) items) (x ∷ ys) = stays t.before x (drop (i + 1) items) ys are in
      subst (λ (l : List Item). AreThinned m [] items l) (sym (append_assoc out (x ∷ []) ys))
      (t.all (x ∷ ys) (subst (λ (l : List Item). AreThinned m t.before l (x ∷ ys)) (sym split) longer)
      (λ v among. subst (λ (l : List Item). is_over m v t.before l ≡ true) (sym split)
      (over_stays m v t.before x (drop (i + 1) items) (lets v among) (λ away. over v (in_filtered slot v pending among (away_from v slot (is t.before t.operand) away))))));
} where
  away_from : (v : ℕ) (o : Option ℕ) → IfSome o (λ w. stored m t.before x ≡ Some w) → is_here (stored m t.before x) v ≡ false → is_here o v ≡ false
  away_from v None s away = refl
  away_from v (Some w) s away = ap (λ (q : Option ℕ). is_here q v) (sym s) ∙ away

pub thinned_done : (m : Machine) (items : List Item) (last : Option Operand) (pending : List ℕ) (out : List Item) (i : ℕ) → ThinnedTo m items last pending out i → length items ≤ i → length pending ≡ 0 → AreThinned m [] items out
thinned_done m items last pending out i t le empty =
    let rest = drop_all i items le in
    let none : AreThinned m t.before (drop i items) [] = subst (λ (l : List Item). AreThinned m t.before l []) (sym rest) (ends t.before) in
    subst (λ (l : List Item). AreThinned m [] items l) (append-nil out) (t.all [] none (λ v among. no_more pending empty v among)) where
      no_more : (pending : List ℕ) → length pending ≡ 0 → (v : ℕ) → is_in v pending ≡ true → is_over m v t.before (drop i items) ≡ true
      no_more [] e v among = absurd cc
      no_more (w ∷ pending) e v among = absurd (omega (arith, e))

-- ---- nothing to leave out

pub thinned_itself : (m : Machine) (before items : List Item) → AreThinned m before items items
thinned_itself m before [] = ends before
thinned_itself m before (x ∷ xs) = stays before x xs xs (thinned_itself m (x ∷ before) xs)
