-- Items on seats ask for no more than they do in their list.
use Rattle.std.proofs.Common.{◌≡◌, ℕ, suc, Bool, true, false, List, [], ◌∷◌, Option, Some, None, refl, sym, ap, arith, ◌∙◌}
use Rattle.std.specs.Prelude.{cond, ◌+◌, ◌&&◌, ◌||◌, length, count_by, slice_get, option_map}
use Rattle.std.specs.List.{list_any, sum_by}
use Rattle.std.proofs.lemmas.List.Sums.{sum_by-cons}
use Rattle.std.proofs.lemmas.Bool.{and_parts}
use Rattle.tta_arch.specs.declared.ends.Source.TheVariants as source
use Rattle.tta_bind.specs.Cited.{UnitOp, Machine, same_op, Target, Reg, Imm, Trigger, Control, op_at, hub_of, ItemSource, Address, Item, source_of, target_of_item, is_unguarded, is_list, is_straight, Aim, ToStart, aim_of, is_address, names, AsksNoMore}
use Rattle.tta_arch.specs.Effects.{Operand}
use Rattle.tta_moves.specs.declared.items.ItemSource.TheVariants.{Port}
use Rattle.tta_bind.specs.declared.seats.Seat.{Seat}
use Rattle.tta_bind.specs.Seated.{seated_source, seated_target, seated, all_seated, does_same, reads_same, starts_same, had_same, AreSeats}
use Rattle.tta_bind.proofs.Items.{source_seated, target_seated, seated_length}
use Rattle.tta_bind.proofs.Doing.{same_op_is}

aim_same : (m : Machine) (items others : List Item) (n : ℕ) (s : Seat) (t : Target) → starts_same m items others n s t ≡ true → aim_of m (seated_target s t) ≡ aim_of m t
aim_same m items others n s (Reg f i) e = refl
aim_same m items others n s (Imm f i) e = refl
aim_same m items others n s (Operand unit) e = refl
aim_same m items others n s (Control kind) e = refl
aim_same m items others n s (Trigger unit op) e = on (op_at m unit op) (op_at m s.unit s.op) (and_parts (does_same (op_at m unit op) (op_at m s.unit s.op)) _ e).0 where
  on : (o q : Option UnitOp) → does_same o q ≡ true → ToStart (option_map (λ o. o.op) q) ≡ ToStart (option_map (λ o. o.op) o)
  on None None e = absurd cc
  on None (Some q) e = absurd cc
  on (Some o) None e = absurd cc
  on (Some o) (Some q) e = ap (λ c. ToStart (Some c)) (sym (same_op_is o.op q.op (and_parts (same_op o.op q.op) _ e).0))

names_same : (block : ℕ) (s : Seat) (x : Item) → names block (seated s x) ≡ names block x
names_same block s x = ap (is_address block) (source_seated s x) ∙ on (source_of x) where
  on : (src : ItemSource) → is_address block (seated_source s src) ≡ is_address block src
  on (Port (source.Reg f i)) = refl
  on (Port (source.Imm f i)) = refl
  on (Port (source.Shown unit)) = refl
  on (Port source.Ra) = refl
  on (Port (source.Value w)) = refl
  on (Address b) = refl

-- each item has the same aim on its seat
abbrev SameAims : Machine → List Seat → List Item → Type 0
SameAims m seats items =
    (n : ℕ) (x : Item) (s : Seat) → slice_get items n ≡ Some x → slice_get seats n ≡ Some s → aim_of m (target_of_item (seated s x)) ≡ aim_of m (target_of_item x)

counted : (m : Machine) (p : Aim → Bool) (seats : List Seat) (items : List Item) → length seats ≡ length items → SameAims m seats items
    → count_by (λ x. p (aim_of m (target_of_item x))) (all_seated seats items) ≡ count_by (λ x. p (aim_of m (target_of_item x))) items
counted m p [] [] size same = refl
counted m p [] (x ∷ items) size same = absurd (omega (arith, size))
counted m p (s ∷ seats) [] size same = absurd (omega (arith, size))
counted m p (s ∷ seats) (x ∷ items) size same =
    let f : Item → ℕ = λ y. cond (p (aim_of m (target_of_item y))) 1 0 in
    let here = same 0 x s refl refl in
    let more = counted m p seats items (omega (arith, size)) (λ n y z a b. same (suc n) y z a b) in
    sum_by-cons f (seated s x) (all_seated seats items) ∙ ap (λ (a : Aim). cond (p a) 1 0 + sum_by f (all_seated seats items)) here ∙ ap (λ (n : ℕ). f x + n) more ∙ sym (sum_by-cons f x items)

named : (block : ℕ) (seats : List Seat) (items : List Item) → list_any (names block) (all_seated seats items) ≡ true → list_any (names block) items ≡ true
named block [] items e = absurd cc
named block (s ∷ seats) [] e = absurd cc
named block (s ∷ seats) (x ∷ items) e = on (names block x) (names_same block s x) e (named block seats items) where
  on : (b : Bool) → names block (seated s x) ≡ b → (names block (seated s x) || list_any (names block) (all_seated seats items)) ≡ true
      → (list_any (names block) (all_seated seats items) ≡ true → list_any (names block) items ≡ true) → (b || list_any (names block) items) ≡ true
  on true is e more = refl
  on false is e more = more (rw is at e)

pub seats_ask_no_more : (m : Machine) (items : List Item) (seats : List Seat) → AreSeats m items seats → is_list m (all_seated seats items) ≡ true
    → is_straight m (hub_of m) (all_seated seats items) ≡ true → AsksNoMore m items (all_seated seats items)
seats_ask_no_more m items seats are list straight = record {
  few = let same = seated_length seats items are.size in omega (arith, same);
  list = λ was. list;
  targets = λ p apart. let same = counted m p seats items are.size aims in omega (arith, same);
  addresses = λ block e. named block seats items e;
  straight = λ was. straight;
} where
  aims : SameAims m seats items
  aims n x s is there =
      let have = are.each n x s is there in
      let others = all_seated seats items in
      let two = and_parts (reads_same m items others n s (source_of x) && starts_same m items others n s (target_of_item x)) (is_unguarded x || had_same m items others n s (target_of_item x)) have in
      let one = and_parts (reads_same m items others n s (source_of x)) (starts_same m items others n s (target_of_item x)) two.0 in
      ap (aim_of m) (target_seated s x) ∙ aim_same m items others n s (target_of_item x) one.1
