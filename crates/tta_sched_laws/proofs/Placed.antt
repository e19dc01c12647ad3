-- A block of code that holds a list as it was placed.
use Rattle.std.proofs.Common.{◌≡◌, ℕ, zero, suc, ◌<◌, true, List, [], ◌∷◌, refl, sym, ap, subst, ◌∙◌, arith, length, take, map}
use Rattle.std.specs.Prelude.{◌==◌, IsTrue}
use Rattle.std.specs.List.{AllByRecursion}
use Rattle.std.proofs.lemmas.Bool.Decides.{nat_tests}
use Rattle.std.proofs.lemmas.Option.{slice_get-get_or}
use Rattle.tta_list.proofs.Lists.{list_all_one}
use Rattle.tta_sched_laws.specs.Cited.{Machine, IsMachine, Effect, Instruction, Code, is_legal, Item, PlacedItem, Placed, BlockList, effect_of, carries, control_is_last, in_cycle}
use Rattle.tta_sched_laws.specs.Overlap.{IsPlaced}
use Rattle.tta_sched_laws.proofs.Total.{Timed}
use Rattle.tta_sched_laws.proofs.Found.{filter_has}
use Rattle.tta_sched_laws.proofs.Steps.{IsPlain}
use Rattle.tta_sched_laws.proofs.Bounds.{Keeps, bounds_keep}
use Rattle.tta_sched_laws.proofs.Items.{nth, item_at, idle_item, timed, nth_timed, length_timed}
use Rattle.tta_sched_laws.proofs.Linked.{carries_block, fits_parts}
use Rattle.tta_sched_laws.proofs.Rules.{plain_item, machine_owners}
use Rattle.tta_sched_laws.proofs.Block.{Stays, effects}

abbrev pub items_of : List PlacedItem → List Item
items_of ps = map (λ (x : PlacedItem). x.item) ps

pub effects_timed : (addr : List ℕ) (ps : List PlacedItem) → effects (timed addr ps) ≡ map (effect_of addr) (items_of ps)
effects_timed addr [] = refl
effects_timed addr (p ∷ ps) = ap (λ (es : List Effect). effect_of addr p.item ∷ es) (effects_timed addr ps)

pub effects_take : (k : ℕ) (ps : List Timed) → effects (take k ps) ≡ take k (effects ps)
effects_take zero ps = refl
effects_take (suc k) [] = refl
effects_take (suc k) (p ∷ ps) = ap (λ (es : List Effect). p.does ∷ es) (effects_take k ps)

module _ (m : Machine) (rules : IsMachine m) (code : Code) (legal : AllByRecursion (λ (i : Instruction). IsTrue (is_legal m i)) code.words)
    (addr : List ℕ) (base : ℕ) (b : BlockList) (p : Placed) (is : IsPlaced m code addr base b p) where
  pub effects_are : effects (timed addr p.items) ≡ map (effect_of addr) b.items
  effects_are = effects_timed addr p.items ∙ ap (map (effect_of addr)) is.respects.order

  plain : (k : ℕ) → k < length (timed addr p.items) → IsPlain m (nth (timed addr p.items) k).does.target
  plain k lt =
      let n = length_timed addr p.items in
      let x = item_at p.items k in
      let at = slice_get-get_or p.items k idle_item (omega arith) in
      let here : (x.cycle == x.cycle) ≡ true = grind (arith, nat_tests) in
      let has = filter_has (λ (q : PlacedItem). q.cycle == x.cycle) p.items x (k, at) here in
      let c = list_all_one (λ (q : PlacedItem). carries m q.slot q.item) (in_cycle x.cycle p.items) has.0 x (fits_parts m (in_cycle x.cycle p.items) (is.respects.cycles x.cycle)).0 has.1 in
      subst (λ (t : Timed). IsPlain m t.does.target) (sym (nth_timed addr p.items k)) (plain_item m rules x.slot x.item c)

  keeps : Keeps m (timed addr p.items) p.length
  keeps = subst (Keeps m (timed addr p.items)) (sym is.respects.long)
      (bounds_keep m addr p.items is.respects.bounds (subst (λ q. control_is_last q ≡ true) (sym is.respects.order) is.closed))

  -- a block of code from an address on carries its list as it was placed
  pub stays_placed : Stays m code base p.length (timed addr p.items)
  stays_placed = record {
    carries = carries_block m rules code legal addr base p is.respects.cycles is.holds;
    keeps = keeps;
    plain = plain;
    owners = machine_owners m rules;
  }
