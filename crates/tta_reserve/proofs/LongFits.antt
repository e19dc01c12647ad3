-- A long immediate fits beside the items of a cycle exactly where its template carries it, none is there, and its buses have no
-- move.
use Rattle.std.proofs.Common.{◌≡◌, ℕ, true, false, List, [], ◌∷◌, ◌++◌, sym, ap, subst, ◌∙◌, map}
use Rattle.std.specs.List.{list_any}
use Rattle.std.proofs.lemmas.List.{map_push}
use Rattle.tta_list.proofs.Lists.{list_all_push}
use Rattle.tta_reserve.specs.Cited.{Machine, are_different, Slots, keeps_taken, LongValue, Template, PlacedItem, carries, clash, slots_of, taken_of}
use Rattle.tta_arch.proofs.Lists.{different_push}
use Rattle.tta_moves.specs.declared.items.Item.TheVariants as item
use Rattle.tta_reserve.specs.Taken.{is_template, buses_of}
use Rattle.tta_reserve.proofs.Lists.{all_last, different_last}
use Rattle.tta_reserve.proofs.Pushed.{CanMove, Fits, long_on, same_slots, clash_is, takes_buses}

-- all that a long immediate asks for
pub record Fill (m : Machine) (xs : List PlacedItem) (t unit index : ℕ) (value : LongValue) : Type 0 where
  pub carry : carries m (Template t) (item.Long unit index value) ≡ true
  pub none : list_any (λ y. is_template y.slot) xs ≡ false
  pub keeps : keeps_taken (buses_of m.templates t) (slots_of m xs) ≡ true

pub long_fits_one_more : (m : Machine) (xs : List PlacedItem) (t c unit index : ℕ) (value : LongValue)
    → Fits m xs → Fill m xs t unit index value → Fits m (xs ++ long_on t c unit index value ∷ [])
long_fits_one_more m xs t c unit index value fits fill =
    let x : PlacedItem = long_on t c unit index value in
    let old : Slots = slots_of m xs in
    let moves : CanMove m (buses_of m.templates t) old
    = record { keeps = fill.keeps; joined = fits.moves.joined; reads = fits.moves.reads; writes = fits.moves.writes; apart = fits.moves.apart } in
    record {
      carry = list_all_push (λ (y : PlacedItem). carries m y.slot y.item) xs x fits.carry fill.carry;
      different = ap (are_different clash) (map_push (λ (y : PlacedItem). y.slot) xs x)
          ∙ different_push clash (map (λ (y : PlacedItem). y.slot) xs) (Template t) fits.different (clash_is t xs ∙ fill.none);
      moves = subst (λ n. CanMove m n (slots_of m (xs ++ x ∷ []))) (sym (takes_buses m xs t c unit index value fill.none))
          (subst (CanMove m (buses_of m.templates t)) (sym (same_slots m xs t c unit index value)) moves);
    }

pub long_fits_only_there : (m : Machine) (xs : List PlacedItem) (t c unit index : ℕ) (value : LongValue)
    → Fits m (xs ++ long_on t c unit index value ∷ []) → Fill m xs t unit index value
long_fits_only_there m xs t c unit index value fits =
    let x : PlacedItem = long_on t c unit index value in
    let apart : list_any (λ u. clash u (Template t)) (map (λ (y : PlacedItem). y.slot) xs) ≡ false
    = different_last clash (map (λ (y : PlacedItem). y.slot) xs) (Template t) (ap (are_different clash) (sym (map_push (λ (y : PlacedItem). y.slot) xs x)) ∙ fits.different) in
    let none : list_any (λ (y : PlacedItem). is_template y.slot) xs ≡ false = sym (clash_is t xs) ∙ apart in
    record {
      carry = all_last (λ (y : PlacedItem). carries m y.slot y.item) xs x fits.carry;
      none = none;
      keeps = ap (λ n. keeps_taken n (slots_of m xs)) (sym (takes_buses m xs t c unit index value none))
          ∙ ap (keeps_taken (taken_of m (xs ++ x ∷ []))) (sym (same_slots m xs t c unit index value)) ∙ fits.moves.keeps;
    }
