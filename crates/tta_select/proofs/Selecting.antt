-- The lists of register code are a selection.
use Rattle.std.proofs.Common.{◌≡◌, ℕ, suc, Bool, true, List, [], ◌∷◌, Some, refl, sym, subst, length, map, slice_get, is_some}
use Rattle.std.specs.List.{list_all}
use Rattle.std.proofs.lemmas.Bool.{and_parts}
use Rattle.std.proofs.lemmas.List.{length-map}
use Rattle.tta_select.specs.Cited.{AllPairs, Units, Ldf, Stf, Machine, Choice, hub_of, offered, BlockList, is_straight, source_of, RBlock, Rir}
use Rattle.tta_list.proofs.Lists.{list_all_one}
use Rattle.tta_select.specs.Select.{list_of, selected}
use Rattle.tta_select.specs.Needs.{fits_block, word_block}
use Rattle.tta_select.specs.Lists.{is_closed}
use Rattle.tta_select.specs.Statement.{IsGiven, IsSelection, Selects}
use Rattle.tta_select.proofs.Offers.{serves}
use Rattle.tta_select.proofs.Covering.{grounds}
use Rattle.tta_select.proofs.Whole as whole
use Rattle.tta_select.proofs.Sizes.{items_size}
use Rattle.tta_select.proofs.Assembly.{can_list, goes_straight, is_closed_in, triggers_no_more, frames_no_more, writes_no_more}

-- ---- each list of a map

-- each element with what it is mapped to
pub pairs_map : {A B : Type 0} (P : A → B → Type 0) (f : A → B) (xs : List A) → ((k : ℕ) (x : A) → slice_get xs k ≡ Some x → P x (f x)) → AllPairs P xs (map f xs)
pairs_map P f [] each = tt
pairs_map P f (x ∷ xs) each = (each 0 x refl, pairs_map P f xs (λ k y e. each (suc k) y e))

-- all that is mapped to
pub all_map : {A B : Type 0} (test : B → Bool) (f : A → B) (xs : List A) → ((k : ℕ) (x : A) → slice_get xs k ≡ Some x → test (f x) ≡ true) → list_all test (map f xs) ≡ true
all_map test f [] each = refl
all_map test f (x ∷ xs) each = rw (each 0 x refl, all_map test f xs (λ k y e. each (suc k) y e)) refl

-- ---- the selection

pub selects : Selects
selects u m c r given = record {
  keeps = whole.keeps_meaning u m c (grounds m c given.choice) (serves m c given.machine Ldf frame.0) (serves m c given.machine Stf frame.1)
      given.over (serves m c given.machine) r given.code;
  size = record {
    count = length-map r.blocks (list_of m c u);
    addresses = subst (λ (n : ℕ). list_all (λ l. list_all (λ x. is_closed n (source_of x)) l.items) (selected m c u r) ≡ true) (sym (length-map r.blocks (list_of m c u)))
        (all_map (λ l. list_all (λ x. is_closed (length r.blocks) (source_of x)) l.items) (list_of m c u) r.blocks
        (λ k b is. is_closed_in u m c given.machine given.over given.choice (length r.blocks) b (fits k b is) (words k b is)));
    items = items_size m c u r;
  };
  each = pairs_map _ (list_of m c u) r.blocks (λ k b is. record {
    list = can_list u m c given.machine given.over given.choice (length r.blocks) b (fits k b is) (words k b is);
    live_out = refl;
  });
  straight = all_map (λ l. is_straight m (hub_of m) l.items) (list_of m c u) r.blocks
      (λ k b is. goes_straight u m c given.machine given.over given.choice (length r.blocks) b (fits k b is) (words k b is));
  triggers = pairs_map _ (list_of m c u) r.blocks (λ k b is. triggers_no_more u m c given.machine given.over given.choice (length r.blocks) b (fits k b is));
  frame = pairs_map _ (list_of m c u) r.blocks (λ k b is. frames_no_more u m c given.machine given.over given.choice (length r.blocks) b (fits k b is));
  homes = pairs_map _ (list_of m c u) r.blocks (λ k b is. writes_no_more u m c given.machine given.over given.choice (length r.blocks) b (fits k b is));
} where
  frame : (is_some (offered m c.usable Ldf) ≡ true) × (is_some (offered m c.usable Stf) ≡ true)
  frame = and_parts (is_some (offered m c.usable Ldf)) (is_some (offered m c.usable Stf)) given.choice.frame

  fits : (k : ℕ) (b : RBlock) → slice_get r.blocks k ≡ Some b → fits_block u m c (length r.blocks) b ≡ true
  fits k b is = list_all_one (fits_block u m c (length r.blocks)) r.blocks k b given.code.blocks is

  words : (k : ℕ) (b : RBlock) → slice_get r.blocks k ≡ Some b → word_block b ≡ true
  words k b is = list_all_one word_block r.blocks k b given.code.words is

-- lists that are the selected ones
pub these_select : (u : Units) (m : Machine) (c : Choice) (r : Rir) (lists : List BlockList) → lists ≡ selected m c u r
    → IsGiven u m c r → IsSelection u m c r lists
these_select u m c r lists same given = subst (IsSelection u m c r) (sym same) (selects u m c r given)
