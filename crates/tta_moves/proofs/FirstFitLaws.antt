-- A first fit respects its list.
use Rattle.std.proofs.Common.{◌≡◌, ℕ, zero, suc, ◌+◌, ◌<◌, ◌≤◌, Bool, true, List, [], ◌∷◌, ◌++◌, length, get_or, Option, Some, None, refl, sym, ap, subst, arith, ◌∙◌, take, map, filter, append-nil}
use Rattle.std.specs.Prelude.{slice_get, ◌==◌, ◌&&◌, nat_le, count_by}
use Rattle.std.specs.List.{range_with_len}
use Rattle.std.proofs.lemmas.Bool.{and_from, le-leb, eqb-true}
use Rattle.std.proofs.lemmas.List.{take_all}
use Rattle.std.proofs.lemmas.List.Elements.{filter-append}
use Rattle.std.proofs.lemmas.Option.{slice_get-get_or}
use Rattle.tta_moves.specs.Cited.{Machine, Ends, Slots, ends_of, all_slots, keeps_taken, is_joined, has_reads, has_writes, are_apart, can_move, reads_file, reads_imm, writes_file}
use Rattle.tta_moves.specs.declared.items.Item.{Item}
use Rattle.tta_moves.specs.declared.items.PlacedItem.{PlacedItem}
use Rattle.tta_moves.specs.declared.items.Placed.{Placed}
use Rattle.tta_moves.specs.Slots.{fits_cycle}
use Rattle.tta_moves.specs.Bounds.{Respects, in_cycle}
use Rattle.tta_moves.specs.FirstFit.{FitsFirst, IsFirstFit}
use Rattle.tta_moves.proofs.Places.{either}
use Rattle.tta_arch.proofs.Below.{all_below-true as below_all}

-- ---- a cycle without items

idle : List ℕ → Slots
idle [] = []
idle (n ∷ ns) = None ∷ idle ns

idle_is : (ns : List ℕ) → map (λ bus. None) ns ≡ idle ns
unfolding idle
idle_is [] = refl
idle_is (n ∷ ns) = ap (λ l. None ∷ l) (idle_is ns)

idle_ends : (ns : List ℕ) → ends_of (idle ns) ≡ []
unfolding idle
idle_ends [] = refl
idle_ends (n ∷ ns) = idle_ends ns

idle_slots : (test : ℕ → Option Ends → Bool) (bus : ℕ) (ns : List ℕ) → ((k : ℕ) → test k None ≡ true) → all_slots test bus (idle ns) ≡ true
unfolding idle
idle_slots test bus [] h = refl
idle_slots test bus (n ∷ ns) h = and_from (test bus None) _ (h bus) (idle_slots test (bus + 1) ns h)

none_counts : (p : Ends → Bool) (vs : List Ends) (limit : ℕ) → vs ≡ [] → nat_le (count_by p vs) limit ≡ true
none_counts p vs limit e = rw e (le-leb 0 limit (omega arith))

pub nothing_fits : (m : Machine) → fits_cycle m [] ≡ true
unfolding fits_cycle can_move
nothing_fits m = rw (idle_is (range_with_len 0 (length m.buses))) (all (range_with_len 0 (length m.buses))) where
  all : (ns : List ℕ) → (keeps_taken 0 (idle ns) && is_joined m (idle ns) && has_reads m (idle ns) && has_writes m (idle ns) && are_apart (ends_of (idle ns))) ≡ true
  all ns =
      let none = idle_ends ns in
      and_from (keeps_taken 0 (idle ns) && is_joined m (idle ns) && has_reads m (idle ns) && has_writes m (idle ns)) (are_apart (ends_of (idle ns)))
      (and_from (keeps_taken 0 (idle ns) && is_joined m (idle ns) && has_reads m (idle ns)) (has_writes m (idle ns))
      (and_from (keeps_taken 0 (idle ns) && is_joined m (idle ns)) (has_reads m (idle ns))
      (and_from (keeps_taken 0 (idle ns)) (is_joined m (idle ns)) (idle_slots _ 0 ns (λ k. refl)) (idle_slots _ 0 ns (λ k. refl)))
      (and_from _ _ (below_all _ (length m.files) (λ f. none_counts (λ v. reads_file f v.src) (ends_of (idle ns)) _ none))
      (below_all _ (length m.imms) (λ u. none_counts (λ v. reads_imm u v.src) (ends_of (idle ns)) 1 none))))
      (below_all _ (length m.files) (λ f. none_counts (λ v. writes_file f v.dst) (ends_of (idle ns)) _ none)))
      (rw none refl)

-- ---- each cycle

cycle_fits : (m : Machine) (ps : List PlacedItem) → ((k : ℕ) (x : PlacedItem) → slice_get ps k ≡ Some x → FitsFirst m (take k ps) x) → (cycle n : ℕ) → n ≤ length ps → fits_cycle m (in_cycle cycle (take n ps)) ≡ true
cycle_fits m ps first cycle zero le = nothing_fits m
cycle_fits m [] first cycle (suc n) le = absurd (omega arith)
cycle_fits m (p ∷ qs) first cycle (suc n) le =
    let ps : List PlacedItem = p ∷ qs in
    let x : PlacedItem = get_or ps n p in
    let here : slice_get ps n ≡ Some x = slice_get-get_or ps n p (omega arith) in
    let more : take (suc n) ps ≡ take n ps ++ x ∷ [] = taken ps n p (omega arith) in
    let split : in_cycle cycle (take (suc n) ps) ≡ in_cycle cycle (take n ps) ++ filter (λ y. y.cycle == cycle) (x ∷ []) =
    ap (λ l. in_cycle cycle l) more ∙ filter-append (λ y. y.cycle == cycle) (take n ps) (x ∷ []) in
    subst (λ l. fits_cycle m l ≡ true) (sym split)
    (either (x.cycle == cycle)
    (λ s. rw s (subst (λ k. fits_cycle m (in_cycle k (take n ps) ++ x ∷ []) ≡ true) (eqb-true x.cycle cycle s) (first n x here).fits))
    (λ s. rw s (rw (append-nil (in_cycle cycle (take n ps))) (cycle_fits m ps first cycle n (omega arith))))) where
      taken : (xs : List PlacedItem) (n : ℕ) (d : PlacedItem) → n < length xs → take (suc n) xs ≡ take n xs ++ get_or xs n d ∷ []
      taken [] n d lt = absurd (omega arith)
      taken (x ∷ xs) zero d lt = refl
      taken (x ∷ xs) (suc n) d lt = ap (λ l. x ∷ l) (taken xs n d (omega arith))

pub first_fit_respects : (m : Machine) (items : List Item) (p : Placed) → IsFirstFit m items p → Respects m items p
first_fit_respects m items p f = record {
  order = f.order;
  bounds = λ k x e. (f.first k x e).bound;
  cycles = λ cycle. subst (λ l. fits_cycle m (in_cycle cycle l) ≡ true) (take_all (length p.items) p.items (omega arith)) (cycle_fits m p.items f.first cycle (length p.items) (omega arith));
  long = f.long;
}
