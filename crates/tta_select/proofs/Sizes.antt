-- How many items lists have.
use Rattle.std.proofs.Common.{◌≡◌, ◌≤◌, ◌+◌, ℕ, Bool, true, false, List, [], ◌∷◌, Option, Some, None, refl, sym, subst, arith, length, map}
use Rattle.std.specs.Prelude.{if◌then◌else◌, ◌&&◌}
use Rattle.std.specs.List.{list_all, sum_by}
use Rattle.std.proofs.lemmas.List.Sums.{sum_by-cons}
use Rattle.tta_select.specs.Cited.{Units, GuardRef, Dest, Machine, Choice, ItemSource, LongValue, Item, Move, source_of_long, joined, RSrc, RStep, Copy, Apply, Load, Store, Put, When, SaveRa, RBlock, Rir, weight_step, weight_exit, weight_block, weight}
use Rattle.tta_arch.specs.declared.parts.Template.{Template as Field}
use Rattle.tta_lir.specs.declared.code.Place.{Place as RPlace}
use Rattle.tta_lir.specs.declared.code.Place.TheVariants as place
use Rattle.tta_lir.specs.declared.code.RSrc.TheVariants as rsrc
use Rattle.tta_lir.specs.declared.code.RStep.TheVariants.{Take}
use Rattle.tta_lir.specs.declared.code.Exit.{Exit as RExit}
use Rattle.tta_lir.specs.declared.code.Exit.TheVariants as rexit
use Rattle.tta_select.specs.Select.{goes, hub_at, from_hub, long_for, through_hub, long_hub, long_way, constant, carry, items_of_block, list_of, selected}
use Rattle.tta_select.specs.Counts.{items_in}
use Rattle.tta_select.proofs.Counting.{step_cost, exit_cost, src_cost, result_cost, block_counts}
use Rattle.tta_list.proofs.Lists.{length_ones}

-- each item counts for one
abbrev one : Item → ℕ
one x = 1

module _ (m : Machine) (c : Choice) where
  long_hub_size : (guard : Option GuardRef) (v : LongValue) (dst : Dest) (o : Option Field) → sum_by one (long_hub m c guard v dst o) ≤ 3 + 0
  long_hub_size guard v dst None = omega arith
  long_hub_size guard v dst (Some t) = omega arith

  long_size : (guard : Option GuardRef) (v : LongValue) (dst : Dest) (o : Option Field) → sum_by one (long_way m c guard v dst o) ≤ 3 + 0
  long_size guard v dst None = long_hub_size guard v dst (long_for m c (hub_at m c 0) None)
  long_size guard v dst (Some t) = omega arith

  constant_size : (guard : Option GuardRef) (v : LongValue) (dst : Dest) → sum_by one (constant m c guard v dst) ≤ 3 + 0
  constant_size guard v dst = on (joined m (source_of_long v) dst guard) (joined m (from_hub m c 0) dst guard && joined m (source_of_long v) (hub_at m c 0) None) where
    on : (a b : Bool) → sum_by one (if a then Move guard (source_of_long v) dst ∷ [] else if b then through_hub m c guard (source_of_long v) dst else long_way m c guard v dst (long_for m c dst guard)) ≤ 3 + 0
    on true b = omega arith
    on false true = omega arith
    on false false = long_size guard v dst (long_for m c dst guard)

  carry_size : (guard : Option GuardRef) (src : ItemSource) (dst : Dest) → sum_by one (carry m c guard src dst) ≤ 2 + 0
  carry_size guard src dst = on (joined m src dst guard) where
    on : (a : Bool) → sum_by one (if a then Move guard src dst ∷ [] else through_hub m c guard src dst) ≤ 2 + 0
    on true = omega arith
    on false = omega arith

  move_size : (src : ItemSource) (dst : Dest) → one (goes src dst) ≤ 1 + 0
  move_size src dst = omega arith

  module _ (u : Units) where
    src_size : (o : RSrc) → src_cost m c u (λ d. 0) 3 2 1 o ≤ 5
    src_size (rsrc.Word w) = omega arith
    src_size (rsrc.At (place.Reg k)) = omega arith
    src_size (rsrc.At (place.Frame f)) = omega arith

    result_size : (d : RPlace) → result_cost m c u (λ d. 0) 3 2 1 d ≤ 5
    result_size (place.Reg k) = omega arith
    result_size (place.Frame f) = omega arith

    step_size : (r : RStep) → step_cost m c u (λ d. 0) 3 2 1 r ≤ weight_step r
    step_size (Copy (place.Reg k) s) = let a = src_size s in omega (arith, a)
    step_size (Copy (place.Frame f) s) = let a = src_size s in omega (arith, a)
    step_size (Apply d op a b) = let x = src_size a in let y = src_size b in let z = result_size d in omega (arith, x, y, z)
    step_size (Load d a) = let x = src_size a in let z = result_size d in omega (arith, x, z)
    step_size (Take d) = let z = result_size d in omega (arith, z)
    step_size (Store a v) = let x = src_size a in let y = src_size v in omega (arith, x, y)
    step_size (Put v) = let x = src_size v in omega (arith, x)
    step_size (When rel a b (place.Reg k) s) = let x = src_size a in let y = src_size b in let w = src_size s in omega (arith, x, y, w)
    step_size (When rel a b (place.Frame f) s) = let x = src_size a in let y = src_size b in let w = src_size s in omega (arith, x, y, w)
    step_size (SaveRa slot) = omega arith

    exit_size : (e : RExit) → exit_cost m c u (λ d. 0) 3 2 1 e ≤ weight_exit e
    exit_size rexit.Next = omega arith
    exit_size (rexit.Goto to) = omega arith
    exit_size (rexit.If rel a b to) = let x = src_size a in let y = src_size b in omega (arith, x, y)
    exit_size (rexit.Invoke to) = omega arith
    exit_size (rexit.Back slot) = omega arith
    exit_size rexit.Halt = omega arith

    all_fit : (rs : List RStep) → list_all (λ r. true) rs ≡ true
    all_fit [] = refl
    all_fit (r ∷ rs) = all_fit rs

    -- the items of a block are at most its weight
    pub block_size : (b : RBlock) → length (items_of_block m c u b) ≤ weight_block b
    block_size b = subst (λ n. n ≤ weight_block b) (sym (length_ones (items_of_block m c u b)))
        (block_counts m c u (λ d. 0) 3 2 1 one constant_size carry_size move_size (λ r. true) weight_step (weight_exit b.exit) (λ r e. step_size r) b (all_fit b.steps) (exit_size b.exit))

    -- and all items those of the register code
    pub items_size : (r : Rir) → items_in (selected m c u r) ≤ weight r
    items_size r = on r.blocks where
      on : (bs : List RBlock) → items_in (map (list_of m c u) bs) ≤ sum_by weight_block bs
      on [] = omega arith
      on (b ∷ bs) =
          let ih = on bs in
          let here = block_size b in
          let e : items_in (map (list_of m c u) (b ∷ bs)) ≡ length (items_of_block m c u b) + items_in (map (list_of m c u) bs) = sum_by-cons (λ b. length b.items) (list_of m c u b) (map (list_of m c u) bs) in
          let d : sum_by weight_block (b ∷ bs) ≡ weight_block b + sum_by weight_block bs = sum_by-cons weight_block b bs in
          omega (arith, ih, here, e, d)
