-- Control is only last, and lists are short.
use Rattle.std.proofs.Common.{◌≡◌, ◌≤◌, ◌+◌, ◌*◌, Bool, true, false, List, [], ◌∷◌, ◌++◌, Option, Some, None, refl, arith, ◌∙◌, length}
use Rattle.std.specs.Prelude.{if◌then◌else◌, ◌&&◌, ◌||◌, not, nat_le}
use Rattle.std.specs.List.{flat_map, list_all, sum_by}
use Rattle.std.proofs.lemmas.Bool.Decides.{nat_tests}
use Rattle.std.proofs.lemmas.List.Sums.{sum_by-cons}
use Rattle.tta_select.specs.Cited.{Units, GuardRef, Dest, Ldf, Machine, Choice, ItemSource, LongValue, Item, Move, source_of_long, controls, joined, control_is_last, RSrc, RStep, Copy, Apply, Load, Store, Put, When, SaveRa, RBlock, weight_step, weight_exit}
use Rattle.tta_arch.specs.declared.parts.Template.{Template as Field}
use Rattle.tta_arch.specs.declared.ends.Dest.TheVariants as dest
use Rattle.tta_moves.specs.declared.items.LongValue.TheVariants as long
use Rattle.tta_moves.specs.Touches.{is_control}
use Rattle.tta_lir.specs.declared.code.Place.{Place as RPlace}
use Rattle.tta_lir.specs.declared.code.Place.TheVariants as place
use Rattle.tta_lir.specs.declared.code.RSrc.TheVariants as rsrc
use Rattle.tta_lir.specs.declared.code.RStep.TheVariants.{Take}
use Rattle.tta_lir.specs.declared.code.Exit.{Exit as RExit}
use Rattle.tta_lir.specs.declared.code.Exit.TheVariants as rexit
use Rattle.tta_select.specs.Select.{filled, call_of, trigger_at, shown_at, hub_at, from_hub, long_for, through_hub, long_hub, long_way, constant, carry, condition, guard_of_rel, items_of_step, items_of_exit, items_of_block}
use Rattle.tta_select.proofs.Counting.{step_cost, src_cost, result_cost, condition_counts, steps_count}
use Rattle.tta_select.proofs.Counted.{counted_item, counted_dest, constant_counts, carry_counts, move_counts}
use Rattle.tta_select.proofs.Sizes.{block_size}

-- ---- items without control

none_then : (xs ys : List Item) → sum_by (counted_item controls) xs ≤ 0 → control_is_last (xs ++ ys) ≡ control_is_last ys
none_then [] ys e = refl
none_then (x ∷ xs) ys e = on (is_control x) refl (λ r. none_then xs ys r) where
  cons : sum_by (counted_item controls) (x ∷ xs) ≡ counted_item controls x + sum_by (counted_item controls) xs
  cons = sum_by-cons (counted_item controls) x xs

  some : (is_control x ≡ true) → ⊥
  some t = let one : counted_item controls x ≡ 1 = rw t refl in let c = cons in omega (arith, e, c, one)

  rest : sum_by (counted_item controls) xs ≤ 0
  rest = let c = cons in omega (arith, e, c)

  on : (b : Bool) → is_control x ≡ b → (sum_by (counted_item controls) xs ≤ 0 → control_is_last (xs ++ ys) ≡ control_is_last ys) → control_is_last (x ∷ xs ++ ys) ≡ control_is_last ys
  on true t ih = absurd (some t)
  on false t ih = rw t (ih rest)

or_true : (b : Bool) → ((b || true) && true) ≡ true
or_true true = refl
or_true false = refl

module _ (m : Machine) (c : Choice) where
  -- a move that is last
  last_move : (guard : Option GuardRef) (src : ItemSource) (dst : Dest) → control_is_last (Move guard src dst ∷ []) ≡ true
  last_move guard src dst = or_true (not (is_control (Move guard src dst)))

  last_long_hub : (guard : Option GuardRef) (v : LongValue) (dst : Dest) (o : Option Field) → control_is_last (long_hub m c guard v dst o) ≡ true
  last_long_hub guard v dst None = last_move guard (source_of_long v) dst
  last_long_hub guard v dst (Some t) = last_move guard (from_hub m c 0) dst

  last_long : (guard : Option GuardRef) (v : LongValue) (dst : Dest) (o : Option Field) → control_is_last (long_way m c guard v dst o) ≡ true
  last_long guard v dst None = last_long_hub guard v dst (long_for m c (hub_at m c 0) None)
  last_long guard v dst (Some t) = last_move guard (filled t) dst

  last_constant : (guard : Option GuardRef) (v : LongValue) (dst : Dest) → control_is_last (constant m c guard v dst) ≡ true
  last_constant guard v dst = on (joined m (source_of_long v) dst guard) (joined m (from_hub m c 0) dst guard && joined m (source_of_long v) (hub_at m c 0) None) where
    on : (a b : Bool) → control_is_last (if a then Move guard (source_of_long v) dst ∷ [] else if b then through_hub m c guard (source_of_long v) dst else long_way m c guard v dst (long_for m c dst guard)) ≡ true
    on true b = last_move guard (source_of_long v) dst
    on false true = last_move guard (from_hub m c 0) dst
    on false false = last_long guard v dst (long_for m c dst guard)

  last_carry : (guard : Option GuardRef) (src : ItemSource) (dst : Dest) → control_is_last (carry m c guard src dst) ≡ true
  last_carry guard src dst = on (joined m src dst guard) where
    on : (a : Bool) → control_is_last (if a then Move guard src dst ∷ [] else through_hub m c guard src dst) ≡ true
    on true = last_move guard src dst
    on false = last_move guard (from_hub m c 0) dst

  module _ (u : Units) where
    src_none : (o : RSrc) → src_cost m c u (counted_dest controls) 0 0 0 o ≡ 0
    src_none (rsrc.Word w) = refl
    src_none (rsrc.At (place.Reg k)) = refl
    src_none (rsrc.At (place.Frame f)) = refl

    result_none : (d : RPlace) → result_cost m c u (counted_dest controls) 0 0 0 d ≡ 0
    result_none (place.Reg k) = refl
    result_none (place.Frame f) = refl

    step_none : (r : RStep) → step_cost m c u (counted_dest controls) 0 0 0 r ≤ 0
    step_none (Copy (place.Reg k) s) = let a = src_none s in omega (arith, a)
    step_none (Copy (place.Frame f) s) = let a = src_none s in omega (arith, a)
    step_none (Apply d op a b) = let x = src_none a in let y = src_none b in let z = result_none d in omega (arith, x, y, z)
    step_none (Load d a) = let x = src_none a in let z = result_none d in omega (arith, x, z)
    step_none (Take d) = let z = result_none d in omega (arith, z)
    step_none (Store a v) = let x = src_none a in let y = src_none v in omega (arith, x, y)
    step_none (Put v) = let x = src_none v in omega (arith, x)
    step_none (When rel a b (place.Reg k) s) = let x = src_none a in let y = src_none b in let w = src_none s in omega (arith, x, y, w)
    step_none (When rel a b (place.Frame f) s) = let x = src_none a in let y = src_none b in let w = src_none s in omega (arith, x, y, w)
    step_none (SaveRa slot) = omega arith

    zeros : (rs : List RStep) → sum_by (λ r. 0) rs ≡ 0
    zeros [] = refl
    zeros (r ∷ rs) = let ih = zeros rs in let e : sum_by (λ r. 0) (r ∷ rs) ≡ 0 + sum_by (λ r. 0) rs = sum_by-cons (λ r. 0) r rs in omega (arith, ih, e)

    all_fit : (rs : List RStep) → list_all (λ r. true) rs ≡ true
    all_fit [] = refl
    all_fit (r ∷ rs) = all_fit rs

    -- the items of steps have no control
    steps_then : (rs : List RStep) (ys : List Item) → control_is_last (flat_map (items_of_step m c u) rs ++ ys) ≡ control_is_last ys
    steps_then rs ys =
        let a = steps_count m c u (counted_dest controls) 0 0 0 (counted_item controls) (constant_counts m c controls refl (λ i k. refl)) (carry_counts m c controls refl (λ i k. refl)) (move_counts m c controls refl (λ i k. refl))
        (λ r. true) (λ r. 0) (λ r e. step_none r) rs (all_fit rs) in
        none_then (flat_map (items_of_step m c u) rs) ys (let b = a.most in let z = zeros rs in omega (arith, b, z))

    exit_last : (e : RExit) → control_is_last (items_of_exit m c u e) ≡ true
    exit_last rexit.Next = refl
    exit_last (rexit.Goto to) = last_constant None (long.Address to) dest.Jump
    exit_last (rexit.If rel a b to) =
        let n = condition_counts m c u (counted_dest controls) 0 0 0 (counted_item controls) (constant_counts m c controls refl (λ i k. refl)) (carry_counts m c controls refl (λ i k. refl)) (move_counts m c controls refl (λ i k. refl)) rel a b in
        let x = src_none a in let y = src_none b in
        none_then (condition m c u rel a b) (constant m c (Some (guard_of_rel m c u rel)) (long.Address to) dest.Jump) (let k = n.most in omega (arith, k, x, y))
        ∙ last_constant (Some (guard_of_rel m c u rel)) (long.Address to) dest.Jump
    exit_last (rexit.Invoke to) = last_constant None (long.Address to) dest.Call
    exit_last (rexit.Back slot) =
        none_then (constant m c None (long.Word slot) (trigger_at (call_of m c Ldf))) (carry m c None (shown_at (call_of m c Ldf)) dest.Jump)
        (constant_counts m c controls refl (λ i k. refl) None (long.Word slot) (trigger_at (call_of m c Ldf)))
        ∙ last_carry None (shown_at (call_of m c Ldf)) dest.Jump
    exit_last rexit.Halt = last_constant None (long.Word 0) dest.Halt

    -- control is last in a block
    pub block_last : (b : RBlock) → control_is_last (items_of_block m c u b) ≡ true
    unfolding items_of_block
    block_last b = steps_then b.steps (items_of_exit m c u b.exit) ∙ exit_last b.exit

    -- ---- length

    step_weight : (r : RStep) → weight_step r ≤ 32
    step_weight (Copy d s) = omega arith
    step_weight (Apply d op a b) = omega arith
    step_weight (Load d a) = omega arith
    step_weight (Take d) = omega arith
    step_weight (Store a v) = omega arith
    step_weight (Put v) = omega arith
    step_weight (When rel a b d s) = omega arith
    step_weight (SaveRa slot) = omega arith

    steps_weight : (rs : List RStep) → sum_by weight_step rs ≤ 32 * length rs
    steps_weight [] = omega arith
    steps_weight (r ∷ rs) = let ih = steps_weight rs in let w = step_weight r in let e : sum_by weight_step (r ∷ rs) ≡ weight_step r + sum_by weight_step rs = sum_by-cons weight_step r rs in omega (arith, ih, w, e)

    exit_weight : (e : RExit) → weight_exit e ≤ 16
    exit_weight rexit.Next = omega arith
    exit_weight (rexit.Goto to) = omega arith
    exit_weight (rexit.If rel a b to) = omega arith
    exit_weight (rexit.Invoke to) = omega arith
    exit_weight (rexit.Back slot) = omega arith
    exit_weight rexit.Halt = omega arith

    -- a list is short where its block is
    pub block_short : (b : RBlock) → length b.steps ≤ 262144 → nat_le (length (items_of_block m c u b)) 16777216 ≡ true
    block_short b few = let a = block_size m c u b in let s = steps_weight b.steps in let e = exit_weight b.exit in let low : length (items_of_block m c u b) ≤ 16777216 = omega (arith, a, s, e, few) in grind (arith, nat_tests)
