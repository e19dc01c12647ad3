-- Sums over the items of a step, by what its ways and moves count for.
use Rattle.std.proofs.Common.{◌≡◌, ◌≤◌, ◌+◌, ℕ, Bool, true, false, List, [], ◌∷◌, ◌++◌, Option, Some, None, sym, subst, arith}
use Rattle.std.specs.Prelude.{if◌then◌else◌, ◌==◌}
use Rattle.std.specs.List.{flat_map, sum_by, list_all}
use Rattle.std.proofs.lemmas.Bool.{and_parts}
use Rattle.std.proofs.lemmas.List.Sums.{sum_by-append, sum_by-cons}
use Rattle.tta_select.specs.Cited.{Units, GuardRef, Dest, Op, Ldw, Stw, Ldf, Stf, Out, Set, Machine, Choice, Call, Rel, ItemSource, Port, LongValue, Item, Frame, RSrc, RStep, Copy, Apply, Load, Store, Put, When, SaveRa, RBlock}
use Rattle.tta_arch.specs.declared.ends.Source.TheVariants as source
use Rattle.tta_arch.specs.declared.ends.Dest.TheVariants as dest
use Rattle.tta_arch.specs.declared.parts.Op.TheVariants.{Take as TakeIn}
use Rattle.tta_moves.specs.declared.items.LongValue.TheVariants as long
use Rattle.tta_lir.specs.declared.code.Place.{Place as RPlace}
use Rattle.tta_lir.specs.declared.code.Place.TheVariants.{Reg}
use Rattle.tta_lir.specs.declared.code.RSrc.TheVariants as rsrc
use Rattle.tta_lir.specs.declared.code.RStep.TheVariants.{Take}
use Rattle.tta_lir.specs.declared.code.Exit.{Exit as RExit}
use Rattle.tta_lir.specs.declared.code.Exit.TheVariants as rexit
use Rattle.tta_select.specs.Select.{goes, call_of, operand_at, trigger_at, shown_at, hub_at, from_hub, home_at, from_home, guard_at, constant, carry, fetch, value, reaches, operate, address_slot, result, merged, brings_old, choose, condition, guard_of_rel, test_op, items_of_step, items_of_exit, items_of_block}

module _ (m : Machine) (c : Choice) (u : Units) (p : Dest → ℕ) (kc kr km : ℕ) where
  -- what the ways of operands and results count for
  abbrev pub trigger_cost : Op → ℕ
  trigger_cost op = p (trigger_at (call_of m c op))

  abbrev pub operand_cost : Op → ℕ
  operand_cost op = p (operand_at (call_of m c op))

  abbrev pub src_cost : RSrc → ℕ
  src_cost (rsrc.Word w) = kc
  src_cost (rsrc.At (Reg k)) = kr
  src_cost (rsrc.At (Frame slot)) = kc + trigger_cost Ldf + kr

  abbrev pub address_cost : ℕ
  address_cost = kc + operand_cost Stf

  abbrev pub result_cost : RPlace → ℕ
  result_cost (Reg k) = kr + p (home_at m c k)
  result_cost (Frame slot) = address_cost + (kr + trigger_cost Stf)

  abbrev pub merged_cost : RPlace → ℕ
  merged_cost (Reg k) = km + p (home_at m c k)
  merged_cost (Frame slot) = address_cost + (km + trigger_cost Stf)

  abbrev pub old_cost : RPlace → ℕ
  old_cost (Reg k) = km
  old_cost (Frame slot) = kc + trigger_cost Ldf + kr

  abbrev pub copy_cost : RPlace → ℕ
  copy_cost (Reg k) = p (home_at m c k)
  copy_cost (Frame slot) = address_cost + trigger_cost Stf

  abbrev pub operate_cost : Op → (a b : RSrc) → ℕ
  operate_cost op a b = src_cost a + operand_cost op + (src_cost b + trigger_cost op)

  abbrev pub condition_cost : Rel → (a b : RSrc) → ℕ
  condition_cost rel a b = operate_cost (test_op u rel) a b + (kr + p (guard_at m c))

  abbrev pub choose_cost : RSrc → RPlace → ℕ
  choose_cost s d = old_cost d + p (hub_at m c 1) + (src_cost s + p (hub_at m c 1) + merged_cost d)

  abbrev pub step_cost : RStep → ℕ
  step_cost (Copy d s) = src_cost s + copy_cost d
  step_cost (Apply d op a b) = operate_cost (Set op) a b + result_cost d
  step_cost (Load d a) = src_cost a + trigger_cost Ldw + result_cost d
  step_cost (Take d) = kc + trigger_cost TakeIn + result_cost d
  step_cost (Store a v) = src_cost a + operand_cost Stw + (src_cost v + trigger_cost Stw)
  step_cost (Put v) = src_cost v + trigger_cost Out
  step_cost (When rel a b d s) = condition_cost rel a b + choose_cost s d
  step_cost (SaveRa slot) = address_cost + (kr + trigger_cost Stf)

  abbrev pub exit_cost : RExit → ℕ
  exit_cost rexit.Next = 0
  exit_cost (rexit.Goto to) = kc + p dest.Jump
  exit_cost (rexit.If rel a b to) = condition_cost rel a b + (kc + p dest.Jump)
  exit_cost (rexit.Invoke to) = kc + p dest.Call
  exit_cost (rexit.Back slot) = kc + trigger_cost Ldf + (kr + p dest.Jump)
  exit_cost rexit.Halt = kc + p dest.Halt

  module _ (f : Item → ℕ)
      (hc : (guard : Option GuardRef) (v : LongValue) (dst : Dest) → sum_by f (constant m c guard v dst) ≤ kc + p dst)
      (hr : (guard : Option GuardRef) (src : ItemSource) (dst : Dest) → sum_by f (carry m c guard src dst) ≤ kr + p dst)
      (hm : (src : ItemSource) (dst : Dest) → f (goes src dst) ≤ km + p dst) where
    -- the sum over some items is at most a number
    pub record Sum (xs : List Item) (n : ℕ) : Type 0 where
      pub most : sum_by f xs ≤ n

    pub less_or : {xs : List Item} {i : ℕ} (j : ℕ) → Sum xs i → i ≤ j → Sum xs j
    less_or {xs} {i} j a low = let e : sum_by f xs ≤ i = a.most in record { most = omega (arith, e, low) }

    -- two lists in a row
    pub both : {xs ys : List Item} {i j : ℕ} → Sum xs i → Sum ys j → Sum (xs ++ ys) (i + j)
    both {xs} {ys} {i} {j} a b = record { most = let e : sum_by f (xs ++ ys) ≡ sum_by f xs + sum_by f ys = sum_by-append f xs ys in let x : sum_by f xs ≤ i = a.most in let y : sum_by f ys ≤ j = b.most in omega (arith, x, y, e) }

    pub const : (guard : Option GuardRef) (v : LongValue) (dst : Dest) → Sum (constant m c guard v dst) (kc + p dst)
    const guard v dst = record { most = hc guard v dst }

    carried : (guard : Option GuardRef) (src : ItemSource) (dst : Dest) → Sum (carry m c guard src dst) (kr + p dst)
    carried guard src dst = record { most = hr guard src dst }

    nothing : (n : ℕ) → Sum [] n
    nothing n = record { most = omega arith }

    one_move : (src : ItemSource) (dst : Dest) → Sum (goes src dst ∷ []) (km + p dst)
    one_move src dst = record { most = let a = hm src dst in let e : 0 + f (goes src dst) ≡ f (goes src dst) = omega arith in subst (λ n. n ≤ km + p dst) (sym e) a }

    fetch_counts : (guard : Option GuardRef) (slot : ℕ) (dst : Dest) → Sum (fetch m c guard slot dst) (kc + trigger_cost Ldf + (kr + p dst))
    fetch_counts guard slot dst = both (const None (long.Word slot) (trigger_at (call_of m c Ldf))) (carried guard (shown_at (call_of m c Ldf)) dst)

    value_counts : (guard : Option GuardRef) (o : RSrc) (dst : Dest) → Sum (value m c guard o dst) (src_cost o + p dst)
    value_counts guard (rsrc.Word w) dst = const guard (long.Word w) dst
    value_counts guard (rsrc.At (Reg k)) dst = carried guard (from_home m c k) dst
    value_counts guard (rsrc.At (Frame slot)) dst = less_or _ (fetch_counts guard slot dst) (omega arith)

    operate_counts : (op : Op) (a b : RSrc) → Sum (operate m c (call_of m c op) a b) (operate_cost op a b)
    operate_counts op a b = both (on ((call_of m c op).does.arity == 2)) (value_counts None b (trigger_at (call_of m c op))) where
      on : (t : Bool) → Sum (if t then value m c None a (operand_at (call_of m c op)) else []) (src_cost a + operand_cost op)
      on true = value_counts None a (operand_at (call_of m c op))
      on false = nothing (src_cost a + operand_cost op)

    address_counts : (slot : ℕ) → Sum (address_slot m c slot) address_cost
    address_counts slot = const None (long.Word slot) (operand_at (call_of m c Stf))

    result_counts : (t : Call) (d : RPlace) → Sum (result m c t d) (result_cost d)
    result_counts t (Reg k) = carried None (shown_at t) (home_at m c k)
    result_counts t (Frame slot) = both (address_counts slot) (carried None (shown_at t) (trigger_at (call_of m c Stf)))

    merged_counts : (d : RPlace) → Sum (merged m c d) (merged_cost d)
    merged_counts (Reg k) = one_move (from_hub m c 1) (home_at m c k)
    merged_counts (Frame slot) = both (address_counts slot) (one_move (from_hub m c 1) (trigger_at (call_of m c Stf)))

    old_counts : (d : RPlace) → Sum (brings_old m c d) (old_cost d + p (hub_at m c 1))
    old_counts (Reg k) = one_move (from_home m c k) (hub_at m c 1)
    old_counts (Frame slot) = less_or _ (fetch_counts None slot (hub_at m c 1)) (omega arith)

    merging_counts : (g : GuardRef) (s : RSrc) (d : RPlace) → Sum (brings_old m c d ++ (value m c (Some g) s (hub_at m c 1) ++ merged m c d)) (choose_cost s d)
    merging_counts g s d = both (old_counts d) (both (value_counts (Some g) s (hub_at m c 1)) (merged_counts d))

    choose_counts : (g : GuardRef) (s : RSrc) (d : RPlace) → Sum (choose m c g s d) (choose_cost s d)
    choose_counts g s (Frame slot) = merging_counts g s (Frame slot)
    choose_counts g s (Reg k) = on (reaches m c (Some g) s (home_at m c k)) where
      on : (t : Bool) → Sum (if t then value m c (Some g) s (home_at m c k) else brings_old m c (Reg k) ++ (value m c (Some g) s (hub_at m c 1) ++ merged m c (Reg k))) (choose_cost s (Reg k))
      on true = less_or _ (value_counts (Some g) s (home_at m c k)) (omega arith)
      on false = merging_counts g s (Reg k)

    pub condition_counts : (rel : Rel) (a b : RSrc) → Sum (condition m c u rel a b) (condition_cost rel a b)
    condition_counts rel a b = both (operate_counts (test_op u rel) a b) (carried None (shown_at (call_of m c (test_op u rel))) (guard_at m c))

    pub step_counts : (r : RStep) → Sum (items_of_step m c u r) (step_cost r)
    step_counts (Copy (Reg k) s) = value_counts None s (home_at m c k)
    step_counts (Copy (Frame slot) s) = less_or _ (both (address_counts slot) (value_counts None s (trigger_at (call_of m c Stf)))) (omega arith)
    step_counts (Apply d op a b) = both (operate_counts (Set op) a b) (result_counts (call_of m c (Set op)) d)
    step_counts (Load d a) = both (value_counts None a (trigger_at (call_of m c Ldw))) (result_counts (call_of m c Ldw) d)
    step_counts (Take d) = both (const None (long.Word 0) (trigger_at (call_of m c TakeIn))) (result_counts (call_of m c TakeIn) d)
    step_counts (Store a v) = both (value_counts None a (operand_at (call_of m c Stw))) (value_counts None v (trigger_at (call_of m c Stw)))
    step_counts (Put v) = value_counts None v (trigger_at (call_of m c Out))
    step_counts (When rel a b d s) = both (condition_counts rel a b) (choose_counts (guard_of_rel m c u rel) s d)
    step_counts (SaveRa slot) = both (address_counts slot) (carried None (Port source.Ra) (trigger_at (call_of m c Stf)))

    pub exit_counts : (e : RExit) → Sum (items_of_exit m c u e) (exit_cost e)
    exit_counts rexit.Next = nothing 0
    exit_counts (rexit.Goto to) = const None (long.Address to) dest.Jump
    exit_counts (rexit.If rel a b to) = both (condition_counts rel a b) (const (Some (guard_of_rel m c u rel)) (long.Address to) dest.Jump)
    exit_counts (rexit.Invoke to) = const None (long.Address to) dest.Call
    exit_counts (rexit.Back slot) = fetch_counts None slot dest.Jump
    exit_counts rexit.Halt = const None (long.Word 0) dest.Halt

    pub steps_count : (fits : RStep → Bool) (w : RStep → ℕ) → ((r : RStep) → fits r ≡ true → step_cost r ≤ w r) → (rs : List RStep) → list_all fits rs ≡ true
        → Sum (flat_map (items_of_step m c u) rs) (sum_by w rs)
    steps_count fits w less [] all = nothing 0
    steps_count fits w less (r ∷ rs) all =
        let a = and_parts (fits r) (list_all fits rs) all in
        less_or _ (both (less_or (w r) (step_counts r) (less r a.0)) (steps_count fits w less rs a.1)) (let e : sum_by w (r ∷ rs) ≡ w r + sum_by w rs = sum_by-cons w r rs in omega (arith, e))

    -- a block, where the cost of each of its steps is at most a weight
    pub block_counts : (fits : RStep → Bool) (w : RStep → ℕ) (e : ℕ) → ((r : RStep) → fits r ≡ true → step_cost r ≤ w r) → (b : RBlock) → list_all fits b.steps ≡ true → exit_cost b.exit ≤ e
        → sum_by f (items_of_block m c u b) ≤ sum_by w b.steps + e
    unfolding items_of_block
    block_counts fits w e less b all low = (both (steps_count fits w less b.steps all) (less_or e (exit_counts b.exit) low)).most
