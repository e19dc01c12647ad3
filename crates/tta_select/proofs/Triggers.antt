-- The triggers of a block's list, and its items.
use Rattle.std.proofs.Common.{◌≡◌, ◌<◌, ◌≤◌, ℕ, Bool, true, false, Option, Some, None, refl, sym, ap, arith, ◌∙◌, length, is_some, slice_get}
use Rattle.std.specs.Prelude.{if◌then◌else◌, ◌==◌}
use Rattle.std.specs.Option.{option_map_or}
use Rattle.std.specs.List.{list_all}
use Rattle.std.proofs.lemmas.Bool.Decides.{nat_tests}
use Rattle.std.proofs.lemmas.Option.{slice_get_within}
use Rattle.tta_select.specs.Cited.{Units, named, Op, Ldw, Stw, Ldf, Stf, Out, Set, Machine, target_of, same_op, is_frame_op, Choice, offered, Rel, RSrc, RStep, Copy, Apply, Load, Store, Put, When, SaveRa, RBlock, names_place, names_src, names_step, names_exit, names, Need, Loads, Stores, Puts, Takes, Named, asks, asks_rstep, asks_exit, counts_test, test_name, StandsOver}
use Rattle.tta_arch.specs.declared.parts.Op.TheVariants.{Take as TakeIn}
use Rattle.tta_lir.specs.declared.code.Place.{Place as RPlace}
use Rattle.tta_lir.specs.declared.code.Place.TheVariants as place
use Rattle.tta_lir.specs.declared.code.RSrc.TheVariants as rsrc
use Rattle.tta_lir.specs.declared.code.RStep.TheVariants.{Take}
use Rattle.tta_lir.specs.declared.code.Exit.{Exit as RExit}
use Rattle.tta_lir.specs.declared.code.Exit.TheVariants as rexit
use Rattle.tta_select.specs.Select.{call_of, trigger_at, test_op, items_of_block}
use Rattle.tta_select.specs.Ground.{IsServed}
use Rattle.tta_select.specs.Needs.{op_of_step, op_of_exit, is_offered}
use Rattle.tta_select.specs.Counts.{targets, is_frame_trigger, is_start_of, is_need}
use Rattle.tta_select.proofs.Offers.{same_op_is}
use Rattle.tta_select.proofs.Values.{does_of}
use Rattle.tta_select.proofs.Counting.{step_cost, exit_cost, src_cost, result_cost, trigger_cost, block_counts}
use Rattle.tta_select.proofs.Counted.{counted_item, counted_dest, constant_counts, carry_counts, move_counts}

-- the operation of a condition that is offered is one of the set of units
pub named_there : (u : Units) (m : Machine) (c : Choice) → StandsOver u m → (rel : Rel) → IsServed m c (test_op u rel) → (id : ℕ) × (named u (test_name rel) ≡ Some id)
named_there u m c over rel served = on (named u (test_name rel)) (over.arities _ _ (does_of m c (test_op u rel)) (record { 0 = option_map_or (λ id. id) (named u (test_name rel)) 65536 }) served.there refl) where
  on : (o : Option ℕ) → slice_get u.arities (option_map_or (λ id. id) o 65536) ≡ Some (does_of m c (test_op u rel)).arity → (id : ℕ) × (o ≡ Some id)
  on (Some id) is = (id, refl)
  on None is =
      let low : 65536 < length u.arities = slice_get_within u.arities 65536 _ is in
      let same : length u.arities ≡ length u.names = u.paired in
      let few : length u.names < 65537 = u.few in
      absurd (omega (arith, low, same, few))

module _ (u : Units) (m : Machine) (c : Choice) (serve : (op : Op) → is_some (offered m c.usable op) ≡ true → IsServed m c op) where
  one_at_most : (b : Bool) → (if b then 1 else 0) ≤ 1
  one_at_most true = omega arith
  one_at_most false = omega arith

  -- ---- the frame space

  frame_cost : Op → ℕ
  frame_cost op = trigger_cost m c u (counted_dest (is_frame_trigger m)) 0 0 0 op

  frame_most : (op : Op) → trigger_cost m c u (counted_dest (is_frame_trigger m)) 0 0 0 op ≤ 1
  frame_most op = one_at_most (is_frame_trigger m (target_of (trigger_at (call_of m c op))))

  frame_zero : (op : Op) → is_offered m c (Some op) ≡ true → is_frame_op op ≡ false → trigger_cost m c u (counted_dest (is_frame_trigger m)) 0 0 0 op ≡ 0
  frame_zero op e no_frame = let there = (serve op e).there in rw (there, no_frame) refl

  frame_src : (o : RSrc) → src_cost m c u (counted_dest (is_frame_trigger m)) 0 0 0 o ≤ names_src o
  frame_src (rsrc.Word w) = omega arith
  frame_src (rsrc.At (place.Reg k)) = omega arith
  frame_src (rsrc.At (place.Frame f)) = let a = frame_most Ldf in omega (arith, a)

  frame_result : (d : RPlace) → result_cost m c u (counted_dest (is_frame_trigger m)) 0 0 0 d ≤ names_place d
  frame_result (place.Reg k) = omega arith
  frame_result (place.Frame f) = let a = frame_most Stf in omega (arith, a)

  frame_less : (r : RStep) → is_offered m c (op_of_step u r) ≡ true → step_cost m c u (counted_dest (is_frame_trigger m)) 0 0 0 r ≤ names_step r
  frame_less (Copy (place.Reg k) s) e = let a = frame_src s in omega (arith, a)
  frame_less (Copy (place.Frame f) s) e = let a = frame_src s in let b = frame_most Stf in omega (arith, a, b)
  frame_less (Apply d op a b) e = let t = frame_zero (Set op) e refl in let x = frame_src a in let y = frame_src b in let z = frame_result d in omega (arith, x, y, z, t)
  frame_less (Load d a) e = let t = frame_zero Ldw e refl in let x = frame_src a in let z = frame_result d in omega (arith, x, z, t)
  frame_less (Take d) e = let t = frame_zero TakeIn e refl in let z = frame_result d in omega (arith, z, t)
  frame_less (Store a v) e = let t = frame_zero Stw e refl in let x = frame_src a in let y = frame_src v in omega (arith, x, y, t)
  frame_less (Put v) e = let t = frame_zero Out e refl in let x = frame_src v in omega (arith, x, t)
  frame_less (When rel a b (place.Reg k) s) e = let t = frame_zero (test_op u rel) e refl in let x = frame_src a in let y = frame_src b in let w = frame_src s in omega (arith, x, y, w, t)
  frame_less (When rel a b (place.Frame f) s) e =
      let t = frame_zero (test_op u rel) e refl in let x = frame_src a in let y = frame_src b in let w = frame_src s in let i = frame_most Ldf in let j = frame_most Stf in
      omega (arith, x, y, w, t, i, j)
  frame_less (SaveRa slot) e = let b = frame_most Stf in omega (arith, b)

  frame_exit : (x : RExit) → is_offered m c (op_of_exit u x) ≡ true → exit_cost m c u (counted_dest (is_frame_trigger m)) 0 0 0 x ≤ names_exit x
  frame_exit rexit.Next e = omega arith
  frame_exit (rexit.Goto to) e = omega arith
  frame_exit (rexit.If rel a b to) e = let t = frame_zero (test_op u rel) e refl in let x = frame_src a in let y = frame_src b in omega (arith, x, y, t)
  frame_exit (rexit.Invoke to) e = omega arith
  frame_exit (rexit.Back slot) e = let a = frame_most Ldf in omega (arith, a)
  frame_exit rexit.Halt e = omega arith

  pub frame_counted : (b : RBlock) → list_all (λ r. is_offered m c (op_of_step u r)) b.steps ≡ true → is_offered m c (op_of_exit u b.exit) ≡ true → targets (is_frame_trigger m) (items_of_block m c u b) ≤ names b
  frame_counted b all e =
      block_counts m c u (counted_dest (is_frame_trigger m)) 0 0 0 (counted_item (is_frame_trigger m)) (constant_counts m c (is_frame_trigger m) refl (λ i k. refl)) (carry_counts m c (is_frame_trigger m) refl (λ i k. refl))
      (move_counts m c (is_frame_trigger m) refl (λ i k. refl)) (λ r. is_offered m c (op_of_step u r)) names_step (names_exit b.exit) (λ r e. frame_less r e) b all (frame_exit b.exit e)

  -- ---- one operation, on all units

  module _ (over : StandsOver u m) (loads : IsServed m c Ldf) (store : IsServed m c Stf) (does : Op) (other : is_frame_op does ≡ false) where
    abbrev op_cost : Op → ℕ
    op_cost op = trigger_cost m c u (counted_dest (is_start_of m does)) 0 0 0 op

    -- what is triggered there is this operation
    is_this : (op : Op) → IsServed m c op → is_start_of m does (target_of (trigger_at (call_of m c op))) ≡ true → op ≡ does
    is_this op served e = let there = served.there in let same : same_op op does ≡ true = rw there at e in same_op_is op does same

    op_at_most : (op : Op) (need : Need) → IsServed m c op → is_need op need ≡ true → op_cost op ≤ (if is_need does need then 1 else 0)
    op_at_most op need served yes_need = on (is_start_of m does (target_of (trigger_at (call_of m c op)))) refl where
      on : (b : Bool) → is_start_of m does (target_of (trigger_at (call_of m c op))) ≡ b → (if b then 1 else 0) ≤ (if is_need does need then 1 else 0)
      on false e = omega arith
      on true e = let same = is_this op served e in let t : is_need does need ≡ true = ap (λ q. is_need q need) (sym same) ∙ yes_need in rw t (omega arith)

    no_frame : (op : Op) → IsServed m c op → is_frame_op op ≡ true → op_cost op ≡ 0
    no_frame op served frame = on (is_start_of m does (target_of (trigger_at (call_of m c op)))) refl where
      on : (b : Bool) → is_start_of m does (target_of (trigger_at (call_of m c op))) ≡ b → ◌≡◌ {A = ℕ} (if b then 1 else 0) 0
      on false e = refl
      on true e = let same = is_this op served e in let t : true ≡ false = sym frame ∙ ap (λ q. is_frame_op q) same ∙ other in absurd cc

    op_src : (s : RSrc) → src_cost m c u (counted_dest (is_start_of m does)) 0 0 0 s ≡ 0
    op_src (rsrc.Word w) = refl
    op_src (rsrc.At (place.Reg r)) = refl
    op_src (rsrc.At (place.Frame f)) = let a = no_frame Ldf loads refl in omega (arith, a)

    op_result : (d : RPlace) → result_cost m c u (counted_dest (is_start_of m does)) 0 0 0 d ≡ 0
    op_result (place.Reg r) = refl
    op_result (place.Frame f) = let a = no_frame Stf store refl in omega (arith, a)

    -- a condition asks for its operation
    test_most : (rel : Rel) → IsServed m c (test_op u rel) → op_cost (test_op u rel) ≤ counts_test u (is_need does) rel
    test_most rel served = on (named u (test_name rel)) (named_there u m c over rel served) (op_at_most (test_op u rel) (Named (option_map_or (λ id. id) (named u (test_name rel)) 65536)) served same) where
      same : (option_map_or (λ id. id) (named u (test_name rel)) 65536 == option_map_or (λ id. id) (named u (test_name rel)) 65536) ≡ true
      same = grind (arith, nat_tests)

      on : (n : Option ℕ) → (id : ℕ) × (n ≡ Some id) → op_cost (test_op u rel) ≤ (if is_need does (Named (option_map_or (λ id. id) n 65536)) then 1 else 0)
          → op_cost (test_op u rel) ≤ option_map_or (λ op. if is_need does (Named op) then 1 else 0) n 0
      on (Some id) a le = le
      on None a le = let b : None ≡ Some a.0 = a.1 in absurd cc

    same_id : (n : ℕ) → (n == n) ≡ true
    same_id n = grind (arith, nat_tests)

    op_less : (r : RStep) → is_offered m c (op_of_step u r) ≡ true → step_cost m c u (counted_dest (is_start_of m does)) 0 0 0 r ≤ asks_rstep u (is_need does) r
    op_less (Copy (place.Reg i) s) e = let a = op_src s in omega (arith, a)
    op_less (Copy (place.Frame f) s) e = let a = op_src s in let b = no_frame Stf store refl in omega (arith, a, b)
    op_less (Apply d op a b) e = let t = op_at_most (Set op) (Named op.0) (serve (Set op) e) (same_id op.0) in let x = op_src a in let y = op_src b in let z = op_result d in omega (arith, x, y, z, t)
    op_less (Load d a) e = let t = op_at_most Ldw Loads (serve Ldw e) refl in let x = op_src a in let z = op_result d in omega (arith, x, z, t)
    op_less (Take d) e = let t = op_at_most TakeIn Takes (serve TakeIn e) refl in let z = op_result d in omega (arith, z, t)
    op_less (Store a v) e = let t = op_at_most Stw Stores (serve Stw e) refl in let x = op_src a in let y = op_src v in omega (arith, x, y, t)
    op_less (Put v) e = let t = op_at_most Out Puts (serve Out e) refl in let x = op_src v in omega (arith, x, t)
    op_less (When rel a b (place.Reg i) s) e = let t = test_most rel (serve (test_op u rel) e) in let x = op_src a in let y = op_src b in let w = op_src s in omega (arith, x, y, w, t)
    op_less (When rel a b (place.Frame f) s) e =
        let t = test_most rel (serve (test_op u rel) e) in let x = op_src a in let y = op_src b in let w = op_src s in let i = no_frame Ldf loads refl in let j = no_frame Stf store refl in
        omega (arith, x, y, w, t, i, j)
    op_less (SaveRa slot) e = let b = no_frame Stf store refl in omega (arith, b)

    op_exit : (x : RExit) → is_offered m c (op_of_exit u x) ≡ true → exit_cost m c u (counted_dest (is_start_of m does)) 0 0 0 x ≤ asks_exit u (is_need does) x
    op_exit rexit.Next e = omega arith
    op_exit (rexit.Goto to) e = omega arith
    op_exit (rexit.If rel a b to) e = let t = test_most rel (serve (test_op u rel) e) in let x = op_src a in let y = op_src b in omega (arith, x, y, t)
    op_exit (rexit.Invoke to) e = omega arith
    op_exit (rexit.Back slot) e = let a = no_frame Ldf loads refl in omega (arith, a)
    op_exit rexit.Halt e = omega arith

    pub op_counted : (b : RBlock) → list_all (λ r. is_offered m c (op_of_step u r)) b.steps ≡ true → is_offered m c (op_of_exit u b.exit) ≡ true → targets (is_start_of m does) (items_of_block m c u b) ≤ asks u (is_need does) b
    op_counted b all e =
        block_counts m c u (counted_dest (is_start_of m does)) 0 0 0 (counted_item (is_start_of m does)) (constant_counts m c (is_start_of m does) refl (λ i k. refl)) (carry_counts m c (is_start_of m does) refl (λ i k. refl))
        (move_counts m c (is_start_of m does) refl (λ i k. refl)) (λ r. is_offered m c (op_of_step u r)) (asks_rstep u (is_need does)) (asks_exit u (is_need does) b.exit) (λ r e. op_less r e) b all (op_exit b.exit e)
