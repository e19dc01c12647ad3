-- The list of a block: for the machine, straight, and within the block's counts.
use Rattle.std.proofs.Common.{◌≡◌, ◌<◌, ◌≤◌, ◌-◌, ◌^◌, ℕ, Bool, true, false, List, [], ◌∷◌, ◌++◌, Option, Some, None, refl, sym, ap, subst, arith, ◌∙◌, length, is_some}
use Rattle.std.specs.Prelude.{if◌then◌else◌, ◌==◌, nat_le}
use Rattle.std.specs.List.{flat_map, list_all}
use Rattle.std.proofs.lemmas.Bool.{and_parts, or_right}
use Rattle.std.proofs.lemmas.Bool.Decides.{nat_tests}
use Rattle.std.proofs.lemmas.List.Folds.{list_all-append}
use Rattle.std.proofs.Math.Nat.{pow-le-pow_right}
use Rattle.tta_select.specs.Cited.{Units, GuardRef, Dest, Op, Stw, Ldf, Stf, Machine, IsMachine, Choice, hub_of, offered, IsChoice, ItemSource, LongValue, Item, Move, source_of, source_of_long, joined, is_list, is_straight, Frame, RStep, RBlock, StandsOver, names, assigns_block}
use Rattle.tta_arch.specs.Rules.{is_control}
use Rattle.tta_moves.specs.declared.items.LongValue.TheVariants as long
use Rattle.tta_lir.specs.declared.code.Place.{Place as RPlace}
use Rattle.tta_lir.specs.declared.code.Place.TheVariants.{Reg}
use Rattle.tta_select.specs.Select.{call_of, hub_at, through_hub, constant, carry, value, merged, brings_old, address_slot, items_of_step, items_of_exit, items_of_block, list_of}
use Rattle.tta_select.specs.Ground.{IsServed}
use Rattle.tta_select.specs.Relation.{is_place_of}
use Rattle.tta_select.specs.Needs.{op_of_step, op_of_exit, is_offered, is_step_of, is_exit_of, fits_step, fits_exit, fits_block, word_step, word_exit, word_block}
use Rattle.tta_select.specs.Counts.{targets, is_frame_trigger, is_home}
use Rattle.tta_select.specs.Lists.{is_closed}
use Rattle.tta_select.specs.Statement.{TriggersNoMore}
use Rattle.tta_select.specs.Reaches.{guard_by, HasJoins}
use Rattle.tta_select.proofs.Offers.{serves, three as parts}
use Rattle.tta_select.proofs.Covering.{grounds}
use Rattle.tta_select.proofs.Joins.{has_joins}
use Rattle.tta_select.proofs.Everywhere.{IsValue, IsCarried, IsWays, Merging, fetch_all, value_to, address_all, steps_all, exit_all}
use Rattle.tta_select.proofs.Slotted.{Route, At_once, By_hub, By_long, By_long_hub, route, Slotted, slotted_ways, slotted_merging}
use Rattle.tta_select.proofs.Straight.{Neat, neat_ways, neat_merging}
use Rattle.tta_select.proofs.Control.{block_last, block_short}
use Rattle.tta_select.proofs.Counted.{homes_counted}
use Rattle.tta_select.proofs.Triggers.{frame_counted, op_counted}

-- ---- addresses

abbrev pub Closed : ℕ → List Item → Type 0
Closed blocks xs = list_all (λ x. is_closed blocks (source_of x)) xs ≡ true

module _ (m : Machine) (c : Choice) (j : HasJoins m c) (address : 2 ^ m.control.address - 1 < 2 ^ 32) (blocks : ℕ) where
  closed_row : (xs ys : List Item) → Closed blocks xs → Closed blocks ys → Closed blocks (xs ++ ys)
  closed_row xs ys a b = list_all-append (λ x. is_closed blocks (source_of x)) xs ys ∙ (rw (a, b) refl)

  value_closed : (v : LongValue) → IsValue blocks v → is_closed blocks (source_of_long v) ≡ true
  value_closed (long.Word w) is = refl
  value_closed (long.Address b) is = let low : b < blocks = is in grind (arith, nat_tests)

  closed_route : (guard : Option GuardRef) (v : LongValue) (dst : Dest) (items : List Item) → is_closed blocks (source_of_long v) ≡ true → Route m c guard v dst items → Closed blocks items
  closed_route guard v dst items e (At_once a is) = subst (Closed blocks) (sym is) (rw e refl)
  closed_route guard v dst items e (By_hub away d b is) = subst (Closed blocks) (sym is) (rw e refl)
  closed_route guard v dst items e (By_long t away f is) = subst (Closed blocks) (sym is) (rw e refl)
  closed_route guard v dst items e (By_long_hub t away d l f b is) = subst (Closed blocks) (sym is) (rw e refl)

  closed_carry : (guard : Option GuardRef) (src : ItemSource) (dst : Dest) → IsCarried m c src → Closed blocks (carry m c guard src dst)
  closed_carry guard src dst is = on (joined m src dst guard) where
    port : is_closed blocks src ≡ true
    port = ap (λ s. is_closed blocks s) (is.is)

    on : (a : Bool) → Closed blocks (if a then Move guard src dst ∷ [] else through_hub m c guard src dst)
    on true = rw port refl
    on false = rw port refl

  closed_ways : IsWays m c blocks (Closed blocks)
  closed_ways = record {
    none = refl;
    row = closed_row;
    const = λ guard v dst is has. closed_route guard v dst (constant m c guard v dst) (value_closed v is) (route m c j address blocks guard v dst is has);
    carried = λ guard src dst is has. closed_carry guard src dst is;
  }

  module _ (u : Units) (small : m.frame_words < 2 ^ 32) (loads : is_some (offered m c.usable Ldf) ≡ true) (store : is_some (offered m c.usable Stf) ≡ true) (storing : ((call_of m c Stf).does.arity == 2) ≡ true) where
    closed_merging : Merging m c (Closed blocks)
    closed_merging i s d inside word place =
        closed_row (brings_old m c d) (value m c (Some (guard_by c i)) s (hub_at m c 1) ++ merged m c d) (old d place)
        (closed_row (value m c (Some (guard_by c i)) s (hub_at m c 1)) (merged m c d)
        (value_to u m c j blocks small loads store storing (Closed blocks) closed_ways (Some (guard_by c i)) s (hub_at m c 1) inside word (j.hub_if i)) (new d place)) where
          old : (d : RPlace) → is_place_of m c d ≡ true → Closed blocks (brings_old m c d)
          old (Reg k) i = refl
          old (Frame f) i =
              let low : f < m.frame_words = grind (arith, nat_tests) in
              fetch_all u m c j blocks small loads store storing (Closed blocks) closed_ways None f (hub_at m c 1) low (or_right _ _ j.to_one)

          new : (d : RPlace) → is_place_of m c d ≡ true → Closed blocks (merged m c d)
          new (Reg k) i = refl
          new (Frame f) i =
              let low : f < m.frame_words = grind (arith, nat_tests) in
              closed_row (address_slot m c f) _ (address_all u m c j blocks small loads store storing (Closed blocks) closed_ways f low) refl

-- ---- a block

module _ (u : Units) (m : Machine) (c : Choice) (rules : IsMachine m) (over : StandsOver u m) (choice : IsChoice m c) where
  joins : HasJoins m c
  joins = has_joins m c rules choice

  loads : is_some (offered m c.usable Ldf) ≡ true
  loads = (and_parts _ _ choice.frame).0

  store : is_some (offered m c.usable Stf) ≡ true
  store = (and_parts _ _ choice.frame).1

  storing : ((call_of m c Stf).does.arity == 2) ≡ true
  storing = (and_parts _ _ (serves m c rules Stf store).fits).0

  store_data : is_some (offered m c.usable Stw) ≡ true → ((call_of m c Stw).does.arity == 2) ≡ true
  store_data e = (and_parts _ _ (serves m c rules Stw e).fits).0

  small : m.frame_words < 2 ^ 32
  small = let a : m.frame_words ≤ 65536 = rules.limits.frame_words in omega (arith, a)

  address : 2 ^ m.control.address - 1 < 2 ^ 32
  address =
      let a : is_control m.sockets m.control ≡ true = rules.control in
      let b : m.control.address ≤ 16 = grind (arith, nat_tests, a) in
      let two : 0 < 2 = omega arith in
      let p : 2 ^ m.control.address ≤ 2 ^ 16 = pow-le-pow_right two b in
      omega (arith, p)

  -- what holds of the ways holds of a block
  whole : (blocks : ℕ) (P : List Item → Type 0) → IsWays m c blocks P → Merging m c P → (b : RBlock) → fits_block u m c blocks b ≡ true → word_block b ≡ true → P (items_of_block m c u b)
  unfolding items_of_block
  whole blocks P ways merging b fits words =
      let f = and_parts (list_all (fits_step u m c) b.steps) (fits_exit u m c blocks b.exit) fits in
      let w = parts (list_all word_step b.steps) (word_exit b.exit) (nat_le (length b.steps) 262144) words in
      ways.row (flat_map (items_of_step m c u) b.steps) (items_of_exit m c u b.exit)
      (steps_all u m c joins blocks small loads store storing P ways merging store_data b.steps f.0 w.0)
      (exit_all u m c joins blocks small loads store storing P ways merging b.exit f.1 w.1)

  short : (b : RBlock) → word_block b ≡ true → length b.steps ≤ 262144
  short b words = let w = parts (list_all word_step b.steps) (word_exit b.exit) (nat_le (length b.steps) 262144) words in let e : nat_le (length b.steps) 262144 ≡ true = w.2 in grind (arith, nat_tests)

  module _ (blocks : ℕ) (b : RBlock) (fits : fits_block u m c blocks b ≡ true) (words : word_block b ≡ true) where
    pub can_list : is_list m (items_of_block m c u b) ≡ true
    can_list =
        let few = block_short m c u b (short b words) in
        let slots = whole blocks (Slotted m c joins address blocks) (slotted_ways m c joins address blocks) (slotted_merging m c joins address blocks u small loads store storing) b fits words in
        let last = block_last m c u b in
        rw (few, slots, last) refl

    pub goes_straight : is_straight m (hub_of m) (items_of_block m c u b) ≡ true
    goes_straight =
        subst (λ o. is_straight m o (items_of_block m c u b) ≡ true) (sym choice.hub)
        (whole blocks (Neat m c) (neat_ways m c joins address blocks) (neat_merging m c joins address blocks u small loads store storing) b fits words [])

    pub is_closed_in : Closed blocks (items_of_block m c u b)
    is_closed_in = whole blocks (Closed blocks) (closed_ways m c joins address blocks) (closed_merging m c joins address blocks u small loads store storing) b fits words

  -- ---- counts

  serve : (op : Op) → is_some (offered m c.usable op) ≡ true → IsServed m c op
  serve = serves m c rules

  offered_steps : (rs : List RStep) → list_all (fits_step u m c) rs ≡ true → list_all (λ r. is_offered m c (op_of_step u r)) rs ≡ true
  offered_steps [] e = refl
  offered_steps (r ∷ rs) e =
      let a = and_parts (fits_step u m c r) (list_all (fits_step u m c) rs) e in
      let b = (and_parts (is_step_of m c r) (is_offered m c (op_of_step u r)) a.0).1 in
      let d = offered_steps rs a.1 in
      rw (b, d) refl

  module _ (blocks : ℕ) (b : RBlock) (fits : fits_block u m c blocks b ≡ true) where
    abbrev fit : (list_all (fits_step u m c) b.steps ≡ true) × (fits_exit u m c blocks b.exit ≡ true)
    fit = and_parts (list_all (fits_step u m c) b.steps) (fits_exit u m c blocks b.exit) fits

    exit_offered : is_offered m c (op_of_exit u b.exit) ≡ true
    exit_offered = (and_parts (is_exit_of m c blocks b.exit) (is_offered m c (op_of_exit u b.exit)) fit.1).1

    pub triggers_no_more : TriggersNoMore u m b (list_of m c u b)
    triggers_no_more does other = op_counted u m c serve over (serve Ldf loads) (serve Stf store) does other b (offered_steps b.steps fit.0) exit_offered

    pub frames_no_more : targets (is_frame_trigger m) (items_of_block m c u b) ≤ names b
    frames_no_more = frame_counted u m c serve b (offered_steps b.steps fit.0) exit_offered

    pub writes_no_more : targets (is_home c) (items_of_block m c u b) ≤ assigns_block b
    writes_no_more = homes_counted u m c (grounds m c choice) b
