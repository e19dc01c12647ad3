-- What holds of the ways of a step holds of the step's items.
use Rattle.std.proofs.Common.{◌≡◌, ◌<◌, ◌^◌, ℕ, Bool, true, false, List, [], ◌∷◌, ◌++◌, Option, Some, None, refl, arith, length, is_some}
use Rattle.std.specs.Prelude.{if◌then◌else◌, ◌==◌, ◌||◌, nat_lt}
use Rattle.std.specs.List.{flat_map, list_all}
use Rattle.std.proofs.lemmas.Bool.{and_parts, or_right}
use Rattle.std.proofs.lemmas.Bool.Decides.{nat_tests}
use Rattle.tta_select.specs.Cited.{Units, GuardRef, Source, Dest, Op, Ldw, Stw, Ldf, Stf, Out, Set, Machine, has_result, Choice, offered, Rel, ItemSource, Port, LongValue, Item, source_of_long, joined, is_passing, Frame, RSrc, RStep, Copy, Apply, Load, Store, Put, When, SaveRa}
use Rattle.tta_arch.specs.declared.ends.Source.TheVariants as source
use Rattle.tta_arch.specs.declared.ends.Dest.TheVariants as dest
use Rattle.tta_arch.specs.declared.parts.Op.TheVariants.{Take as TakeIn}
use Rattle.tta_moves.specs.declared.items.LongValue.TheVariants as long
use Rattle.tta_lir.specs.declared.code.Place.{Place as RPlace}
use Rattle.tta_lir.specs.declared.code.Place.TheVariants.{Reg}
use Rattle.tta_lir.specs.declared.code.RSrc.TheVariants as rsrc
use Rattle.tta_lir.specs.declared.code.RStep.TheVariants.{Take}
use Rattle.tta_lir.specs.declared.code.Exit.{Exit as RExit}
use Rattle.tta_lir.specs.declared.code.Exit.TheVariants as rexit
use Rattle.tta_select.specs.Select.{call_of, operand_at, trigger_at, shown_at, hub_at, from_hub, home_at, from_home, guard_at, long_for, constant, carry, fetch, value, reaches, operate, address_slot, result, merged, brings_old, choose, condition, guard_of_rel, is_inverted, test_op, items_of_step, items_of_exit}
use Rattle.tta_select.specs.Relation.{is_place_of, is_src_of}
use Rattle.tta_select.specs.Needs.{op_of_step, op_of_exit, is_offered, is_step_of, is_exit_of, fits_step, fits_exit, word_src, word_step, word_exit}
use Rattle.tta_select.specs.Reaches.{guard_by, HasJoins}

-- a constant is a word or the number of a block
abbrev pub IsValue : (blocks : ℕ) → LongValue → Type 0
IsValue blocks (long.Word w) = w < 2 ^ 32
IsValue blocks (long.Address b) = b < blocks

-- a source that can be carried: no constant, joined to the hub, and no register that words pass through
pub record IsCarried (m : Machine) (c : Choice) (src : ItemSource) : Type 0 where
  pub port : Source
  pub is : src ≡ Port port
  pub hub : joined m src (hub_at m c 0) None ≡ true
  pub plain : is_passing (Some c.hub) src ≡ false

-- whether there is a way for a constant, and for what is carried
abbrev pub has_constant : Machine → Choice → Option GuardRef → LongValue → Dest → Bool
has_constant m c guard v dst = joined m (source_of_long v) dst guard || joined m (from_hub m c 0) dst guard || is_some (long_for m c dst guard)

abbrev pub has_carry : Machine → Choice → Option GuardRef → ItemSource → Dest → Bool
has_carry m c guard src dst = joined m src dst guard || joined m (from_hub m c 0) dst guard

-- what holds of each way and of items in a row
pub record IsWays (m : Machine) (c : Choice) (blocks : ℕ) (P : List Item → Type 0) : Type 1 where
  pub none : P []
  pub row : (xs ys : List Item) → P xs → P ys → P (xs ++ ys)
  pub const : (guard : Option GuardRef) (v : LongValue) (dst : Dest) → IsValue blocks v → has_constant m c guard v dst ≡ true → P (constant m c guard v dst)
  pub carried : (guard : Option GuardRef) (src : ItemSource) (dst : Dest) → IsCarried m c src → has_carry m c guard src dst ≡ true → P (carry m c guard src dst)

-- and of a merge
abbrev pub Merging : Machine → Choice → (List Item → Type 0) → Type 0
Merging m c P =
    (i : Bool) (s : RSrc) (d : RPlace) → is_src_of m c s ≡ true → word_src s ≡ true → is_place_of m c d ≡ true
    → P (brings_old m c d ++ (value m c (Some (guard_by c i)) s (hub_at m c 1) ++ merged m c d))

pub or_middle : (a b d : Bool) → b ≡ true → (a || b || d) ≡ true
or_middle true b d e = refl
or_middle false true d e = refl
or_middle false false d e = absurd cc

module _ (u : Units) (m : Machine) (c : Choice) (j : HasJoins m c) (blocks : ℕ) (small : m.frame_words < 2 ^ 32) (loads : is_some (offered m c.usable Ldf) ≡ true) (store : is_some (offered m c.usable Stf) ≡ true) (storing : ((call_of m c Stf).does.arity == 2) ≡ true)
    (P : List Item → Type 0) (p : IsWays m c blocks P) where
  -- the ways from the hub on
  pub const_to : (guard : Option GuardRef) (v : LongValue) (dst : Dest) → IsValue blocks v → joined m (from_hub m c 0) dst guard ≡ true → P (constant m c guard v dst)
  const_to guard v dst is e = p.const guard v dst is (or_middle _ _ _ e)

  pub carry_to : (guard : Option GuardRef) (src : ItemSource) (dst : Dest) → IsCarried m c src → joined m (from_hub m c 0) dst guard ≡ true → P (carry m c guard src dst)
  carry_to guard src dst is e = p.carried guard src dst is (or_right _ _ e)

  shown_carried : (op : Op) → is_some (offered m c.usable op) ≡ true → has_result op ≡ true → IsCarried m c (shown_at (call_of m c op))
  shown_carried op e has = record { port = source.Shown (call_of m c op).unit; is = refl; hub = j.shown op e has; plain = refl }

  home_carried : (k : ℕ) → k < length c.homes → IsCarried m c (from_home m c k)
  home_carried k low = record { port = source.Reg _ _; is = refl; hub = j.of_home k low; plain = j.plain_home k low }

  ra_carried : IsCarried m c (Port source.Ra)
  ra_carried = record { port = source.Ra; is = refl; hub = j.back; plain = refl }

  slot_word : (slot : ℕ) → slot < m.frame_words → slot < 2 ^ 32
  slot_word slot low = omega (arith, low, small)

  pub fetch_all : (guard : Option GuardRef) (slot : ℕ) (dst : Dest) → slot < m.frame_words → has_carry m c guard (shown_at (call_of m c Ldf)) dst ≡ true → P (fetch m c guard slot dst)
  fetch_all guard slot dst low e =
      p.row (constant m c None (long.Word slot) (trigger_at (call_of m c Ldf))) (carry m c guard (shown_at (call_of m c Ldf)) dst)
      (const_to None (long.Word slot) (trigger_at (call_of m c Ldf)) (slot_word slot low) (j.trigger Ldf loads)) (p.carried guard (shown_at (call_of m c Ldf)) dst (shown_carried Ldf loads refl) e)

  -- the way of an operand, where there is one
  pub value_all : (guard : Option GuardRef) (o : RSrc) (dst : Dest) → is_src_of m c o ≡ true → word_src o ≡ true → reaches m c guard o dst ≡ true → P (value m c guard o dst)
  value_all guard (rsrc.Word w) dst inside word e = let low : w < 2 ^ 32 = grind (arith, nat_tests) in p.const guard (long.Word w) dst low e
  value_all guard (rsrc.At (Reg k)) dst inside word e = let low : k < length c.homes = grind (arith, nat_tests) in p.carried guard (from_home m c k) dst (home_carried k low) e
  value_all guard (rsrc.At (Frame slot)) dst inside word e = let low : slot < m.frame_words = grind (arith, nat_tests) in fetch_all guard slot dst low e

  pub reaches_all : (guard : Option GuardRef) (o : RSrc) (dst : Dest) → joined m (from_hub m c 0) dst guard ≡ true → reaches m c guard o dst ≡ true
  reaches_all guard (rsrc.Word w) dst e = or_middle _ _ _ e
  reaches_all guard (rsrc.At (Reg k)) dst e = or_right _ _ e
  reaches_all guard (rsrc.At (Frame slot)) dst e = or_right _ _ e

  pub value_to : (guard : Option GuardRef) (o : RSrc) (dst : Dest) → is_src_of m c o ≡ true → word_src o ≡ true → joined m (from_hub m c 0) dst guard ≡ true → P (value m c guard o dst)
  value_to guard o dst inside word e = value_all guard o dst inside word (reaches_all guard o dst e)

  pub address_all : (slot : ℕ) → slot < m.frame_words → P (address_slot m c slot)
  address_all slot low = const_to None (long.Word slot) (operand_at (call_of m c Stf)) (slot_word slot low) (j.operand Stf store storing)

  result_all : (op : Op) (d : RPlace) → is_some (offered m c.usable op) ≡ true → has_result op ≡ true → is_place_of m c d ≡ true → P (result m c (call_of m c op) d)
  result_all op (Reg k) e has inside = let low : k < length c.homes = grind (arith, nat_tests) in carry_to None (shown_at (call_of m c op)) (home_at m c k) (shown_carried op e has) (j.to_home k low)
  result_all op (Frame slot) e has inside =
      let low : slot < m.frame_words = grind (arith, nat_tests) in
      p.row (address_slot m c slot) (carry m c None (shown_at (call_of m c op)) (trigger_at (call_of m c Stf))) (address_all slot low)
      (carry_to None (shown_at (call_of m c op)) (trigger_at (call_of m c Stf)) (shown_carried op e has) (j.trigger Stf store))

  operate_all : (op : Op) (a b : RSrc) → is_some (offered m c.usable op) ≡ true → is_src_of m c a ≡ true → word_src a ≡ true → is_src_of m c b ≡ true → word_src b ≡ true → P (operate m c (call_of m c op) a b)
  operate_all op a b e ia wa ib wb =
      p.row (first ((call_of m c op).does.arity == 2)) (value m c None b (trigger_at (call_of m c op))) (on ((call_of m c op).does.arity == 2) refl) (value_to None b (trigger_at (call_of m c op)) ib wb (j.trigger op e)) where
        first : Bool → List Item
        first t = if t then value m c None a (operand_at (call_of m c op)) else []

        on : (t : Bool) → ((call_of m c op).does.arity == 2) ≡ t → P (first t)
        on true two = value_to None a (operand_at (call_of m c op)) ia wa (j.operand op e two)
        on false two = p.none

  module _ (merging : Merging m c P) where
    choose_all : (i : Bool) (s : RSrc) (d : RPlace) → is_src_of m c s ≡ true → word_src s ≡ true → is_place_of m c d ≡ true → P (choose m c (guard_by c i) s d)
    choose_all i s (Frame slot) inside word place = merging i s (Frame slot) inside word place
    choose_all i s (Reg k) inside word place = on (reaches m c (Some (guard_by c i)) s (home_at m c k)) refl where
      on : (t : Bool) → reaches m c (Some (guard_by c i)) s (home_at m c k) ≡ t
          → P (if t then value m c (Some (guard_by c i)) s (home_at m c k) else brings_old m c (Reg k) ++ (value m c (Some (guard_by c i)) s (hub_at m c 1) ++ merged m c (Reg k)))
      on true e = value_all (Some (guard_by c i)) s (home_at m c k) inside word e
      on false e = merging i s (Reg k) inside word place

    condition_all : (rel : Rel) (a b : RSrc) → is_some (offered m c.usable (test_op u rel)) ≡ true → is_src_of m c a ≡ true → word_src a ≡ true → is_src_of m c b ≡ true → word_src b ≡ true → P (condition m c u rel a b)
    condition_all rel a b e ia wa ib wb =
        p.row (operate m c (call_of m c (test_op u rel)) a b) (carry m c None (shown_at (call_of m c (test_op u rel))) (guard_at m c)) (operate_all (test_op u rel) a b e ia wa ib wb)
        (carry_to None (shown_at (call_of m c (test_op u rel))) (guard_at m c) (shown_carried (test_op u rel) e refl) j.guard)

    stores_two : (a b : RSrc) → is_some (offered m c.usable Stw) ≡ true → ((call_of m c Stw).does.arity == 2) ≡ true → is_src_of m c a ≡ true → word_src a ≡ true → is_src_of m c b ≡ true → word_src b ≡ true
        → P (items_of_step m c u (Store a b))
    stores_two a b e two ia wa ib wb = p.row (value m c None a (operand_at (call_of m c Stw))) (value m c None b (trigger_at (call_of m c Stw))) (value_to None a (operand_at (call_of m c Stw)) ia wa (j.operand Stw e two))
        (value_to None b (trigger_at (call_of m c Stw)) ib wb (j.trigger Stw e))

    zero_word : 0 < 2 ^ 32
    zero_word = omega arith

    -- each step
    pub step_all : (two : is_some (offered m c.usable Stw) ≡ true → ((call_of m c Stw).does.arity == 2) ≡ true) (r : RStep) → fits_step u m c r ≡ true → word_step r ≡ true → P (items_of_step m c u r)
    step_all two r fits words = on r (and_parts (is_step_of m c r) (is_offered m c (op_of_step u r)) fits).0 (and_parts (is_step_of m c r) (is_offered m c (op_of_step u r)) fits).1 words where
      on : (r : RStep) → is_step_of m c r ≡ true → is_offered m c (op_of_step u r) ≡ true → word_step r ≡ true → P (items_of_step m c u r)
      on (Copy (Reg k) s) i e w = let a = and_parts (is_place_of m c (Reg k)) (is_src_of m c s) i in let low : k < length c.homes = grind (arith, nat_tests, a) in value_to None s (home_at m c k) a.1 w (j.to_home k low)
      on (Copy (Frame f) s) i e w =
          let a = and_parts (is_place_of m c (Frame f)) (is_src_of m c s) i in let low : f < m.frame_words = grind (arith, nat_tests, a) in
          p.row (address_slot m c f) (value m c None s (trigger_at (call_of m c Stf))) (address_all f low) (value_to None s (trigger_at (call_of m c Stf)) a.1 w (j.trigger Stf store))
      on (Apply d op a b) i e w =
          let x = and_parts (is_place_of m c d) _ i in let y = and_parts (is_src_of m c a) _ x.1 in let v = and_parts (word_src a) (word_src b) w in
          p.row (operate m c (call_of m c (Set op)) a b) (result m c (call_of m c (Set op)) d) (operate_all (Set op) a b e y.0 v.0 y.1 v.1) (result_all (Set op) d e refl x.0)
      on (Load d a) i e w =
          let x = and_parts (is_place_of m c d) _ i in
          p.row (value m c None a (trigger_at (call_of m c Ldw))) (result m c (call_of m c Ldw) d) (value_to None a (trigger_at (call_of m c Ldw)) x.1 w (j.trigger Ldw e)) (result_all Ldw d e refl x.0)
      on (Take d) i e w =
          p.row (constant m c None (long.Word 0) (trigger_at (call_of m c TakeIn))) (result m c (call_of m c TakeIn) d) (const_to None (long.Word 0) (trigger_at (call_of m c TakeIn)) zero_word (j.trigger TakeIn e)) (result_all TakeIn d e refl i)
      on (Store a v) i e w = let y = and_parts (is_src_of m c a) _ i in let x = and_parts (word_src a) (word_src v) w in stores_two a v e (two e) y.0 x.0 y.1 x.1
      on (Put v) i e w = value_to None v (trigger_at (call_of m c Out)) i w (j.trigger Out e)
      on (When rel a b d s) i e w =
          let x = and_parts (is_src_of m c a) _ i in let y = and_parts (is_src_of m c b) _ x.1 in let z = and_parts (is_place_of m c d) _ y.1 in
          let v = and_parts (word_src a) _ w in let q = and_parts (word_src b) (word_src s) v.1 in
          p.row (condition m c u rel a b) (choose m c (guard_of_rel m c u rel) s d) (condition_all rel a b e x.0 v.0 y.0 q.0) (choose_all (is_inverted rel) s d z.1 q.1 z.0)
      on (SaveRa slot) i e w =
          let low : slot < m.frame_words = grind (arith, nat_tests) in
          p.row (address_slot m c slot) (carry m c None (Port source.Ra) (trigger_at (call_of m c Stf))) (address_all slot low) (carry_to None (Port source.Ra) (trigger_at (call_of m c Stf)) ra_carried (j.trigger Stf store))

    -- each exit
    pub exit_all : (x : RExit) → fits_exit u m c blocks x ≡ true → word_exit x ≡ true → P (items_of_exit m c u x)
    exit_all x fits words = on x (and_parts (is_exit_of m c blocks x) (is_offered m c (op_of_exit u x)) fits).0 (and_parts (is_exit_of m c blocks x) (is_offered m c (op_of_exit u x)) fits).1 words where
      on : (x : RExit) → is_exit_of m c blocks x ≡ true → is_offered m c (op_of_exit u x) ≡ true → word_exit x ≡ true → P (items_of_exit m c u x)
      on rexit.Next i e w = p.none
      on (rexit.Goto to) i e w = let low : to < blocks = grind (arith, nat_tests) in const_to None (long.Address to) dest.Jump low j.jump
      on (rexit.If rel a b to) i e w =
          let x = and_parts (is_src_of m c a) _ i in let y = and_parts (is_src_of m c b) (nat_lt to blocks) x.1 in let v = and_parts (word_src a) (word_src b) w in
          let low : to < blocks = grind (arith, nat_tests, y) in
          p.row (condition m c u rel a b) (constant m c (Some (guard_of_rel m c u rel)) (long.Address to) dest.Jump) (condition_all rel a b e x.0 v.0 y.0 v.1)
          (const_to (Some (guard_of_rel m c u rel)) (long.Address to) dest.Jump low (j.jump_if (is_inverted rel)))
      on (rexit.Invoke to) i e w = let low : to < blocks = grind (arith, nat_tests) in const_to None (long.Address to) dest.Call low j.call
      on (rexit.Back slot) i e w = let low : slot < m.frame_words = grind (arith, nat_tests) in fetch_all None slot dest.Jump low (or_right _ _ j.jump)
      on rexit.Halt i e w = const_to None (long.Word 0) dest.Halt zero_word j.halt

    pub steps_all : (two : is_some (offered m c.usable Stw) ≡ true → ((call_of m c Stw).does.arity == 2) ≡ true) (rs : List RStep) → list_all (fits_step u m c) rs ≡ true → list_all word_step rs ≡ true
        → P (flat_map (items_of_step m c u) rs)
    steps_all two [] fits words = p.none
    steps_all two (r ∷ rs) fits words =
        let a = and_parts (fits_step u m c r) (list_all (fits_step u m c) rs) fits in
        let b = and_parts (word_step r) (list_all word_step rs) words in
        p.row (items_of_step m c u r) (flat_map (items_of_step m c u) rs) (step_all two r a.0 b.0) (steps_all two rs a.1 b.1)
