-- What an item does, by what is seen of it.
use Rattle.std.proofs.Common.{◌≡◌, ℕ, ◌<◌, Bool, true, false, List, [], ◌∷◌, Option, Some, None, refl, sym, ap, subst, ◌∙◌}
use Rattle.std.specs.Prelude.{if◌then◌else◌, ◌==◌, ◌&&◌, not, is_none, nat_lt, option_map, option_and_then}
use Rattle.std.specs.Option.{option_map_or}
use Rattle.std.proofs.lemmas.Bool.{and_parts, ltb-true}
use Rattle.tta_loadelim.specs.Cited.{GuardRef, Source, UnitOp, Op, Ldw, Stw, Ldf, Stf, Out, Take, Set, Machine, Target, Reg, Imm, Trigger, Control, Place, KeptReg, KeptPort, KeptOperand, Written, kept, op_at, has_result, width_of, ItemSource, Port, Address, Item, guard_of, source_of, target_of_item, place_of, place_written, read_held, sure_source, copied, same_source, starts, stores_frame, operand_place}
use Rattle.tta_arch.specs.declared.ends.Source.TheVariants as source
use Rattle.tta_arch.specs.Effects.{Operand}
use Rattle.tta_moves.proofs.Places.{either}
use Rattle.tta_optim.proofs.Copies.{is_whole, Copies, guard_none as sure_is}
use Rattle.tta_loadelim.specs.AvailableSlots.{is_load, word_of, port_of, loaded, stored, register_in, twin}
use Rattle.tta_loadelim.proofs.Holding.{end_is}

-- ---- what an item does, by what is said of it

pub word_is : (s : ItemSource) (v : ℕ) → word_of s ≡ Some v → s ≡ Port (source.Value v)
word_is (Port (source.Value w)) v e = let same : w ≡ v = cc in ap (λ n. Port (source.Value n)) same
word_is (Port (source.Reg f i)) v e = absurd cc
word_is (Port (source.Imm f i)) v e = absurd cc
word_is (Port (source.Shown unit)) v e = absurd cc
word_is (Port source.Ra) v e = absurd cc
word_is (Address block) v e = absurd cc

pub port_is : (s : ItemSource) (v : Source) → port_of s ≡ Some v → s ≡ Port v
port_is (Port src) v e = let same : src ≡ v = cc in ap Port same
port_is (Address block) v e = absurd cc

-- the source of an item without a guard, by what it is seen as
pub sure_seen : {A : Type 0} (x : Item) (see : ItemSource → Option A) (v : A) → option_and_then see (sure_source x) ≡ Some v → (s : ItemSource) × (guard_of x ≡ None) × (source_of x ≡ s) × (see s ≡ Some v)
sure_seen x see v e = on (sure_source x) refl e where
  on : (o : Option ItemSource) → sure_source x ≡ o → option_and_then see o ≡ Some v → (s : ItemSource) × (guard_of x ≡ None) × (source_of x ≡ s) × (see s ≡ Some v)
  on None r e = absurd cc
  on (Some s) r e = let two = sure_is x s r in (s, two.0, two.1, e)

pub record Loads (m : Machine) (x : Item) (slot : ℕ) : Type 0 where
  pub load : starts m is_load (target_of_item x) ≡ true
  pub unguarded : guard_of x ≡ None
  pub word : source_of x ≡ Port (source.Value slot)

pub loads_is : (m : Machine) (x : Item) (slot : ℕ) → loaded m x ≡ Some slot → Loads m x slot
loads_is m x slot e = either (starts m is_load (target_of_item x))
    (λ load.
    let seen = sure_seen x word_of slot (rw load at e) in
    record { load = load; unguarded = seen.1; word = seen.2 ∙ word_is seen.0 slot seen.3 })
    (λ other. let none = rw other at e in absurd cc)

pub record Stores (m : Machine) (before : List Item) (x : Item) (slot : ℕ) : Type 0 where
  pub store : starts m stores_frame (target_of_item x) ≡ true
  pub place : Place
  pub at : operand_place m (target_of_item x) ≡ Some place
  pub word : copied m place before ≡ Some (Port (source.Value slot))
  pub within : slot < m.frame_words
  pub unguarded : guard_of x ≡ None

pub stores_is : (m : Machine) (before : List Item) (x : Item) (slot : ℕ) → stored m before x ≡ Some slot → Stores m before x slot
stores_is m before x slot e = either (starts m stores_frame (target_of_item x))
    (λ store. place store (operand_place m (target_of_item x)) refl (rw store at e))
    (λ other. let none = rw other at e in absurd cc) where
      checked : ℕ → Option ℕ
      checked v = if nat_lt v m.frame_words && not (is_none (sure_source x)) then Some v else None

      guard : not (is_none (sure_source x)) ≡ true → guard_of x ≡ None
      guard some = by (guard_of x) refl some where
        by : (g : Option GuardRef) → guard_of x ≡ g → not (is_none (if is_none g then Some (source_of x) else None)) ≡ true → guard_of x ≡ None
        by None r some = r
        by (Some g) r some = absurd cc

      word : starts m stores_frame (target_of_item x) ≡ true → (p : Place) → operand_place m (target_of_item x) ≡ Some p → (s : ItemSource) → copied m p before ≡ Some s
          → (o : Option ℕ) → word_of s ≡ o → option_and_then checked o ≡ Some slot → Stores m before x slot
      word store p at s copy None w e = absurd cc
      word store p at s copy (Some v) w e = either (nat_lt v m.frame_words && not (is_none (sure_source x)))
          (λ both.
          let two = and_parts (nat_lt v m.frame_words) (not (is_none (sure_source x))) both in
          let some : ◌≡◌ {A = Option ℕ} (Some v) (Some slot) = rw both at e in
          let same : v ≡ slot = cc in
          record {
            store = store;
            place = p;
            at = at;
            word = copy ∙ ap (λ (t : ItemSource). Some t) (word_is s v w) ∙ ap (λ n. Some (Port (source.Value n))) same;
            within = subst (λ n. n < m.frame_words) same (ltb-true v m.frame_words two.0);
            unguarded = guard two.1;
          })
          (λ neither. let none = rw neither at e in absurd cc)

      source : starts m stores_frame (target_of_item x) ≡ true → (p : Place) → operand_place m (target_of_item x) ≡ Some p → (o : Option ItemSource) → copied m p before ≡ o
          → option_and_then checked (option_and_then word_of o) ≡ Some slot → Stores m before x slot
      source store p at None copy e = absurd cc
      source store p at (Some s) copy e = word store p at s copy (word_of s) refl e

      place : starts m stores_frame (target_of_item x) ≡ true → (o : Option Place) → operand_place m (target_of_item x) ≡ o
          → option_and_then checked (option_and_then word_of (option_and_then (λ p. copied m p before) o)) ≡ Some slot → Stores m before x slot
      place store None at e = absurd cc
      place store (Some p) at e = source store p at (copied m p before) refl e

pub operand_whole : (m : Machine) (t : Target) (p : Place) → operand_place m t ≡ Some p → is_whole m p ≡ true
operand_whole m (Reg f i) p e = absurd cc
operand_whole m (Imm f i) p e = absurd cc
operand_whole m (Operand unit) p e = absurd cc
operand_whole m (Control kind) p e = absurd cc
operand_whole m (Trigger unit op) p e = on (op_at m unit op) e where
  on : (o : Option UnitOp) → option_map_or (λ o. if o.arity == 2 then Some (KeptOperand unit) else None) o None ≡ Some p → is_whole m p ≡ true
  on None e = absurd cc
  on (Some o) e = either (o.arity == 2)
      (λ two. let some : ◌≡◌ {A = Option Place} (Some (KeptOperand unit)) (Some p) = rw two at e in let same : KeptOperand unit ≡ p = cc in ap (is_whole m) (sym same))
      (λ one. let none = rw one at e in absurd cc)

pub store_writes_none : (m : Machine) (t : Target) → starts m stores_frame t ≡ true → place_written m t ≡ None
store_writes_none m (Reg f i) e = absurd cc
store_writes_none m (Imm f i) e = absurd cc
store_writes_none m (Operand unit) e = absurd cc
store_writes_none m (Control kind) e = absurd cc
store_writes_none m (Trigger unit op) e = on (op_at m unit op) e where
  by : (q : Op) → stores_frame q ≡ true → has_result q ≡ false
  by Ldw e = absurd cc
  by Stw e = absurd cc
  by Ldf e = absurd cc
  by Stf e = refl
  by Out e = absurd cc
  by Take e = absurd cc
  by (Set id) e = absurd cc

  on : (o : Option UnitOp) → option_map_or stores_frame (option_map (λ o. o.op) o) false ≡ true → option_map_or (λ o. if has_result o.op then Some (KeptPort unit) else None) o None ≡ None
  on None e = refl
  on (Some o) e = rw (by o.op e) refl

pub then_false : (a b : Bool) → a ≡ true → (a && b) ≡ false → b ≡ false
then_false true b e f = f
then_false false b e f = absurd cc

pub none_at : (o : Option Place) → option_map_or (λ (q : Place). false) o false ≡ false
none_at None = refl
none_at (Some p) = refl

-- a register that the item before has moved a source into has what the source has
pub twin_has : (m : Machine) (addr : List ℕ) (before : List Item) (ws : Written) → Copies m addr before ws → (src reg : Source) → twin m before src ≡ Some reg → read_held ws reg ≡ read_held ws src
twin_has m addr [] ws c src reg e = absurd cc
twin_has m addr (w ∷ older) ws c src reg e = by (target_of_item w) e where
  has : (p : Place) → Bool
  has p = option_map_or (same_source (Port src)) (copied m p (w ∷ older)) false

  same_is : (s : ItemSource) → same_source (Port src) s ≡ true → s ≡ Port src
  same_is (Port other) same = ap Port (sym (end_is src other same))
  same_is (Address block) same = absurd cc

  found : (file index : ℕ) → (width_of m file == 1) ≡ false → (o : Option ItemSource) → copied m (KeptReg file index) (w ∷ older) ≡ o → option_map_or (same_source (Port src)) o false ≡ true
      → kept ws (KeptReg file index) ≡ read_held ws src
  found file index wide None is same = absurd cc
  found file index wide (Some s) is same = c.same (KeptReg file index) (Port src) (rw wide refl) (is ∙ ap (λ (t : ItemSource). Some t) (same_is s same))

  wide_by : (file index : ℕ) → (width_of m file == 1) ≡ false → (b : Bool) → has (KeptReg file index) ≡ b → (if b then Some (source.Reg file index) else None) ≡ Some reg → read_held ws reg ≡ read_held ws src
  wide_by file index wide false h e = absurd cc
  wide_by file index wide true h e =
      let same : source.Reg file index ≡ reg = cc in
      ap (read_held ws) (sym same) ∙ found file index wide (copied m (KeptReg file index) (w ∷ older)) refl h

  by : (t : Target) → option_and_then (λ r. if option_map_or has (place_of r) false then Some r else None) (register_in m t) ≡ Some reg → read_held ws reg ≡ read_held ws src
  by (Imm f i) e = absurd cc
  by (Operand unit) e = absurd cc
  by (Trigger unit op) e = absurd cc
  by (Control kind) e = absurd cc
  by (Reg file index) e = either (width_of m file == 1)
      (λ narrow. let none = rw narrow at e in absurd cc)
      (λ wide. wide_by file index wide (has (KeptReg file index)) refl (rw wide at e))
