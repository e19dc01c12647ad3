-- The list of a block of constants is a selection.
use Rattle.std.proofs.Common.{◌≡◌, ◌≤◌, ◌+◌, ◌^◌, ℕ, Bool, true, false, List, [], ◌∷◌, refl, sym, ap, subst, ◌∙◌, arith, length, map}
use Rattle.std.specs.Prelude.{nat_le, if◌then◌else◌}
use Rattle.std.specs.Option.{option_map_or}
use Rattle.std.specs.List.{list_all, sum_by}
use Rattle.std.proofs.lemmas.Bool.{and_parts}
use Rattle.std.proofs.lemmas.Bool.Decides.{nat_tests}
use Rattle.std.proofs.lemmas.List.{length-map}
use Rattle.std.proofs.lemmas.List.Sums.{sum_by-cons}
use Rattle.tta_select.specs.Cited.{Units, UnitOp, Op, Out, Machine, target_of, op_at, IsMachine, same_op, is_frame_op, Choice, Call, hub_of, Port, Item, BlockList, source_of, target_of_item, has_slot, control_is_last, is_list, none_after, is_detour, RBlock, Rir, asks_rstep, weight_step, one_block}
use Rattle.tta_arch.specs.declared.ends.Source.TheVariants as source
use Rattle.tta_lir.specs.declared.code.RSrc.TheVariants as rsrc
use Rattle.tta_lir.specs.declared.code.RStep.TheVariants as rstep
use Rattle.tta_select.specs.Counts.{targets, is_start_of, is_frame_trigger, is_home, is_need}
use Rattle.tta_select.specs.Lists.{is_closed}
use Rattle.tta_select.specs.Select.{goes, trigger_at}
use Rattle.tta_select.specs.Direct.{out_of, brings, constants_out, direct_list, direct_lists}
use Rattle.tta_select.specs.Statement.{IsDirect, IsDirectSelection, IsSelection, SelectsDirect}
use Rattle.tta_select.proofs.Constants.{lists_are}
use Rattle.tta_select.proofs.OneList.{alike}
use Rattle.tta_select.proofs.Offers.{same_op_is}
use Rattle.tta_select.proofs.OutputJoins.{CanOutput, can_output, can, halt_joined}

-- ---- the list

-- the list ends with its only control item
pub control_last : (f : Call) (words : List ℕ) → control_is_last (constants_out f words) ≡ true
control_last f [] = refl
control_last f (w ∷ words) = control_last f words

pub slots : (m : Machine) → IsMachine m → (words : List ℕ) → list_all (brings m) words ≡ true → list_all (has_slot m) (constants_out (out_of m) words) ≡ true
slots m rules [] all = rw (halt_joined m rules) refl
slots m rules (w ∷ words) all =
    let two = and_parts (brings m w) (list_all (brings m) words) all in
    rw (two.0, slots m rules words two.1) refl

pub size : (f : Call) (words : List ℕ) → length (constants_out f words) ≡ length words + 1
size f [] = refl
size f (w ∷ words) = let e = size f words in omega (arith, e)

-- no item moves an address
pub no_address : (blocks : ℕ) (f : Call) (words : List ℕ) → list_all (λ (x : Item). is_closed blocks (source_of x)) (constants_out f words) ≡ true
no_address blocks f [] = refl
no_address blocks f (w ∷ words) = no_address blocks f words

-- words go to control and to a trigger alone, and from no register
pub straight : (m : Machine) (f : Call) (words : List ℕ) (before : List Item) → none_after (is_detour m (hub_of m)) before (constants_out f words) ≡ true
straight m f [] before = refl
straight m f (w ∷ words) before = straight m f words _

-- ---- the counts

-- each constant triggers the output once, for which the block asks
pub triggers : (u : Units) (m : Machine) (f : Call) (words : List ℕ) → CanOutput m f words → (does : Op)
    → targets (is_start_of m does) (constants_out f words) ≤ sum_by (asks_rstep u (is_need does)) (map (λ w. rstep.Put (rsrc.Word w)) words)
triggers u m f [] can does = omega arith
triggers u m f (w ∷ words) can does =
    let more = triggers u m f words (can_output m f words can) does in
    let one = here (is_start_of m does (target_of (trigger_at f))) refl in
    let a = sum_by-cons (λ (x : Item). if is_start_of m does (target_of_item x) then 1 else 0) (goes (Port (source.Value w)) (trigger_at f)) (constants_out f words) in
    let b = sum_by-cons (asks_rstep u (is_need does)) (rstep.Put (rsrc.Word w)) (map (λ w. rstep.Put (rsrc.Word w)) words) in
    omega (arith, more, one, a, b) where
      here : (b : Bool) → is_start_of m does (target_of (trigger_at f)) ≡ b → (if b then 1 else 0) ≤ asks_rstep u (is_need does) (rstep.Put (rsrc.Word w))
      here false e = omega arith
      here true e =
          let there = can.1 in
          let same : same_op Out does ≡ true = rw there at e in
          let one : Out ≡ does = same_op_is Out does same in
          subst (λ (o : Op). 1 ≤ asks_rstep u (is_need o) (rstep.Put (rsrc.Word w))) one (omega arith)

-- none is on the frame
pub frames : (m : Machine) (f : Call) (words : List ℕ) → CanOutput m f words → targets (is_frame_trigger m) (constants_out f words) ≡ 0
frames m f [] can = refl
frames m f (w ∷ words) can =
    let more = frames m f words (can_output m f words can) in
    let here : option_map_or (λ (o : UnitOp). is_frame_op o.op) (op_at m f.unit f.op) false ≡ false = rw can.1 refl in
    let a = sum_by-cons (λ (x : Item). if is_frame_trigger m (target_of_item x) then 1 else 0) (goes (Port (source.Value w)) (trigger_at f)) (constants_out f words) in
    let b : ◌≡◌ {A = ℕ} (if option_map_or (λ (o : UnitOp). is_frame_op o.op) (op_at m f.unit f.op) false then 1 else 0) 0 = rw here refl in
    omega (arith, more, a, b)

-- and no home register is written
pub homes : (c : Choice) (f : Call) (words : List ℕ) → targets (is_home c) (constants_out f words) ≡ 0
homes c f [] = refl
homes c f (w ∷ words) =
    let more = homes c f words in
    let a = sum_by-cons (λ (x : Item). if is_home c (target_of_item x) then 1 else 0) (goes (Port (source.Value w)) (trigger_at f)) (constants_out f words) in
    omega (arith, more, a)

-- a step weighs more than its item
light : (words : List ℕ) → length words ≤ sum_by weight_step (map (λ w. rstep.Put (rsrc.Word w)) words)
light [] = omega arith
light (w ∷ words) =
    let more = light words in
    let a = sum_by-cons weight_step (rstep.Put (rsrc.Word w)) (map (λ w. rstep.Put (rsrc.Word w)) words) in
    omega (arith, more, a)

-- ---- the selection

module _ (m : Machine) (words : List ℕ) (machine : IsMachine m) (few : length words ≤ 2 ^ 18) (brought : list_all (brings m) words ≡ true) where
  abbrev code : Rir
  code = record { blocks = one_block words ∷ [] }

  abbrev list : BlockList
  list = direct_list (out_of m) words

  abbrev outputs_all : CanOutput m (out_of m) words
  outputs_all = can m machine words brought

  long : length list.items ≡ length words + 1
  long = size (out_of m) words

  pub can_direct : is_list m list.items ≡ true
  can_direct =
      let count : nat_le (length list.items) 16777216 ≡ true = grind (arith, nat_tests, long, few) in
      rw (count, slots m machine words brought, control_last (out_of m) words) refl

  selection : (u : Units) (c : Choice) → IsSelection u m c code (list ∷ [])
  selection u c = record {
    keeps = λ addr are memory input n. alike u m (out_of m) addr memory input words outputs_all n;
    size = record {
      count = refl;
      addresses = rw (no_address 1 (out_of m) words) refl;
      items = let a = light words in omega (arith, long, a);
    };
    each = (record { list = can_direct; live_out = refl }, tt);
    straight = rw (straight m (out_of m) words []) refl;
    triggers = (λ does plain. let a = triggers u m (out_of m) words outputs_all does in omega (arith, a), tt);
    frame = (let a = frames m (out_of m) words outputs_all in omega (arith, a), tt);
    homes = (let a = homes c (out_of m) words in omega (arith, a), tt);
  }

  direct_of : IsDirectSelection m code (list ∷ [])
  direct_of = record {
    items = (long ∙ ap (λ n. n + 1) (sym (length-map words (λ w. rstep.Put (rsrc.Word w)))), tt);
    selection = selection;
  }

pub selects_direct : SelectsDirect
selects_direct m words r given =
    subst (IsDirectSelection m r) (sym (lists_are m r words given.code))
    (subst (λ (bs : List RBlock). IsDirectSelection m (record { blocks = bs }) (direct_list (out_of m) words ∷ [])) (sym given.code)
    (direct_of m words given.machine given.few given.brought))

-- lists that are the selected ones
pub these_select_direct : (m : Machine) (words : List ℕ) (r : Rir) (lists : List BlockList) → lists ≡ direct_lists m r
    → IsDirect m words r → IsDirectSelection m r lists
these_select_direct m words r lists same given = subst (IsDirectSelection m r) (sym same) (selects_direct m words r given)
