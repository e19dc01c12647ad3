-- Which operations a legal instruction starts.
use Rattle.std.proofs.Common.{◌≡◌, ℕ, ◌<◌, ◌≤◌, ◌==◌, Bool, true, false, not, ◌&&◌, ◌||◌, IsTrue, List, [], ◌∷◌, ◌++◌, length, map, Option, Some, None, refl, sym, ap, ◌∙◌, subst, arith}
use Rattle.std.specs.Prelude.{slice_get, option_map, option_and_then, option_to_list, fold, filter, if◌then◌else◌, nat_lt, nat_le, IfSome}
use Rattle.std.specs.List.{list_any, list_all, filter_map, cons_option, find, AllByRecursion}
use Rattle.std.proofs.lemmas.Bool.{and_parts}
use Rattle.std.proofs.lemmas.Option.{slice_get_within}
use Rattle.std.proofs.lemmas.List.{append-nil}
use Rattle.tta_list.proofs.Lists.{list_all_one, any_there}
use Rattle.tta_arch.specs.declared.parts.Unit.{Unit as OpUnit}
use Rattle.tta_sim.specs.Cited.{UnitOp, Op, Ldw, Stw, Ldf, Stf, Out, Take, Set, Dest, Machine, are_apart, same_place, IsMachine, is_unit, is_unit_op, fits_kind, same_op, is_stream_op, are_different, Start, Reads, op_at, has_result, put_out, moved, takes, takes_in, Move, Instruction, effect_of, ends_of, is_legal}
use Rattle.tta_arch.specs.declared.ends.Dest.TheVariants as dest
use Rattle.tta_arch.specs.Legal.{ends_of as ends_in}
use Rattle.tta_code.proofs.LegalParts.{legal_parts}
use Rattle.tta_code.proofs.Apart.{meet_moves, moves_apart}
use Rattle.tta_sim.specs.Results.{Results, HasUnits, longest_by}
use Rattle.tta_sim.specs.Moves.{Arrival, is_possible_slot, is_askable, is_readable, is_reachable, arrival_of, arrivals_of}
use Rattle.tta_sim.specs.Starts.{triggered, start_by, is_fitting, puts, AreFitting, AreReachable}
use Rattle.tta_arch.proofs.Takes.{apart_filter_map, one_owner, takes_stream}

-- ---- lists whose elements differ

-- whether two words that moves bring go into one place
abbrev meet_arrivals : Arrival → Arrival → Bool
meet_arrivals a b = same_place a.dst b.dst

arrival_dst : (reads : Reads) (v : Move) (a : Arrival) → arrival_of reads v ≡ Some a → a.dst ≡ v.dst
arrival_dst reads v a brings = by (moved reads (effect_of v)) brings where
  by : (o : Option ℕ) → option_map (λ word. record { dst = v.dst; word = word }) o ≡ Some a → a.dst ≡ v.dst
  by None is = cc
  by (Some word) is = cc

arrivals_apart : (reads : Reads) (slots : List (Option Move)) → are_apart (ends_in (map (option_map ends_of) slots)) ≡ true → are_different meet_arrivals (arrivals_of reads slots) ≡ true
arrivals_apart reads slots apart =
    apart_filter_map meet_moves meet_arrivals (arrival_of reads)
    (λ v w a b is it differ. ap (λ d. same_place d b.dst) (arrival_dst reads v a is) ∙ ap (same_place v.dst) (arrival_dst reads w b it) ∙ differ)
    (filter_map (λ o. o) slots) (sym (moves_apart slots) ∙ apart)

-- ---- operations

-- what is known of an operation that starts
record IsStarted (m : Machine) (a : Arrival) (t : Start) : Type 0 where
  op : ℕ
  dst : a.dst ≡ dest.Trigger t.unit op
  unit : OpUnit
  at : slice_get m.units t.unit ≡ Some unit
  does : slice_get unit.ops op ≡ Some t.does

is_started : (m : Machine) (operand : ℕ → Option ℕ) (a : Arrival) (t : Start) → start_by m operand a ≡ Some t → IsStarted m a t
is_started m operand a t starts = by a.dst refl starts where
  triggers : (unit op : ℕ) → a.dst ≡ dest.Trigger unit op → triggered m operand unit op a.word ≡ Some t → IsStarted m a t
  triggers unit op is found = of (slice_get m.units unit) refl found where
    of : (o : Option OpUnit) → slice_get m.units unit ≡ o
        → option_map (λ o. record { unit = unit; does = o; operand = if o.arity == 2 then operand unit else Some 0; word = a.word }) (option_and_then (λ u. slice_get u.ops op) o) ≡ Some t → IsStarted m a t
    of None at found = cc
    of (Some u) at found = op_of (slice_get u.ops op) refl found where
      op_of : (o : Option UnitOp) → slice_get u.ops op ≡ o
          → option_map (λ o. record { unit = unit; does = o; operand = if o.arity == 2 then operand unit else Some 0; word = a.word }) o ≡ Some t → IsStarted m a t
      op_of None there found = cc
      op_of (Some d) there found =
          let same_unit : unit ≡ t.unit = cc in
          let same_op : d ≡ t.does = cc in
          record {
            op = op;
            dst = is ∙ ap (λ n. dest.Trigger n op) same_unit;
            unit = u;
            at = ap (slice_get m.units) (sym same_unit) ∙ at;
            does = there ∙ ap (λ x. Some x) same_op;
          }

  by : (d : Dest) → a.dst ≡ d → start_by m operand (record { dst = d; word = a.word }) ≡ Some t → IsStarted m a t
  by (dest.Reg file index) is found = cc
  by (dest.Operand unit) is found = cc
  by (dest.Trigger unit op) is found = triggers unit op is found
  by dest.Jump is found = cc
  by dest.Call is found = cc
  by dest.Halt is found = cc

starts_apart : (m : Machine) (operand : ℕ → Option ℕ) (arrivals : List Arrival) → are_different meet_arrivals arrivals ≡ true
    → are_different (λ p q. p.unit == q.unit) (filter_map (start_by m operand) arrivals) ≡ true
starts_apart m operand arrivals apart =
    apart_filter_map meet_arrivals (λ p q. p.unit == q.unit) (start_by m operand)
    (λ a b p q is it differ.
    let one = is_started m operand a p is in let two = is_started m operand b q it in
    sym (ap (λ d. same_place d (dest.Trigger q.unit two.op)) one.dst) ∙ sym (ap (same_place a.dst) two.dst) ∙ differ)
    arrivals apart

module _ (m : Machine) (rules : IsMachine m) (r : Results) (has : HasUnits r.base m r.rings) (size : r.units ≡ length m.units) where
  fitting : (operand : ℕ → Option ℕ) (a : Arrival) (t : Start) → start_by m operand a ≡ Some t → is_fitting r t ≡ true
  fitting operand a t starts =
      let is = is_started m operand a t starts in
      let within = slice_get_within m.units t.unit is.unit is.at in
      let good : is_unit m.sockets is.unit ≡ true = list_all_one (is_unit m.sockets) m.units t.unit is.unit rules.units is.at in
      let ops : list_all (is_unit_op is.unit) is.unit.ops ≡ true = grind (arith, good) in
      let one : is_unit_op is.unit t.does ≡ true = list_all_one (is_unit_op is.unit) is.unit.ops is.op t.does ops is.does in
      let kind : fits_kind t.does ≡ true = grind (arith, one) in
      let found : op_at m t.unit is.op ≡ Some t.does = ap (option_and_then (λ u. slice_get u.ops is.op)) is.at ∙ is.does in
      let longest : t.does.latency ≤ longest_by r t.unit = subst (λ o. IfSome o (λ x. x.latency ≤ longest_by r t.unit)) found (has.longest t.unit is.op) in
      let room : nat_le t.does.latency (longest_by r t.unit) ≡ true = grind (arith, longest) in
      let latency = by_kind t.does.op kind in
      let there : nat_lt t.unit r.units ≡ true = grind (arith, within, size) in
      rw (there, room) (and_true (not (has_result t.does.op)) (nat_lt 0 t.does.latency) latency)
    where
      and_true : (a b : Bool) → (a || b) ≡ true → (a || (b && true)) ≡ true
      and_true true b is = refl
      and_true false true is = refl
      and_true false false is = cc

      by_kind : (o : Op) → fits_kind (record t.does { op = o }) ≡ true → (not (has_result o) || nat_lt 0 t.does.latency) ≡ true
      by_kind Ldw kind = grind arith
      by_kind Stw kind = refl
      by_kind Ldf kind = grind arith
      by_kind Stf kind = refl
      by_kind Out kind = refl
      by_kind Take kind = grind arith
      by_kind (Set id) kind = grind arith

  all_fitting : (operand : ℕ → Option ℕ) (arrivals : List Arrival) → AllByRecursion (λ t. IsTrue (is_fitting r t)) (filter_map (start_by m operand) arrivals)
  all_fitting operand [] = tt
  all_fitting operand (a ∷ arrivals) =
      elim (start_by m operand a) as (λ o. start_by m operand a ≡ o → AllByRecursion (λ t. IsTrue (is_fitting r t)) (cons_option o (filter_map (start_by m operand) arrivals))) [
        | None ↦ λ is. all_fitting operand arrivals
        | Some t ↦ λ is. (fitting operand a t is, all_fitting operand arrivals)
      ] refl

  -- the operations that a legal instruction starts fit
  pub are_fitting : (i : Instruction) → is_legal m i ≡ true → (reads : Reads) (operand : ℕ → Option ℕ)
      → AreFitting r (filter_map (start_by m operand) (arrivals_of reads i.moves))
  are_fitting i legal reads operand = record {
    fitting = all_fitting operand (arrivals_of reads i.moves);
    apart = starts_apart m operand (arrivals_of reads i.moves) (arrivals_apart reads i.moves (legal_parts m i legal).apart);
  }

-- the operations that start are those of units that are there
pub all_there : (m : Machine) (units : ℕ) → units ≡ length m.units → (operand : ℕ → Option ℕ) (arrivals : List Arrival)
    → AllByRecursion (λ t. t.unit < units) (filter_map (start_by m operand) arrivals)
all_there m units size operand [] = tt
all_there m units size operand (a ∷ arrivals) =
    elim (start_by m operand a) as (λ o. start_by m operand a ≡ o → AllByRecursion (λ t. t.unit < units) (cons_option o (filter_map (start_by m operand) arrivals))) [
      | None ↦ λ is. all_there m units size operand arrivals
      | Some t ↦ λ is.
          let of = is_started m operand a t is in
          (omega (arith, slice_get_within m.units t.unit of.unit of.at, size), all_there m units size operand arrivals)
    ] refl

-- arrivals of moves whose ends are there
pub reachable : (units : ℕ) (reads : Reads) (slots : List (Option Move)) → AllByRecursion (λ slot. IsTrue (is_possible_slot units slot)) slots → AreReachable units (arrivals_of reads slots)
reachable units reads [] all = tt
reachable units reads (None ∷ slots) all = reachable units reads slots all.1
reachable units reads (Some v ∷ slots) all =
    let one = and_parts (is_askable v.guard) (is_readable units v.src && is_reachable units v.dst) all.0 in
    let two = and_parts (is_readable units v.src) (is_reachable units v.dst) one.1 in
    let rest = reachable units reads slots all.1 in
    elim (moved reads (effect_of v)) as (λ o. AreReachable units (cons_option (option_map (λ word. record { dst = v.dst; word = word }) o) (arrivals_of reads slots))) [
      | None ↦ rest
      | Some word ↦ (two.1, rest)
    ]

-- ---- the output

-- two operations of a kind that belongs to the streams are of one unit
stream_by_one : (m : Machine) → IsMachine m → (kind : Op → Bool) → ((o : Op) → kind o ≡ true → is_stream_op o ≡ true) → (operand : ℕ → Option ℕ) (a b : Arrival) (p q : Start)
    → start_by m operand a ≡ Some p → start_by m operand b ≡ Some q
    → meet_arrivals a b ≡ false → (kind p.does.op && kind q.does.op) ≡ false
stream_by_one m rules kind of operand a b p q is it differ =
    elim (kind p.does.op && kind q.does.op) as (λ both. (kind p.does.op && kind q.does.op) ≡ both → both ≡ false) [
      | true ↦ λ both.
          let each = and_parts (kind p.does.op) (kind q.does.op) both in
          let one = is_started m operand a p is in
          let two = is_started m operand b q it in
          let first = any_there (λ o. is_stream_op o.op) one.unit.ops one.op p.does one.does (of p.does.op each.0) in
          let second = any_there (λ o. is_stream_op o.op) two.unit.ops two.op q.does two.does (of q.does.op each.1) in
          let few : length (filter (λ u. list_any (λ o. is_stream_op o.op) u.ops) m.units) ≤ 1 = grind (arith, rules.one_stream) in
          let same : p.unit ≡ q.unit = one_owner (λ u. list_any (λ o. is_stream_op o.op) u.ops) m.units p.unit q.unit one.unit two.unit few one.at first two.at second in
          let apart : (p.unit == q.unit) ≡ false = sym (ap (λ d. same_place d (dest.Trigger q.unit two.op)) one.dst) ∙ sym (ap (same_place a.dst) two.dst) ∙ differ in
          grind (arith, same, apart)
      | false ↦ λ both. refl
    ] refl

puts_stream : (o : Op) → same_op o Out ≡ true → is_stream_op o ≡ true
puts_stream o is = ap (λ b. b || same_op o Take) is

-- at most one of the operations outputs a word
pub outputs_apart : (m : Machine) → IsMachine m → (i : Instruction) → is_legal m i ≡ true → (reads : Reads) (operand : ℕ → Option ℕ)
    → are_different (λ p q. puts p && puts q) (filter_map (start_by m operand) (arrivals_of reads i.moves)) ≡ true
outputs_apart m rules i legal reads operand =
    apart_filter_map meet_arrivals (λ p q. puts p && puts q) (start_by m operand) (stream_by_one m rules (λ o. same_op o Out) puts_stream operand)
    (arrivals_of reads i.moves) (arrivals_apart reads i.moves (legal_parts m i legal).apart)

-- and at most one takes a word of the input
pub inputs_apart : (m : Machine) → IsMachine m → (i : Instruction) → is_legal m i ≡ true → (reads : Reads) (operand : ℕ → Option ℕ)
    → are_different (λ p q. takes p && takes q) (filter_map (start_by m operand) (arrivals_of reads i.moves)) ≡ true
inputs_apart m rules i legal reads operand =
    apart_filter_map meet_arrivals (λ p q. takes p && takes q) (start_by m operand) (stream_by_one m rules takes_in takes_stream operand)
    (arrivals_of reads i.moves) (arrivals_apart reads i.moves (legal_parts m i legal).apart)

puts_word : (output : List ℕ) (t : Start) → puts t ≡ true → put_out output t ≡ output ++ t.word ∷ []
puts_word output t = by t.does.op where
  by : (o : Op) → same_op o Out ≡ true → put_out output (record t { does = record t.does { op = o } }) ≡ output ++ t.word ∷ []
  by Ldw is = cc
  by Stw is = cc
  by Ldf is = cc
  by Stf is = cc
  by Out is = refl
  by Take is = cc
  by (Set id) is = cc

puts_nothing : (output : List ℕ) (t : Start) → puts t ≡ false → put_out output t ≡ output
puts_nothing output t = by t.does.op where
  by : (o : Op) → same_op o Out ≡ false → put_out output (record t { does = record t.does { op = o } }) ≡ output
  by Ldw is = refl
  by Stw is = refl
  by Ldf is = refl
  by Stf is = refl
  by Out is = cc
  by Take is = refl
  by (Set id) is = refl

put_no_more : (t : Start) (output : List ℕ) (starts : List Start) → puts t ≡ true → list_any (λ q. puts t && puts q) starts ≡ false → fold put_out output starts ≡ output
put_no_more t output [] is none = refl
put_no_more t output (q ∷ starts) is none =
    let other : puts q ≡ false = grind (arith, is) in
    let rest : list_any (λ q. puts t && puts q) starts ≡ false = grind arith in
    ap (λ o. fold put_out o starts) (puts_nothing output q other) ∙ put_no_more t output starts is rest

-- the output then is the word of the first that does
pub put_once : (output : List ℕ) (starts : List Start) → are_different (λ p q. puts p && puts q) starts ≡ true
    → fold put_out output starts ≡ output ++ option_to_list (option_map (λ t. t.word) (find puts starts))
put_once output [] apart = sym (append-nil output)
put_once output (t ∷ starts) apart =
    elim (puts t) as (λ b. puts t ≡ b → fold put_out (put_out output t) starts ≡ output ++ option_to_list (option_map (λ t. t.word) (if b then Some t else find puts starts))) [
      | true ↦ λ is.
          let alone : list_any (λ q. puts t && puts q) starts ≡ false = grind arith in
          ap (λ o. fold put_out o starts) (puts_word output t is) ∙ put_no_more t (output ++ t.word ∷ []) starts is alone
      | false ↦ λ is. ap (λ o. fold put_out o starts) (puts_nothing output t is) ∙ put_once output starts (grind arith)
    ] refl
