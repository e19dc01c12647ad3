-- Of the operations that a legal instruction starts, at most one takes a word of the input.
use Rattle.std.proofs.Common.{◌≡◌, ℕ, ◌≤◌, ◌==◌, Bool, true, false, ◌&&◌, List, [], ◌∷◌, ◌++◌, length, map, Option, Some, None, refl, sym, ap, ◌∙◌, arith, fold}
use Rattle.std.specs.Prelude.{slice_get, option_and_then, filter, is_none}
use Rattle.std.specs.Option.{option_map_or}
use Rattle.std.specs.List.{list_any, filter_map, cons_option}
use Rattle.std.proofs.lemmas.Bool.{and_parts}
use Rattle.std.proofs.lemmas.List.{append-nil}
use Rattle.std.proofs.lemmas.List.Elements.{filter_map-append}
use Rattle.tta_kahn.specs.Cited.{left, UnitOp, Template, Dest, Machine, same_place, IsMachine, is_stream_op, are_different, Target, Reg, Imm, Operand, Trigger, Control, target_of, long_effect, Brought, Written, Start, Reads, bring, moved, start_of, operand_of, take_in, Move, Long, Instruction, effect_of, moves_of, long_effects, effects_of, is_legal}
use Rattle.tta_arch.specs.declared.parts.Unit.{Unit as OpUnit}
use Rattle.tta_arch.specs.declared.ends.Dest.TheVariants as dest
use Rattle.tta_arch.specs.Effects.{takes}
use Rattle.tta_code.proofs.LegalParts.{legal_parts}
use Rattle.tta_code.proofs.Apart.{meet_moves, moves_apart}
use Rattle.tta_kahn.proofs.ProgramQueues.{drop_more}
use Rattle.tta_list.proofs.Lists.{any_there}
use Rattle.tta_arch.proofs.Takes.{apart_filter_map, one_owner, takes_stream, take_once}

-- ---- lists whose elements differ

-- where elements differ, what they give differs

filter_map_map : {A B C : Type 0} (f : B → Option C) (g : A → B) (xs : List A) → filter_map f (map g xs) ≡ filter_map (λ x. f (g x)) xs
filter_map_map f g [] = refl
filter_map_map f g (x ∷ xs) = ap (cons_option (f (g x))) (filter_map_map f g xs)

-- ---- moves

-- whether two words trigger one unit
abbrev meet_targets : Target → Target → Bool
meet_targets (Trigger u i) (Trigger v j) = u == v
meet_targets a b = false

targets_apart : (d e : Dest) → same_place d e ≡ false → meet_targets (target_of d) (target_of e) ≡ false
targets_apart (dest.Trigger u i) (dest.Trigger v j) apart = apart
targets_apart (dest.Trigger u i) (dest.Reg f k) apart = refl
targets_apart (dest.Trigger u i) (dest.Operand v) apart = refl
targets_apart (dest.Trigger u i) dest.Jump apart = refl
targets_apart (dest.Trigger u i) dest.Call apart = refl
targets_apart (dest.Trigger u i) dest.Halt apart = refl
targets_apart (dest.Reg f k) e apart = refl
targets_apart (dest.Operand v) e apart = refl
targets_apart dest.Jump e apart = refl
targets_apart dest.Call e apart = refl
targets_apart dest.Halt e apart = refl

brought_there : (reads : Reads) (v : Move) (b : Brought) → bring reads (effect_of v) ≡ Some b → b.0 ≡ target_of v.dst
brought_there reads v b is = by (moved reads (effect_of v)) is where
  by : (o : Option ℕ) → option_map_or (λ word. Some (target_of v.dst, word)) o None ≡ Some b → b.0 ≡ target_of v.dst
  by None is = absurd cc
  by (Some word) is = let e : (target_of v.dst, word) ≡ b = cc in sym (ap (λ (x : Brought). x.0) e)

-- ---- operations

-- what is known of an operation that starts
record IsStarted (m : Machine) (b : Brought) (t : Start) : Type 0 where
  op : ℕ
  target : b.0 ≡ Trigger t.unit op
  unit : OpUnit
  at : slice_get m.units t.unit ≡ Some unit
  does : slice_get unit.ops op ≡ Some t.does

is_started : (m : Machine) (written : Written) (b : Brought) (t : Start) → start_of m written b ≡ Some t → IsStarted m b t
is_started m written (Trigger unit op, word) t is = of (slice_get m.units unit) refl is where
  made : UnitOp → Start
  made o = record { unit = unit; does = o; operand = operand_of written unit o; word = word }

  of : (o : Option OpUnit) → slice_get m.units unit ≡ o → option_map_or (λ o. Some (made o)) (option_and_then (λ u. slice_get u.ops op) o) None ≡ Some t
      → IsStarted m (Trigger unit op, word) t
  of None at is = absurd cc
  of (Some x) at is = op_of (slice_get x.ops op) refl is where
    op_of : (o : Option UnitOp) → slice_get x.ops op ≡ o → option_map_or (λ o. Some (made o)) o None ≡ Some t → IsStarted m (Trigger unit op, word) t
    op_of None there is = absurd cc
    op_of (Some d) there is =
        let same : made d ≡ t = cc in
        record {
          op = op;
          target = ap (λ (s : Start). Trigger s.unit op) same;
          unit = x;
          at = ap (λ (s : Start). slice_get m.units s.unit) (sym same) ∙ at;
          does = there ∙ ap (λ (s : Start). Some s.does) same;
        }
is_started m written (Reg file index, word) t is = absurd cc
is_started m written (Imm unit index, word) t is = absurd cc
is_started m written (Operand unit, word) t is = absurd cc
is_started m written (Control kind, word) t is = absurd cc

-- at most one unit offers what has one owner

-- two operations of which each takes a word are of one unit
takes_by_one : (m : Machine) → IsMachine m → (written : Written) (a b : Brought) (p q : Start) → start_of m written a ≡ Some p → start_of m written b ≡ Some q
    → meet_targets a.0 b.0 ≡ false → (takes p && takes q) ≡ false
takes_by_one m rules written a b p q is it differ =
    elim (takes p && takes q) as (λ both. (takes p && takes q) ≡ both → both ≡ false) [
      | true ↦ λ both.
          let each = and_parts (takes p) (takes q) both in
          let one = is_started m written a p is in
          let two = is_started m written b q it in
          let first = any_there (λ o. is_stream_op o.op) one.unit.ops one.op p.does one.does (takes_stream p.does.op each.0) in
          let second = any_there (λ o. is_stream_op o.op) two.unit.ops two.op q.does two.does (takes_stream q.does.op each.1) in
          let few : length (filter (λ u. list_any (λ o. is_stream_op o.op) u.ops) m.units) ≤ 1 = grind (arith, rules.one_stream) in
          let same : p.unit ≡ q.unit = one_owner (λ u. list_any (λ o. is_stream_op o.op) u.ops) m.units p.unit q.unit one.unit two.unit few one.at first two.at second in
          let apart : (p.unit == q.unit) ≡ false = sym (ap (λ d. meet_targets d (Trigger q.unit two.op)) one.target) ∙ sym (ap (meet_targets a.0) two.target) ∙ differ in
          grind (arith, same, apart)
      | false ↦ λ both. refl
    ] refl

-- ---- an instruction

-- the long immediate starts nothing
long_starts : (m : Machine) (reads : Reads) (written : Written) (long : Option Long) → filter_map (start_of m written) (filter_map (bring reads) (long_effects m long)) ≡ []
long_starts m reads written None = refl
long_starts m reads written (Some l) = by (slice_get m.templates l.template) where
  by : (o : Option Template) → filter_map (start_of m written) (filter_map (bring reads) (option_map_or (λ t. long_effect t.imm t.reg l.value ∷ []) o [])) ≡ []
  by None = refl
  by (Some t) = word (moved reads (long_effect t.imm t.reg l.value)) where
    word : (o : Option ℕ) → filter_map (start_of m written) (cons_option (option_map_or (λ word. Some (Imm t.imm t.reg, word)) o None) []) ≡ []
    word None = refl
    word (Some v) = refl

-- the operations that an instruction starts
abbrev pub started_by : Machine → Reads → Written → Instruction → List Start
started_by m reads written i = filter_map (start_of m written) (filter_map (bring reads) (effects_of m i))

takes_apart : (m : Machine) → IsMachine m → (i : Instruction) → is_legal m i ≡ true → (reads : Reads) (written : Written)
    → are_different (λ p q. takes p && takes q) (started_by m reads written i) ≡ true
takes_apart m rules i legal reads written =
    let moves = moves_of i in
    let brought = filter_map (λ v. bring reads (effect_of v)) moves in
    let apart : are_different meet_moves moves ≡ true = sym (moves_apart i.moves) ∙ (legal_parts m i legal).apart in
    let of_moves : are_different (λ a b. meet_targets a.0 b.0) brought ≡ true =
    apart_filter_map meet_moves (λ a b. meet_targets a.0 b.0) (λ v. bring reads (effect_of v))
    (λ v w a b is it differ. ap (λ x. meet_targets x b.0) (brought_there reads v a is) ∙ ap (meet_targets (target_of v.dst)) (brought_there reads w b it) ∙ targets_apart v.dst w.dst differ)
    moves apart in
    let of_starts : are_different (λ p q. takes p && takes q) (filter_map (start_of m written) brought) ≡ true =
    apart_filter_map (λ a b. meet_targets a.0 b.0) (λ p q. takes p && takes q) (start_of m written) (takes_by_one m rules written) brought of_moves in
    let same : started_by m reads written i ≡ filter_map (start_of m written) brought =
    ap (filter_map (start_of m written)) (filter_map-append (bring reads) (map effect_of moves) (long_effects m i.long))
    ∙ filter_map-append (start_of m written) (filter_map (bring reads) (map effect_of moves)) (filter_map (bring reads) (long_effects m i.long))
    ∙ ap (λ xs. filter_map (start_of m written) (filter_map (bring reads) (map effect_of moves)) ++ xs) (long_starts m reads written i.long)
    ∙ append-nil (filter_map (start_of m written) (filter_map (bring reads) (map effect_of moves)))
    ∙ ap (filter_map (start_of m written)) (filter_map_map (bring reads) effect_of moves) in
    ap (are_different (λ p q. takes p && takes q)) same ∙ of_starts

-- ---- the input

-- what takes nothing leaves the input

-- what an instruction leaves of an input: all but the first word, where it takes one
pub leaves : (m : Machine) → IsMachine m → (i : Instruction) → is_legal m i ≡ true → (reads : Reads) (written : Written) (rest : List ℕ)
    → fold take_in rest (started_by m reads written i) ≡ left (list_any takes (started_by m reads written i)) rest
leaves m rules i legal reads written rest = take_once rest (started_by m reads written i) (takes_apart m rules i legal reads written)

-- where it need not wait, it leaves also what follows
pub leaves_more : (m : Machine) → IsMachine m → (i : Instruction) → is_legal m i ≡ true → (reads : Reads) (written : Written) (rest words : List ℕ)
    → (list_any takes (started_by m reads written i) && is_none (slice_get rest 0)) ≡ false
    → fold take_in (rest ++ words) (started_by m reads written i) ≡ fold take_in rest (started_by m reads written i) ++ words
leaves_more m rules i legal reads written rest words goes =
    leaves m rules i legal reads written (rest ++ words) ∙ by (list_any takes (started_by m reads written i)) goes
    ∙ ap (λ r. r ++ words) (sym (leaves m rules i legal reads written rest))
  where
    by : (b : Bool) → (b && is_none (slice_get rest 0)) ≡ false → left b (rest ++ words) ≡ left b rest ++ words
    by false e = refl
    by true e = drop_more rest words e
