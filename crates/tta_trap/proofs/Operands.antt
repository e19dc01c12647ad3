-- Whether an operation starts without its operand: the circuit tells it as the cycle does.
use Rattle.std.proofs.Common.{◌≡◌, ℕ, ◌<◌, ◌==◌, Bool, true, false, not, ◌&&◌, ◌||◌, List, [], ◌∷◌, length, map, filter, slice_get, Option, Some, None, refl, sym, ap, ◌∙◌, arith}
use Rattle.std.specs.Prelude.{is_some, is_none, if◌then◌else◌, option_and_then}
use Rattle.std.specs.Option.{option_map_or}
use Rattle.std.specs.List.{find, list_any, filter_map, cons_option, enumerate_from}
use Rattle.std.proofs.lemmas.Option.{none-some, same_Some}
use Rattle.std.proofs.lemmas.Bool.{false≢true, and_from, eqb-true, or_left, or_right}
use Rattle.tta_arch.specs.declared.parts.Unit.{Unit as OpUnit}
use Rattle.tta_arch.specs.declared.ends.Dest.TheVariants as dest
use Rattle.tta_image.proofs.EndsLemmas.{same_dest_itself}
use Rattle.tta_circuit.specs.Circuit.{Signal as OfSignal}
use Rattle.tta_hardware.specs.Cited.{Units, UnitOp, Dest, Machine, numbers, same_dest, KeptOperand, Reg, Imm, Control, Brought, Written, Start, kept, start_of, target_of, op_at, operand_of, lacks_operand, Move, Instruction, State, bit, is_set, value}
use Rattle.tta_arch.specs.Effects.{Operand, Trigger}
use Rattle.tta_hardware.specs.Signals.{Signal as Named, Word, Acts, Starts, HasWord, LacksOperand, Watches}
use Rattle.tta_hardware.specs.Fields.{slot_at}
use Rattle.tta_hardware.specs.Wires.{ops_of, reached}
use Rattle.tta_hardware.specs.Chains.{any_of}
use Rattle.tta_hardware.specs.Stands.{Hardware, Starting, start_in}
use Rattle.tta_hardware.specs.Laws.{Meet, carried, brought, written_after, started_in}
use Rattle.tta_hardware.proofs.Arriving.{goes, is_reached}
use Rattle.tta_hardware.proofs.Bringing.{within_list}
use Rattle.tta_hardware.proofs.Chained.{set_bit, some_if}
use Rattle.tta_hardware.proofs.Goings.{found_not}
use Rattle.tta_hardware.proofs.Shown.{some_at}
use Rattle.tta_hardware.proofs.Started.{starts_carried, starts_alike}
use Rattle.tta_hardware.proofs.Starting.{find_passes}
use Rattle.tta_hardware.proofs.Timed.{none_by, some_by}
use Rattle.tta_trap.specs.Tells.{Knows, IsWatched}
use Rattle.tta_trap.proofs.Tests.{not_some, any_set, any_finds, some_range, all_fail, some_numbered}
use Rattle.tta_trap.proofs.Holding.{held}

-- ---- operands of what starts

-- an operation that starts has the operand that was written
operand_is : (m : Machine) (w : Written) (b : Brought) (t : Start) → start_of m w b ≡ Some t → t.operand ≡ operand_of w t.unit t.does
operand_is m w (Trigger unit op, word) t is = by (op_at m unit op) is where
  by : (o : Option UnitOp)
      → option_map_or (λ o. Some (record { unit = unit; does = o; operand = operand_of w unit o; word = word })) o None ≡ Some t
      → t.operand ≡ operand_of w t.unit t.does
  by None is = absurd (none-some t is)
  by (Some o) is =
      let same = same_Some (record { unit = unit; does = o; operand = operand_of w unit o; word = word }) t is in
      ap (λ (x : Start). x.operand) (sym same) ∙ ap (λ (x : Start). operand_of w x.unit x.does) same
operand_is m w (Reg file index, word) t is = absurd (none-some t is)
operand_is m w (Imm unit index, word) t is = absurd (none-some t is)
operand_is m w (Operand unit, word) t is = absurd (none-some t is)
operand_is m w (Control kind, word) t is = absurd (none-some t is)

operand_in : (m : Machine) (w : Written) (bs : List Brought) (q : Start → Bool) (t : Start) → find q (filter_map (start_of m w) bs) ≡ Some t
    → t.operand ≡ operand_of w t.unit t.does
operand_in m w [] q t is = absurd (none-some t is)
operand_in m w (b ∷ bs) q t is = by (start_of m w b) refl is (operand_in m w bs q t) where
  at : (x : Start) → start_of m w b ≡ Some x → (c : Bool) → (if c then Some x else find q (filter_map (start_of m w) bs)) ≡ Some t
      → (find q (filter_map (start_of m w) bs) ≡ Some t → t.operand ≡ operand_of w t.unit t.does) → t.operand ≡ operand_of w t.unit t.does
  at x from true is rest = operand_is m w b t (from ∙ is)
  at x from false is rest = rest is

  by : (o : Option Start) → start_of m w b ≡ o → find q (cons_option o (filter_map (start_of m w) bs)) ≡ Some t
      → (find q (filter_map (start_of m w) bs) ≡ Some t → t.operand ≡ operand_of w t.unit t.does) → t.operand ≡ operand_of w t.unit t.does
  by None from is rest = rest is
  by (Some x) from is rest = at x from (q x) is rest

module _ (m : Machine) (env : Named → ℕ) (i : Instruction) (w : Written) where
  -- some bus starts an operation of two words in a unit whose operand port has none
  record IsLacking (ns : List ℕ) : Type 0 where
    unit : ℕ
    op : ℕ
    does : UnitOp
    there : op_at m unit op ≡ Some does
    two : (does.arity == 2) ≡ true
    none : is_none (kept w (KeptOperand unit)) ≡ true
    found : list_any (goes env i (dest.Trigger unit op)) ns ≡ true

  later : (b : ℕ) (ns : List ℕ) → IsLacking ns → IsLacking (b ∷ ns)
  later b ns l = record {
    unit = l.unit;
    op = l.op;
    does = l.does;
    there = l.there;
    two = l.two;
    none = l.none;
    found = or_right (goes env i (dest.Trigger l.unit l.op) b) (list_any (goes env i (dest.Trigger l.unit l.op)) ns) l.found;
  }

  -- an operation that starts without its operand is started so
  lacking_at : (b : ℕ) (v : Move) (ns : List ℕ) → slot_at i b ≡ Some v → is_set (env (Acts b)) ≡ true → (d : Dest) → v.dst ≡ d → (t : Start)
      → start_of m w (target_of d, env (Word b)) ≡ Some t → lacks_operand t ≡ true → IsLacking (b ∷ ns)
  lacking_at b v ns at acts (dest.Trigger unit op) to t is lacks = by (op_at m unit op) refl is where
    of : (o : UnitOp) → op_at m unit op ≡ Some o → is_none (operand_of w unit o) ≡ true → (c : Bool) → (o.arity == 2) ≡ c
        → IsLacking (b ∷ ns)
    of o there none true two = record {
      unit = unit;
      op = op;
      does = o;
      there = there;
      two = two;
      none = sym (ap (λ c. is_none (if c then kept w (KeptOperand unit) else Some 0)) two) ∙ none;
      found = or_left (goes env i (dest.Trigger unit op) b) (list_any (goes env i (dest.Trigger unit op)) ns)
          (ap (λ o. option_map_or (λ v. is_set (env (Acts b)) && same_dest v.dst (dest.Trigger unit op)) o false) at
          ∙ and_from (is_set (env (Acts b))) (same_dest v.dst (dest.Trigger unit op)) acts
          (ap (λ d. same_dest d (dest.Trigger unit op)) to ∙ same_dest_itself (dest.Trigger unit op)));
    }
    of o there none false one = absurd (false≢true (sym (ap (λ c. is_none (if c then kept w (KeptOperand unit) else Some 0)) one) ∙ none))

    by : (o : Option UnitOp) → op_at m unit op ≡ o
        → option_map_or (λ o. Some (record { unit = unit; does = o; operand = operand_of w unit o; word = env (Word b) })) o None ≡ Some t
        → IsLacking (b ∷ ns)
    by None there is = absurd (none-some t is)
    by (Some o) there is =
        of o there (ap lacks_operand (same_Some (record { unit = unit; does = o; operand = operand_of w unit o; word = env (Word b) }) t is)
        ∙ lacks) (o.arity == 2) refl
  lacking_at b v ns at acts (dest.Reg file index) to t is lacks = absurd (none-some t is)
  lacking_at b v ns at acts (dest.Operand q) to t is lacks = absurd (none-some t is)
  lacking_at b v ns at acts dest.Jump to t is lacks = absurd (none-some t is)
  lacking_at b v ns at acts dest.Call to t is lacks = absurd (none-some t is)
  lacking_at b v ns at acts dest.Halt to t is lacks = absurd (none-some t is)

  lacking : (ns : List ℕ) → list_any lacks_operand (filter_map (start_of m w) (filter_map (carried env i) ns)) ≡ true → IsLacking ns
  lacking [] any = absurd (false≢true any)
  lacking (b ∷ ns) any = by (slot_at i b) refl (is_set (env (Acts b))) refl any (λ more. later b ns (lacking ns more)) where
    rest : List Start
    rest = filter_map (start_of m w) (filter_map (carried env i) ns)

    at : (v : Move) → slot_at i b ≡ Some v → is_set (env (Acts b)) ≡ true → (o : Option Start)
        → start_of m w (target_of v.dst, env (Word b)) ≡ o → list_any lacks_operand (cons_option o rest) ≡ true
        → (list_any lacks_operand rest ≡ true → IsLacking (b ∷ ns)) → IsLacking (b ∷ ns)
    at v here acts None is any more = more any
    at v here acts (Some t) is any more = which (lacks_operand t) refl any where
      which : (c : Bool) → lacks_operand t ≡ c → (c || list_any lacks_operand rest) ≡ true → IsLacking (b ∷ ns)
      which true lacks any = lacking_at b v ns here acts v.dst refl t is lacks
      which false lacks any = more any

    by : (o : Option Move) → slot_at i b ≡ o → (a : Bool) → is_set (env (Acts b)) ≡ a
        → list_any lacks_operand
        (filter_map (start_of m w)
        (cons_option (option_and_then (λ v. if a then Some (target_of v.dst, env (Word b)) else None) o) (filter_map (carried env i) ns)))
        ≡ true
        → (list_any lacks_operand rest ≡ true → IsLacking (b ∷ ns)) → IsLacking (b ∷ ns)
    by None here a acts any more = more any
    by (Some v) here false acts any more = more any
    by (Some v) here true acts any more = at v here acts (start_of m w (target_of v.dst, env (Word b))) refl any more

-- ---- what the circuit tells

module _ (u : Units) (m : Machine) (count : ℕ) (h : Hardware) (env : Named → ℕ) (s : State) (i : Instruction) (meet : Meet u m h env s i)
    (knows : Knows m h.words s) (watched : IsWatched u m count h env) where
  abbrev written : Written
  written = written_after m s i

  abbrev ts : List Start
  ts = started_in m s i

  -- the operations of two words of a unit
  abbrev pairs : ℕ → List (ℕ × UnitOp)
  pairs unit = filter (λ o. o.1.arity == 2) (ops_of m unit)

  -- whether one of them starts
  abbrev some_pair : ℕ → Bool
  some_pair unit = list_any (λ o. is_set (env (Starts unit o.0))) (pairs unit)

  wire_is : (unit : ℕ) → unit < length m.units
      → is_set (env (Watches (LacksOperand unit))) ≡ (some_pair unit && is_none (kept written (KeptOperand unit)))
  wire_is unit there =
      let r = is_set (value u h.memories env (reached m (dest.Operand unit))) in
      let a = is_set (value u h.memories env (any_of (map (λ o. OfSignal (Starts unit o.0)) (pairs unit)))) in
      let w = is_set (env (Watches (HasWord (KeptOperand unit)))) in
      ap is_set (watched.lacks_operand unit there) ∙ set_bit (a && is_set (bit (not (is_set (bit (r || w))))))
      ∙ ap (λ b. b && is_set (bit (not (is_set (bit (r || w)))))) (any_set u h.memories env (λ (o : ℕ × UnitOp). OfSignal (Starts unit o.0))
      (pairs unit))
      ∙ ap (λ b. some_pair unit && b)
      (set_bit (not (is_set (bit (r || w)))) ∙ ap not (set_bit (r || w))
      ∙ ap (λ b. not (r || b)) (ap is_set (watched.has_word (KeptOperand unit)) ∙ knows.places (KeptOperand unit) refl
      (some_at m.units unit there))
      ∙ ap not (sym (held u m h env s i meet (KeptOperand unit) refl)) ∙ not_some (kept written (KeptOperand unit)))

  -- where none lacks its operand, the circuit tells none
  all_full : list_any lacks_operand ts ≡ false → (unit : ℕ) → unit < length m.units → is_set (env (Watches (LacksOperand unit))) ≡ false
  all_full full unit there =
      wire_is unit there
      ∙ ap (λ b. b && is_none (kept written (KeptOperand unit)))
      (any_finds (λ (o : ℕ × UnitOp). is_set (env (Starts unit o.0))) (pairs unit))
      ∙ by (start_in unit ts) refl (starts_alike u m h env s i meet full unit there)
    where
      two : (t : Start) → start_in unit ts ≡ Some t → (b : Bool) → (t.does.arity == 2) ≡ b
          → (b && is_none (kept written (KeptOperand unit))) ≡ false
      two t is false arity = refl
      two t is true arity =
          let same : t.unit ≡ unit = eqb-true t.unit unit (find_passes (λ t. t.unit == unit) ts t is) in
          ap (λ n. is_none (kept written (KeptOperand n))) (sym same)
          ∙ sym (ap (λ b. is_none (if b then kept written (KeptOperand t.unit) else Some 0)) arity)
          ∙ ap is_none (sym (operand_in m written (brought m s i) (λ t. t.unit == unit) t is))
          ∙ found_not (λ t. t.unit == unit) lacks_operand ts t is full

      by : (o : Option Start) → start_in unit ts ≡ o → Starting m env unit o
          → (is_some (find (λ o. is_set (env (Starts unit o.0))) (pairs unit)) && is_none (kept written (KeptOperand unit))) ≡ false
      by None is none =
          ap (λ o. is_some o && is_none (kept written (KeptOperand unit))) (none_by m env unit (λ o. o.1.arity == 2) none)
      by (Some t) is one =
          ap (λ o. is_some o && is_none (kept written (KeptOperand unit))) (some_by m env unit (λ o. o.1.arity == 2) t one)
          ∙ ap (λ b. b && is_none (kept written (KeptOperand unit))) (some_if (t.does.arity == 2) (one.op, t.does))
          ∙ two t is (t.does.arity == 2) refl

  -- and where one does, it tells it
  one_lacks : IsLacking m env i written (numbers (length m.buses))
      → list_any (λ unit. is_set (env (Watches (LacksOperand unit)))) (numbers (length m.units)) ≡ true
  one_lacks l =
      let there = unit_in (slice_get m.units l.unit) refl l.there in
      some_range (λ unit. is_set (env (Watches (LacksOperand unit)))) 0 (length m.units) l.unit (omega arith) (omega (arith, there))
      (wire_is l.unit there
      ∙ and_from (some_pair l.unit) (is_none (kept written (KeptOperand l.unit))) (pair (slice_get m.units l.unit) refl l.there) l.none)
    where
      unit_in : (q : Option OpUnit) → slice_get m.units l.unit ≡ q → option_and_then (λ x. slice_get x.ops l.op) q ≡ Some l.does
          → l.unit < length m.units
      unit_in None is at = absurd (none-some l.does at)
      unit_in (Some x) is at = within_list m.units l.unit (ap is_some is)

      begins : is_set (env (Starts l.unit l.op)) ≡ true
      begins =
          ap is_set (meet.settled.starts l.unit l.op (ap is_some l.there)) ∙ is_reached u m h env s i meet (dest.Trigger l.unit l.op)
          ∙ sym (any_finds (goes env i (dest.Trigger l.unit l.op)) (numbers (length m.buses))) ∙ l.found

      pair : (q : Option OpUnit) → slice_get m.units l.unit ≡ q → option_and_then (λ x. slice_get x.ops l.op) q ≡ Some l.does
          → list_any (λ o. is_set (env (Starts l.unit o.0)))
          (filter (λ o. o.1.arity == 2) (option_map_or (λ x. enumerate_from 0 x.ops) q []))
          ≡ true
      pair None is at = absurd (none-some l.does at)
      pair (Some x) is at =
          some_numbered (λ o. o.1.arity == 2) (λ o. is_set (env (Starts l.unit o.0))) x.ops 0 l.op l.op l.does (omega arith) at l.two begins

  -- whether an operation starts without its operand
  pub operands_told : list_any (λ unit. is_set (env (Watches (LacksOperand unit)))) (numbers (length m.units)) ≡ list_any lacks_operand ts
  operands_told = by (list_any lacks_operand ts) refl where
    by : (b : Bool) → list_any lacks_operand ts ≡ b
        → list_any (λ unit. is_set (env (Watches (LacksOperand unit)))) (numbers (length m.units)) ≡ b
    by true is =
        one_lacks (lacking m env i written (numbers (length m.buses))
        (ap (list_any lacks_operand) (sym (starts_carried u m h env s i meet)) ∙ is))
    by false is =
        all_fail (λ unit. is_set (env (Watches (LacksOperand unit)))) 0 (length m.units)
        (λ unit least below. all_full is unit (omega (arith, below)))
