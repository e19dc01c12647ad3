-- What the circuit starts is what the cycle starts.
use Rattle.std.proofs.Common.{◌≡◌, ℕ, ◌<◌, ◌==◌, Bool, true, false, ◌&&◌, ◌||◌, List, [], ◌∷◌, ◌++◌, length, map, slice_get, Option, Some, None, refl, sym, ap, ◌∙◌, subst, arith, append-nil}
use Rattle.std.specs.Prelude.{is_some, is_none, if◌then◌else◌, option_and_then, nat_lt}
use Rattle.std.specs.Option.{option_map_or}
use Rattle.std.specs.List.{find, list_any, filter_map, flat_map, enumerate_from}
use Rattle.std.proofs.lemmas.Option.{none-some, same_Some}
use Rattle.std.proofs.lemmas.Bool.{and_parts, and_from, false≢true, eq-eqb, eqb-true, ltb-true}
use Rattle.std.proofs.lemmas.List.Elements.{filter_map-append}
use Rattle.tta_hardware.specs.Cited.{Units, UnitOp, Template, Dest, Machine, within, has_socket, is_source_on, is_dest_on, has_guard, numbers, same_dest, KeptOperand, Start, kept, start_of, bring, op_at, operand_of, operand_word, lacks_operand, long_effect, Move, Long, Instruction, State, read_source, effect_of, moves_of, long_effects, is_set, value}
use Rattle.tta_arch.specs.declared.parts.Unit.{Unit as OpUnit}
use Rattle.tta_arch.specs.declared.ends.Dest.TheVariants as dest
use Rattle.tta_arch.specs.Legal.{same_place}
use Rattle.tta_image.proofs.EndsLemmas.{same_dest_itself}
use Rattle.tta_circuit.specs.Circuit.{Signal as OfSignal}
use Rattle.tta_hardware.specs.Signals.{Signal as Named, Word, Acts, Operand}
use Rattle.tta_hardware.specs.Chains.{first_of}
use Rattle.tta_hardware.specs.Fields.{slot_at}
use Rattle.tta_hardware.specs.Wires.{arrivals, ops_of, nothing}
use Rattle.tta_hardware.specs.Stands.{Hardware, Starting, StartsOne, start_in}
use Rattle.tta_hardware.specs.Laws.{Meet, carried, brought, written_after, StartsAlike}
use Rattle.tta_hardware.proofs.Chained.{some_if}
use Rattle.tta_hardware.proofs.Carrying.{is_joined_at, buses_carry}
use Rattle.tta_hardware.proofs.Shown.{some_at}
use Rattle.tta_hardware.proofs.Arriving.{goes, bus_of, is_reached, arrives}
use Rattle.tta_hardware.proofs.Sole.{one_bus}
use Rattle.tta_hardware.proofs.Starting.{find_none, find_only, find_passes, find_weaker, find_within, is_trigger, start_with, triggers, from_bus, has_op, started_by}
use Rattle.tta_hardware.proofs.Keeping.{operand_next}
use Rattle.tta_hardware.proofs.Goings.{Going, going, Triggering, first_append, any_code, found_not}

-- ---- one unit

module _ (u : Units) (m : Machine) (h : Hardware) (env : Named → ℕ) (s : State) (i : Instruction) (meet : Meet u m h env s i) where
  -- what the cycle starts
  abbrev pub starts : List Start
  starts = filter_map (start_of m (written_after m s i)) (brought m s i)

  -- a long immediate starts nothing
  long_quiet : (long : Option Long)
      → filter_map (start_of m (written_after m s i)) (filter_map (bring (read_source s)) (long_effects m long)) ≡ []
  long_quiet None = refl
  long_quiet (Some l) = by (slice_get m.templates l.template) where
    by : (o : Option Template)
        → filter_map (start_of m (written_after m s i))
        (filter_map (bring (read_source s)) (option_map_or (λ t. long_effect t.imm t.reg l.value ∷ []) o [])) ≡ []
    by None = refl
    by (Some t) = refl

  -- the moves start all
  pub starts_moved : starts
      ≡ filter_map (start_of m (written_after m s i)) (filter_map (bring (read_source s)) (map effect_of (moves_of i)))
  starts_moved =
      ap (filter_map (start_of m (written_after m s i)))
      (filter_map-append (bring (read_source s)) (map effect_of (moves_of i)) (long_effects m i.long))
      ∙ filter_map-append (start_of m (written_after m s i)) (filter_map (bring (read_source s)) (map effect_of (moves_of i)))
      (filter_map (bring (read_source s)) (long_effects m i.long))
      ∙ ap (λ xs. filter_map (start_of m (written_after m s i)) (filter_map (bring (read_source s)) (map effect_of (moves_of i))) ++ xs)
      (long_quiet i.long)
      ∙ append-nil (filter_map (start_of m (written_after m s i)) (filter_map (bring (read_source s)) (map effect_of (moves_of i))))

  -- and so do the buses
  pub starts_carried : starts ≡ filter_map (start_of m (written_after m s i)) (filter_map (carried env i) (numbers (length m.buses)))
  starts_carried = starts_moved ∙ ap (filter_map (start_of m (written_after m s i))) (buses_carry u m h env s i meet)

  -- the operation of a trigger to which a bus leads is there
  op_there : (bus q op : ℕ) → is_dest_on m bus (dest.Trigger q op) ≡ true → is_some (op_at m q op) ≡ true
  op_there bus q op on = by (slice_get m.units q) on where
    in_size : (x : OpUnit) (b : Bool) → nat_lt op (length x.ops) ≡ b → has_socket m true (if b then Some x.trigger else None) bus ≡ true
        → is_some (slice_get x.ops op) ≡ true
    in_size x true is on = some_at x.ops op (ltb-true op (length x.ops) is)
    in_size x false is on = absurd (false≢true on)

    by : (o : Option OpUnit) → has_socket m true (option_and_then (λ x. within op (length x.ops) x.trigger) o) bus ≡ true
        → is_some (option_and_then (λ x. slice_get x.ops op) o) ≡ true
    by None on = absurd (false≢true on)
    by (Some x) on = in_size x (nat_lt op (length x.ops)) refl on

  all_there : (unit bus : ℕ) (v : Move) → slot_at i bus ≡ Some v → has_op m env i (written_after m s i) unit v.dst
  all_there unit bus v at =
      let ends = and_parts (is_source_on m bus v.src && is_dest_on m bus v.dst) (has_guard m bus v.guard)
      (is_joined_at m i meet.legal bus v at) in
      by v.dst (and_parts (is_source_on m bus v.src) (is_dest_on m bus v.dst) ends.0).1
    where
      by : (d : Dest) → is_dest_on m bus d ≡ true → has_op m env i (written_after m s i) unit d
      by (dest.Reg file index) on = refl
      by (dest.Operand q) on = refl
      by (dest.Trigger q op) on = op_there bus q op on
      by dest.Jump on = refl
      by dest.Call on = refl
      by dest.Halt on = refl

  module _ (unit : ℕ) (there : unit < length m.units) where
    start_found : start_in unit starts ≡ option_and_then (from_bus m env i (written_after m s i) unit)
        (find (triggers m env i (written_after m s i) unit) (numbers (length m.buses)))
    start_found = ap (start_in unit) starts_carried
        ∙ started_by m env i (written_after m s i) unit (all_there unit) (numbers (length m.buses))

    triggering : (bus : ℕ) → triggers m env i (written_after m s i) unit bus ≡ true → Triggering env i unit bus
    triggering bus is = by (slot_at i bus) refl is where
      of : (v : Move) → slot_at i bus ≡ Some v → is_set (env (Acts bus)) ≡ true → (d : Dest) → v.dst ≡ d → is_trigger unit d ≡ true
          → Triggering env i unit bus
      of v at acts (dest.Reg file index) to is = absurd (false≢true is)
      of v at acts (dest.Operand q) to is = absurd (false≢true is)
      of v at acts (dest.Trigger q op) to is =
          let same : q ≡ unit = eqb-true q unit is in
          record { move = v; op = op; at = at; acts = acts; to = to ∙ ap (λ n. dest.Trigger n op) same }
      of v at acts dest.Jump to is = absurd (false≢true is)
      of v at acts dest.Call to is = absurd (false≢true is)
      of v at acts dest.Halt to is = absurd (false≢true is)

      by : (o : Option Move) → slot_at i bus ≡ o → option_map_or (λ v. is_set (env (Acts bus)) && is_trigger unit v.dst) o false ≡ true
          → Triggering env i unit bus
      by None at is = absurd (false≢true is)
      by (Some v) at is = let parts = and_parts (is_set (env (Acts bus))) (is_trigger unit v.dst) is in of v at parts.0 v.dst refl parts.1

    goes_triggers : (op bus : ℕ) → goes env i (dest.Trigger unit op) bus ≡ true → triggers m env i (written_after m s i) unit bus ≡ true
    goes_triggers op bus is =
        let g = going env i (dest.Trigger unit op) bus is in
        ap (λ o. option_map_or (λ v. is_set (env (Acts bus)) && is_trigger unit v.dst) o false) g.at
        ∙ and_from (is_set (env (Acts bus))) (is_trigger unit g.move.dst) g.acts (ap (is_trigger unit) g.to ∙ eq-eqb unit unit refl)

    -- where nothing goes to the trigger
    none_starts : find (triggers m env i (written_after m s i) unit) (numbers (length m.buses)) ≡ None → Starting m env unit None
    none_starts none k o at =
        ap is_set (meet.settled.starts unit k (ap is_some at)) ∙ is_reached u m h env s i meet (dest.Trigger unit k)
        ∙ ap is_some
        (find_weaker (triggers m env i (written_after m s i) unit) (goes env i (dest.Trigger unit k)) (numbers (length m.buses))
        (goes_triggers k) none)

    module _ (bus : ℕ) (found : find (triggers m env i (written_after m s i) unit) (numbers (length m.buses)) ≡ Some bus) where
      t : Triggering env i unit bus
      t = triggering bus (find_passes (triggers m env i (written_after m s i) unit) (numbers (length m.buses)) bus found)

      goes_there : goes env i (dest.Trigger unit t.op) bus ≡ true
      goes_there =
          ap (λ o. option_map_or (λ v. is_set (env (Acts bus)) && same_dest v.dst (dest.Trigger unit t.op)) o false) t.at
          ∙ and_from (is_set (env (Acts bus))) (same_dest t.move.dst (dest.Trigger unit t.op)) t.acts
          (ap (λ d. same_dest d (dest.Trigger unit t.op)) t.to ∙ same_dest_itself (dest.Trigger unit t.op))

      -- a bus that goes to the unit's trigger is this one
      sole : (k j : ℕ) → goes env i (dest.Trigger unit k) j ≡ true → (j ≡ bus) × (k ≡ t.op)
      sole k j is = (same_bus, same_op) where
        g : Going env i (dest.Trigger unit k) j
        g = going env i (dest.Trigger unit k) j is

        same_bus : j ≡ bus
        same_bus = one_bus m i meet.legal j bus g.move t.move g.at t.at
            (ap (λ d. same_place d t.move.dst) g.to ∙ ap (λ d. same_place (dest.Trigger unit k) d) t.to ∙ eq-eqb unit unit refl)
            (ap (λ d. same_place d g.move.dst) t.to ∙ ap (λ d. same_place (dest.Trigger unit t.op) d) g.to ∙ eq-eqb unit unit refl)

        same_move : g.move ≡ t.move
        same_move = same_Some g.move t.move (sym g.at ∙ ap (slot_at i) same_bus ∙ t.at)

        op_of : Dest → ℕ
        op_of (dest.Trigger q op) = op
        op_of d = 0

        same_op : k ≡ t.op
        same_op = ap op_of (sym g.to ∙ ap (λ (v : Move). v.dst) same_move ∙ t.to)

      -- the bus for each of the unit's operations
      bus_for : (k : ℕ) → bus_of u m h env s i meet (dest.Trigger unit k) ≡ (if k == t.op then Some bus else None)
      bus_for k = by (k == t.op) refl where
        off : k == t.op ≡ false → (j : ℕ) → (b : Bool) → goes env i (dest.Trigger unit k) j ≡ b → b ≡ false
        off other j true is = absurd (false≢true (sym other ∙ eq-eqb k t.op (sole k j is).1))
        off other j false is = refl

        by : (b : Bool) → (k == t.op) ≡ b → bus_of u m h env s i meet (dest.Trigger unit k) ≡ (if b then Some bus else None)
        by true is =
            let same : k ≡ t.op = eqb-true k t.op is in
            let inside = find_within (triggers m env i (written_after m s i) unit) 0 (length m.buses) bus found in
            find_only (goes env i (dest.Trigger unit k)) 0 (length m.buses) bus (omega arith) (omega (arith, inside.1))
            (ap (λ n. goes env i (dest.Trigger unit n) bus) same ∙ goes_there) (λ j it. (sole k j it).0)
        by false is = find_none (goes env i (dest.Trigger unit k)) (numbers (length m.buses))
            (λ j. off is j (goes env i (dest.Trigger unit k) j) refl)

      -- the word that the trigger has
      over_ops : (ops : List (ℕ × UnitOp))
          → value u h.memories env (first_of (flat_map (λ o. arrivals m (dest.Trigger unit o.0)) ops) nothing)
          ≡ (if list_any (λ o. o.0 == t.op) ops then env (Word bus) else 0)
      over_ops [] = refl
      over_ops (o ∷ ops) =
          first_append u m h env (arrivals m (dest.Trigger unit o.0)) (flat_map (λ o. arrivals m (dest.Trigger unit o.0)) ops) nothing
          ∙ arrives u m h env s i meet (dest.Trigger unit o.0) (λ bus. OfSignal (Word bus))
          (first_of (flat_map (λ o. arrivals m (dest.Trigger unit o.0)) ops) nothing)
          ∙ ap (λ b. option_map_or (λ b. env (Word b)) b
          (value u h.memories env (first_of (flat_map (λ o. arrivals m (dest.Trigger unit o.0)) ops) nothing))) (bus_for o.0)
          ∙ here (o.0 == t.op) (value u h.memories env (first_of (flat_map (λ o. arrivals m (dest.Trigger unit o.0)) ops) nothing))
          (list_any (λ o. o.0 == t.op) ops) (over_ops ops)
        where
          here : (b : Bool) (rest : ℕ) (c : Bool) → rest ≡ (if c then env (Word bus) else 0)
              → option_map_or (λ b. env (Word b)) (if b then Some bus else None) rest ≡ (if b || c then env (Word bus) else 0)
          here true rest c is = refl
          here false rest c is = is

      module _ (o : UnitOp) (at : op_at m unit t.op ≡ Some o) where
        abbrev this : Start
        this = record { unit = unit; does = o; operand = operand_of (written_after m s i) unit o; word = env (Word bus) }

        this_start : start_in unit starts ≡ Some this
        this_start =
            start_found ∙ ap (option_and_then (from_bus m env i (written_after m s i) unit)) found
            ∙ ap (λ w. option_and_then (λ v. start_with m env i (written_after m s i) unit v.dst (env (Word bus))) w) t.at
            ∙ ap (λ d. start_with m env i (written_after m s i) unit d (env (Word bus))) t.to
            ∙ ap (λ q. option_map_or
            (λ o. Some (record { unit = unit; does = o; operand = operand_of (written_after m s i) unit o; word = env (Word bus) })) q
            None) at

        in_ops : list_any (λ o. o.0 == t.op) (ops_of m unit) ≡ true
        in_ops = by (slice_get m.units unit) at where
          by : (q : Option OpUnit) → option_and_then (λ x. slice_get x.ops t.op) q ≡ Some o
              → list_any (λ o. o.0 == t.op) (option_map_or (λ x. enumerate_from 0 x.ops) q []) ≡ true
          by None at = absurd (none-some o at)
          by (Some x) at = any_code x.ops 0 t.op t.op o (omega arith) at

        operand_has : list_any lacks_operand starts ≡ false → (if o.arity == 2 then env (Operand unit) else 0) ≡ operand_word this
        operand_has lacks = by (o.arity == 2) refl where
          full : (q : Option ℕ) → kept (written_after m s i) (KeptOperand unit) ≡ q → is_none q ≡ false → env (Operand unit)
              ≡ option_map_or (λ a. a) q 0
          full None is some = absurd (false≢true (sym some))
          full (Some a) is some = operand_next u m h env s i meet unit a (some_at m.units unit there) is

          by : (b : Bool) → (o.arity == 2) ≡ b → (if b then env (Operand unit) else 0) ≡ operand_word this
          by true is =
              full (kept (written_after m s i) (KeptOperand unit)) refl
              (sym (ap (λ b. is_none (if b then kept (written_after m s i) (KeptOperand unit) else Some 0)) is)
              ∙ found_not (λ t. t.unit == unit) lacks_operand starts this this_start lacks)
              ∙ sym (ap (λ b. option_map_or (λ a. a) (if b then kept (written_after m s i) (KeptOperand unit) else Some 0) 0) is)
          by false is = sym (ap (λ b. option_map_or (λ a. a) (if b then kept (written_after m s i) (KeptOperand unit) else Some 0) 0) is)

        starts_this : list_any lacks_operand starts ≡ false → StartsOne m env unit this
        starts_this lacks = record {
          op = t.op;
          there = at;
          one = λ k o' at'.
              ap is_set (meet.settled.starts unit k (ap is_some at')) ∙ is_reached u m h env s i meet (dest.Trigger unit k)
              ∙ ap is_some (bus_for k) ∙ some_if (k == t.op) bus;
          word = meet.settled.trigger unit there ∙ over_ops (ops_of m unit) ∙ ap (λ b. if b then env (Word bus) else 0) in_ops;
          operand = operand_has lacks;
        }

      busy : list_any lacks_operand starts ≡ false → Starting m env unit (start_in unit starts)
      busy lacks =
          by (op_at m unit t.op) refl (subst (has_op m env i (written_after m s i) unit) t.to (all_there unit bus t.move t.at)) where
            by : (q : Option UnitOp) → op_at m unit t.op ≡ q → is_some q ≡ true → Starting m env unit (start_in unit starts)
            by None at some = absurd (false≢true some)
            by (Some o) at some = subst (Starting m env unit) (sym (this_start o at)) (starts_this o at lacks)

    -- the circuit starts what the cycle starts
    pub starting : list_any lacks_operand starts ≡ false → Starting m env unit (start_in unit starts)
    starting lacks = by (find (triggers m env i (written_after m s i) unit) (numbers (length m.buses))) refl where
      by : (o : Option ℕ) → find (triggers m env i (written_after m s i) unit) (numbers (length m.buses)) ≡ o
          → Starting m env unit (start_in unit starts)
      by None is = subst (Starting m env unit) (sym (start_found ∙ ap (option_and_then (from_bus m env i (written_after m s i) unit)) is))
          (none_starts is)
      by (Some bus) is = busy bus is lacks

pub starts_alike : StartsAlike
starts_alike u m h env s i meet lacks unit there = starting u m h env s i meet unit there lacks
