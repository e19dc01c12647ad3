-- Which operations the moves of a cycle start, and what these do.
use Rattle.std.specs.Prelude.{◌≡◌, ℕ, ◌==◌, Bool, true, false, not, ◌&&◌, ◌||◌, nat_lt, nat_le, if◌then◌else◌, List, [], ◌∷◌, map, Option, None, Some, is_some, option_map, IsTrue}
use Rattle.std.specs.Option.{option_or}
use Rattle.std.specs.List.{list_any, filter_map, find, AllByRecursion}
use Rattle.tta_sim.specs.Cited.{Units, Op, Out, UnitOp, Dest, Machine, are_different, same_op, KeptOperand, Start, Kind, Jumps, Calls, Halts, op_at, has_result, takes_in, result_word, lacks_operand, first_some, control_of, is_port, has_unset, Result', first_fault, Move}
use Rattle.tta_arch.specs.declared.ends.Dest.TheVariants as dest
use Rattle.tta_sim.specs.declared.control.ControlMove.{ControlMove}
use Rattle.tta_sim.specs.declared.control.ControlKind.{ControlKind}
use Rattle.tta_sim.specs.declared.control.ControlKind.TheVariants as control_kind
use Rattle.tta_sim.specs.Places.{word_at}
use Rattle.tta_sim.specs.Results.{Results, shown_by, due_by, longest_by, due_after}
use Rattle.tta_sim.specs.Moves.{Arrival, is_reachable, reads_of, lacks_register, effects_in, arrivals_of, brought_of}

-- ---- operations

-- whether a destination is the operand port of a unit
abbrev pub is_operand_of : ℕ → Dest → Bool
is_operand_of unit (dest.Reg file index) = false
is_operand_of unit (dest.Operand u) = u == unit
is_operand_of unit (dest.Trigger u op) = false
is_operand_of unit dest.Jump = false
is_operand_of unit dest.Call = false
is_operand_of unit dest.Halt = false

-- the word in the operand port of a unit once the arrivals are there
abbrev pub operand_with : (places : List (Option ℕ)) → List Arrival → ℕ → Option ℕ
operand_with places arrivals unit =
    option_or (option_map (λ a. a.word) (find (λ a. is_operand_of unit a.dst) arrivals)) (word_at places (KeptOperand unit))

-- an operation that a word starts
abbrev pub started : (operand : ℕ → Option ℕ) → (unit : ℕ) → UnitOp → (word : ℕ) → Start
started operand unit o word = record { unit = unit; does = o; operand = if o.arity == 2 then operand unit else Some 0; word = word }

-- the operation that a word starts in a trigger port
abbrev pub triggered : Machine → (operand : ℕ → Option ℕ) → (unit op word : ℕ) → Option Start
triggered m operand unit op word =
    option_map (λ o. record { unit = unit; does = o; operand = if o.arity == 2 then operand unit else Some 0; word = word }) (op_at m unit op)

-- the operation that an arrival starts, if it does
abbrev pub start_by : Machine → (operand : ℕ → Option ℕ) → Arrival → Option Start
start_by m operand a = on a.dst where
  on : Dest → Option Start
  on (dest.Reg file index) = None
  on (dest.Operand unit) = None
  on (dest.Trigger unit op) = triggered m operand unit op a.word
  on dest.Jump = None
  on dest.Call = None
  on dest.Halt = None

-- the operations that the arrivals start
abbrev pub starts_of : Machine → (places : List (Option ℕ)) → List Arrival → List Start
starts_of m places arrivals = filter_map (start_by m (operand_with places arrivals)) arrivals

-- ---- faults

-- whether a result would be due at the time of another one of its unit
abbrev pub clashes_with : Results → Start → Bool
clashes_with r t = has_result t.does.op && is_some (due_by r t.unit t.does.latency)

-- whether the result of an operation of a unit would be due at the time of another one
abbrev pub clashes_at : Results → (unit : ℕ) → UnitOp → Bool
clashes_at r unit o = has_result o.op && is_some (due_by r unit o.latency)

-- whether an operation cannot start: it lacks its operand, or its result would be due at the time of another
abbrev pub is_stopped : Results → Start → Bool
is_stopped r t = lacks_operand t || clashes_with r t

-- the fault of a cycle, if any
abbrev pub fault_in : Machine → (places : List (Option ℕ)) → Results → (is_pending : Bool) → List (Option Move) → Option ℕ
fault_in m places r is_pending slots =
    let reads = reads_of places (shown_by r) in
    let arrivals = arrivals_of reads slots in
    let starts = starts_of m places arrivals in
    first_fault (
    (list_any (lacks_register reads) (effects_in slots), 60)
    ∷ (list_any (has_unset reads is_port) (effects_in slots), 61)
    ∷ (list_any lacks_operand starts, 62)
    ∷ (list_any (clashes_with r) starts, 63)
    ∷ (is_some (first_some control_of (map brought_of arrivals)) && is_pending, 64)
    ∷ [])

-- ---- effects

-- the result that an operation shows after its latency
abbrev pub due_of : (now : ℕ) → Start → (value : ℕ) → Result'
due_of now t value = due_after now t.unit t.does.latency value

-- the result that an operation begins, if it has one
abbrev pub begun : Units → (now : ℕ) → (memory frame : List ℕ) → (next : ℕ) → Start → Option Result'
begun u now memory frame next t =
    if has_result t.does.op
    then Some (due_of now t (result_word u memory frame next t t.does.op))
    else None

-- whether an operation does more than show a result of words that the machine has: it stores its word, outputs it, or takes
-- one of the input
abbrev pub is_loud_op : Op → Bool
is_loud_op o = not (has_result o) || takes_in o

-- whether an operation that starts does more than that
abbrev pub is_loud : Start → Bool
is_loud t = is_loud_op t.does.op

-- whether an operation outputs its word
abbrev pub puts : Start → Bool
puts t = same_op t.does.op Out

-- an operation of one of the units, whose result, if it has one, shows after at least one cycle, and within the unit's longest delay
abbrev pub is_fitting : Results → Start → Bool
is_fitting r t = nat_lt t.unit r.units && (not (has_result t.does.op) || (nat_lt 0 t.does.latency && nat_le t.does.latency (longest_by r t.unit)))

-- Operations that fit, no two of them of one unit.
pub record AreFitting (r : Results) (starts : List Start) : Type 0 where
  pub fitting : AllByRecursion (λ t. IsTrue (is_fitting r t)) starts
  pub apart : are_different (λ a b. a.unit == b.unit) starts ≡ true

-- arrivals at destinations that are there
abbrev pub AreReachable : (units : ℕ) → List Arrival → Type 0
AreReachable units arrivals = AllByRecursion (λ a. IsTrue (is_reachable units a.dst)) arrivals

-- ---- control

-- the kind of a control move
abbrev pub kind_of : ControlKind → Kind
kind_of control_kind.Jump = Jumps
kind_of control_kind.Call = Calls
kind_of control_kind.Halt = Halts

-- a control move, with the word that it brings
abbrev pub kind_and_word : ControlMove → Kind × ℕ
kind_and_word t = (kind_of t.kind, t.word)

-- the control move among the arrivals
abbrev pub acting_in : List Arrival → Option (Kind × ℕ)
acting_in arrivals = first_some control_of (map brought_of arrivals)
