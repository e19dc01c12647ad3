-- How a circuit tells the first fault: the wires that it has more than one that does not.
use Rattle.std.specs.Prelude.{ℕ, ◌^◌, ◌==◌, ◌&&◌, nat_lt, if◌then◌else◌, List, [], ◌∷◌, ◌++◌, length, map, filter}
use Rattle.std.specs.List.{flat_map, range_with_len}
use Rattle.tta_trap.specs.Cited.{Const, Signal, Select, Not, Both, Either, Equal, Below, Source, Machine, KeptReg, KeptImm, KeptOperand, KeptRa, KeptPort, Place, has_result, numbers, guards_on, sources_on, guard_width, payload_width, dest_width, SourceOf, GuardOf, DestOf, IsShort, Pc, HasHalted, Underway, IsReset, Fetched, Acts, Starts, Controls, Watch, HasWord, IsPast, LacksRegister, LacksPort, LacksOperand, Clashes, FaultNow, Watches, Expression, any_of, first_of, pick_from, never, reached, ops_of, is_coming, longest}
use Rattle.tta_arch.specs.declared.ends.Source.TheVariants as source
use Rattle.tta_arch.specs.declared.ends.Dest.TheVariants as dest
use Rattle.tta_hardware.specs.Signals.{Signal as Named}

-- ---- the end of the code, and control

-- whether the address is past the end of code of so many instructions
abbrev pub is_outside : Machine → (count : ℕ) → Expression
is_outside m count =
    if count == 2 ^ m.control.address
    then Signal (Watches IsPast)
    else Either (Signal (Watches IsPast)) (Not (Below (Signal Pc) (Const m.control.address count)))

-- whether a control move acts while an earlier one is under way
abbrev pub jumps_again : Machine → Expression
jumps_again m = Both (Signal Controls) (any_of (map (λ delay. Signal (Underway delay)) (range_with_len 1 m.control.delay)))

-- ---- what moves read

-- whether a place has had no word
abbrev pub lacks : Place → Expression
lacks p = Not (Signal (Watches (HasWord p)))

-- whether there is a move on a bus: the code of its destination is not 0
abbrev pub has_move : Machine → (bus : ℕ) → Expression
has_move m bus =
    if nat_lt 0 (dest_width m bus) then Not (Equal (Signal (Fetched (DestOf bus))) (Const (dest_width m bus) 0)) else never

-- whether its guard is a register that was never written
abbrev pub guard_lacks : Machine → (bus : ℕ) → Expression
guard_lacks m bus =
    if nat_lt 0 (guard_width m bus)
    then pick_from (guard_width m bus) (Signal (Fetched (GuardOf bus))) 0
    (never ∷ map (λ g. lacks (KeptReg g.on.file g.on.index)) (guards_on m bus)) never
    else never

-- whether a source is a register that was never written
abbrev pub register_lacks : Source → Expression
register_lacks (source.Reg file index) = lacks (KeptReg file index)
register_lacks (source.Imm unit index) = lacks (KeptImm unit index)
register_lacks (source.Shown unit) = never
register_lacks source.Ra = lacks KeptRa
register_lacks (source.Value word) = never

-- whether a source is a result port that has shown nothing
abbrev pub port_lacks : Source → Expression
port_lacks (source.Reg file index) = never
port_lacks (source.Imm unit index) = never
port_lacks (source.Shown unit) = lacks (KeptPort unit)
port_lacks source.Ra = never
port_lacks (source.Value word) = never

-- whether a test holds of the source of a bus; it never does of a short word
abbrev pub of_source : Machine → (bus : ℕ) → (Source → Expression) → Expression
of_source m bus test =
    Both (Not (Signal (Fetched (IsShort bus))))
    (pick_from (payload_width m bus) (Signal (Fetched (SourceOf bus))) 0 (map test (sources_on m bus)) never)

-- whether the move of a bus acts and reads a source of which a test holds
abbrev pub acts_on : Machine → (bus : ℕ) → (Source → Expression) → Expression
acts_on m bus test = Both (Signal (Acts bus)) (of_source m bus test)

-- ---- what operations find

-- whether an operation of two words starts in a unit, whose operand port has had no word
abbrev pub operand_lacks : Machine → (unit : ℕ) → Expression
operand_lacks m unit =
    Both (any_of (map (λ o. Signal (Starts unit o.0)) (filter (λ o. o.1.arity == 2) (ops_of m unit))))
    (Not (Either (reached m (dest.Operand unit)) (Signal (Watches (HasWord (KeptOperand unit))))))

-- Whether an operation starts in a unit whose result is due when another of the unit is. Of a latency that no other exceeds there is
-- none before it.
abbrev pub clashing : Machine → (unit : ℕ) → Expression
clashing m unit =
    any_of (map (λ o. Both (Signal (Starts unit o.0)) (is_coming m unit o.1.latency))
    (filter (λ o. has_result o.1.op && nat_lt o.1.latency (longest m unit)) (ops_of m unit)))

-- ---- the fault

-- whether each fault is there, and its number: 65 is asked for first, since then there is no instruction
abbrev pub fault_choices : Machine → (count : ℕ) → List (Expression × Expression)
fault_choices m count =
    (is_outside m count, Const 7 65)
    ∷ (any_of (map (λ bus. Signal (Watches (LacksRegister bus))) (numbers (length m.buses))), Const 7 60)
    ∷ (any_of (map (λ bus. Signal (Watches (LacksPort bus))) (numbers (length m.buses))), Const 7 61)
    ∷ (any_of (map (λ unit. Signal (Watches (LacksOperand unit))) (numbers (length m.units))), Const 7 62)
    ∷ (any_of (map (λ unit. Signal (Watches (Clashes unit))) (numbers (length m.units))), Const 7 63)
    ∷ (jumps_again m, Const 7 64)
    ∷ []

-- The number of the fault that the next cycle meets, or 0: of several the first, by the table of faults. Where the circuit begins anew
-- or has halted it meets none. The code has so many instructions.
abbrev pub fault_now : Machine → (count : ℕ) → Expression
fault_now m count = Select (Either (Signal IsReset) (Signal HasHalted)) (Const 7 0) (first_of (fault_choices m count) (Const 7 0))

-- ---- all of them

-- what each of these wires is made of; registers are no wires
abbrev pub watch_made : Machine → (count : ℕ) → Watch → Expression
watch_made m count (LacksRegister bus) = Both (has_move m bus) (Either (guard_lacks m bus) (acts_on m bus register_lacks))
watch_made m count (LacksPort bus) = Both (has_move m bus) (acts_on m bus port_lacks)
watch_made m count (LacksOperand unit) = operand_lacks m unit
watch_made m count (Clashes unit) = clashing m unit
watch_made m count FaultNow = fault_now m count
watch_made m count w = never

-- those of a bus, and those of a unit
abbrev pub bus_watches : ℕ → List Named
bus_watches bus = Watches (LacksRegister bus) ∷ Watches (LacksPort bus) ∷ []

abbrev pub unit_watches : ℕ → List Named
unit_watches unit = Watches (LacksOperand unit) ∷ Watches (Clashes unit) ∷ []

-- all of them, in an order in which each reads only what stands before it
abbrev pub watch_wires : Machine → List Named
watch_wires m =
    flat_map bus_watches (numbers (length m.buses)) ++ flat_map unit_watches (numbers (length m.units)) ++ Watches FaultNow ∷ []
