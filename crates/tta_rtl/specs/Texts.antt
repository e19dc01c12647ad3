-- The text of lists: of choices, of wires and of registers.
use Rattle.std.specs.Prelude.{ℕ, ◌+◌, ◌==◌, ◌&&◌, Bool, true, false, if◌then◌else◌, List, [], ◌∷◌, ◌++◌, map, codes}
use Rattle.std.specs.List.{flat_map}
use Rattle.tta_rtl.specs.Cited.{UnitOp, Dest, Machine, is_dest_on, KeptOperand, KeptPort, has_result, Signal, Keeps, HasBegun, Raw, IsInside, IsDue, Due, Word, Starts, Operand, Trigger, Port, Expression, hits, arrivals, is_load, loads, read_word, result_of, wire, unit_wires, unit_registers, register, register_width, restarts, becomes, range, wire_text, register_text, names_of, text_of}
use Rattle.tta_arch.specs.declared.parts.Unit.{Unit as OpUnit}
use Rattle.tta_arch.specs.declared.ends.Dest.TheVariants as dest
use Rattle.tta_hardware.specs.Signals.{Signal as Named}
use Rattle.tta_rtl.specs.declared.starts.OpWord.{OpWord}
use Rattle.tta_rtl.specs.declared.starts.OpWord.TheVariants as of
use Rattle.tta_rtl.specs.declared.starts.UnitWord.{UnitWord}
use Rattle.tta_rtl.specs.declared.starts.UnitWord.TheVariants as word

-- ---- choices

-- how a choice begins: its test, and the word where that holds
unfoldable pub choice_start : (test on : List ℕ) → List ℕ
choice_start test on = codes "(" ++ (test ++ (codes ")?(" ++ (on ++ codes "):")))

-- its test alone
unfoldable pub tested : (test : List ℕ) → List ℕ
tested test = codes "(" ++ (test ++ codes ")?(")

-- choices, each a word after its test
abbrev pub choices : Machine → List (Expression × Expression) → List ℕ
choices m [] = []
choices m (x ∷ xs) = choice_start (text_of m x.0) (text_of m x.1) ++ choices m xs

-- what the move of a bus brings to a destination, after the test whether it does; nothing where the bus does not lead there
unfoldable pub arrival : Machine → Dest → (bus : ℕ) → List ℕ
arrival m dst bus = if is_dest_on m bus dst then choice_start (text_of m (hits m dst bus)) (text_of m (Signal (Word bus))) else []

-- the word of a load of this latency, after the test whether it began at the clock before; nothing for any other operation
unfoldable pub fresh_choice : Machine → (unit latency : ℕ) → ℕ × UnitOp → List ℕ
fresh_choice m unit latency o =
    if is_load o.1.op && o.1.latency == latency
    then choice_start (text_of m (Signal (HasBegun unit o.0))) (text_of m (read_word unit o.0)) else []

-- the words of all such loads of a unit
abbrev pub fresh_choices : Machine → (unit latency : ℕ) → List ℕ
fresh_choices m unit latency = choices m (map (λ o. (Signal (HasBegun unit o.0), read_word unit o.0)) (loads m unit latency))

-- the result of an operation of this latency, after the test whether it starts; nothing for any other operation
unfoldable pub made_choice : Machine → (unit latency : ℕ) → ℕ × UnitOp → List ℕ
made_choice m unit latency o =
    if has_result o.1.op && o.1.latency == latency
    then choice_start (text_of m (Signal (Starts unit o.0))) (text_of m (result_of m unit o.1)) else []

-- what starts these operations of a unit, the first having this number
abbrev pub triggers : Machine → (unit op : ℕ) → List UnitOp → List ℕ
triggers m unit op [] = []
triggers m unit op (o ∷ os) = choices m (arrivals m (dest.Trigger unit op)) ++ triggers m unit (op + 1) os

-- a wire of a unit
abbrev pub unit_word : UnitWord → (unit : ℕ) → Named
unit_word word.Operand unit = Operand unit
unit_word word.Trigger unit = Trigger unit
unit_word word.Shown unit = Port unit
unit_word word.Kept unit = Keeps (KeptOperand unit)
unit_word word.Result unit = Keeps (KeptPort unit)

-- a signal of a unit that has a number
abbrev pub op_word : OpWord → (unit n : ℕ) → Named
op_word of.Starts unit op = Starts unit op
op_word of.Began unit op = HasBegun unit op
op_word of.Raw unit op = Raw unit op
op_word of.Inside unit op = IsInside unit op
op_word of.IsDue unit delay = IsDue unit delay
op_word of.Due unit delay = Due unit delay

-- ---- wires

-- how the line of a wire begins, up to its word
unfoldable pub wire_start : (name : List ℕ) → (width : ℕ) → List ℕ
wire_start name width = codes "wire " ++ (range width ++ (name ++ codes " = "))

-- wires by their names
abbrev pub wires_text : Machine → List Named → List ℕ
wires_text m ns = flat_map (wire_text (names_of m)) (map (wire m) ns)

-- a wire by its name
unfoldable pub wire_of : Machine → Named → List ℕ
wire_of m n = wire_text (names_of m) (wire m n)

-- the wire that says whether an operation of a unit starts
unfoldable pub start_text : Machine → (unit op : ℕ) → List ℕ
start_text m unit op = wire_text (names_of m) (wire m (Starts unit op))

-- the wire of what a result port shows
unfoldable pub port_text : Machine → (unit : ℕ) → List ℕ
port_text m unit = wire_text (names_of m) (wire m (Port unit))

-- the wires of a unit
unfoldable pub unit_text : Machine → ℕ × OpUnit → List ℕ
unit_text m u = wires_text m (unit_wires u)

-- ---- registers

-- How the line of a register begins, up to its name: where it is declared, how many bits it has, and else at which clocks it takes a
-- word.
unfoldable pub register_start : (declares : Bool) → (width : ℕ) → (restarts : Bool) → List ℕ
register_start true width restarts = codes "reg " ++ range width
register_start false width true = codes "always @(posedge clk) if ((reset)||(n_goes)) "
register_start false width false = codes "always @(posedge clk) if (n_goes) "

-- how it ends, behind its name: with what it becomes, where it is not declared
unfoldable pub register_rest : (declares : Bool) → (next : List ℕ) → List ℕ
register_rest true next = codes ";\n"
register_rest false next = codes " <= " ++ (next ++ codes ";\n")

-- the line of a register
abbrev pub register_line : (declares : Bool) → (width : ℕ) → (restarts : Bool) → (name next : List ℕ) → List ℕ
register_line declares width restarts name next = register_start declares width restarts ++ (name ++ register_rest declares next)

-- a register by its name
unfoldable pub register_of : Machine → (declares : Bool) → Named → List ℕ
register_of m declares n = register_line declares (register_width m n) (restarts n) (text_of m (Signal n)) (text_of m (becomes m n))

-- registers by their names
abbrev pub registers_text : Machine → (declares : Bool) → List Named → List ℕ
registers_text m declares ns = flat_map (register_text (names_of m) declares) (map (register m) ns)

-- whether a result is due, as a register
unfoldable pub due_text : Machine → (declares : Bool) → (unit delay : ℕ) → List ℕ
due_text m declares unit delay = register_of m declares (IsDue unit delay)

-- the word that is due, as a register
unfoldable pub due_word_text : Machine → (declares : Bool) → (unit delay : ℕ) → List ℕ
due_word_text m declares unit delay = register_of m declares (Due unit delay)

-- the registers of an operation, if it is a load
unfoldable pub load_text : Machine → (declares : Bool) → (unit : ℕ) → ℕ × UnitOp → List ℕ
load_text m declares unit o =
    if is_load o.1.op
    then register_of m declares (HasBegun unit o.0) ++ (register_of m declares (Raw unit o.0) ++ register_of m declares (IsInside unit o.0))
    else []

-- the registers of a unit
unfoldable pub unit_registers_text : Machine → (declares : Bool) → ℕ × OpUnit → List ℕ
unit_registers_text m declares u = flat_map (register_of m declares) (unit_registers m u)
