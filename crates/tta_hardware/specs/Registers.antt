-- The registers of a machine as a circuit: what each becomes at a clock that carries an instruction out.
use Rattle.std.specs.Prelude.{ℕ, ◌-◌, ◌+◌, ◌==◌, ◌&&◌, if◌then◌else◌, List, map, filter, Bool, true, false}
use Rattle.std.specs.Option.{option_map_or}
use Rattle.std.specs.List.{enumerate_from}
use Rattle.tta_hardware.specs.Cited.{Join, Const, Signal, Slice, Select, Both, Either, Equal, Below, Plus, Read, Register, Op, Ldf, Machine, Place, KeptReg, KeptImm, KeptOperand, KeptRa, KeptPort, op_at, template_width, word_width}
use Rattle.tta_arch.specs.declared.ends.Dest.TheVariants as dest
use Rattle.tta_arch.specs.Effects.{width_of}
use Rattle.tta_hardware.specs.Signals.{TemplateOf, LongOf, Store, Code, Data, Frame, Signal as Named, Pc, Whole, IsReset, HasHalted, Underway, Goal, Ends, Keeps, IsDue, Due, HasBegun, Raw, IsInside, Port, Starts, Trigger, Fetched, Word, Operand, Controls, NextPc, GoalNow, EndsNow, Lands, Goes, Expression}
use Rattle.tta_hardware.specs.Chains.{first_of}
use Rattle.tta_hardware.specs.Wires.{never, nothing, next_pc, hits, buses_to, reached, begins, made, is_coming, coming}

-- a word as a file keeps it
abbrev pub narrowed : Machine → (file : ℕ) → Expression → Expression
narrowed m file word = if width_of m file == 1 then Slice 0 1 word else word

-- for each template that writes an immediate register whether the instruction has it, and the long immediate
abbrev pub longs : Machine → (unit index : ℕ) → List (Expression × Expression)
longs m unit index =
    map (λ t. (Equal (Signal (Fetched TemplateOf)) (Const (template_width m) (t.0 + 1)), Signal (Fetched LongOf)))
    (filter (λ t. t.1.imm == unit && t.1.reg == index) (enumerate_from 0 m.templates))

-- what a place keeps from now on
abbrev pub kept_next : Machine → Place → Expression
kept_next m (KeptReg file index) =
    let dst = dest.Reg file index in
    first_of (map (λ bus. (hits m dst bus, narrowed m file (Signal (Word bus)))) (buses_to m dst)) (Signal (Keeps (KeptReg file index)))
kept_next m (KeptImm unit index) = first_of (longs m unit index) (Signal (Keeps (KeptImm unit index)))
kept_next m (KeptOperand unit) = Signal (Operand unit)
kept_next m KeptRa =
    Select (reached m dest.Call)
    (Plus 32 (Join m.control.address (Const (32 - m.control.address) 0) (Signal Pc)) (Const 32 (1 + m.control.delay)))
    (Signal (Keeps KeptRa))
kept_next m (KeptPort unit) =
    Select (begins m unit 1) (made m unit 1) (Select (is_coming m unit 1) (coming m unit 1) (Signal (Port unit)))

-- the word of the space that an operation loads from
abbrev pub read_at : Op → (address : Expression) → Expression
read_at Ldf address = Read Frame address
read_at o address = Read Data address

-- how many words that space has
abbrev pub space_size : Machine → Op → ℕ
space_size m Ldf = m.frame_words
space_size m o = m.data_words

-- what a register becomes at a clock that carries the instruction out
abbrev pub next_of : Machine → Named → Expression
next_of m Pc = next_pc m
next_of m Whole = Read Code (Signal NextPc)
next_of m HasHalted = Both (Signal Lands) (Signal EndsNow)
next_of m (Underway delay) = if delay == m.control.delay then Signal Controls else Signal (Underway (delay + 1))
next_of m Goal = Signal GoalNow
next_of m Ends = Signal EndsNow
next_of m (Keeps place) = kept_next m place
next_of m (IsDue unit delay) = Either (begins m unit (delay + 1)) (is_coming m unit (delay + 1))
next_of m (Due unit delay) = Select (begins m unit (delay + 1)) (made m unit (delay + 1)) (coming m unit (delay + 1))
next_of m (HasBegun unit op) = Signal (Starts unit op)
next_of m (Raw unit op) = option_map_or (λ o. read_at o.op (Signal (Trigger unit))) (op_at m unit op) nothing
next_of m (IsInside unit op) = option_map_or (λ o. Below (Signal (Trigger unit)) (Const 32 (space_size m o.op))) (op_at m unit op) never
next_of m n = never

-- how wide what a place keeps is
abbrev pub place_width : Machine → Place → ℕ
place_width m (KeptReg file index) = width_of m file
place_width m p = 32

-- how wide a register is
abbrev pub register_width : Machine → Named → ℕ
register_width m Pc = m.control.address
register_width m Whole = word_width m
register_width m Goal = 32
register_width m (Keeps place) = place_width m place
register_width m (Due unit delay) = 32
register_width m (Raw unit op) = 32
register_width m n = 1

-- Whether a clock that begins anew sets a register: the address and the word that is fetched, and whatever says that something is
-- under way. All other registers keep their words.
abbrev pub restarts : Named → Bool
restarts Pc = true
restarts Whole = true
restarts HasHalted = true
restarts (Underway delay) = true
restarts (IsDue unit delay) = true
restarts n = false

-- what a register becomes at a clock that begins anew or carries the instruction out
abbrev pub becomes : Machine → Named → Expression
becomes m Pc = Signal NextPc
becomes m HasHalted = Select (Signal IsReset) never (next_of m HasHalted)
becomes m (Underway delay) = Select (Signal IsReset) never (next_of m (Underway delay))
becomes m (IsDue unit delay) = Select (Signal IsReset) never (next_of m (IsDue unit delay))
becomes m n = next_of m n

-- the clocks at which a register takes a word
abbrev pub enabled : Named → Expression
enabled n = if restarts n then Either (Signal IsReset) (Signal Goes) else Signal Goes

-- a register
abbrev pub register : Machine → Named → Register Named Store
register m n = record { name = n; width = register_width m n; enable = enabled n; next = becomes m n }
