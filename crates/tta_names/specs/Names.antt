-- What the signals and memories of a machine are called in the text.
use Rattle.std.specs.Prelude.{ℕ, Bool, true, false, List, [], ◌++◌, slice_get, codes, decimal}
use Rattle.std.specs.Option.{option_map_or}
use Rattle.tta_arch.specs.Machine.{Machine}
use Rattle.tta_arch.specs.Effects.{Place, KeptReg, KeptImm, KeptOperand, KeptRa, KeptPort}
use Rattle.tta_disasm.specs.Canonical.{file_name, imm_name, unit_name}
use Rattle.tta_hardware.specs.Signals.{Field, GuardOf, IsShort, SourceOf, ShortOf, DestOf, TemplateOf, LongOf, Store, Code, Data, Frame, Signal as Named, Pc, Whole, HasHalted, Underway, Goal, Ends, Keeps, IsDue, Due, HasBegun, Raw, IsInside, IsOffered, Offer, IsReady, IsReset, Port, Fetched, Word, Acts, Starts, Trigger, Operand, Controls, GoalNow, EndsNow, Lands, Asks, Gives, Goes, NextPc, Puts, PutWord, Watch, HasWord, IsPast, LacksRegister, LacksPort, LacksOperand, Clashes, FaultNow, Watches, Box, Shows, IsFrom, Boxes, Expression}
use Rattle.tta_verilog.specs.Expressions.{Names, expression}

-- the name of a bus
abbrev pub bus_name : Machine → ℕ → List ℕ
bus_name m bus = option_map_or (λ b. b.name) (slice_get m.buses bus) []

-- a name that has a number, too
abbrev pub counted : (what name : List ℕ) → ℕ → List ℕ
counted what name n = what ++ name ++ codes "_" ++ decimal n

-- a place that keeps a word
abbrev pub place_name : Machine → Place → List ℕ
place_name m (KeptReg file index) = counted (codes "reg_") (file_name m file) index
place_name m (KeptImm unit index) = counted (codes "imm_") (imm_name m unit) index
place_name m (KeptOperand unit) = codes "kept_" ++ unit_name m unit
place_name m KeptRa = codes "n_ra"
place_name m (KeptPort unit) = codes "result_" ++ unit_name m unit

-- a field of the instruction
abbrev pub field_name : Machine → Field → List ℕ
field_name m (GuardOf bus) = codes "guard_" ++ bus_name m bus
field_name m (IsShort bus) = codes "tag_" ++ bus_name m bus
field_name m (SourceOf bus) = codes "source_" ++ bus_name m bus
field_name m (ShortOf bus) = codes "short_" ++ bus_name m bus
field_name m (DestOf bus) = codes "dest_" ++ bus_name m bus
field_name m TemplateOf = codes "n_template"
field_name m LongOf = codes "n_long"

-- what is had by a circuit alone that stops at faults
abbrev pub watch_name : Machine → Watch → List ℕ
watch_name m (HasWord p) = codes "has_" ++ place_name m p
watch_name m IsPast = codes "n_past"
watch_name m (LacksRegister bus) = codes "unset_" ++ bus_name m bus
watch_name m (LacksPort bus) = codes "unshown_" ++ bus_name m bus
watch_name m (LacksOperand unit) = codes "lacks_" ++ unit_name m unit
watch_name m (Clashes unit) = codes "clashes_" ++ unit_name m unit
watch_name m FaultNow = codes "n_fault"

-- what is had by a circuit alone that leaves operations to modules
abbrev pub box_name : Machine → Box → List ℕ
box_name m (Shows unit op) = counted (codes "made_") (unit_name m unit) op
box_name m (IsFrom unit op delay) = counted (codes "from_") (unit_name m unit) op ++ (codes "_" ++ decimal delay)

-- A signal. What stands before the first `_` tells its kind; then comes a name of the machine, and a number where there is one. The
-- inputs are called as the ports.
abbrev pub signal_name : Machine → Named → List ℕ
signal_name m Pc = codes "n_pc"
signal_name m Whole = codes "n_word"
signal_name m HasHalted = codes "n_halted"
signal_name m (Underway delay) = codes "n_underway_" ++ decimal delay
signal_name m Goal = codes "n_goal"
signal_name m Ends = codes "n_ends"
signal_name m (Keeps p) = place_name m p
signal_name m (IsDue unit delay) = counted (codes "due_") (unit_name m unit) delay
signal_name m (Due unit delay) = counted (codes "coming_") (unit_name m unit) delay
signal_name m (HasBegun unit op) = counted (codes "began_") (unit_name m unit) op
signal_name m (Raw unit op) = counted (codes "raw_") (unit_name m unit) op
signal_name m (IsInside unit op) = counted (codes "inside_") (unit_name m unit) op
signal_name m IsOffered = codes "in_valid"
signal_name m Offer = codes "in_data"
signal_name m IsReady = codes "out_ready"
signal_name m IsReset = codes "reset"
signal_name m (Port unit) = codes "shown_" ++ unit_name m unit
signal_name m (Fetched f) = field_name m f
signal_name m (Word bus) = codes "bus_" ++ bus_name m bus
signal_name m (Acts bus) = codes "acts_" ++ bus_name m bus
signal_name m (Starts unit op) = counted (codes "start_") (unit_name m unit) op
signal_name m (Trigger unit) = codes "trigger_" ++ unit_name m unit
signal_name m (Operand unit) = codes "operand_" ++ unit_name m unit
signal_name m Controls = codes "n_controls"
signal_name m GoalNow = codes "n_goal_now"
signal_name m EndsNow = codes "n_ends_now"
signal_name m Lands = codes "n_lands"
signal_name m Asks = codes "n_asks"
signal_name m Gives = codes "n_gives"
signal_name m Goes = codes "n_goes"
signal_name m NextPc = codes "n_next_pc"
signal_name m Puts = codes "n_puts"
signal_name m PutWord = codes "n_put"
signal_name m (Watches w) = watch_name m w
signal_name m (Boxes b) = box_name m b

-- a memory
abbrev pub store_name : Store → List ℕ
store_name Code = codes "code"
store_name Data = codes "data"
store_name Frame = codes "frame"

-- whether a memory keeps its first words
abbrev pub is_constant : Store → Bool
is_constant Code = true
is_constant s = false

-- all names
abbrev pub names_of : Machine → Names Named Store
names_of m = record {
  signal = signal_name m;
  memory = store_name;
  is_constant = is_constant;
  op = λ op. codes "op_" ++ decimal op;
}

-- the text of an expression
abbrev pub text_of : Machine → Expression → List ℕ
text_of m e = expression (names_of m) e
