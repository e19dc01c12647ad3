-- What a page tells of each state of a run.
use Rattle.std.specs.Prelude.{ℕ, zero, suc, ◌+◌, ◌-◌, ◌==◌, false, nat_lt, if◌then◌else◌, List, [], ◌++◌, Option, None, Some, option_map, length, take, drop, slice_get, codes, decimal}
use Rattle.std.specs.Option.{option_map_or}
use Rattle.std.specs.List.{flat_map, enumerate_from}
use Rattle.tta_play.specs.Cited.{Units, Kind, Jumps, Calls, Halts, Pending, File, ImmUnit, KeptReg, KeptImm, KeptOperand, KeptRa, kept, Machine, Instruction, State, Outcome, Running, port, instruction_text, due_at, is_made, within}
use Rattle.tta_arch.specs.declared.parts.Unit.{Unit as OpUnit}
use Rattle.tta_code.specs.Cycle.{Halted, Waiting, Fault}

-- ---- words

-- a word, or "-" where there is none, with a blank before it
abbrev pub word_text : Option ℕ → List ℕ
word_text None = codes " -"
word_text (Some word) = codes " " ++ decimal word

-- so many words, from one on
abbrev pub words_text : (word : ℕ → Option ℕ) → (first count : ℕ) → List ℕ
words_text word first zero = []
words_text word first (suc count) = word_text (word first) ++ words_text word (first + 1) count

-- the word of a register of a file
abbrev pub register_word : State → (file index : ℕ) → Option ℕ
register_word s file index = kept s.written (KeptReg file index)

-- the word of a register of an immediate unit
abbrev pub immediate_word : State → (unit index : ℕ) → Option ℕ
immediate_word s unit index = kept s.written (KeptImm unit index)

-- the word at the operand port of a unit
abbrev pub operand_word : State → (unit : ℕ) → Option ℕ
operand_word s unit = kept s.written (KeptOperand unit)

-- the result of a unit that is due so many cycles from now
abbrev pub due_word : State → (unit delay : ℕ) → Option ℕ
due_word s unit delay = option_map (λ r. r.value) (due_at unit (s.cycle + delay) s.started)

-- ---- a state

-- the registers of a file
unfoldable pub file_text : State → (file : ℕ) → File → List ℕ
file_text s file f = codes "registers" ++ (words_text (register_word s file) 0 f.size ++ codes "\n")

-- the registers of files
abbrev pub files_text : State → List File → List ℕ
files_text s files = flat_map (λ f. file_text s f.0 f.1) (enumerate_from 0 files)

-- the registers of an immediate unit
unfoldable pub imm_text : State → (unit : ℕ) → ImmUnit → List ℕ
imm_text s unit i = codes "immediates" ++ (words_text (immediate_word s unit) 0 i.size ++ codes "\n")

-- the registers of immediate units
abbrev pub imms_text : State → List ImmUnit → List ℕ
imms_text s imms = flat_map (λ i. imm_text s i.0 i.1) (enumerate_from 0 imms)

-- the words at the operand ports of so many units
unfoldable pub operands_text : State → (units : ℕ) → List ℕ
operands_text s units = codes "operands" ++ (words_text (operand_word s) 0 units ++ codes "\n")

-- the return address
unfoldable pub return_text : State → List ℕ
return_text s = codes "return" ++ (word_text (kept s.written KeptRa) ++ codes "\n")

-- all words that a machine keeps beside its spaces
unfoldable pub places_text : Machine → State → List ℕ
places_text m s = files_text s m.files ++ (imms_text s m.imms ++ (operands_text s (length m.units) ++ return_text s))

-- the results of a unit that are due 1 to 16 cycles from now
unfoldable pub dues_text : State → (unit : ℕ) → List ℕ
dues_text s unit = words_text (due_word s unit) 1 16

-- what the result port of a unit shows, and the results that are due later
unfoldable pub results_text : State → (unit : ℕ) → List ℕ
results_text s unit = codes "results" ++ (word_text (port s unit) ++ (dues_text s unit ++ codes "\n"))

-- the same of units
abbrev pub units_text : State → List OpUnit → List ℕ
units_text s units = flat_map (λ q. results_text s q.0) (enumerate_from 0 units)

-- the cycles that were made, and the address of the next instruction
unfoldable pub where_text : State → List ℕ
where_text s = codes "state " ++ (decimal s.cycle ++ (codes " " ++ (decimal s.pc ++ codes "\n")))

-- what a control move under way does
abbrev pub kind_text : Kind → List ℕ
kind_text Jumps = codes "jump "
kind_text Calls = codes "call "
kind_text Halts = codes "halt "

-- a control move that is under way: what it does, its word, and in how many cycles it takes effect
unfoldable pub pending_text : (cycle : ℕ) → Pending → List ℕ
pending_text cycle p =
    codes "pending " ++ (kind_text p.kind ++ (decimal p.word ++ (codes " " ++ (decimal (p.time - cycle) ++ codes "\n"))))

-- the one that is under way, if any
abbrev pub control_text : State → List ℕ
control_text s = option_map_or (pending_text s.cycle) s.pending []

-- the word of the input that comes next, if one is left
abbrev pub input_text : Option ℕ → List ℕ
input_text None = []
input_text (Some word) = codes "input " ++ (decimal word ++ codes "\n")

-- an instruction as assembly
unfoldable pub code_text : Units → Machine → Instruction → List ℕ
code_text u m i = codes "code " ++ instruction_text u m i

-- the instruction of an address, if there is one
abbrev pub code_at_text : Units → Machine → List Instruction → (address : ℕ) → List ℕ
code_at_text u m words address = option_map_or (code_text u m) (slice_get words address) []

-- the words that a state keeps, its results, the word of the input and the instruction that come next
unfoldable pub held_text : Units → Machine → List Instruction → (input : Option ℕ) → State → List ℕ
held_text u m words input s =
    places_text m s ++ (units_text s m.units ++ (input_text input ++ code_at_text u m words s.pc))

-- a state: where it is, the control move that is under way, and what it holds
unfoldable pub state_text : Units → Machine → List Instruction → (input : Option ℕ) → State → List ℕ
state_text u m words input s = where_text s ++ (control_text s ++ held_text u m words input s)

-- the same with the next word of the state's own input
abbrev pub whole_text : Units → Machine → List Instruction → State → List ℕ
whole_text u m words s = state_text u m words (slice_get s.rest 0) s

-- ---- states

-- a word that is output
unfoldable pub out_text : ℕ → List ℕ
out_text word = codes "out " ++ (decimal word ++ codes "\n")

-- the words that a cycle outputs: what the output gains
abbrev pub outs_text : (s t : State) → List ℕ
outs_text s t = flat_map out_text (drop (length s.output) t.output)

-- a word of a space, where another was before: the name of the space, the address and the word
unfoldable pub store_text : (space : List ℕ) → (before : Option ℕ) → (address word : ℕ) → List ℕ
store_text space before address word =
    if option_map_or (λ b. b == word) before false then []
    else space ++ (decimal address ++ (codes " " ++ (decimal word ++ codes "\n")))

-- the words of a space that changed
abbrev pub stores_text : (space before now : List ℕ) → List ℕ
stores_text space before now = flat_map (λ e. store_text space (slice_get before e.0) e.0 e.1) (enumerate_from 0 now)

-- the data words and the frame words that changed
unfoldable pub spaces_text : (memory frame memory_now frame_now : List ℕ) → List ℕ
spaces_text memory frame memory_now frame_now =
    stores_text (codes "store ") memory memory_now ++ stores_text (codes "slot ") frame frame_now

-- what a cycle does: the words that it outputs, and the data words and frame words that it changes
abbrev pub cycle_text : (s t : State) → List ℕ
cycle_text s t = outs_text s t ++ spaces_text s.memory s.frame t.memory t.frame

-- what is told of the cycles before those that are played: which of the first 4096 data words and frame words they changed
abbrev pub before_text : (s t : State) → List ℕ
before_text s t = spaces_text (take 4096 s.memory) (take 4096 s.frame) (take 4096 t.memory) (take 4096 t.frame)

-- why a run is over
abbrev pub end_text : Outcome → List ℕ
end_text Running = []
end_text Halted = codes "halted\n"
end_text Waiting = codes "waiting\n"
end_text (Fault number cycle) = codes "fault " ++ (decimal number ++ codes "\n")

-- what the cycle after a state does, or why none is made
abbrev pub after_text : (step : State → State) → State → List ℕ
after_text step s = if is_made step s then cycle_text s (step s) else end_text (step s).outcome

-- a state, and what the cycle after it does
abbrev pub state_and_cycle_text : (step : State → State) → (told : State → List ℕ) → State → List ℕ
state_and_cycle_text step told s = told s ++ after_text step s

-- A state, and those after each of at most so many cycles, with what each cycle does, and where a cycle is not carried out, why the run is
-- over: as many of them as there is room for.
abbrev pub states_text : (step : State → State) → (told : State → List ℕ) → (room left : ℕ) → State → List ℕ
states_text step told room zero s = within room (told s)
states_text step told room (suc left) s =
    let piece = state_and_cycle_text step told s in
    if nat_lt room (length piece) then []
    else piece ++ (if is_made step s then states_text step told (room - length piece) left (step s) else [])
