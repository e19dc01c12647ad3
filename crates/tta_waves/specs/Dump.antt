-- The text of a dump: a value change dump as IEEE 1364 has it.
use Rattle.std.specs.Prelude.{ℕ, zero, suc, ◌+◌, ◌/◌, ◌%◌, ◌==◌, nat_lt, Bool, true, false, if◌then◌else◌, List, [], ◌++◌, Option, None, Some, slice_get, codes, decimal}
use Rattle.std.specs.Option.{option_map_or}
use Rattle.std.specs.List.{flat_map, enumerate_from}
use Rattle.tta_waves.specs.Cited.{Machine, State, Outcome, Running, signal_name, is_made}
use Rattle.tta_code.specs.Cycle.{Halted, Waiting, Fault}
use Rattle.tta_waves.specs.declared.level.Level.{Level}
use Rattle.tta_waves.specs.declared.signal.Signal.{Signal}
use Rattle.tta_waves.specs.Signals.{named, bits_of, signals_of}

-- ---- declarations

-- the code by which a dump refers to a signal: its number
abbrev pub code_text : (number : ℕ) → List ℕ
code_text number = codes "s" ++ decimal number

-- the declaration of a signal
unfoldable pub declaration_text : Machine → (number : ℕ) → Signal → List ℕ
declaration_text m number signal =
    codes "$var wire " ++ (decimal (bits_of m signal)
    ++ (codes " " ++ (code_text number ++ (codes " " ++ (signal_name m (named signal) ++ codes " $end\n")))))

-- those of signals
abbrev pub declarations_text : Machine → List Signal → List ℕ
declarations_text m signals = flat_map (λ e. declaration_text m e.0 e.1) (enumerate_from 0 signals)

-- all that stands before the first cycle: a unit of time is a cycle
unfoldable pub header_text : Machine → List ℕ
header_text m =
    codes "$version tta waves $end\n$timescale 1 ns $end\n$scope module tta_core $end\n"
    ++ (declarations_text m (signals_of m) ++ codes "$upscope $end\n$enddefinitions $end\n")

-- ---- changes

-- whether two words are one
abbrev pub same_word : Option ℕ → Option ℕ → Bool
same_word None None = true
same_word None (Some b) = false
same_word (Some a) None = false
same_word (Some a) (Some b) = a == b

-- the lowest bit of a word
abbrev pub bit_text : (word : ℕ) → List ℕ
bit_text word = if word % 2 == 1 then codes "1" else codes "0"

-- a word of so many bits at most in binary, without zeros before its first one: its half, and its lowest bit
abbrev pub binary_of : (bits word : ℕ) → List ℕ
binary_of zero word = []
binary_of (suc bits) word = if nat_lt word 2 then bit_text word else binary_of bits (word / 2) ++ bit_text word

-- a word in binary, and x where there is none
abbrev pub word_text : Option ℕ → List ℕ
word_text None = codes "x"
word_text (Some word) = binary_of 32 word

-- what is told of a signal
unfoldable pub level_text : (number : ℕ) → Level → List ℕ
level_text number level =
    (if level.wide then codes "b" else []) ++ (word_text level.word
    ++ ((if level.wide then codes " " else []) ++ (code_text number ++ codes "\n")))

-- the same where it changed
abbrev pub change_text : (before : Option Level) → (number : ℕ) → Level → List ℕ
change_text before number level =
    if option_map_or (λ b. same_word b.word level.word) before false then [] else level_text number level

-- what changed of the levels before; at first there were none
abbrev pub changes_text : (before now : List Level) → List ℕ
changes_text before now = flat_map (λ e. change_text (slice_get before e.0) e.0 e.1) (enumerate_from 0 now)

-- a state's time, and what changed
unfoldable pub state_text : (before now : List Level) → (cycle : ℕ) → List ℕ
state_text before now cycle = codes "#" ++ (decimal cycle ++ (codes "\n" ++ changes_text before now))

-- ---- the run

-- why the run is over
abbrev pub end_text : Outcome → List ℕ
end_text Running = []
end_text Halted = codes "$comment halted $end\n"
end_text Waiting = codes "$comment waiting $end\n"
end_text (Fault number cycle) = codes "$comment fault " ++ (decimal number ++ codes " $end\n")

-- why the run is over, if it is, and the time at which the last state ends
unfoldable pub last_text : Outcome → (cycle : ℕ) → List ℕ
last_text outcome cycle = end_text outcome ++ (codes "#" ++ (decimal (cycle + 1) ++ codes "\n"))

-- A state, and those after each of at most so many cycles; and where a cycle is not carried out, why the run is over.
abbrev pub states_text : (step : State → State) → (levels : State → List Level) → (left : ℕ) → (before : List Level) → State → List ℕ
states_text step levels zero before s = state_text before (levels s) s.cycle ++ last_text Running s.cycle
states_text step levels (suc left) before s =
    state_text before (levels s) s.cycle
    ++ (if is_made step s then states_text step levels left (levels s) (step s) else last_text (step s).outcome s.cycle)
