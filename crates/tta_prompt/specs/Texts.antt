-- What is shown at a prompt alone.
use Rattle.std.specs.Prelude.{ℕ, zero, suc, ◌+◌, List, [], ◌++◌, Option, Some, None, option_map, slice_get, codes, decimal}
use Rattle.std.specs.List.{flat_map, enumerate_from}
use Rattle.tta_prompt.specs.Cited.{Units, File, Machine, KeptReg, kept, State, place_text, instruction_text}
use Rattle.tta_code.specs.declared.code.Code.{Code}
use Rattle.tta_prompt.specs.declared.own.Own.{Own}
use Rattle.tta_prompt.specs.declared.own.Own.TheVariants as own

-- ---- the commands

-- what a script can ask too
unfoldable pub script_help : List ℕ
script_help =
    codes "step N: at most N cycles\n"
    ++ (codes "go N: the same, up to a breakpoint\n"
    ++ (codes "break A: a breakpoint at an address\n"
    ++ (codes "delete A: without the breakpoint\n"
    ++ (codes "reg FILE INDEX: a register\n"
    ++ (codes "port UNIT: a result port\n"
    ++ codes "mem A: a data word\n")))))

-- what else it can
unfoldable pub run_help : List ℕ
run_help = codes "where: how the run stands\n" ++ codes "flight: the results that show later\n"

-- what can be asked at a prompt alone, and how a session is ended
unfoldable pub own_help : List ℕ
own_help =
    codes "regs: the registers that are set\n"
    ++ (codes "code A: the instruction at an address\n"
    ++ (codes "slot N: a frame word\n"
    ++ (codes "help: this list\n"
    ++ (codes "quit: the end\n"
    ++ codes "ok\n"))))

-- all commands
abbrev pub help : List ℕ
help = script_help ++ (run_help ++ own_help)

-- ---- the registers

-- the word of a register of the file at a place
abbrev pub register_word : State → (file index : ℕ) → Option ℕ
register_word s file index = kept s.written (KeptReg file index)

-- the line of a register that is set: its file and its index, as in assembly, and its word
abbrev pub register_line : (name : List ℕ) → (index : ℕ) → Option ℕ → List ℕ
register_line name index None = []
register_line name index (Some word) = place_text name index ++ (codes " " ++ (decimal word ++ codes "\n"))

-- the lines of so many registers of a file, from one on
abbrev pub register_lines : (name : List ℕ) → (word : ℕ → Option ℕ) → (first count : ℕ) → List ℕ
register_lines name word first zero = []
register_lines name word first (suc count) = register_line name first (word first) ++ register_lines name word (first + 1) count

-- those of a file
unfoldable pub file_lines : State → (file : ℕ) → File → List ℕ
file_lines s file f = register_lines f.name (register_word s file) 0 f.size

-- those of files
abbrev pub files_lines : State → List File → List ℕ
files_lines s files = flat_map (λ f. file_lines s f.0 f.1) (enumerate_from 0 files)

-- ---- the frame

-- the line of a word
unfoldable pub word_line : ℕ → List ℕ
word_line word = decimal word ++ codes "\n"

-- ---- what is shown

-- what is shown, if it is there
abbrev pub own_text : Units → Machine → Code → State → Own → Option (List ℕ)
own_text u m code s own.Help = Some help
own_text u m code s own.Regs = Some (files_lines s m.files ++ codes "ok\n")
own_text u m code s (own.Code address) = option_map (instruction_text u m) (slice_get code.words address)
own_text u m code s (own.Slot n) = option_map word_line (slice_get s.frame n)
