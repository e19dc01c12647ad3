-- What a page that plays a run is.
use Rattle.std.specs.Prelude.{◌≤◌, ℕ, ◌+◌, ◌-◌, nat_lt, if◌then◌else◌, List, ◌++◌, length, map, take, codes, decimal}
use Rattle.std.specs.List.{flat_map, enumerate_from}
use Rattle.tta_play.specs.Cited.{iterate, Units, Template, Machine, Instruction, Code, State, next, imm_name, place_text, instruction_text, within, fitting, run_head, run_middle_text, run_tail}
use Rattle.tta_play.specs.Ports.{ports_text}
use Rattle.tta_play.specs.States.{before_text, whole_text, states_text}

-- a part of a machine: what it is, and its name
unfoldable pub name_text : (what name : List ℕ) → List ℕ
name_text what name = what ++ (name ++ codes "\n")

-- the names of a machine's buses, files, immediate units and units
unfoldable pub names_text : Machine → List ℕ
names_text m =
    flat_map (λ b. name_text (codes "bus ") b.name) m.buses
    ++ (flat_map (λ f. name_text (codes "file ") f.name) m.files
    ++ (flat_map (λ i. name_text (codes "imm ") i.name) m.imms ++ flat_map (λ q. name_text (codes "unit ") q.name) m.units))

-- how many delay slots a jump has
unfoldable pub delay_text : Machine → List ℕ
delay_text m = codes "delay " ++ (decimal m.control.delay ++ codes "\n")

-- a template, and the register that takes its long immediate
unfoldable pub template_text : Machine → Template → List ℕ
template_text m t = codes "template " ++ (t.name ++ (codes " " ++ (place_text (imm_name m t.imm) t.reg ++ codes "\n")))

-- the templates of a machine
abbrev pub templates_text : Machine → List Template → List ℕ
templates_text m templates = flat_map (template_text m) templates

-- an instruction after its address
unfoldable pub row_text : Units → Machine → (address : ℕ) → Instruction → List ℕ
row_text u m address i = codes "row " ++ (decimal address ++ (codes " " ++ instruction_text u m i))

-- how many instructions the code has
unfoldable pub count_text : (words : ℕ) → List ℕ
count_text words = codes "instructions " ++ (decimal words ++ codes "\n")

-- which cycles were asked for: after how many the page begins, and how many follow
unfoldable pub asked_text : (first bound : ℕ) → List ℕ
asked_text first bound = codes "asked " ++ (decimal first ++ (codes " " ++ (decimal bound ++ codes "\n")))

-- what is told of the machine, of how long its code is, and of what was asked for
unfoldable pub known_text : Machine → (words first bound : ℕ) → List ℕ
known_text m words first bound =
    names_text m
    ++ (ports_text m ++ (delay_text m ++ (templates_text m m.templates ++ (count_text words ++ asked_text first bound))))

-- instructions, each after its address: as many of them, from the first on, as have 1 MiB at most
abbrev pub rows_text : Units → Machine → List Instruction → List ℕ
rows_text u m words = fitting 1048576 (map (λ e. row_text u m e.0 e.1) (enumerate_from 0 words))

-- the machine and its code, of which a page has 4096 instructions at most
unfoldable pub code_part : Units → Machine → List Instruction → (first bound : ℕ) → List ℕ
code_part u m words first bound = within 65536 (known_text m (length words) first bound) ++ rows_text u m (take 4096 words)

-- a page plays so many cycles at most, whatever is asked for: so it stays small
abbrev pub limited : (bound : ℕ) → ℕ
limited bound = if nat_lt bound 400 then bound else 400

-- how many bytes there is room for behind so many, where 64 KiB of the 8 MiB of a page are left for its end
abbrev pub room_after : (bytes : ℕ) → ℕ
room_after bytes = 8323072 - bytes

-- what is told of the cycles before those that are played
abbrev pub earlier_part : (begin s : State) → List ℕ
earlier_part begin s = within 262144 (before_text begin s)

-- The part of the states, before which so many bytes stand: what the cycles before them changed, the first state, and those after each
-- cycle, by the cycle's meaning, as many as there is room for.
unfoldable pub played_text : Units → Machine → Code → (bytes : ℕ) → (begin : State) → State → (bound : ℕ) → List ℕ
played_text u m code bytes begin s bound =
    let earlier = earlier_part begin s in
    earlier
    ++ states_text (next u m code) (whole_text u m code.words) (room_after (bytes + length earlier)) (limited bound) s

-- a page tells nothing of the stages of a program of which there are more than 4 MiB to tell: so it stays small
abbrev pub stages_part : (stages : List ℕ) → List ℕ
stages_part stages = within 4194304 stages

-- the same of origins, if that is more than 512 KiB
abbrev pub origins_part : (origins : List ℕ) → List ℕ
origins_part origins = within 524288 origins

-- What stands before the states: fixed text, what is told of the program that the code is built of, and the machine with its code. Of a
-- program the stages are told, and the origins: which lines and variables belong to which block of the code. Both are empty where there is
-- none.
unfoldable pub front_text : Units → Machine → List Instruction → (stages origins : List ℕ) → (first bound : ℕ) → List ℕ
front_text u m words stages origins first bound =
    run_head ++ (stages_part stages ++ (run_middle_text ++ (code_part u m words first bound ++ origins_part origins)))

-- The page that plays at most so many cycles of code, after so many from a state, with what is told of the program that the code is built
-- of. Its states are the state after so many cycles of the run and those after each of at most so many more, by the cycle's meaning. A run
-- that is over stays as it is, so where it is over before, this is its last state.
unfoldable pub page_after : Units → Machine → Code → (stages origins : List ℕ) → State → (first bound : ℕ) → List ℕ
page_after u m code stages origins s first bound =
    let front = front_text u m code.words stages origins first bound in
    front ++ (played_text u m code (length front) s (iterate first (next u m code) s) bound ++ run_tail)

-- the page that plays at most so many cycles from a state
abbrev pub page_of : Units → Machine → Code → (stages origins : List ℕ) → State → (bound : ℕ) → List ℕ
page_of u m code stages origins s bound = page_after u m code stages origins s 0 bound

-- every page has 8 MiB at most, whatever the machine, its code and its program
abbrev pub PagesAreSmall : Type 0
PagesAreSmall =
    (u : Units) (m : Machine) (code : Code) (stages origins : List ℕ) (s : State) (first bound : ℕ)
    → length (page_after u m code stages origins s first bound) ≤ 8388608
