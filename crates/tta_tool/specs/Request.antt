-- What the words of a command line ask for.
use Rattle.std.specs.Prelude.{ℕ, Bool, true, false, if◌then◌else◌, List, [], ◌∷◌, length, map, Option, Some, None, codes, option_and_then, option_map}
use Rattle.std.specs.Str.{bytes_eq}
use Rattle.std.specs.String.{string_bytes}
use Rattle.tta_tool.specs.declared.request.Request.{Request as Asked}
use Rattle.tta_tool.specs.declared.request.Request.TheVariants as for
use Rattle.tta_tool.specs.declared.names.RunFiles.{RunFiles}
use Rattle.tta_tool.specs.Cited.{bound_of, rounds_of, is_net}
use Rattle.tta_tool.specs.Numbers.{seed_of, lines_of}

-- what can be asked for
pub data Request : Type 0 where
  Build : (machine program out : List ℕ) (converts : Bool) → Request
  Asm : (machine assembly out : List ℕ) → Request
  Dis : (machine image out : List ℕ) → Request
  Check : (machine image : List ℕ) → Request
  Exec : (machine program input : List ℕ) (stream : Option (List ℕ)) (bound : ℕ) → Request
  Run : (machine image input : List ℕ) (stream : Option (List ℕ)) (bound : ℕ) → Request
  Debug : (machine image input script : List ℕ) (stream : Option (List ℕ)) → Request
  Sample : (seed lines : ℕ) (machine : List ℕ) → Request
  Ifconv : (program out : List ℕ) → Request
  Net : (rounds : ℕ) (links : List ℕ) (names : List (List ℕ)) → Request

-- ---- what is run

-- The files of a run: of the machine, of the program or image, of data words, and of an input where one is named.
pub record Files : Type 0 where
  pub machine : List ℕ
  pub second : List ℕ
  pub input : List ℕ
  pub stream : Option (List ℕ)

-- these files with the word after the data words, which the file of an input may follow
abbrev pub run_words : List (List ℕ) → Option (Files × List ℕ)
run_words (machine ∷ second ∷ input ∷ last ∷ []) =
    Some (record { machine = machine; second = second; input = input; stream = None }, last)
run_words (machine ∷ second ∷ input ∷ last ∷ stream ∷ []) =
    Some (record { machine = machine; second = second; input = input; stream = Some stream }, last)
run_words words = None

-- the same where that word is a bound
abbrev pub bounded : List (List ℕ) → Option (Files × ℕ)
bounded words = option_and_then (λ r. option_map (λ bound. (r.0, bound)) (bound_of r.1)) (run_words words)

-- the files of the code's request
abbrev pub files_in : RunFiles → Files
files_in f = record { machine = f.machine.now; second = f.second.now; input = f.input.now; stream = option_map (λ s. s.now) f.stream }

-- ---- each command by the words after its name

-- a program for a machine and the file of an image, with a word behind them where its branches are converted
abbrev pub build_request : List (List ℕ) → Option Request
build_request (machine ∷ program ∷ out ∷ []) = Some (Build machine program out false)
build_request (machine ∷ program ∷ out ∷ mode ∷ []) =
    if bytes_eq mode (codes "convert") then Some (Build machine program out true) else None
build_request words = None

-- a machine, assembly for it, and the file of an image
abbrev pub asm_request : List (List ℕ) → Option Request
asm_request (machine ∷ assembly ∷ out ∷ []) = Some (Asm machine assembly out)
asm_request words = None

-- a machine, an image for it, and the file of its assembly
abbrev pub dis_request : List (List ℕ) → Option Request
dis_request (machine ∷ image ∷ out ∷ []) = Some (Dis machine image out)
dis_request words = None

-- a machine and an image for it
abbrev pub check_request : List (List ℕ) → Option Request
check_request (machine ∷ image ∷ []) = Some (Check machine image)
check_request words = None

-- a run of a program, within so many steps
abbrev pub exec_request : List (List ℕ) → Option Request
exec_request words = option_map (λ r. Exec r.0.machine r.0.second r.0.input r.0.stream r.1) (bounded words)

-- a run of an image, within so many cycles
abbrev pub run_request : List (List ℕ) → Option Request
run_request words = option_map (λ r. Run r.0.machine r.0.second r.0.input r.0.stream r.1) (bounded words)

-- a run of an image, and the file of a script
abbrev pub debug_request : List (List ℕ) → Option Request
debug_request words = option_map (λ r. Debug r.0.machine r.0.second r.0.input r.1 r.0.stream) (run_words words)

-- a seed, a number of lines, and a machine
abbrev pub sample_request : List (List ℕ) → Option Request
sample_request (seed ∷ lines ∷ machine ∷ []) =
    option_and_then (λ s. option_map (λ n. Sample s n machine) (lines_of lines)) (seed_of seed)
sample_request words = None

-- a program, and the file of the converted one
abbrev pub ifconv_request : List (List ℕ) → Option Request
ifconv_request (program ∷ out ∷ []) = Some (Ifconv program out)
ifconv_request words = None

-- a number of rounds, the file of links, and three files for each core
abbrev pub net_request : List (List ℕ) → Option Request
net_request (rounds ∷ links ∷ names) = if is_net (length names) then option_map (λ n. Net n links names) (rounds_of rounds) else None
net_request words = None

-- ---- by its name

-- the request of a command of some name, by the words after it
abbrev pub named_request : (name : List ℕ) → List (List ℕ) → Option Request
named_request name words =
    if bytes_eq name (codes "build") then build_request words
    else if bytes_eq name (codes "asm") then asm_request words
    else if bytes_eq name (codes "dis") then dis_request words
    else if bytes_eq name (codes "check") then check_request words
    else if bytes_eq name (codes "exec") then exec_request words
    else if bytes_eq name (codes "run") then run_request words
    else if bytes_eq name (codes "debug") then debug_request words
    else if bytes_eq name (codes "sample") then sample_request words
    else if bytes_eq name (codes "ifconv") then ifconv_request words
    else if bytes_eq name (codes "net") then net_request words
    else None

-- the request of some words; none where they are no command
abbrev pub request_of : List (List ℕ) → Option Request
request_of [] = None
request_of (name ∷ words) = named_request name words

-- what the code's request asks for
abbrev pub asked : Asked → Request
asked (for.Build build) = Build build.names.machine.now build.names.second.now build.names.out.now build.converts
asked (for.Asm files) = Asm files.machine.now files.second.now files.out.now
asked (for.Dis files) = Dis files.machine.now files.second.now files.out.now
asked (for.Check files) = Check files.machine.now files.image.now
asked (for.Exec run) = Exec run.names.machine.now run.names.second.now run.names.input.now (option_map (λ s. s.now) run.names.stream) run.bound
asked (for.Run run) = Run run.names.machine.now run.names.second.now run.names.input.now (option_map (λ s. s.now) run.names.stream) run.bound
asked (for.Debug session) =
    Debug session.names.machine.now session.names.second.now session.names.input.now session.script.now (option_map (λ s. s.now) session.names.stream)
asked (for.Sample sample) = Sample sample.seed sample.lines sample.machine.now
asked (for.Ifconv files) = Ifconv files.program.now files.out.now
asked (for.Net net) = Net net.rounds net.links.now (map (λ w. string_bytes w) net.names.now)
