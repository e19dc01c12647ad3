-- What the words of the command line ask for.
use Rattle.std.specs.Prelude.{ℕ, List, [], ◌∷◌, length, map, Bool, false, ◌&&◌, Option, Some, None, codes, if◌then◌else◌, option_map, option_and_then}
use Rattle.std.specs.List.{list_any}
use Rattle.std.specs.Str.{bytes_eq}
use Rattle.std.specs.String.{string_bytes}
use Rattle.tta_inspect.specs.Cited.{bound_of, cores_in, is_net}
use Rattle.tta_inspect.specs.Depths.{are_depths}
use Rattle.tta_inspect.specs.declared.view.View.{View}
use Rattle.tta_inspect.specs.declared.view.View.TheVariants.{Picture, Info, Cost}
use Rattle.tta_inspect.specs.declared.view.RunView.{RunView}
use Rattle.tta_inspect.specs.declared.view.RunView.TheVariants.{Profile, Play, PlayAfter, Waves}
use Rattle.tta_inspect.specs.declared.view.CircuitView.{CircuitView}
use Rattle.tta_inspect.specs.Marks.{marked, plain_module}
use Rattle.tta_inspect.specs.declared.view.StagesView.{StagesView}
use Rattle.tta_inspect.specs.declared.view.StagesView.TheVariants.{Lines, Page}
use Rattle.tta_inspect.specs.declared.request.Request.{Request as Asked}
use Rattle.tta_inspect.specs.declared.request.Request.TheVariants as for

-- what can be asked for: a view of a machine, what is told of an image for a machine, the picture of such code or of that of a program,
-- a view of a run of it, a session at a prompt over a run of code, a view of the stages of a program for a machine, a text of the circuit of a
-- machine with the code of an image or of a program, what such a circuit is made of, or the circuits of cores that are joined by queues
pub data Request : Type 0 where
  OfMachine : (view : View) (machine : List ℕ) → Request
  OfInfo : (machine image : List ℕ) → Request
  OfPicture : (machine subject : List ℕ) → Request
  OfRun : (view : RunView) (machine subject input : List ℕ) (stream : Option (List ℕ)) (bound : ℕ) → Request
  OfPrompt : (machine image input : List ℕ) (stream : Option (List ℕ)) → Request
  OfStages : (view : StagesView) (machine program : List ℕ) → Request
  OfRtl : (view : CircuitView) (machine subject : List ℕ) → Request
  OfCost : (machine subject : List ℕ) → Request
  OfNet : (depths links : List ℕ) (names : List (List ℕ)) → Request

-- ---- each command by the words after its name

-- a picture of a machine, or of code for it or a program
abbrev pub picture_request : List (List ℕ) → Option Request
picture_request (machine ∷ []) = Some (OfMachine Picture machine)
picture_request (machine ∷ subject ∷ []) = Some (OfPicture machine subject)
picture_request words = None

-- what is told of a machine, or of an image for it
abbrev pub info_request : List (List ℕ) → Option Request
info_request (machine ∷ []) = Some (OfMachine Info machine)
info_request (machine ∷ image ∷ []) = Some (OfInfo machine image)
info_request words = None

-- what the circuit of a machine is made of, or that of a machine with code
abbrev pub cost_request : List (List ℕ) → Option Request
cost_request (machine ∷ []) = Some (OfMachine Cost machine)
cost_request (machine ∷ subject ∷ []) = Some (OfCost machine subject)
cost_request words = None

-- the stages of a program for a machine, as lines or as a page
abbrev pub stages_request : List (List ℕ) → Option Request
stages_request (machine ∷ program ∷ []) = Some (OfStages Lines machine program)
stages_request (machine ∷ program ∷ mark ∷ []) = if bytes_eq mark (codes "--html") then Some (OfStages Page machine program) else None
stages_request words = None

-- a session at a prompt over a run of an image from data words, after which the file of an input may be named
abbrev pub prompt_request : List (List ℕ) → Option Request
prompt_request (machine ∷ image ∷ input ∷ []) = Some (OfPrompt machine image input None)
prompt_request (machine ∷ image ∷ input ∷ stream ∷ []) = Some (OfPrompt machine image input (Some stream))
prompt_request words = None

-- a view of a run of an image or a program from data words within a bound, after which the file of an input may be named
abbrev pub run_request : RunView → List (List ℕ) → Option Request
run_request view (machine ∷ subject ∷ input ∷ last ∷ []) = option_map (OfRun view machine subject input None) (bound_of last)
run_request view (machine ∷ subject ∷ input ∷ last ∷ stream ∷ []) = option_map (OfRun view machine subject input (Some stream)) (bound_of last)
run_request view words = None

-- the view of a run from a cycle on: the mark `from`, and how many cycles are made before
abbrev pub view_from : (mark first : List ℕ) → Option RunView
view_from mark first = if bytes_eq mark (codes "from") then option_map (λ k. PlayAfter k) (bound_of first) else None

-- the request of such a view
abbrev pub played_request : (machine subject input : List ℕ) → (stream : Option (List ℕ)) → (last mark first : List ℕ) → Option Request
played_request machine subject input stream last mark first =
    option_and_then (λ view. option_map (OfRun view machine subject input stream) (bound_of last)) (view_from mark first)

-- a page that plays a run; at the end `from` may stand, and how many cycles are made before
abbrev pub play_request : List (List ℕ) → Option Request
play_request (machine ∷ subject ∷ input ∷ last ∷ mark ∷ first ∷ []) = played_request machine subject input None last mark first
play_request (machine ∷ subject ∷ input ∷ last ∷ stream ∷ mark ∷ first ∷ []) =
    played_request machine subject input (Some stream) last mark first
play_request words = run_request Play words

-- the circuit of a machine with code, with words behind its two files that say how it is made
abbrev pub marks_request : (machine subject : List ℕ) → (marks : List (List ℕ)) → Option Request
marks_request machine subject marks = option_map (λ view. OfRtl view machine subject) (marked plain_module marks)

-- the circuits of cores: `net`, how many words the queues have, the file of the links, and three names for each core
abbrev pub net_request : List (List ℕ) → Option Request
net_request (kind ∷ depths ∷ links ∷ names) =
    if is_net (length names)
    then (if bytes_eq kind (codes "net") && are_depths (cores_in (length names)) depths then Some (OfNet depths links names) else None)
    else None
net_request words = None

-- one of both
abbrev pub rtl_request : List (List ℕ) → Option Request
rtl_request (machine ∷ subject ∷ []) = marks_request machine subject []
rtl_request (machine ∷ subject ∷ first ∷ []) = marks_request machine subject (first ∷ [])
rtl_request (machine ∷ subject ∷ first ∷ second ∷ []) = marks_request machine subject (first ∷ second ∷ [])
rtl_request (machine ∷ subject ∷ first ∷ second ∷ third ∷ []) = marks_request machine subject (first ∷ second ∷ third ∷ [])
rtl_request words = net_request words

-- ---- by its name

-- the request of a command of some name, by the words after it
abbrev pub named_request : (name : List ℕ) → List (List ℕ) → Option Request
named_request name words =
    if bytes_eq name (codes "picture") then picture_request words
    else if bytes_eq name (codes "info") then info_request words
    else if bytes_eq name (codes "cost") then cost_request words
    else if bytes_eq name (codes "profile") then run_request Profile words
    else if bytes_eq name (codes "play") then play_request words
    else if bytes_eq name (codes "waves") then run_request Waves words
    else if bytes_eq name (codes "prompt") then prompt_request words
    else if bytes_eq name (codes "stages") then stages_request words
    else if bytes_eq name (codes "rtl") then rtl_request words
    else None

-- the request of some words; none where they are no command
abbrev pub request_of : List (List ℕ) → Option Request
request_of [] = None
request_of (name ∷ words) = named_request name words

-- the names of the commands that are carried out here
abbrev pub names : List (List ℕ)
names =
    codes "picture" ∷ codes "info" ∷ codes "cost" ∷ codes "profile" ∷ codes "play" ∷ codes "waves" ∷ codes "prompt"
    ∷ codes "stages" ∷ codes "rtl" ∷ []

-- whether a command line begins with one of them
abbrev pub is_named : List (List ℕ) → Bool
is_named [] = false
is_named (name ∷ words) = list_any (bytes_eq name) names

-- what the code's request asks for
abbrev pub asked : Asked → Request
asked (for.Machine names) = OfMachine names.view names.machine.now
asked (for.Info names) = OfInfo names.machine.now names.image.now
asked (for.Picture names) = OfPicture names.machine.now names.subject.now
asked (for.Run run) = OfRun run.view run.machine.now run.subject.now run.input.now (option_map (λ s. s.now) run.stream) run.bound
asked (for.Prompt names) = OfPrompt names.machine.now names.image.now names.input.now (option_map (λ s. s.now) names.stream)
asked (for.Stages names) = OfStages names.view names.machine.now names.program.now
asked (for.Rtl names) = OfRtl names.view names.machine.now names.subject.now
asked (for.Cost names) = OfCost names.machine.now names.subject.now
asked (for.Net net) = OfNet net.depths.now net.links.now (map (λ w. string_bytes w) net.names.now)
