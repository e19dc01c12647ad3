-- What a program text says, from all its lines at once: from each `proc` line to its `end` line a procedure, in which
-- each line is a label or a step, and outside of procedures lines of data.
use Rattle.std.specs.Prelude.{◌≡◌, ℕ, ◌+◌, ◌≤◌, Bool, true, false, not, ◌&&◌, nat_lt, if◌then◌else◌, List, [], ◌∷◌, ◌++◌, length, map, Option, Some, None, is_some, option_map, option_to_list, Ok, codes}
use Rattle.std.specs.Str.{bytes_eq}
use Rattle.std.specs.Option.{option_map_or}
use Rattle.std.specs.List.{list_all, AllByRecursion}
use Rattle.tta_tac.specs.Cited.{Line, Declared, named_in, Units, DataLine, Program, Reaches, are_apart}
use Rattle.tta_tac.specs.Forms.{Form, ProcForm, DataForm, LabelForm, form_of}
use Rattle.tta_tac.specs.Draft.{Unlinked, ProcDraft, Draft}
use Rattle.tta_tac.specs.FirstPass.{vars_after, lacks_op, has_wrong_arity, has_many_args, has_twice, step_of, is_end, numbered}
use Rattle.tta_tac.specs.SecondPass.{link_procs}
use Rattle.tta_tac.specs.Text.{with_main}

-- ---- lines

-- a line that is not blank, by its number, and what it says
abbrev pub Said : Type 0
Said = ℕ × Form

-- what lines say, counted from this one; a blank line says nothing
abbrev pub said_from : (line : ℕ) → List Line → List Said
said_from line [] = []
said_from line ([] ∷ lines) = said_from (line + 1) lines
said_from line ((key ∷ words) ∷ lines) = option_to_list (option_map (λ f. (line, f)) (form_of key words)) ++ said_from (line + 1) lines

-- a line is blank or has one of the forms
abbrev pub is_line : Line → Bool
is_line [] = true
is_line (key ∷ words) = is_some (form_of key words)

-- the procedure that a line begins: its name and its parameters
abbrev pub proc_in : Form → Option (List ℕ × List (List ℕ))
proc_in (ProcForm name params) = Some (name, params)
proc_in form = None

-- the word of data that a line says
abbrev pub datum_in : (line : ℕ) → Form → Option DataLine
datum_in line (DataForm address value) = Some (record { address = address; value = value; line = line })
datum_in line form = None

-- the label that a line puts
abbrev pub label_in : Form → Option (List ℕ)
label_in (LabelForm name) = Some name
label_in form = None

-- procedures and data stand outside of procedures, and labels and steps inside, up to the step `end`
abbrev pub are_nested : (inside : Bool) → List Said → Bool
are_nested inside [] = not inside
are_nested inside (x ∷ xs) =
    if is_some (proc_in x.1) then not inside && are_nested true xs
    else if is_some (datum_in x.0 x.1) then not inside && are_nested false xs
    else inside && are_nested (not (is_end x.1)) xs

-- ---- procedures

-- a procedure as its lines say it: the line of its `proc`, its name and its parameters, and the lines after it up to `end`
pub record Block : Type 0 where
  pub line : ℕ
  pub name : List ℕ
  pub params : List (List ℕ)
  pub body : List Said

-- lines up to and with the first `end`
abbrev pub up_to_end : List Said → List Said
up_to_end [] = []
up_to_end (x ∷ xs) = if is_end x.1 then x ∷ [] else x ∷ up_to_end xs

-- the procedures, in text order
abbrev pub blocks : List Said → List Block
blocks [] = []
blocks (x ∷ xs) =
    option_map_or (λ begun. record { line = x.0; name = begun.0; params = begun.1; body = up_to_end xs } ∷ blocks xs) (proc_in x.1) (blocks xs)

-- the data, in text order
abbrev pub data_said : List Said → List DataLine
data_said [] = []
data_said (x ∷ xs) = option_to_list (datum_in x.0 x.1) ++ data_said xs

-- variables after lines, each numbered where it first appears
abbrev pub vars_said : Declared ℕ → List Said → Declared ℕ
vars_said vars [] = vars
vars_said vars (x ∷ xs) = vars_said (vars_after vars x.1) xs

-- the labels among lines, each with how many steps stand before it
abbrev pub labels_said : (steps : ℕ) → List Said → Declared ℕ
labels_said steps [] = []
labels_said steps (x ∷ xs) = option_map_or (λ name. (name, steps) ∷ labels_said steps xs) (label_in x.1) (labels_said (steps + 1) xs)

-- the steps of lines, where these are the variables before
abbrev pub steps_said : Units → Declared ℕ → List Said → List Unlinked
steps_said u vars [] = []
steps_said u vars (x ∷ xs) =
    option_to_list (step_of u (vars_after vars x.1) x.1) ++ steps_said u (vars_after vars x.1) xs

-- the lines of these steps
abbrev pub step_lines : List Said → List ℕ
step_lines [] = []
step_lines (x ∷ xs) = option_map_or (λ name. step_lines xs) (label_in x.1) (x.0 ∷ step_lines xs)

-- a procedure, whose variables are its parameters and then those that appear, and whose labels are still names
abbrev pub proc_said : Units → Block → ProcDraft
proc_said u b = record {
  line = b.line;
  params = length b.params;
  vars = vars_said (numbered 0 b.params) b.body;
  labels = labels_said 0 b.body;
  steps = steps_said u (numbered 0 b.params) b.body;
  lines = step_lines b.body;
}

-- ---- rules

-- the operation that a line names is offered and takes as many words as stand there, and a call has at most eight arguments
abbrev pub is_fit : Units → Said → Bool
is_fit u x = not (lacks_op u x.1) && not (has_wrong_arity u x.1) && not (has_many_args x.1)

-- the names of the labels among lines
abbrev pub label_names : List Said → List (List ℕ)
label_names [] = []
label_names (x ∷ xs) = option_map_or (λ name. name ∷ label_names xs) (label_in x.1) (label_names xs)

-- a procedure has at most eight parameters, and main none; no two parameters have one name, and no two labels; and there
-- are at most 4,096 variables
pub record IsBlock (b : Block) : Type 0 where
  pub few : length b.params ≤ 8
  pub bare_main : (bytes_eq b.name (codes "main") && nat_lt 0 (length b.params)) ≡ false
  pub params : has_twice b.params ≡ false
  pub labels : has_twice (label_names b.body) ≡ false
  pub vars : length (vars_said (numbered 0 b.params) b.body) ≤ 4096

-- at most 65,536 lines are not blank, each fits the units, no two procedures have one name, each is a procedure, and no
-- address has two data
pub record KeepsRules (u : Units) (xs : List Said) : Type 0 where
  pub most : length xs ≤ 65536
  pub fit : list_all (is_fit u) xs ≡ true
  pub names : has_twice (map (λ b. b.name) (blocks xs)) ≡ false
  pub procs : AllByRecursion IsBlock (blocks xs)
  pub apart : are_apart (data_said xs) ≡ true

-- ---- a text and its program

-- all that the lines of a text declare: its procedures by their places, and its data
abbrev pub draft_said : Units → List Said → Draft
draft_said u xs = record {
  names = numbered 0 (map (λ b. b.name) (blocks xs));
  procs = map (proc_said u) (blocks xs);
  begun = None;
  init = data_said xs;
  lines = length xs;
}

-- A text of these lines is this program: its lines have their forms, stand as they may and keep the rules; each procedure
-- is made of its own lines, with labels and callees replaced by their numbers; none leads back to itself by calls; one of
-- them is called main; and the data are those of the text.
pub record IsProgramText (u : Units) (lines : List Line) (p : Program) : Type 0 where
  pub all : list_all is_line lines ≡ true
  pub nested : are_nested false (said_from 1 lines) ≡ true
  pub rules : KeepsRules u (said_from 1 lines)
  pub procs : link_procs (draft_said u (said_from 1 lines)) (draft_said u (said_from 1 lines)).procs ≡ Ok p.procs
  pub acyclic : (k : ℕ) → Reaches (with_main p.procs 0) k k → ⊥
  pub main : named_in (draft_said u (said_from 1 lines)).names (codes "main") ≡ Some p.main
  pub init : p.init ≡ data_said (said_from 1 lines)
