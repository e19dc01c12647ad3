-- The printed text of a program: a statement on each line, with single blanks between its words.
use Rattle.std.specs.Prelude.{ℕ, suc, zero, ◌+◌, ◌==◌, if◌then◌else◌, List, [], ◌∷◌, ◌++◌, Some, None, get_or, codes, decimal}
use Rattle.std.specs.List.{flat_map}
use Rattle.tta_pretty.specs.Cited.{Name, Number, Mark, Lexeme, Line, OpId, Units, Src, Var, Word, Rel, Eq, Ne, Lt, Ge, Ltu, Geu, Step, Copy, Apply, Load, Store, Put, Take, If, Goto, When, Invoke, Return, Halt, End, Proc, DataLine, Program, is_target}

-- ---- words

-- a word of the language, or a name
abbrev pub word : List ℕ → Lexeme
word text = record { kind = Name; text = text }

-- a number, in decimal
abbrev pub number : ℕ → Lexeme
number n = record { kind = Number; text = decimal n }

abbrev pub equals : Lexeme
equals = record { kind = Mark; text = codes "=" }

-- the names of a variable, a label and a procedure
abbrev pub var_name : ℕ → List ℕ
var_name k = codes "v" ++ decimal k

abbrev pub label_name : ℕ → List ℕ
label_name k = codes "L" ++ decimal k

abbrev pub proc_name : (main k : ℕ) → List ℕ
proc_name main k = if k == main then codes "main" else codes "p" ++ decimal k

-- the name of an operation
abbrev pub op_name : Units → OpId → List ℕ
op_name u op = get_or u.names op.0 []

-- an operand
abbrev pub src_word : Src → Lexeme
src_word (Var x) = word (var_name x)
src_word (Word w) = number w

-- operands
abbrev pub src_words : List Src → Line
src_words [] = []
src_words (s ∷ ss) = src_word s ∷ src_words ss

-- a relation
abbrev pub rel_name : Rel → List ℕ
rel_name Eq = codes "eq"
rel_name Ne = codes "ne"
rel_name Lt = codes "lt"
rel_name Ge = codes "ge"
rel_name Ltu = codes "ltu"
rel_name Geu = codes "geu"

-- so many variables, from the k-th on
abbrev pub var_names : (k count : ℕ) → List (List ℕ)
var_names k zero = []
var_names k (suc count) = var_name k ∷ var_names (k + 1) count

-- names as words
abbrev pub words : List (List ℕ) → Line
words [] = []
words (name ∷ names) = word name ∷ words names

-- ---- lines

-- the operands that a line gives an operation: one of two words has both, and one of one word the second
abbrev pub operand_words : (arity : ℕ) → (a b : Src) → Line
operand_words arity a b = if arity == 2 then src_word a ∷ src_word b ∷ [] else src_word b ∷ []

-- a step as a line
abbrev pub step_line : Units → (main : ℕ) → Step → Line
step_line u main (Copy d s) = word (var_name d) ∷ equals ∷ src_word s ∷ []
step_line u main (Apply d op a b) = word (var_name d) ∷ equals ∷ word (op_name u op) ∷ operand_words (get_or u.arities op.0 0) a b
step_line u main (Load d a) = word (var_name d) ∷ equals ∷ word (codes "load") ∷ src_word a ∷ []
step_line u main (Store a v) = word (codes "store") ∷ src_word a ∷ src_word v ∷ []
step_line u main (Put v) = word (codes "out") ∷ src_word v ∷ []
step_line u main (Take d) = word (var_name d) ∷ equals ∷ word (codes "in") ∷ []
step_line u main (If rel a b to) = word (codes "if") ∷ word (rel_name rel) ∷ src_word a ∷ src_word b ∷ word (codes "goto") ∷ word (label_name to) ∷ []
step_line u main (Goto to) = word (codes "goto") ∷ word (label_name to) ∷ []
step_line u main (When rel a b d s) = word (codes "when") ∷ word (rel_name rel) ∷ src_word a ∷ src_word b ∷ word (var_name d) ∷ equals ∷ src_word s ∷ []
step_line u main (Invoke (Some d) callee args) = word (var_name d) ∷ equals ∷ word (codes "call") ∷ word (proc_name main callee) ∷ src_words args
step_line u main (Invoke None callee args) = word (codes "call") ∷ word (proc_name main callee) ∷ src_words args
step_line u main (Return (Some s)) = word (codes "return") ∷ src_word s ∷ []
step_line u main (Return None) = word (codes "return") ∷ []
step_line u main Halt = word (codes "halt") ∷ []
step_line u main End = word (codes "end") ∷ []

-- the begin of a procedure, and a word of data, as lines
abbrev pub proc_line : (main k params : ℕ) → Line
proc_line main k params = word (codes "proc") ∷ word (proc_name main k) ∷ words (var_names 0 params)

abbrev pub data_line : DataLine → Line
data_line d = word (codes "data") ∷ number d.address ∷ number d.value ∷ []

-- what is printed on a line: words, or a label
pub data Printed : Type 0 where
  Words : Line → Printed
  Label : (name : List ℕ) → Printed

-- the label before a step that some step names
abbrev pub label_before : List Step → ℕ → List Printed
label_before steps k = if is_target steps k then Label (label_name k) ∷ [] else []

-- the steps from the k-th on, each with its label before it
abbrev pub step_lines : Units → (main : ℕ) → (all : List Step) → (k : ℕ) → List Step → List Printed
step_lines u main all k [] = []
step_lines u main all k (step ∷ steps) = label_before all k ++ (Words (step_line u main step) ∷ step_lines u main all (k + 1) steps)

-- procedures from the k-th on
abbrev pub proc_lines : Units → (main k : ℕ) → List Proc → List Printed
proc_lines u main k [] = []
proc_lines u main k (q ∷ qs) = Words (proc_line main k q.params) ∷ (step_lines u main q.steps 0 q.steps ++ proc_lines u main (k + 1) qs)

-- the data
abbrev pub data_lines : List DataLine → List Printed
data_lines [] = []
data_lines (d ∷ ds) = Words (data_line d) ∷ data_lines ds

-- the lines of a program
abbrev pub lines_printed : Units → Program → List Printed
lines_printed u p = data_lines p.init ++ proc_lines u p.main 0 p.procs

-- ---- the text

-- words with a blank between two
abbrev pub spaced : Line → List ℕ
spaced [] = []
spaced (w ∷ []) = w.text
spaced (w ∷ v ∷ ws) = w.text ++ (32 ∷ spaced (v ∷ ws))

-- a line; the colon of a label stands directly after its name
abbrev pub line_text : Printed → List ℕ
line_text (Words line) = spaced line ++ codes "\n"
line_text (Label name) = name ++ codes ":\n"

-- the printed text of a program
unfoldable pub printed : Units → Program → List ℕ
printed u p = flat_map line_text (lines_printed u p)
