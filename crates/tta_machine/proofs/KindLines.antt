-- A line is of one kind alone, and adds to the lines of that kind.
use Rattle.std.proofs.Common.{◌≡◌, ◌++◌, ◌∷◌, [], ℕ, Bool, List, Option, None, true, map, sym, ap, ap₂, ◌∙◌, append_assoc, append-nil, codes}
use Rattle.std.specs.Prelude.{◌&&◌, ◌||◌, is_some}
use Rattle.std.specs.List.{list_all, cons_option}
use Rattle.std.specs.Str.{bytes_eq}
use Rattle.std.proofs.lemmas.Bool.{and_parts}
use Rattle.std.proofs.lemmas.Slice.Eq.{bytes_eq-Decides}
use Rattle.tta_machine.specs.Cited.{Line, Lexeme, is_keyword, is_name_kind, only_if}
use Rattle.tta_machine.specs.Forms.{BusForm, SocketForm, FileForm, ImmForm, UnitForm, OpForm, GuardForm, TemplateForm, ControlForm, SpaceForm, bus_form, socket_form, file_form, imm_form, unit_form, op_form, guard_form, template_form, control_form, space_form}
use Rattle.tta_machine.specs.Grammar.{bus_lines, socket_lines, file_lines, imm_lines, unit_lines, op_lines, guard_lines, template_lines, control_lines, space_lines, is_declaration}

-- ---- lines of a kind

-- what lines declare, kind by kind, and whether each of them declares something or is blank
pub record ByKind : Type 0 where
  pub all : Bool
  pub buses : List BusForm
  pub sockets : List SocketForm
  pub files : List FileForm
  pub imms : List ImmForm
  pub units : List UnitForm
  pub ops : List OpForm
  pub guards : List GuardForm
  pub templates : List TemplateForm
  pub controls : List ControlForm
  pub spaces : List SpaceForm

-- the lines of a machine text, sorted into those of each kind
abbrev pub by_kind : List Line → ByKind
by_kind lines = record {
  all = list_all is_declaration lines;
  buses = bus_lines lines;
  sockets = socket_lines lines;
  files = file_lines lines;
  imms = imm_lines lines;
  units = unit_lines lines;
  ops = op_lines lines;
  guards = guard_lines lines;
  templates = template_lines lines;
  controls = control_lines lines;
  spaces = space_lines lines;
}

-- what one line declares as a line of each kind
pub record OneLine : Type 0 where
  pub bus : Option BusForm
  pub socket : Option SocketForm
  pub file : Option FileForm
  pub imm : Option ImmForm
  pub unit : Option UnitForm
  pub op : Option OpForm
  pub guard : Option GuardForm
  pub template : Option TemplateForm
  pub control : Option ControlForm
  pub space : Option SpaceForm

-- its first word passes this test of words, and these are the others
abbrev pub one_line : (List ℕ → Bool) → Line → OneLine
one_line test words = record {
  bus = only_if (test (codes "bus")) (bus_form words);
  socket = only_if (test (codes "socket")) (socket_form words);
  file = only_if (test (codes "file")) (file_form words);
  imm = only_if (test (codes "imm")) (imm_form words);
  unit = only_if (test (codes "unit")) (unit_form words);
  op = only_if (test (codes "op")) (op_form words);
  guard = only_if (test (codes "guard")) (guard_form words);
  template = only_if (test (codes "template")) (template_form words);
  control = only_if (test (codes "control")) (control_form words);
  space = only_if (test (codes "space")) (space_form words);
}

-- a line that declares nothing of any kind
abbrev pub no_line : OneLine
no_line = record { bus = None; socket = None; file = None; imm = None; unit = None; op = None; guard = None; template = None; control = None; space = None }

-- a line before others
abbrev pub in_front : OneLine → ByKind → ByKind
in_front line rest = record {
  all =
      (is_some line.bus || is_some line.socket || is_some line.file || is_some line.imm || is_some line.unit || is_some line.op || is_some line.guard
      || is_some line.template || is_some line.control || is_some line.space)
      && rest.all;
  buses = cons_option line.bus rest.buses;
  sockets = cons_option line.socket rest.sockets;
  files = cons_option line.file rest.files;
  imms = cons_option line.imm rest.imms;
  units = cons_option line.unit rest.units;
  ops = cons_option line.op rest.ops;
  guards = cons_option line.guard rest.guards;
  templates = cons_option line.template rest.templates;
  controls = cons_option line.control rest.controls;
  spaces = cons_option line.space rest.spaces;
}

-- a lexeme that is one keyword is another where the words are alike
other_keyword : (word other : List ℕ) (key : Lexeme) → is_keyword word key ≡ true → is_keyword other key ≡ bytes_eq word other
other_keyword word other key is =
    let parts = and_parts (is_name_kind key.kind) (bytes_eq key.text word) is in
    ap₂ (λ (b : Bool) (text : List ℕ). b && bytes_eq text other) parts.0 ((bytes_eq-Decides key.text word).0 parts.1)

-- a line that begins with a word, by that word alone
pub by_word : (word : List ℕ) (key : Lexeme) (words : Line) (rest : List Line) → is_keyword word key ≡ true
    → by_kind ((key ∷ words) ∷ rest) ≡ in_front (one_line (bytes_eq word) words) (by_kind rest)
by_word word key words rest is =
    ap (λ (test : List ℕ → Bool). in_front (one_line test words) (by_kind rest)) (λ i other. other_keyword word other key is i)

-- ---- lists that grow by what lines make

-- the later list has what the forms make after the earlier one
abbrev pub Adds : {A F : Type 0} → (earlier later : List A) → (made : F → A) → List F → Type 0
Adds earlier later made forms = later ≡ earlier ++ map made forms

pub adds_none : {A F : Type 0} (earlier : List A) (made : F → A) → Adds earlier earlier made []
adds_none earlier made = sym (append-nil earlier)

pub adds_one : {A F : Type 0} (earlier later : List A) (x : A) (made : F → A) (f : F) (forms : List F)
    → Adds (earlier ++ x ∷ []) later made forms → made f ≡ x → Adds earlier later made (f ∷ forms)
adds_one earlier later x made f forms h is = h ∙ append_assoc earlier (x ∷ []) (map made forms) ∙ ap (λ y. earlier ++ y ∷ map made forms) (sym is)
