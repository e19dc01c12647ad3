-- Which machine a text describes, and where it is refused.
use Rattle.std.specs.Prelude.{◌≡◌, ℕ, ◌+◌, nat_lt, if◌then◌else◌, List, [], ◌∷◌, length, Option, Some, None, Result, Ok, Err, codes}
use Rattle.std.specs.Option.{option_map_or}
use Rattle.tta_machine.specs.Cited.{Line, Lexeme, lines_of, is_keyword, or_refuse, at_line, Units, Template, Control, Machine, taken_width}
use Rattle.tta_parse.specs.Steps.{◌>>=◌}
use Rattle.tta_machine.specs.declared.refusal.Refusal.{Refusal}
use Rattle.tta_machine.specs.declared.refusal.Refusal.TheVariants.{Syntax, Missing, TooNarrow}
use Rattle.tta_machine.specs.declared.draft.Draft.{Draft}
use Rattle.tta_machine.specs.declared.refusal.MachineError.{MachineError}
use Rattle.tta_machine.specs.declared.refusal.MachineError.TheVariants as machine_error
use Rattle.tta_machine.specs.Draft.{nothing, machine_of, code_of}
use Rattle.tta_machine.specs.Forms.{bus_form, socket_form, file_form, imm_form, unit_form, op_form, guard_form, template_form, control_form, space_form}
use Rattle.tta_machine.specs.Declarations.{take_bus, take_socket, take_file, take_imm, take_unit, take_op, take_guard, take_template, take_control, take_space}

-- ---- a line

-- what a line declares, by its first word
abbrev pub declare : Units → (line : ℕ) → Draft → Lexeme → Line → Result Draft Refusal
declare u line d key words =
    if is_keyword (codes "bus") key then or_refuse Syntax (bus_form words) >>= take_bus d
    else if is_keyword (codes "socket") key then or_refuse Syntax (socket_form words) >>= take_socket d
    else if is_keyword (codes "file") key then or_refuse Syntax (file_form words) >>= take_file d
    else if is_keyword (codes "imm") key then or_refuse Syntax (imm_form words) >>= take_imm d
    else if is_keyword (codes "unit") key then or_refuse Syntax (unit_form words) >>= take_unit d
    else if is_keyword (codes "op") key then or_refuse Syntax (op_form words) >>= take_op u d
    else if is_keyword (codes "guard") key then or_refuse Syntax (guard_form words) >>= take_guard d
    else if is_keyword (codes "template") key then or_refuse Syntax (template_form words) >>= take_template line d
    else if is_keyword (codes "control") key then or_refuse Syntax (control_form words) >>= take_control d
    else if is_keyword (codes "space") key then or_refuse Syntax (space_form words) >>= take_space d
    else Err Syntax

-- a blank line declares nothing
unfoldable pub take_line : Units → (line : ℕ) → Draft → Line → Result Draft Refusal
take_line u line d [] = Ok d
take_line u line d (key ∷ words) = declare u line d key words

-- ---- a text

-- a refusal with its line
abbrev pub Refused : Type 0
Refused = ℕ × Refusal

-- the lines from this one on; the first that is refused is reported
abbrev pub take_lines : Units → (line : ℕ) → Draft → List Line → Result Draft Refused
take_lines u line d [] = Ok d
take_lines u line d (words ∷ lines) = at_line line (take_line u line d words) >>= λ next. take_lines u (line + 1) next lines

-- the line of the first template whose buses have fewer than 32 bits together
abbrev pub narrow_line : Machine → (templates : List Template) → (lines : List ℕ) → Option ℕ
narrow_line m (t ∷ ts) (line ∷ lines) = if nat_lt (taken_width m t.buses) 32 then Some line else narrow_line m ts lines
narrow_line m ts lines = None

-- what stands at the end: a bus, control, and templates that are wide enough
abbrev pub complete : Draft → Result Machine Refused
complete d = of d.control where
  wide : Machine → Result Machine Refused
  wide m = option_map_or (λ line. Err (line, TooNarrow)) (narrow_line m d.templates d.template_lines) (Ok m)

  of : Option Control → Result Machine Refused
  of None = Err (0, Missing)
  of (Some control) = if nat_lt 0 (length d.buses) then wide (machine_of d control) else Err (0, Missing)

-- the machine of a text, or its first refusal
unfoldable pub machine_of_text : Units → List ℕ → Result Machine Refused
machine_of_text u text = take_lines u 1 nothing (lines_of text) >>= complete

-- what is reported of a text that describes no machine; lack of memory needs no cause
abbrev pub HasCause : Units → List ℕ → MachineError → Type 0
HasCause u text (machine_error.Refused line code) =
    (refusal : Refusal) × (code ≡ code_of refusal) × (machine_of_text u text ≡ Err (line, refusal))
HasCause u text machine_error.NoMemory = Unit {0}
