-- What the names of a slot or a long immediate stand for in a machine, and when one is refused.
use Rattle.std.specs.Prelude.{ℕ, ◌==◌, Bool, true, not, ◌&&◌, nat_lt, if◌then◌else◌, List, Option, Some, None, is_some, option_map, option_and_then, slice_get, Result, Ok, codes}
use Rattle.std.specs.Str.{bytes_eq}
use Rattle.tta_asm.specs.Cited.{Declared, named_in, or_refuse, refuse_if, only_if, Units, GuardRef, Source, Dest, Machine, is_source_on, joins, Move, Long}
use Rattle.tta_parse.specs.Steps.{◌>>=◌, ◌>>?◌}
use Rattle.tta_arch.specs.declared.ends.Source.TheVariants as source
use Rattle.tta_arch.specs.declared.ends.Dest.TheVariants as dest
use Rattle.tta_asm.specs.declared.refusal.AsmRefusal.{AsmRefusal}
use Rattle.tta_asm.specs.declared.refusal.AsmRefusal.TheVariants.{Unknown, NoConnection, Label, Range}
use Rattle.tta_asm.specs.declared.parts.Part.{Part}
use Rattle.tta_asm.specs.declared.parts.Part.TheVariants as part
use Rattle.tta_asm.specs.declared.labels.Label.{Label as LabelPlace}
use Rattle.tta_asm.specs.Parts.{parts_of, ops_of}
use Rattle.tta_asm.specs.Forms.{ValueForm, Constant, LabelName, SourceForm, DestForm, GuardForm, MoveForm, LongForm}
use Rattle.tta_asm.specs.Forms.{SourceForm as source_form}
use Rattle.tta_asm.specs.Forms.{DestForm as dest_form}

-- ---- values

-- the word of a value: a constant's, or the address of a label
abbrev pub word_of : Declared LabelPlace → ValueForm → Result ℕ AsmRefusal
word_of labels (Constant n) = Ok n
word_of labels (LabelName name) = or_refuse Label (option_map (λ l. l.address) (named_in labels name))

-- ---- sources

-- a register of a file, or of an immediate unit
abbrev pub source_at : Machine → (index : ℕ) → Part → Option Source
source_at m index (part.File k) =
    option_and_then (λ f. only_if (nat_lt index f.size) (Some (source.Reg k index))) (slice_get m.files k)
source_at m index (part.Imm k) =
    option_and_then (λ i. only_if (nat_lt index i.size) (Some (source.Imm k index))) (slice_get m.imms k)
source_at m index other = None

-- the result port of a unit that has one
abbrev pub result_of : Machine → Part → Option Source
result_of m (part.Unit k) = option_and_then (λ u. only_if (is_some u.result) (Some (source.Shown k))) (slice_get m.units k)
result_of m other = None

-- a source that the machine has
abbrev pub source_of : Machine → Declared LabelPlace → SourceForm → Result Source AsmRefusal
source_of m labels (source_form.Value value) = word_of labels value >>= λ word. Ok (source.Value word)
source_of m labels (source_form.Place name index) = or_refuse Unknown (named_in (parts_of m) name >>? source_at m index)
source_of m labels (source_form.Shown unit) = or_refuse Unknown (named_in (parts_of m) unit >>? result_of m)
source_of m labels source_form.Ra = or_refuse Unknown (only_if (is_some m.control.ra) (Some source.Ra))

-- ---- destinations

-- a register of a file
abbrev pub register_at : Machine → (index : ℕ) → Part → Option Dest
register_at m index (part.File k) =
    option_and_then (λ f. only_if (nat_lt index f.size) (Some (dest.Reg k index))) (slice_get m.files k)
register_at m index other = None

-- the operand port of a unit that has one
abbrev pub operand_of : Machine → Part → Option Dest
operand_of m (part.Unit k) = option_and_then (λ u. only_if (is_some u.operand) (Some (dest.Operand k))) (slice_get m.units k)
operand_of m other = None

-- an operation of a unit
abbrev pub trigger_of : Units → Machine → (op : List ℕ) → Part → Option Dest
trigger_of u m op (part.Unit k) =
    slice_get m.units k >>? λ unit. named_in (ops_of u unit) op >>? λ index. Some (dest.Trigger k index)
trigger_of u m op other = None

-- what control can be asked to do
abbrev pub control_of : (op : List ℕ) → Option Dest
control_of op =
    if bytes_eq op (codes "jump") then Some dest.Jump
    else if bytes_eq op (codes "call") then Some dest.Call
    else if bytes_eq op (codes "halt") then Some dest.Halt
    else None

-- a destination that the machine has
abbrev pub dest_of : Units → Machine → DestForm → Option Dest
dest_of u m (dest_form.Place name index) = named_in (parts_of m) name >>? register_at m index
dest_of u m (dest_form.Operand unit) = named_in (parts_of m) unit >>? operand_of m
dest_of u m (dest_form.Trigger unit op) =
    if bytes_eq unit (codes "gcu") then control_of op else named_in (parts_of m) unit >>? trigger_of u m op

-- ---- guards

-- a register of a file of width 1
abbrev pub guard_at : Machine → GuardForm → Part → Option GuardRef
guard_at m g (part.File k) =
    option_and_then (λ f. only_if (f.width == 1 && nat_lt g.index f.size)
    (Some (record { file = k; index = g.index; inverted = g.inverted }))) (slice_get m.files k)
guard_at m g other = None

-- a guard, if any, that is one of the machine's registers
abbrev pub guard_of : Machine → Option GuardForm → Option (Option GuardRef)
guard_of m None = Some None
guard_of m (Some g) = option_map (λ on. Some on) (named_in (parts_of m) g.file >>? guard_at m g)

-- ---- slots

-- whether the short field of a bus holds the source, where it is a word
abbrev pub fits_bus : Machine → (bus : ℕ) → Source → Bool
fits_bus m bus (source.Value word) = is_source_on m bus (source.Value word)
fits_bus m bus src = true

-- the move of a slot on this bus
unfoldable pub move_of : Units → Machine → Declared LabelPlace → (bus : ℕ) → MoveForm → Result Move AsmRefusal
move_of u m labels bus v =
    or_refuse Unknown (guard_of m v.guard) >>= λ guard.
    or_refuse Unknown (dest_of u m v.dst) >>= λ dst.
    source_of m labels v.src >>= λ src.
    refuse_if (not (fits_bus m bus src)) Range (
    refuse_if (not (joins m bus src dst guard)) NoConnection (
    Ok (record { guard = guard; src = src; dst = dst })))

-- the move of a slot, if it has one
abbrev pub action_of : Units → Machine → Declared LabelPlace → (bus : ℕ) → Option MoveForm → Result (Option Move) AsmRefusal
action_of u m labels bus None = Ok None
action_of u m labels bus (Some v) = move_of u m labels bus v >>= λ w. Ok (Some w)

-- ---- long immediates

-- the template of a name
abbrev pub template_at : Part → Option ℕ
template_at (part.Template k) = Some k
template_at other = None

-- the long immediate of a form: the place of its template, and its word
unfoldable pub long_of : Machine → Declared LabelPlace → LongForm → Result Long AsmRefusal
long_of m labels l =
    or_refuse Unknown (named_in (parts_of m) l.template >>? template_at) >>= λ template.
    word_of labels l.value >>= λ word. Ok (record { template = template; value = word })
