-- The canonical text of code with its data.
use Rattle.std.specs.Prelude.{ℕ, if◌then◌else◌, List, [], ◌∷◌, ◌++◌, Option, Some, None, slice_get, slice_index_or, codes, decimal}
use Rattle.std.specs.Option.{option_map_or}
use Rattle.std.specs.List.{flat_map}
use Rattle.tta_disasm.specs.Cited.{Units, Op, Ldw, Stw, Ldf, Stf, Out, Take, Set, GuardRef, Source, Dest, Machine, Move, Long, Instruction, Datum, Whole}
use Rattle.tta_arch.specs.declared.ends.Source.TheVariants as source
use Rattle.tta_arch.specs.declared.ends.Dest.TheVariants as dest

-- ---- names

-- the name of a file
abbrev pub file_name : Machine → ℕ → List ℕ
file_name m k = option_map_or (λ f. f.name) (slice_get m.files k) []

-- of an immediate unit
abbrev pub imm_name : Machine → ℕ → List ℕ
imm_name m k = option_map_or (λ i. i.name) (slice_get m.imms k) []

-- of a unit
abbrev pub unit_name : Machine → ℕ → List ℕ
unit_name m k = option_map_or (λ u. u.name) (slice_get m.units k) []

-- of a template
abbrev pub template_name : Machine → ℕ → List ℕ
template_name m k = option_map_or (λ t. t.name) (slice_get m.templates k) []

-- what an operation is called
abbrev pub op_name : Units → Op → List ℕ
op_name u Ldw = codes "ldw"
op_name u Stw = codes "stw"
op_name u Ldf = codes "ldf"
op_name u Stf = codes "stf"
op_name u Out = codes "out"
op_name u Take = codes "in"
op_name u (Set id) = slice_index_or u.names id.0 []

-- of an operation of a unit
abbrev pub op_name_at : Units → Machine → (unit op : ℕ) → List ℕ
op_name_at u m unit op =
    option_map_or (λ q. option_map_or (λ o. op_name u o.op) (slice_get q.ops op) []) (slice_get m.units unit) []

-- ---- moves

-- a register by its file's name and its index
abbrev pub place_text : (name : List ℕ) (index : ℕ) → List ℕ
place_text name index = name ++ (codes "." ++ decimal index)

-- a guard with the blank after it, if there is one
abbrev pub guard_text : Machine → Option GuardRef → List ℕ
guard_text m None = []
guard_text m (Some g) =
    (if g.inverted then codes "!" else codes "?") ++ (place_text (file_name m g.file) g.index ++ codes " ")

-- a source
abbrev pub source_text : Machine → Source → List ℕ
source_text m (source.Reg file index) = place_text (file_name m file) index
source_text m (source.Imm unit index) = place_text (imm_name m unit) index
source_text m (source.Shown unit) = unit_name m unit ++ codes ".r"
source_text m source.Ra = codes "gcu.ra"
source_text m (source.Value word) = decimal word

-- a destination
abbrev pub dest_text : Units → Machine → Dest → List ℕ
dest_text u m (dest.Reg file index) = place_text (file_name m file) index
dest_text u m (dest.Operand unit) = unit_name m unit ++ codes ".o"
dest_text u m (dest.Trigger unit op) = unit_name m unit ++ (codes ".t." ++ op_name_at u m unit op)
dest_text u m dest.Jump = codes "gcu.t.jump"
dest_text u m dest.Call = codes "gcu.t.call"
dest_text u m dest.Halt = codes "gcu.t.halt"

-- a move: its guard if it has one, its source and its destination
abbrev pub move_text : Units → Machine → Move → List ℕ
move_text u m v = guard_text m v.guard ++ (source_text m v.src ++ (codes " -> " ++ dest_text u m v.dst))

-- a slot: a move, or "..."
abbrev pub slot_text : Units → Machine → Option Move → List ℕ
slot_text u m None = codes "..."
slot_text u m (Some v) = move_text u m v

-- ---- instructions

-- slots with a comma between two
abbrev pub slots_text : Units → Machine → List (Option Move) → List ℕ
slots_text u m [] = []
slots_text u m (slot ∷ []) = slot_text u m slot
slots_text u m (slot ∷ next ∷ slots) = slot_text u m slot ++ (codes " , " ++ slots_text u m (next ∷ slots))

-- a long immediate with the blank before it, if there is one
abbrev pub long_text : Machine → Option Long → List ℕ
long_text m None = []
long_text m (Some l) = codes " [" ++ (template_name m l.template ++ (codes "=" ++ (decimal l.value ++ codes "]")))

-- an instruction is a line
unfoldable pub instruction_text : Units → Machine → Instruction → List ℕ
instruction_text u m i = slots_text u m i.moves ++ (long_text m i.long ++ codes " ;\n")

-- ---- a whole

-- a datum is a line
abbrev pub datum_text : Datum → List ℕ
datum_text d = codes "data " ++ (decimal d.address ++ (codes " " ++ (decimal d.value ++ codes " ;\n")))

-- the text of a whole: its data and then its instructions one after another, with no labels and no comments
unfoldable pub canonical : Units → Machine → Whole → List ℕ
canonical u m whole = flat_map datum_text whole.init ++ flat_map (instruction_text u m) whole.code.words
