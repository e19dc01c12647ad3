-- What one move does. An instruction and a list of moves are carried out by these same definitions; they differ in
-- what a move can read, and in when the results show.
use Rattle.std.specs.Prelude.{ℕ, ◌%◌, ◌==◌, Bool, true, false, not, ◌&&◌, if◌then◌else◌, List, [], ◌∷◌, ◌++◌, drop, Option, Some, None, is_none, slice_get, slice_index, slice_set, option_and_then}
use Rattle.std.specs.Option.{option_map_or}
use Rattle.tta_ops.specs.Units.{Units}
use Rattle.tta_arch.specs.declared.parts.UnitOp.{UnitOp}
use Rattle.tta_arch.specs.declared.parts.Op.{Op}
use Rattle.tta_arch.specs.declared.parts.Op.TheVariants.{Ldw, Stw, Ldf, Stf, Out, Take, Set}
use Rattle.tta_arch.specs.declared.ends.GuardRef.{GuardRef}
use Rattle.tta_arch.specs.declared.ends.Source.{Source}
use Rattle.tta_arch.specs.declared.ends.Source.TheVariants as source
use Rattle.tta_arch.specs.declared.ends.Dest.{Dest}
use Rattle.tta_arch.specs.declared.ends.Dest.TheVariants as dest
use Rattle.tta_arch.specs.Machine.{Machine}

-- ---- moves

-- the three things that control can be made to do
pub data Kind : Type 0 where
  Jumps : Kind
  Calls : Kind
  Halts : Kind

-- where a word can be brought: a move's destination, or the immediate register that a template writes
pub data Target : Type 0 where
  Reg : (file index : ℕ) → Target
  Imm : (unit index : ℕ) → Target
  Operand : (unit : ℕ) → Target
  Trigger : (unit op : ℕ) → Target
  Control : Kind → Target

-- a move's destination as a target
abbrev pub target_of : Dest → Target
target_of (dest.Reg file index) = Reg file index
target_of (dest.Operand unit) = Operand unit
target_of (dest.Trigger unit op) = Trigger unit op
target_of dest.Jump = Control Jumps
target_of dest.Call = Control Calls
target_of dest.Halt = Control Halts

-- a word on its way: the guard that may stop it, where it comes from and where it goes
pub record Effect : Type 0 where
  pub guard : Option GuardRef
  pub src : Source
  pub target : Target

-- a move of a word into an immediate register, as a template makes it
abbrev pub long_effect : (unit index word : ℕ) → Effect
long_effect unit index word = record { guard = None; src = source.Value word; target = Imm unit index }

-- ---- what is kept

-- a place that keeps a word from one move to the next
pub data Place : Type 0 where
  KeptReg : (file index : ℕ) → Place
  KeptImm : (unit index : ℕ) → Place
  KeptOperand : (unit : ℕ) → Place
  KeptRa : Place
  KeptPort : (unit : ℕ) → Place

-- whether two places are one
abbrev pub same_place : Place → Place → Bool
same_place (KeptReg f i) (KeptReg g j) = f == g && i == j
same_place (KeptImm f i) (KeptImm g j) = f == g && i == j
same_place (KeptOperand u) (KeptOperand v) = u == v
same_place KeptRa KeptRa = true
same_place (KeptPort u) (KeptPort v) = u == v
same_place p q = false

-- what was written into each place, the newest first
abbrev pub Written : Type 0
Written = List (Place × ℕ)

-- the word that a place keeps, if one was ever written into it
abbrev pub kept : Written → Place → Option ℕ
kept [] p = None
kept (w ∷ ws) p = if same_place w.0 p then Some w.1 else kept ws p

-- ---- reading

-- what can be read: the word of each source that has one
abbrev pub Reads : Type 0
Reads = Source → Option ℕ

-- the word in the register of a guard
abbrev pub guard_word : Reads → GuardRef → Option ℕ
guard_word reads g = reads (source.Reg g.file g.index)

-- whether a guard lets its move act at this word
abbrev pub passes : GuardRef → ℕ → Bool
passes g word = if g.inverted then word == 0 else not (word == 0)

-- whether a move acts: it has no guard, or its guard lets it
abbrev pub is_active : Reads → Effect → Bool
is_active reads e = option_map_or (λ g. option_map_or (passes g) (guard_word reads g) false) e.guard true

-- the word that an active move takes
abbrev pub moved : Reads → Effect → Option ℕ
moved reads e = if is_active reads e then reads e.src else None

-- a target with the word that is brought there
abbrev pub Brought : Type 0
Brought = Target × ℕ

-- what a move brings, if it acts
abbrev pub bring : Reads → Effect → Option Brought
bring reads e = option_map_or (λ word. Some (e.target, word)) (moved reads e) None

-- ---- what a move writes

-- how wide a register of a file is
abbrev pub width_of : Machine → ℕ → ℕ
width_of m file = option_map_or (λ f. f.width) (slice_get m.files file) 32

-- A word goes into the place that it was moved to, and a file of width 1 keeps its low bit. A call writes the
-- address to come back to.
abbrev pub write_of : Machine → (back : ℕ) → Brought → Option (Place × ℕ)
write_of m back (Reg file index, word) = Some (KeptReg file index, if width_of m file == 1 then word % 2 else word)
write_of m back (Imm unit index, word) = Some (KeptImm unit index, word)
write_of m back (Operand unit, word) = Some (KeptOperand unit, word)
write_of m back (Trigger unit op, word) = None
write_of m back (Control Calls, word) = Some (KeptRa, back)
write_of m back (Control Jumps, word) = None
write_of m back (Control Halts, word) = None

-- ---- what a move starts

-- an operation that a unit offers
abbrev pub op_at : Machine → (unit op : ℕ) → Option UnitOp
op_at m unit op = option_and_then (λ u. slice_get u.ops op) (slice_get m.units unit)

-- whether an operation shows a result
abbrev pub has_result : Op → Bool
has_result Ldw = true
has_result Stw = false
has_result Ldf = true
has_result Stf = false
has_result Out = false
has_result Take = true
has_result (Set id) = true

-- an operation that starts: its unit, what it is, its operand where there is one, and the word moved into the trigger
pub record Start : Type 0 where
  pub unit : ℕ
  pub does : UnitOp
  pub operand : Option ℕ
  pub word : ℕ

-- an operation of two words takes one from the operand port, and an operation of one word takes none
abbrev pub operand_of : Written → ℕ → UnitOp → Option ℕ
operand_of written unit o = if o.arity == 2 then kept written (KeptOperand unit) else Some 0

-- the operation that a word starts where it is moved into a trigger port
abbrev pub start_of : Machine → Written → Brought → Option Start
start_of m written (Trigger unit op, word) =
    option_map_or (λ o. Some (record { unit = unit; does = o; operand = operand_of written unit o; word = word })) (op_at m unit op) None
start_of m written (Reg file index, word) = None
start_of m written (Imm unit index, word) = None
start_of m written (Operand unit, word) = None
start_of m written (Control kind, word) = None

-- the operand of an operation, and 0 where it has none
abbrev pub operand_word : Start → ℕ
operand_word t = option_map_or (λ a. a) t.operand 0

-- the word that an operation shows: a loaded word, 0 outside the space, the next word of the input, or the unit's value
abbrev pub result_word : Units → (memory frame : List ℕ) → (next : ℕ) → Start → Op → ℕ
result_word u memory frame next t Ldw = slice_index memory t.word
result_word u memory frame next t Ldf = slice_index frame t.word
result_word u memory frame next t Stw = 0
result_word u memory frame next t Stf = 0
result_word u memory frame next t Out = 0
result_word u memory frame next t Take = next
result_word u memory frame next t (Set id) = u.value id.0 (operand_word t) t.word

-- a space after a store: the moved word at the address in the operand port, nothing outside the space
abbrev pub stores : List ℕ → Start → List ℕ
stores words t = slice_set words (operand_word t) t.word

-- the data space after an operation
abbrev pub store_data : List ℕ → Start → List ℕ
store_data words t = on t.does.op where
  on : Op → List ℕ
  on Stw = stores words t
  on o = words

-- the frame space after an operation
abbrev pub store_frame : List ℕ → Start → List ℕ
store_frame words t = on t.does.op where
  on : Op → List ℕ
  on Stf = stores words t
  on o = words

-- the output after an operation
abbrev pub put_out : List ℕ → Start → List ℕ
put_out words t = on t.does.op where
  on : Op → List ℕ
  on Out = words ++ t.word ∷ []
  on o = words

-- whether an operation that a unit offers takes a word of the input
abbrev pub takes_in : Op → Bool
takes_in Take = true
takes_in o = false

-- whether an operation that starts does
abbrev pub takes : Start → Bool
takes t = takes_in t.does.op

-- what is left of the input after an operation
abbrev pub take_in : List ℕ → Start → List ℕ
take_in input t = if takes t then drop 1 input else input

-- what a word makes control do that is moved into its trigger port
abbrev pub control_of : Brought → Option (Kind × ℕ)
control_of (Control kind, word) = Some (kind, word)
control_of (Reg file index, word) = None
control_of (Imm unit index, word) = None
control_of (Operand unit, word) = None
control_of (Trigger unit op, word) = None

-- ---- what a move lacks

-- whether a source is a register of some kind, which keeps what was written
abbrev pub is_register : Source → Bool
is_register (source.Reg file index) = true
is_register (source.Imm unit index) = true
is_register (source.Shown unit) = false
is_register source.Ra = true
is_register (source.Value word) = false

-- whether a source is a result port
abbrev pub is_port : Source → Bool
is_port (source.Reg file index) = false
is_port (source.Imm unit index) = false
is_port (source.Shown unit) = true
is_port source.Ra = false
is_port (source.Value word) = false

-- whether a move's guard was never written
abbrev pub has_unset_guard : Reads → Effect → Bool
has_unset_guard reads e = option_map_or (λ g. is_none (guard_word reads g)) e.guard false

-- whether a move acts, and its source is of this kind and has no word
abbrev pub has_unset : Reads → (Source → Bool) → Effect → Bool
has_unset reads kind e = is_active reads e && kind e.src && is_none (reads e.src)

-- whether an operation starts without the operand that it takes
abbrev pub lacks_operand : Start → Bool
lacks_operand t = is_none t.operand

-- ---- along a list

-- the first answer, or the second where there is none
abbrev pub or_else : {B : Type 0} → Option B → Option B → Option B
or_else None second = second
or_else (Some x) second = Some x

-- the first answer along a list
abbrev pub first_some : {A B : Type 0} → (A → Option B) → List A → Option B
first_some f [] = None
first_some f (x ∷ xs) = or_else (f x) (first_some f xs)
