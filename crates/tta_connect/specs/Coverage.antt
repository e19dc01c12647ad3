-- What the compiler needs of a machine, and what it chooses there.
use Rattle.std.specs.Prelude.{◌≡◌, ℕ, ◌+◌, ◌-◌, ◌==◌, Bool, true, false, not, ◌&&◌, ◌||◌, nat_le, if◌then◌else◌, List, [], ◌∷◌, ◌++◌, length, map, Option, Some, None, is_some, slice_get}
use Rattle.std.specs.Option.{option_map_or}
use Rattle.std.specs.List.{list_any, range_with_len}
use Rattle.tta_connect.specs.Cited.{File, UnitOp, Op, Ldf, Stf, GuardRef, Source, Dest, Machine, or_else, has_bit, has_socket, is_source_on, is_dest_on, joins, same_op}
use Rattle.tta_arch.specs.declared.parts.Unit.{Unit as OpUnit}
use Rattle.tta_arch.specs.declared.ends.Source.TheVariants as source
use Rattle.tta_arch.specs.declared.ends.Dest.TheVariants as dest
use Rattle.tta_connect.specs.declared.calls.Call.{Call}
use Rattle.tta_connect.specs.declared.choice.Choice.{Choice}
use Rattle.tta_connect.specs.declared.choice.CoverError.{CoverError}
use Rattle.tta_connect.specs.declared.choice.CoverError.TheVariants.{Rule, NoMemory}

-- ---- along lists

-- the first answer along a list whose items are numbered from k on
abbrev pub first_by : {A B : Type 0} → (ℕ → A → Option B) → (k : ℕ) → List A → Option B
first_by f k [] = None
first_by f k (x ∷ xs) = or_else (f k x) (first_by f (k + 1) xs)

-- the numbers of a machine's buses
abbrev pub buses_of : Machine → List ℕ
buses_of m = range_with_len 0 (length m.buses)

-- whether some bus joins the ends of a move, with its guard
abbrev pub some_bus : Machine → Source → Dest → Option GuardRef → Bool
some_bus m src dst guard = list_any (λ bus. joins m bus src dst guard) (buses_of m)

-- ---- the hub

-- a file as a source, by its first register
abbrev pub from : ℕ → Source
from file = source.Reg file 0

-- the same as a destination
abbrev pub into : ℕ → Dest
into file = dest.Reg file 0

-- Whether a file can be the hub: it keeps words, has three registers that can be scratch, and is joined to itself. All
-- registers of a file share the same sockets, so its first one stands for all.
abbrev pub is_hub : Machine → (file : ℕ) → File → Bool
is_hub m file f = f.width == 32 && nat_le 3 f.size && some_bus m (from file) (into file) None

-- the hub is the first such file
abbrev pub hub_of : Machine → Option ℕ
hub_of m = first_by (λ file f. if is_hub m file f then Some file else None) 0 m.files

-- ---- immediates

-- whether a bus brings each word to the hub
abbrev pub brings_all : Machine → (hub bus : ℕ) → Bool
brings_all m hub bus = option_map_or (λ b. b.short == 32) (slice_get m.buses bus) false && is_dest_on m bus (into hub)

-- whether each word reaches the hub: in a short field of 32 bits, or from a register that a template writes
abbrev pub has_words : Machine → (hub : ℕ) → Bool
has_words m hub =
    list_any (brings_all m hub) (buses_of m)
    || list_any (λ t. some_bus m (source.Imm t.imm t.reg) (into hub) None) m.templates

-- ---- the guard register

-- whether a move from the hub can have this register as its guard, plain and inverted
abbrev pub has_senses : Machine → (hub file index : ℕ) → Dest → Bool
has_senses m hub file index dst =
    some_bus m (from hub) dst (Some (record { file = file; index = index; inverted = false }))
    && some_bus m (from hub) dst (Some (record { file = file; index = index; inverted = true }))

-- whether a register can keep a condition, for a jump and for a move within the hub
abbrev pub can_guard : Machine → (hub file index : ℕ) → Bool
can_guard m hub file index =
    some_bus m (from hub) (dest.Reg file index) None && has_senses m hub file index dest.Jump && has_senses m hub file index (into hub)

-- the first such register of a file of width 1
abbrev pub guard_in : Machine → (hub file : ℕ) → File → Option (ℕ × ℕ)
guard_in m hub file f =
    if f.width == 1 then first_by (λ k index. if can_guard m hub file index then Some (file, index) else None) 0 (range_with_len 0 f.size) else None

-- the guard register, where the hub is joined to control too
abbrev pub guard_register : Machine → (hub : ℕ) → Option (ℕ × ℕ)
guard_register m hub = if some_bus m (from hub) dest.Jump None then first_by (guard_in m hub) 0 m.files else None

-- ---- units

-- whether some bus leads from the hub into a socket
abbrev pub hub_feeds : Machine → (hub socket : ℕ) → Bool
hub_feeds m hub socket = list_any (λ bus. is_source_on m bus (from hub) && has_socket m true (Some socket) bus) (buses_of m)

-- a unit is usable where the hub is joined to each of its ports
abbrev pub is_usable : Machine → (hub unit : ℕ) → OpUnit → Bool
is_usable m hub unit v =
    option_map_or (hub_feeds m hub) v.operand true && hub_feeds m hub v.trigger
    && option_map_or (λ socket. some_bus m (source.Shown unit) (into hub) None) v.result true

-- the same of a machine's unit by its number
abbrev pub is_usable_at : Machine → (hub unit : ℕ) → Bool
is_usable_at m hub unit = option_map_or (is_usable m hub unit) (slice_get m.units unit) false

-- ---- operations

-- an operation of a unit, if it is the one that is asked for
abbrev pub call_if : Op → (unit k : ℕ) → UnitOp → Option Call
call_if op unit k o = if same_op o.op op then Some (record { unit = unit; op = k; does = o }) else None

-- the same of a unit with all that it offers, if it is one of some
abbrev pub call_in : (usable : ℕ → Bool) → Op → (unit : ℕ) → OpUnit → Option Call
call_in usable op unit v = if usable unit then first_by (call_if op unit) 0 v.ops else None

-- the operation at the first of some units that offers it
abbrev pub offered_by : Machine → (usable : ℕ → Bool) → Op → Option Call
offered_by m usable op = first_by (call_in usable op) 0 m.units

-- the same, where the units are a set, one bit each
abbrev pub offered : Machine → (usable : ℕ) → Op → Option Call
offered m usable op = offered_by m (has_bit usable) op

-- the operation at the first of a machine's units that offers it, usable or not
abbrev pub anywhere : Machine → Op → Option Call
anywhere m op = first_by (λ unit v. first_by (call_if op unit) 0 v.ops) 0 m.units

-- ---- homes

-- the registers of a file from one on, as many as are left
abbrev pub registers_from : (file index count : ℕ) → List (ℕ × ℕ)
registers_from file index count = map (λ k. (file, k)) (range_with_len index count)

-- whether a file other than the hub can keep variables: it keeps words, and is joined to the hub both ways
abbrev pub is_home_file : Machine → (hub file : ℕ) → File → Bool
is_home_file m hub file f =
    not (file == hub) && f.width == 32 && some_bus m (from file) (into hub) None && some_bus m (from hub) (into file) None

-- the home registers of these files, which are numbered from one on
abbrev pub homes_from : Machine → (hub file : ℕ) → List File → List (ℕ × ℕ)
homes_from m hub file [] = []
homes_from m hub file (f ∷ fs) = (if is_home_file m hub file f then registers_from file 0 f.size else []) ++ homes_from m hub (file + 1) fs

-- those of the hub but the scratch registers, then those of the other files
abbrev pub homes_of : Machine → (hub : ℕ) → List (ℕ × ℕ)
homes_of m hub =
    option_map_or (λ f. registers_from hub 3 (f.size - 3)) (slice_get m.files hub) [] ++ homes_from m hub 0 m.files

-- ---- the rules

-- a rule by its number, where nothing keeps it, or what comes after it
abbrev pub unless : {A : Type 0} → (rule : ℕ) → Option A → (A → Option ℕ) → Option ℕ
unless rule None next = Some rule
unless rule (Some x) next = next x

-- the same of a rule that is a test
abbrev pub unless_true : (rule : ℕ) → Bool → Option ℕ → Option ℕ
unless_true rule test next = if test then next else Some rule

-- the first rule that fails, if one does
abbrev pub failed_rule : Machine → Option ℕ
failed_rule m =
    unless 1 (hub_of m) (λ hub.
    unless_true 2 (has_words m hub) (
    unless 3 (guard_register m hub) (λ guard.
    unless_true 4 (some_bus m source.Ra (into hub) None) (
    unless_true 5 (is_some (offered_by m (is_usable_at m hub) Ldf) && is_some (offered_by m (is_usable_at m hub) Stf)) None))))

-- what is chosen where no rule fails
pub record IsChoice (m : Machine) (c : Choice) : Type 0 where
  pub hub : hub_of m ≡ Some c.hub
  pub words : has_words m c.hub ≡ true
  pub guard : guard_register m c.hub ≡ Some (c.guard_file, c.guard_index)
  pub back : some_bus m source.Ra (into c.hub) None ≡ true
  pub usable : (unit : ℕ) → has_bit c.usable unit ≡ is_usable_at m c.hub unit
  pub frame : (is_some (offered m c.usable Ldf) && is_some (offered m c.usable Stf)) ≡ true
  pub homes : c.homes ≡ homes_of m c.hub

-- a refusal names the first rule that fails; one for lack of memory names none
abbrev pub TellsRule : Machine → CoverError → Type 0
TellsRule m (Rule rule) = failed_rule m ≡ Some rule
TellsRule m NoMemory = true ≡ true
