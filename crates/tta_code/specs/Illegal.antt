-- Why a machine cannot carry out an instruction: the first rule that is broken, as the buses are walked upwards.
use Rattle.std.specs.Prelude.{◌≡◌, ℕ, ◌↔◌, Bool, true, false, not, List, [], ◌∷◌, ◌++◌, length, Option, Some, None, slice_get, nat_lt, count_by}
use Rattle.std.specs.Option.{option_or, option_map_or}
use Rattle.std.specs.List.{list_any}
use Rattle.tta_code.specs.Cited.{Source, Dest, Template, Machine, has_bit, joins, Slots, keeps_taken, is_joined, has_reads, has_writes, are_apart, reads_file, reads_imm, writes_file, same_place}
use Rattle.tta_arch.specs.declared.ends.Source.TheVariants as source
use Rattle.tta_arch.specs.declared.ends.Dest.TheVariants as dest
use Rattle.tta_arch.specs.Legal.{ends_of}
use Rattle.tta_code.specs.declared.code.Move.{Move}
use Rattle.tta_code.specs.declared.code.Long.{Long}
use Rattle.tta_code.specs.declared.code.Instruction.{Instruction}
use Rattle.tta_code.specs.declared.legality.Illegal.{Illegal}
use Rattle.tta_code.specs.declared.legality.Illegal.TheVariants.{TakenBus, Unjoined, ReadPorts, WritePorts, TwoIntoOne}
use Rattle.tta_code.specs.Legal.{slots_of, taken, is_instruction, is_legal}

-- the first of the five rules, in this order, that does not hold
abbrev pub told : (untaken joined reads writes apart : Bool) → Option Illegal
told false joined reads writes apart = Some TakenBus
told true false reads writes apart = Some Unjoined
told true true false writes apart = Some ReadPorts
told true true true false apart = Some WritePorts
told true true true true false = Some TwoIntoOne
told true true true true true = None

-- the first rule that the moves of some buses break, from bus 0 on, while a template takes these buses
abbrev pub broken : Machine → (taken : ℕ) → Slots → Option Illegal
broken m taken slots =
    told (keeps_taken taken slots) (is_joined m slots) (has_reads m slots) (has_writes m slots) (are_apart (ends_of slots))

-- the first rule that is broken when further buses are walked one by one
abbrev pub first_broken : Machine → (taken : ℕ) → (walked further : Slots) → Option Illegal
first_broken m taken walked [] = None
first_broken m taken walked (slot ∷ slots) =
    option_or (broken m taken (walked ++ slot ∷ [])) (first_broken m taken (walked ++ slot ∷ []) slots)

-- the first rule that an instruction breaks, as its buses are walked from bus 0 on
unfoldable pub first_illegal : Machine → Instruction → Option Illegal
first_illegal m i = first_broken m (taken m i) [] (slots_of i)

-- an instruction breaks no rule exactly where it is legal
abbrev pub TellsLegal : Type 0
TellsLegal = (m : Machine) (i : Instruction) → is_instruction m i ≡ true → (first_illegal m i ≡ None) ↔ (is_legal m i ≡ true)

-- ---- one move more

-- the buses that a long immediate's template takes
abbrev pub taken_by : List Template → Option Long → ℕ
taken_by templates long = option_map_or (λ l. option_map_or (λ t. t.buses) (slice_get templates l.template) 0) long 0

-- how many moves of some slots pass a test
abbrev pub moves_where : (Move → Bool) → List (Option Move) → ℕ
moves_where test slots = count_by (λ slot. option_map_or test slot false) slots

-- whether moves leave a source room for one more
abbrev pub has_read_left : Machine → List (Option Move) → Source → Bool
has_read_left m before (source.Reg file index) =
    nat_lt (moves_where (λ v. reads_file file v.src) before) (option_map_or (λ f. f.read) (slice_get m.files file) 0)
has_read_left m before (source.Imm unit index) = nat_lt (moves_where (λ v. reads_imm unit v.src) before) 1
has_read_left m before src = true

-- whether moves leave a destination room for one more
abbrev pub has_write_left : Machine → List (Option Move) → Dest → Bool
has_write_left m before (dest.Reg file index) =
    nat_lt (moves_where (λ v. writes_file file v.dst) before) (option_map_or (λ f. f.write) (slice_get m.files file) 0)
has_write_left m before dst = true

-- whether a slot has a move into this place
abbrev pub goes_into : Dest → Option Move → Bool
goes_into dst slot = option_map_or (λ v. same_place v.dst dst) slot false

-- whether none of some moves goes into this place
abbrev pub is_place_free : List (Option Move) → Dest → Bool
is_place_free before dst = not (list_any (goes_into dst) before)

-- the first rule that a move on the next bus breaks, where the moves before it break none
abbrev pub broken_by : Machine → (taken : ℕ) → (before : List (Option Move)) → Move → Option Illegal
broken_by m taken before v =
    told (not (has_bit taken (length before))) (joins m (length before) v.src v.dst v.guard)
    (has_read_left m before v.src) (has_write_left m before v.dst) (is_place_free before v.dst)
