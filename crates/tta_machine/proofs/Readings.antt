-- Machine texts that are read, and texts that are refused, computed.
use Rattle.std.specs.Prelude.{◌≡◌, ◌<◌, ℕ, zero, suc, List, [], ◌∷◌, ◌++◌, Result, true, not, length, Ok, Err, refl, codes, get_or}
use Rattle.std.specs.Str.{bytes_eq}
use Rattle.std.specs.List.{list_all, list_any}
use Rattle.std.proofs.Common.{arith, lit<}
use Rattle.std.proofs.lemmas.Bool.{and_parts, not-true, both_ways}
use Rattle.std.proofs.lemmas.List.Folds.{list_any_at}
use Rattle.std.proofs.lemmas.Option.{slice_get-get_or}
use Rattle.std.proofs.lemmas.Slice.Eq.{bytes_eq-Decides}
use Rattle.tta_list.proofs.Lists.{list_all_one}
use Rattle.tta_machine.specs.Cited.{number_of, digits_of, value_below, tokens_of, tokens_from, piece_at, number_piece, mark_piece, lines_of, is_reserved, AreFree, Units, AreDistinct, AreArities, are_different, is_from_to, width_for, Machine}
use Rattle.tta_machine.specs.declared.refusal.Refusal.TheVariants.{Syntax, Unknown, Twice, Range, Missing, TooNarrow}
use Rattle.tta_machine.specs.Forms.{bus_form, socket_form, file_form, imm_form, unit_form, op_form, guard_form, template_form, control_form, space_form}
use Rattle.tta_machine.specs.Declarations.{take_bus, take_socket, take_file, take_imm, take_unit, take_op, take_guard, take_template, take_control, take_space}
use Rattle.tta_machine.specs.Grammar.{IsMachineText}
use Rattle.tta_machine.specs.Text.{take_line, machine_of_text, Refused}
use Rattle.tta_arch.proofs.Facts.{from_to-least, from_to-greatest}
use Rattle.tta_arch.proofs.Samples.{one_bus, three_buses}

-- ---- units

pub distinct_from : (names : List (List ℕ)) → are_different bytes_eq names ≡ true → AreDistinct names
distinct_from [] h i j before within same = omega arith
distinct_from (x ∷ xs) h i zero before within same = omega arith
distinct_from (x ∷ xs) h zero (suc j) before within same =
    let parts = and_parts (not (list_any (bytes_eq x) xs)) (are_different bytes_eq xs) h in
    let there : j < length xs = omega arith in
    both_ways (list_any (bytes_eq x) xs) (not-true (list_any (bytes_eq x) xs) parts.0)
    (list_any_at (bytes_eq x) xs j [] there ((bytes_eq-Decides x (get_or xs j [])).1 same))
distinct_from (x ∷ xs) h (suc i) (suc j) before within same =
    let parts = and_parts (not (list_any (bytes_eq x) xs)) (are_different bytes_eq xs) h in
    distinct_from xs parts.1 i j (omega arith) (omega arith) same

pub arities_from : (arities : List ℕ) → list_all (is_from_to 1 2) arities ≡ true → AreArities arities
arities_from arities h i within =
    let one : is_from_to 1 2 (get_or arities i 0) ≡ true = list_all_one (is_from_to 1 2) arities i (get_or arities i 0) h (slice_get-get_or arities i 0 within) in
    (from_to-least 1 2 (get_or arities i 0) one, (let most = from_to-greatest 1 2 (get_or arities i 0) one in omega arith))

-- the names of the operations that the five standard units offer, in the order of their numbers
abbrev standard_names : List (List ℕ)
standard_names =
    codes "add" ∷ codes "sub" ∷ codes "mul" ∷ codes "mulhu" ∷ codes "neg" ∷ codes "and" ∷ codes "or" ∷ codes "xor" ∷ codes "not" ∷ codes "shl" ∷ codes "shr"
    ∷ codes "shru" ∷ codes "eq" ∷ codes "ne" ∷ codes "lt" ∷ codes "gt" ∷ codes "ltu" ∷ codes "gtu" ∷ codes "divu" ∷ codes "remu" ∷ []

-- how many words each of these operations takes
abbrev standard_arities : List ℕ
standard_arities = 2 ∷ 2 ∷ 2 ∷ 2 ∷ 1 ∷ 2 ∷ 2 ∷ 2 ∷ 1 ∷ 2 ∷ 2 ∷ 2 ∷ 2 ∷ 2 ∷ 2 ∷ 2 ∷ 2 ∷ 2 ∷ 2 ∷ 2 ∷ []

-- none of these names is reserved
pub standard_free : AreFree standard_names
unfolding is_reserved
standard_free = refl

-- operations of the names and arities that the five standard units offer; a machine's text does not depend on what they give
abbrev pub units : Units
units = record {
  names = standard_names;
  arities = standard_arities;
  value = λ op a b. 0;
  word = λ op a b. lit< tt;
  ignores = λ op a b one. refl;
  distinct = distinct_from standard_names refl;
  reserved = standard_free;
  one_or_two = arities_from standard_arities refl;
  paired = refl;
  few = lit< tt;
}

-- ---- texts

-- lines, each with its newline
abbrev pub text_of : List (List ℕ) → List ℕ
text_of [] = []
text_of (line ∷ lines) = line ++ 10 ∷ text_of lines

-- what a text of these lines is read as, with these operations
unfoldable pub read_with : Units → List (List ℕ) → Result Machine Refused
unfolding machine_of_text lines_of tokens_of tokens_from piece_at number_piece mark_piece number_of digits_of value_below width_for take_line bus_form socket_form file_form imm_form unit_form op_form guard_form template_form control_form space_form take_bus take_socket take_file take_imm take_unit take_op take_guard take_template take_control take_space
read_with u lines = machine_of_text u (text_of lines)

-- the same with the standard operations
unfoldable pub read : List (List ℕ) → Result Machine Refused
unfolding read_with
read lines = read_with units lines

-- ---- one bus

-- the lines that declare the machine of one bus
abbrev one_bus_lines : List (List ℕ)
one_bus_lines =
    codes "bus B short 8 unsigned"
    ∷ codes "socket I in B"
    ∷ codes "unit OUT t I"
    ∷ codes "op OUT out"
    ∷ codes "control delay 0 address 8 t I"
    ∷ []

one_bus-reads : read one_bus_lines ≡ Ok one_bus
unfolding read
one_bus-reads = refl

-- lines without words are passed over, a line with a comment alone too
one_bus-blank_lines : read ([] ∷ codes "# one bus" ∷ one_bus_lines ++ codes "  " ∷ []) ≡ Ok one_bus
unfolding read
one_bus-blank_lines = refl

-- ---- three buses

-- the lines that declare the machine of three buses, up to its guards
abbrev three_buses_front : List (List ℕ)
three_buses_front =
    codes "bus B0 short 8 signed"
    ∷ codes "bus B1 short 8 signed"
    ∷ codes "bus B2 short 8 signed"
    ∷ codes "socket RI in B0 B1 B2"
    ∷ codes "socket RO out B0 B1 B2"
    ∷ codes "socket UI in B0 B1 B2"
    ∷ codes "socket UO out B0 B1 B2"
    ∷ codes "file R width 32 size 8 read 2 write 2 out RO in RI"
    ∷ codes "file S width 32 size 8 read 1 write 1 out RO in RI"
    ∷ codes "file G width 1 size 2 read 1 write 1 out RO in RI"
    ∷ codes "imm I size 1 out RO"
    ∷ codes "unit ALU o UI t UI r UO"
    ∷ codes "op ALU add 1"
    ∷ codes "op ALU sub 1"
    ∷ codes "op ALU and 1"
    ∷ codes "op ALU or 1"
    ∷ codes "op ALU xor 1"
    ∷ codes "op ALU not 1"
    ∷ codes "op ALU shl 1"
    ∷ codes "op ALU shr 1"
    ∷ codes "op ALU shru 1"
    ∷ codes "op ALU eq 1"
    ∷ codes "op ALU lt 1"
    ∷ codes "op ALU ltu 1"
    ∷ codes "unit MUL o UI t UI r UO"
    ∷ codes "op MUL mul 3"
    ∷ codes "op MUL add 1"
    ∷ codes "unit LSU o UI t UI r UO"
    ∷ codes "op LSU ldw 2"
    ∷ codes "op LSU stw"
    ∷ codes "op LSU ldf 2"
    ∷ codes "op LSU stf"
    ∷ codes "unit IO t UI"
    ∷ codes "op IO out"
    ∷ codes "guard B0 G.0 plain"
    ∷ codes "guard B0 G.0 inverted"
    ∷ codes "guard B1 G.0 plain"
    ∷ codes "guard B1 G.0 inverted"
    ∷ []

-- its lines after the template: control and both spaces
abbrev three_buses_back : List (List ℕ)
three_buses_back =
    codes "control delay 2 address 12 t UI ra UO"
    ∷ codes "space data 1024"
    ∷ codes "space frame 64"
    ∷ []

three_buses-reads : read (three_buses_front ++ codes "template L I.0 B1 B2" ∷ three_buses_back) ≡ Ok three_buses
unfolding read
three_buses-reads = refl

-- ---- refusals of the whole text

-- a template whose one bus has too few bits, reported with its line
three_buses-too_narrow : read (three_buses_front ++ codes "template L I.0 B2" ∷ three_buses_back) ≡ Err (39, TooNarrow)
unfolding read
three_buses-too_narrow = refl

nothing-is_missing : read [] ≡ Err (0, Missing)
unfolding read
nothing-is_missing = refl

no_control-is_missing : read (codes "bus B short 8 unsigned" ∷ []) ≡ Err (0, Missing)
unfolding read
no_control-is_missing = refl

-- ---- refusals of a line

-- the lines of the machine of one bus, its operation left out
abbrev small : List (List ℕ)
small = codes "bus B short 8 unsigned" ∷ codes "socket I in B" ∷ codes "socket O out B" ∷ codes "unit U t I" ∷ []

doubled-is_twice : read (codes "bus B short 8 unsigned" ∷ one_bus_lines) ≡ Err (2, Twice)
unfolding read
doubled-is_twice = refl

long_short-is_range : read (codes "bus B short 33 unsigned" ∷ []) ≡ Err (1, Range)
unfolding read
long_short-is_range = refl

-- a blank line counts
other_words-are_syntax : read ([] ∷ codes "bus B short 8" ∷ []) ≡ Err (2, Syntax)
unfolding read
other_words-are_syntax = refl

-- a socket of the other direction
direction-is_unknown : read (small ++ codes "unit V t O" ∷ []) ≡ Err (5, Unknown)
unfolding read
direction-is_unknown = refl

-- a store has no latency, and an operation of the units has one
store_with_latency-is_unknown : read (small ++ codes "op U stw 2" ∷ []) ≡ Err (5, Unknown)
unfolding read
store_with_latency-is_unknown = refl

add_without_latency-is_unknown : read (small ++ codes "op U add" ∷ []) ≡ Err (5, Unknown)
unfolding read
add_without_latency-is_unknown = refl

-- a name of control, a bus that stands twice in a line, and a second owner of the data space
control_name-is_twice : read (codes "bus gcu short 8 unsigned" ∷ []) ≡ Err (1, Twice)
unfolding read
control_name-is_twice = refl

bus_again-is_twice : read (small ++ codes "socket P in B B" ∷ []) ≡ Err (5, Twice)
unfolding read
bus_again-is_twice = refl

second_owner-is_twice :
    read (small ++ codes "unit V o I t I r O" ∷ codes "unit W o I t I r O" ∷ codes "op V ldw 2" ∷ codes "op W stw" ∷ []) ≡ Err (8, Twice)
unfolding read
second_owner-is_twice = refl

-- a number of latency 0, and a register that a file does not have
latency-is_range : read (small ++ codes "unit V o I t I r O" ∷ codes "op V ldw 0" ∷ []) ≡ Err (6, Range)
unfolding read
latency-is_range = refl

index-is_range : read (small ++ codes "file G width 1 size 2 read 1 write 1 out O in I" ∷ codes "guard B G.2 plain" ∷ []) ≡ Err (6, Range)
unfolding read
index-is_range = refl

-- two words and no operand port, a result and no result port
operand-is_missing : read (small ++ codes "op U stw" ∷ []) ≡ Err (5, Missing)
unfolding read
operand-is_missing = refl

result-is_missing : read (small ++ codes "op U ldw 1" ∷ []) ≡ Err (5, Missing)
unfolding read
result-is_missing = refl

-- of several refusals of a line the first in their order is reported
twice_before_range : read (codes "bus B short 8 unsigned" ∷ codes "bus B short 33 unsigned" ∷ []) ≡ Err (2, Twice)
unfolding read
twice_before_range = refl

space_again-is_twice : read (codes "space data 1" ∷ codes "space data 1048577" ∷ []) ≡ Err (2, Twice)
unfolding read
space_again-is_twice = refl

-- the greatest space, and one word more
great_space : read (codes "space data 1048576" ∷ codes "space frame 65537" ∷ []) ≡ Err (2, Range)
unfolding read
great_space = refl

-- ---- what the lines say

one_bus-said : IsMachineText units (lines_of (text_of one_bus_lines)) one_bus
unfolding read
one_bus-said = assumption

three_buses-said : IsMachineText units (lines_of (text_of (three_buses_front ++ codes "template L I.0 B1 B2" ∷ three_buses_back))) three_buses
unfolding read
three_buses-said = assumption
