-- Lines and what their forms say, computed.
use Rattle.std.proofs.Common.{◌≡◌, ℕ, List, [], ◌∷◌, true, false, get_or, refl}
use Rattle.std.specs.Prelude.{Some, None, codes}
use Rattle.tta_machine.specs.Cited.{number_of, digits_of, value_below, negative_of, tokens_of, tokens_from, piece_at, number_piece, negative_piece, mark_piece, Line, lines_of}
use Rattle.tta_machine.specs.Forms.{bus_form, socket_form, file_form, imm_form, unit_form, op_form, guard_form, template_form, control_form, space_form}

-- the words of a text's first line
words : List ℕ → Line
words text = get_or (lines_of text) 0 []

bus : bus_form (words (codes "in short 8 unsigned # its name is a word of the language"))
    ≡ Some (record { name = codes "in"; short = 8; signed = false })
unfolding words bus_form lines_of tokens_of tokens_from piece_at number_piece number_of digits_of value_below
bus = refl

-- a negative is no number
bus_negative : bus_form (words (codes "B short -8 unsigned")) ≡ None
unfolding words bus_form lines_of tokens_of tokens_from piece_at negative_piece negative_of digits_of value_below
bus_negative = refl

socket : socket_form (words (codes "S out B0 B1")) ≡ Some (record { name = codes "S"; input = false; buses = codes "B0" ∷ codes "B1" ∷ [] })
unfolding words socket_form lines_of tokens_of tokens_from piece_at
socket = refl

-- a socket has a bus
socket_alone : socket_form (words (codes "S out")) ≡ None
unfolding words socket_form lines_of tokens_of tokens_from piece_at
socket_alone = refl

file : file_form (words (codes "R width 32 size 0x40 read 1 write 2 out O in I"))
    ≡ Some (record { name = codes "R"; width = 32; size = 64; read = 1; write = 2; out = codes "O"; into = codes "I" })
unfolding words file_form lines_of tokens_of tokens_from piece_at number_piece number_of digits_of value_below
file = refl

imm : imm_form (words (codes "I size 1 out O")) ≡ Some (record { name = codes "I"; size = 1; out = codes "O" })
unfolding words imm_form lines_of tokens_of tokens_from piece_at number_piece number_of digits_of value_below
imm = refl

unit_whole : unit_form (words (codes "U o A t B r C"))
    ≡ Some (record { name = codes "U"; operand = Some (codes "A"); trigger = codes "B"; result = Some (codes "C") })
unfolding words unit_form lines_of tokens_of tokens_from piece_at
unit_whole = refl

unit_least : unit_form (words (codes "U t B")) ≡ Some (record { name = codes "U"; operand = None; trigger = codes "B"; result = None })
unfolding words unit_form lines_of tokens_of tokens_from piece_at
unit_least = refl

-- the trigger port stands before the result port
unit_turned : unit_form (words (codes "U r C t B")) ≡ None
unfolding words unit_form lines_of tokens_of tokens_from piece_at
unit_turned = refl

op_timed : op_form (words (codes "U add 16")) ≡ Some (record { unit = codes "U"; operation = codes "add"; latency = Some 16 })
unfolding words op_form lines_of tokens_of tokens_from piece_at number_piece number_of digits_of value_below
op_timed = refl

op_untimed : op_form (words (codes "U stw")) ≡ Some (record { unit = codes "U"; operation = codes "stw"; latency = None })
unfolding words op_form lines_of tokens_of tokens_from piece_at
op_untimed = refl

-- blanks may stand round a point
guard : guard_form (words (codes "B G . 1 inverted")) ≡ Some (record { bus = codes "B"; file = codes "G"; index = 1; inverted = true })
unfolding words guard_form lines_of tokens_of tokens_from piece_at number_piece mark_piece number_of digits_of value_below
guard = refl

template : template_form (words (codes "L I.0 B0 B1")) ≡ Some (record { name = codes "L"; imm = codes "I"; index = 0; buses = codes "B0" ∷ codes "B1" ∷ [] })
unfolding words template_form lines_of tokens_of tokens_from piece_at number_piece mark_piece number_of digits_of value_below
template = refl

control : control_form (words (codes "delay 2 address 12 t I ra O")) ≡ Some (record { delay = 2; address = 12; trigger = codes "I"; ra = Some (codes "O") })
unfolding words control_form lines_of tokens_of tokens_from piece_at number_piece number_of digits_of value_below
control = refl

control_least : control_form (words (codes "delay 0 address 8 t I")) ≡ Some (record { delay = 0; address = 8; trigger = codes "I"; ra = None })
unfolding words control_form lines_of tokens_of tokens_from piece_at number_piece number_of digits_of value_below
control_least = refl

space : space_form (words (codes "frame 65536")) ≡ Some (record { is_data = false; size = 65536 })
unfolding words space_form lines_of tokens_of tokens_from piece_at number_piece number_of digits_of value_below
space = refl

-- a word too many is of no form
space_long : space_form (words (codes "data 1 2")) ≡ None
unfolding words space_form lines_of tokens_of tokens_from piece_at number_piece number_of digits_of value_below
space_long = refl
