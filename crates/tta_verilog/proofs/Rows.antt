-- Texts of small expressions and circuits, and texts that would be those of two if a rule of the laws were left out.
use Rattle.std.proofs.Common.{◌≡◌, ℕ, ◌+◌, ◌*◌, ◌^◌, ◌==◌, List, [], ◌∷◌, ◌++◌, Option, Some, None, refl}
use Rattle.std.specs.Prelude.{codes, decimal}
use Rattle.std.specs.Fmt.{digits}
use Rattle.tta_circuit.specs.Circuit.{Expr, Const, Signal, Slice, Select, Equal, Plus, Read, Apply, WritePort, Memory, Circuit}
use Rattle.tta_verilog.specs.Expressions.{Names, constant, part, between, choice, reading, call, expression}
use Rattle.tta_verilog.specs.Circuits.{range, wire_line, case_line, case_start, case_end, first_line, array_zeros, array_start, write_line, parts_text}

-- names by numbers; the memory 0 keeps its words
abbrev numbered : Names ℕ ℕ
numbered = record {
  signal = λ n. codes "s" ++ decimal n;
  memory = λ m. codes "m" ++ decimal m;
  is_constant = λ m. m == 0;
  op = λ op. codes "op_" ++ decimal op;
}

abbrev text : Expr ℕ ℕ → List ℕ
text e = expression numbered e

-- a choice of a sum and a part
choice_text : text (Select (Equal (Signal 1) (Const 8 3)) (Plus 8 (Signal 1) (Signal 2)) (Slice 0 8 (Signal 3)))
    ≡ codes "((s1)==(8'd3))?((s1)+(s2)):s3[0+:8]"
unfolding choice between constant part digits
choice_text = refl

-- words of both kinds of memories, and a call
reading_text : text (Apply 2 (Read 0 (Signal 1)) (Read 1 (Signal 1))) ≡ codes "op_2(m0(s1),m1[s1])"
unfolding reading call digits
reading_text = refl

-- ---- expressions that have one text where a rule is left out

-- parts of what is no signal
part_of_choice : text (Slice 3 4 (Select (Signal 0) (Signal 1) (Signal 2))) ≡ text (Select (Signal 0) (Signal 1) (Slice 3 4 (Signal 2)))
unfolding choice part digits
part_of_choice = refl

-- a sum that has another width than its parts
width_of_sum : text (Plus 3 (Signal 0) (Signal 1)) ≡ text (Plus 4 (Signal 0) (Signal 1))
width_of_sum = refl

-- numbers of more than 64 digits, of which the lowest 64 are written
long_numbers : text (Const 300 (10 ^ 64 + 7)) ≡ text (Const 300 (2 * 10 ^ 64 + 7))
unfolding constant digits
long_numbers = refl

-- ---- circuits that have one text where a rule is left out

abbrev nothing : Circuit ℕ ℕ
nothing = record { inputs = []; wires = []; registers = []; memories = []; outputs = [] }

-- wires without bits
abbrev wired : (width : ℕ) → Circuit ℕ ℕ
wired width = record nothing { wires = record { name = 1; width = width; word = Signal 2 } ∷ [] }

no_width : parts_text numbered [] (wired 0) ≡ parts_text numbered [] (wired 1)
unfolding wire_line range digits
no_width = refl

-- a memory that keeps words of more bits than its own
abbrev kept : (word : ℕ) → Circuit ℕ ℕ
kept word = record nothing { memories = record { name = 0; width = 2; words = word ∷ []; port = None } ∷ [] }

wide_word : parts_text numbered [] (kept 1) ≡ parts_text numbered [] (kept 5)
unfolding case_start case_line case_end constant range digits
wide_word = refl

-- a memory that is not written by a name of one that is: which of two is written is not told
abbrev port : Option (WritePort ℕ ℕ)
port = Some (record { enable = Signal 0; address = Signal 1; word = Signal 2 })

abbrev stored : Option (WritePort ℕ ℕ) → Memory ℕ ℕ
stored p = record { name = 1; width = 8; words = 0 ∷ []; port = p }

one_written : parts_text numbered [] (record nothing { memories = stored port ∷ stored None ∷ [] })
    ≡ parts_text numbered [] (record nothing { memories = stored None ∷ stored port ∷ [] })
unfolding array_start array_zeros first_line write_line constant range digits
one_written = refl

-- a sum of inputs whose widths are not told: the inputs stand elsewhere
abbrev summed : (width : ℕ) → Circuit ℕ ℕ
summed width = record {
  inputs = (2, width) ∷ [];
  wires = record { name = 1; width = 1; word = Equal (Plus width (Signal 2) (Signal 2)) (Signal 2) } ∷ [];
  registers = [];
  memories = [];
  outputs = [];
}

other_inputs : parts_text numbered [] (summed 3) ≡ parts_text numbered [] (summed 4)
unfolding wire_line digits
other_inputs = refl
