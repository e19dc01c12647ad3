-- Small programs of moves, and what the definitions make of them.
use Rattle.std.specs.Prelude.{◌≡◌, ℕ, List, [], ◌∷◌, ◌++◌, true, false, Some, None, Option, refl}
use Rattle.tta_code.specs.Cited.{Units, Source, Dest, can_move}
use Rattle.tta_arch.specs.declared.ends.Source.TheVariants as source
use Rattle.tta_arch.specs.declared.ends.Dest.TheVariants as dest
use Rattle.tta_arch.proofs.Samples.{three_buses, with_input}
use Rattle.tta_code.specs.declared.code.Move.{Move}
use Rattle.tta_code.specs.declared.code.Instruction.{Instruction}
use Rattle.tta_code.specs.declared.code.Code.{Code}
use Rattle.tta_code.specs.Legal.{is_legal}
use Rattle.tta_code.specs.Cycle.{cyc, Halted, Waiting, Fault, next}

-- an unguarded move from a source to a destination
abbrev pub go : Source → Dest → Option Move
go src dst = Some (record { guard = None; src = src; dst = dst })

-- an instruction with these three slots and without a long immediate
abbrev pub three : Option Move → Option Move → Option Move → Instruction
three a b c = record { moves = a ∷ b ∷ c ∷ []; long = None }

-- an instruction with a slot on bus 0 and nothing on the other buses
abbrev one : Option Move → Instruction
one a = three a None None

-- an instruction that moves nothing
abbrev none : Instruction
none = three None None None

-- register i of the first file as the source of a move
abbrev pub r : ℕ → Source
r i = source.Reg 0 i

-- register i of the first file as the destination of a move
abbrev pub into : ℕ → Dest
into i = dest.Reg 0 i

-- the trigger port of the unit that outputs words
abbrev out : Dest
out = dest.Trigger 3 0

-- ---- two registers change places, since all moves of a cycle read before any writes

-- a program that exchanges the words 1 and 2 of two registers in one cycle and outputs both
abbrev swap : Code
swap = record {
  words = one (go (source.Value 1) (into 1))
      ∷ one (go (source.Value 2) (into 2))
      ∷ three (go (r 1) (into 2)) (go (r 2) (into 1)) None
      ∷ one (go (r 1) out)
      ∷ one (go (r 2) out)
      ∷ one (go (source.Value 0) dest.Halt)
      ∷ none ∷ none ∷ [];
}

swap-output : (u : Units) → (cyc u three_buses swap [] [] 20).output ≡ 2 ∷ 1 ∷ []
unfolding next
swap-output u = refl

swap-ends : (u : Units) → (cyc u three_buses swap [] [] 20).outcome ≡ Halted
unfolding next
swap-ends u = refl

swap-cycles : (u : Units) → (cyc u three_buses swap [] [] 20).cycle ≡ 8
unfolding next
swap-cycles u = refl

swap-legal : is_legal three_buses (three (go (r 1) (into 2)) (go (r 2) (into 1)) None) ≡ true
unfolding is_legal can_move
swap-legal = refl

-- ---- a product shows three cycles after its start, and not before

-- a program that starts the product of 5 and 6, waits for as long as these instructions take, and outputs what the unit shows
abbrev product : List Instruction → Code
product waits = record {
  words = three (go (source.Value 5) (dest.Operand 1)) (go (source.Value 6) (dest.Trigger 1 0)) None
      ∷ (waits ++ (one (go (source.Shown 1) out) ∷ one (go (source.Value 0) dest.Halt) ∷ none ∷ none ∷ []));
}

product-output : (u : Units) → (cyc u three_buses (product (none ∷ none ∷ [])) [] [] 20).output ≡ u.value 2 5 6 ∷ []
unfolding next
product-output u = refl

product-cycles : (u : Units) → (cyc u three_buses (product (none ∷ none ∷ [])) [] [] 20).cycle ≡ 7
unfolding next
product-cycles u = refl

early-faults : (u : Units) → (cyc u three_buses (product (none ∷ [])) [] [] 20).outcome ≡ Fault 61 2
unfolding next
early-faults u = refl

-- ---- a guarded jump with two delay slots

-- a program whose guarded jump, taken where the condition is 1, decides between the outputs 12 and 13
abbrev branch : ℕ → Code
branch condition = record {
  words = one (go (source.Value condition) (dest.Reg 2 0))
      ∷ one (Some (record { guard = Some (record { file = 2; index = 0; inverted = false }); src = source.Value 8; dst = dest.Jump }))
      ∷ one (go (source.Value 10) out)
      ∷ one (go (source.Value 11) out)
      ∷ one (go (source.Value 12) out)
      ∷ one (go (source.Value 0) dest.Halt)
      ∷ none ∷ none
      ∷ one (go (source.Value 13) out)
      ∷ one (go (source.Value 0) dest.Halt)
      ∷ none ∷ none ∷ [];
}

branch-taken : (u : Units) → (cyc u three_buses (branch 1) [] [] 20).output ≡ 10 ∷ 11 ∷ 13 ∷ []
unfolding next
branch-taken u = refl

branch-taken-cycles : (u : Units) → (cyc u three_buses (branch 1) [] [] 20).cycle ≡ 8
unfolding next
branch-taken-cycles u = refl

branch-not_taken : (u : Units) → (cyc u three_buses (branch 0) [] [] 20).output ≡ 10 ∷ 11 ∷ 12 ∷ []
unfolding next
branch-not_taken u = refl

branch-not_taken-ends : (u : Units) → (cyc u three_buses (branch 0) [] [] 20).outcome ≡ Halted
unfolding next
branch-not_taken-ends u = refl

-- ---- a word of -1 and a long immediate without moves; then the code ends

-- a program of a short immediate of -1 and a long immediate, which does not halt
abbrev pub wide : Code
wide = record {
  words = one (go (source.Value 4294967295) (into 1))
      ∷ record { moves = None ∷ None ∷ None ∷ []; long = Some (record { template = 0; value = 2147483648 }) }
      ∷ [];
}

wide-faults : (u : Units) → (cyc u three_buses wide [] [] 5).outcome ≡ Fault 65 2
unfolding next
wide-faults u = refl

wide-cycles : (u : Units) → (cyc u three_buses wide [] [] 5).cycle ≡ 2
unfolding next
wide-cycles u = refl

-- ---- a word of the input, which is output

-- a program that takes the next word of the input and outputs it
abbrev pub echo : Code
echo = record {
  words = one (go (source.Value 0) (dest.Trigger 3 1))
      ∷ one (go (source.Shown 3) out)
      ∷ one (go (source.Value 0) dest.Halt)
      ∷ none ∷ none ∷ [];
}

echo-output : (u : Units) → (cyc u with_input echo [] (9 ∷ []) 10).output ≡ 9 ∷ []
unfolding next
echo-output u = refl

echo-ends : (u : Units) → (cyc u with_input echo [] (9 ∷ []) 10).outcome ≡ Halted
unfolding next
echo-ends u = refl

echo-cycles : (u : Units) → (cyc u with_input echo [] (9 ∷ []) 10).cycle ≡ 5
unfolding next
echo-cycles u = refl

echo-rest : (u : Units) → (cyc u with_input echo [] (9 ∷ 8 ∷ []) 10).rest ≡ 8 ∷ []
unfolding next
echo-rest u = refl

-- without a word it waits, and the cycle that waits is not counted
echo-waits : (u : Units) → (cyc u with_input echo [] [] 10).outcome ≡ Waiting
unfolding next
echo-waits u = refl

echo-waiting_cycles : (u : Units) → (cyc u with_input echo [] [] 10).cycle ≡ 0
unfolding next
echo-waiting_cycles u = refl

-- a cycle that has a fault does not wait: an unset register is read beside the trigger
abbrev pub torn : Code
torn = record { words = three (go (source.Value 0) (dest.Trigger 3 1)) (go (r 1) (into 2)) None ∷ [] }

torn-faults : (u : Units) → (cyc u with_input torn [] [] 10).outcome ≡ Fault 60 0
unfolding next
torn-faults u = refl

-- a trigger that its guard stops takes nothing and does not wait
abbrev pub stopped : Code
stopped = record {
  words = one (go (source.Value 0) (dest.Reg 2 0))
      ∷ one (Some (record { guard = Some (record { file = 2; index = 0; inverted = false }); src = source.Value 0; dst = dest.Trigger 3 1 }))
      ∷ one (go (source.Value 0) dest.Halt)
      ∷ none ∷ none ∷ [];
}

stopped-halts : (u : Units) → (cyc u with_input stopped [] [] 10).outcome ≡ Halted
unfolding next
stopped-halts u = refl
