-- Instructions for the machine of three buses, and the first rule that each breaks.
use Rattle.std.specs.Prelude.{◌≡◌, ℕ, [], ◌∷◌, true, Some, None, Option, refl}
use Rattle.tta_code.specs.Cited.{Source, Dest}
use Rattle.tta_arch.specs.declared.ends.Source.TheVariants as source
use Rattle.tta_arch.specs.declared.ends.Dest.TheVariants as dest
use Rattle.tta_arch.proofs.Samples.{three_buses}
use Rattle.tta_code.specs.declared.code.Move.{Move}
use Rattle.tta_code.specs.declared.code.Instruction.{Instruction}
use Rattle.tta_code.specs.declared.legality.Illegal.TheVariants.{TakenBus, Unjoined, ReadPorts, WritePorts, TwoIntoOne}
use Rattle.tta_code.specs.Illegal.{first_illegal}
use Rattle.tta_code.proofs.Rows.{go, three, r, into}

-- an instruction with these three slots and a long immediate, whose template takes buses 1 and 2
abbrev wide : Option Move → Option Move → Option Move → Instruction
wide a b c = record { moves = a ∷ b ∷ c ∷ []; long = Some (record { template = 0; value = 1 }) }

-- register i of the second file, which one move of a cycle may read, as the source of a move
abbrev s : ℕ → Source
s i = source.Reg 1 i

-- register i of the second file, which one move of a cycle may write, as the destination of a move
abbrev into_s : ℕ → Dest
into_s i = dest.Reg 1 i

-- a word that no short field of 8 bits with a sign holds
abbrev far : Source
far = source.Value 128

swap-first : first_illegal three_buses (three (go (r 1) (into 2)) (go (r 2) (into 1)) None) ≡ None
unfolding first_illegal
swap-first = refl

taken-first : first_illegal three_buses (wide (go (r 1) (into 2)) None (go far (into 2))) ≡ Some TakenBus
unfolding first_illegal
taken-first = refl

far-first : first_illegal three_buses (three None (go far (into 2)) None) ≡ Some Unjoined
unfolding first_illegal
far-first = refl

-- a lower bus is reported before a higher one, whatever the rules
lower-first : first_illegal three_buses (wide (go far (into 2)) (go (r 1) (into 2)) None) ≡ Some Unjoined
unfolding first_illegal
lower-first = refl

-- a guard that stands on buses 0 and 1 alone
guarded-first : first_illegal three_buses (three None None (Some (record { guard = Some (record { file = 2; index = 0; inverted = true }); src = r 1; dst = into 2 }))) ≡ Some Unjoined
unfolding first_illegal
guarded-first = refl

reads-first : first_illegal three_buses (three (go (s 1) (into 2)) (go (s 2) (into 2)) None) ≡ Some ReadPorts
unfolding first_illegal
reads-first = refl

immediates-first : first_illegal three_buses (three (go (source.Imm 0 0) (into 1)) (go (source.Imm 0 0) (into 2)) None) ≡ Some ReadPorts
unfolding first_illegal
immediates-first = refl

third_read-first : first_illegal three_buses (three (go (r 1) (into 1)) (go (r 1) (into_s 1)) (go (r 2) (into 2))) ≡ Some ReadPorts
unfolding first_illegal
third_read-first = refl

writes-first : first_illegal three_buses (three (go (r 1) (into_s 1)) (go (r 2) (into_s 1)) None) ≡ Some WritePorts
unfolding first_illegal
writes-first = refl

register-first : first_illegal three_buses (three (go (r 1) (into 3)) None (go (source.Value 1) (into 3))) ≡ Some TwoIntoOne
unfolding first_illegal
register-first = refl

trigger-first : first_illegal three_buses (three (go (r 1) (dest.Trigger 0 0)) (go (r 2) (dest.Trigger 0 1)) None) ≡ Some TwoIntoOne
unfolding first_illegal
trigger-first = refl

control-first : first_illegal three_buses (three (go (source.Value 0) dest.Halt) (go (r 2) dest.Jump) None) ≡ Some TwoIntoOne
unfolding first_illegal
control-first = refl
