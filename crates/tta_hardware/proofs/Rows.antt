-- A small machine as a circuit, clock by clock.
use Rattle.std.specs.Prelude.{◌≡◌, ℕ, zero, [], ◌∷◌, true, false, Some, None, codes, refl}
use Rattle.tta_hardware.specs.Cited.{Units, Ldw, Out, Source, Dest, Machine, width_for, instruction_bits, Instruction, is_set}
use Rattle.tta_arch.specs.declared.ends.Source.TheVariants as source
use Rattle.tta_arch.specs.declared.ends.Dest.TheVariants as dest
use Rattle.tta_arch.proofs.Samples.{one_bus}
use Rattle.tta_code.specs.declared.code.Code.{Code as Program}
use Rattle.tta_hardware.specs.Signals.{Signal as Named, HasHalted, IsReady, IsReset}
use Rattle.tta_hardware.specs.Runs.{hardware, cycles, put}

-- a program that outputs 5 and 7 and halts
abbrev short : Program
short = record {
  words = record { moves = Some (record { guard = None; src = source.Value 5; dst = dest.Trigger 0 0 }) ∷ []; long = None }
      ∷ record { moves = Some (record { guard = None; src = source.Value 7; dst = dest.Trigger 0 0 }) ∷ []; long = None }
      ∷ record { moves = Some (record { guard = None; src = source.Value 0; dst = dest.Halt }) ∷ []; long = None } ∷ [];
}

-- a clock that begins anew, then no input, and all words of the output are taken
abbrev none : ℕ → Named → ℕ
none zero IsReset = 1
none t IsReady = 1
none t n = 0

-- the words of registers when the power comes
abbrev any : Named → ℕ
any n = 1

-- both words are put out at the two clocks after the first
short-puts : (u : Units) → put u one_bus short [] any none 3 ≡ 5 ∷ 7 ∷ []
unfolding instruction_bits width_for
short-puts u = refl

-- after the third of them it has halted, and no more clocks carry anything out
short-halts : (u : Units) → is_set ((hardware u one_bus short [] any none 4).words HasHalted) ≡ true
unfolding instruction_bits width_for
short-halts u = refl

short-cycles : (u : Units) → cycles u one_bus short [] any none 5 ≡ 3
unfolding instruction_bits width_for
short-cycles u = refl

-- nobody takes a word
abbrev busy : ℕ → Named → ℕ
busy zero IsReset = 1
busy t n = 0

-- so none is put out, and the first instruction waits
short-waits : (u : Units) → put u one_bus short [] any busy 4 ≡ []
unfolding instruction_bits width_for
short-waits u = refl

short-stays : (u : Units) → cycles u one_bus short [] any busy 4 ≡ 0
unfolding instruction_bits width_for
short-stays u = refl

-- a machine that loads words in so many cycles
abbrev loading : (latency : ℕ) → Machine
loading latency = record one_bus {
  sockets = record { name = codes "I"; input = true; buses = 1 } ∷ record { name = codes "O"; input = false; buses = 1 } ∷ [];
  units = record {
    name = codes "LSU";
    operand = None;
    trigger = 0;
    result = Some 1;
    ops =
        record { op = Ldw; arity = 1; latency = latency } ∷ [];
  }
      ∷ record { name = codes "OUT"; operand = None; trigger = 0; result = None; ops = record { op = Out; arity = 1; latency = 0 } ∷ [] }
      ∷ [];
  data_words = 2;
}

-- a move alone
abbrev moved : Source → Dest → Instruction
moved src dst = record { moves = Some (record { guard = None; src = src; dst = dst }) ∷ []; long = None }

-- a program that loads a word, outputs it twice, and halts
abbrev once : Program
once = record {
  words = moved (source.Value 1) (dest.Trigger 0 0) ∷ moved (source.Shown 0) (dest.Trigger 1 0) ∷ moved (source.Shown 0) (dest.Trigger 1 0)
      ∷ moved (source.Value 0) dest.Halt ∷ [];
}

-- the word shows at the clock after the load, and stays
once-puts : (u : Units) → put u (loading 1) once (5 ∷ 7 ∷ []) any none 5 ≡ 7 ∷ 7 ∷ []
unfolding instruction_bits width_for
once-puts u = refl

-- one that loads two words at once, outputs both when they show, and halts
abbrev twice : Program
twice = record {
  words = moved (source.Value 1) (dest.Trigger 0 0) ∷ moved (source.Value 0) (dest.Trigger 0 0) ∷ moved (source.Shown 0) (dest.Trigger 1 0)
      ∷ moved (source.Shown 0) (dest.Trigger 1 0) ∷ moved (source.Value 0) dest.Halt ∷ [];
}

twice-puts : (u : Units) → put u (loading 2) twice (5 ∷ 7 ∷ []) any none 6 ≡ 7 ∷ 5 ∷ []
unfolding instruction_bits width_for
twice-puts u = refl

-- a word past the end of the space is 0
abbrev past : Program
past = record {
  words = moved (source.Value 2) (dest.Trigger 0 0) ∷ moved (source.Shown 0) (dest.Trigger 1 0) ∷ moved (source.Value 0) dest.Halt ∷ [];
}

past-puts : (u : Units) → put u (loading 1) past (5 ∷ 7 ∷ []) any none 5 ≡ 0 ∷ []
unfolding instruction_bits width_for
past-puts u = refl
