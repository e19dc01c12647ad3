-- A small machine as a circuit that tells the first fault, clock by clock.
use Rattle.std.specs.Prelude.{◌≡◌, ℕ, zero, [], ◌∷◌, List, true, false, Some, None, codes, refl}
use Rattle.tta_arch.specs.declared.ends.Dest.{Dest}
use Rattle.tta_arch.specs.declared.ends.Source.TheVariants as source
use Rattle.tta_arch.specs.declared.ends.Dest.TheVariants as dest
use Rattle.tta_arch.specs.declared.parts.Op.TheVariants.{Ldw, Out, Stw}
use Rattle.tta_arch.specs.Fields.{width_for}
use Rattle.tta_arch.proofs.Samples.{one_bus}
use Rattle.tta_image.specs.Bits.{instruction_bits}
use Rattle.tta_code.specs.declared.code.Instruction.{Instruction}
use Rattle.tta_trap.specs.Cited.{Units, Machine, Source, IsReady, IsReset, FaultNow, Watches, Hardware, powered, same_signal, same_store, signals_after, cycles_after}
use Rattle.tta_code.specs.declared.code.Code.{Code as Program}
use Rattle.tta_hardware.specs.Signals.{Signal as Named}
use Rattle.tta_hardware.specs.Runs.{put_after}
use Rattle.tta_trap.specs.Trap.{trap_circuit}

-- a clock that begins anew, then no input, and all words of the output are taken
abbrev none : ℕ → Named → ℕ
none zero IsReset = 1
none t IsReady = 1
none t n = 0

-- whatever the registers have when the power comes
abbrev begins : Machine → Program → (memory : List ℕ) → Hardware
begins m code memory = powered same_signal same_store (trap_circuit m code memory) (λ n. 1)

-- the fault that is told before a clock, the cycles that were made by then, and the words that were put out
abbrev told : Units → Machine → Program → (memory : List ℕ) → ℕ → ℕ
told u m code memory t = signals_after u (trap_circuit m code memory) (begins m code memory) none t (Watches FaultNow)

abbrev made : Units → Machine → Program → (memory : List ℕ) → ℕ → ℕ
made u m code memory t = cycles_after u (trap_circuit m code memory) (begins m code memory) none t

abbrev puts : Units → Machine → Program → (memory : List ℕ) → ℕ → List ℕ
puts u m code memory t = put_after u (trap_circuit m code memory) (begins m code memory) none t

-- a move alone
abbrev moved : Source → Dest → Instruction
moved src dst = record { moves = Some (record { guard = None; src = src; dst = dst }) ∷ []; long = None }

-- ---- code that runs off its end

-- one word is output, and no instruction follows
abbrev short : Program
short = record { words = moved (source.Value 5) (dest.Trigger 0 0) ∷ [] }

short-fine : (u : Units) → told u one_bus short [] 1 ≡ 0
unfolding instruction_bits width_for
short-fine u = refl

short-tells : (u : Units) → told u one_bus short [] 2 ≡ 65
unfolding instruction_bits width_for
short-tells u = refl

short-stops : (u : Units) → made u one_bus short [] 4 ≡ 1
unfolding instruction_bits width_for
short-stops u = refl

short-puts : (u : Units) → puts u one_bus short [] 4 ≡ 5 ∷ []
unfolding instruction_bits width_for
short-puts u = refl

-- ---- registers

-- a machine with a file of two registers
abbrev with_file : Machine
with_file = record one_bus {
  sockets = record { name = codes "I"; input = true; buses = 1 } ∷ record { name = codes "O"; input = false; buses = 1 } ∷ [];
  files = record { name = codes "R"; width = 32; size = 2; read = 1; write = 1; out = 1; into = 0 } ∷ [];
}

-- the second instruction reads a register that was never written
abbrev unset : Program
unset = record { words = moved (source.Value 5) (dest.Reg 0 0) ∷ moved (source.Reg 0 1) (dest.Trigger 0 0) ∷ [] }

unset-tells : (u : Units) → told u with_file unset [] 2 ≡ 60
unfolding instruction_bits width_for
unset-tells u = refl

unset-stops : (u : Units) → made u with_file unset [] 4 ≡ 1
unfolding instruction_bits width_for
unset-stops u = refl

-- it reads one that was
abbrev given : Program
given = record {
  words = moved (source.Value 5) (dest.Reg 0 1) ∷ moved (source.Reg 0 1) (dest.Trigger 0 0) ∷ moved (source.Value 0) dest.Halt ∷ [];
}

given-fine : (u : Units) → told u with_file given [] 2 ≡ 0
unfolding instruction_bits width_for
given-fine u = refl

given-puts : (u : Units) → puts u with_file given [] 5 ≡ 5 ∷ []
unfolding instruction_bits width_for
given-puts u = refl

-- after the end of the run nothing is told
given-ends : (u : Units) → told u with_file given [] 5 ≡ 0
unfolding instruction_bits width_for
given-ends u = refl

-- ---- results

-- a machine that loads words in two cycles or in one
abbrev loading : Machine
loading = record one_bus {
  sockets = record { name = codes "I"; input = true; buses = 1 } ∷ record { name = codes "O"; input = false; buses = 1 } ∷ [];
  units = record {
    name = codes "LSU";
    operand = None;
    trigger = 0;
    result = Some 1;
    ops = record { op = Ldw; arity = 1; latency = 2 } ∷ record { op = Ldw; arity = 1; latency = 1 } ∷ [];
  }
      ∷ record { name = codes "OUT"; operand = None; trigger = 0; result = None; ops = record { op = Out; arity = 1; latency = 0 } ∷ [] }
      ∷ [];
  data_words = 2;
}

-- a result port is read before its first result is due
abbrev early : Program
early = record { words = moved (source.Value 1) (dest.Trigger 0 0) ∷ moved (source.Shown 0) (dest.Trigger 1 0) ∷ [] }

early-tells : (u : Units) → told u loading early (5 ∷ 7 ∷ []) 2 ≡ 61
unfolding instruction_bits width_for
early-tells u = refl

-- two results of the unit are due in one cycle
abbrev both : Program
both = record { words = moved (source.Value 1) (dest.Trigger 0 0) ∷ moved (source.Value 0) (dest.Trigger 0 1) ∷ [] }

both-tells : (u : Units) → told u loading both (5 ∷ 7 ∷ []) 2 ≡ 63
unfolding instruction_bits width_for
both-tells u = refl

-- ---- operands and control

-- a machine that stores words
abbrev storing : Machine
storing = record one_bus {
  units = record {
    name = codes "LSU";
    operand = Some 0;
    trigger = 0;
    result = None;
    ops = record { op = Stw; arity = 2; latency = 0 } ∷ [];
  } ∷ [];
  data_words = 2;
}

-- a word is stored at no address
abbrev nowhere : Program
nowhere = record { words = moved (source.Value 1) (dest.Trigger 0 0) ∷ [] }

nowhere-tells : (u : Units) → told u storing nowhere (5 ∷ 7 ∷ []) 1 ≡ 62
unfolding instruction_bits width_for
nowhere-tells u = refl

-- a machine whose control moves take effect a cycle later
abbrev delayed : Machine
delayed = record one_bus { control = record { delay = 1; address = 8; trigger = 0; ra = None } }

-- a jump while another is under way
abbrev again : Program
again = record { words = moved (source.Value 0) dest.Jump ∷ moved (source.Value 0) dest.Jump ∷ [] }

again-tells : (u : Units) → told u delayed again [] 2 ≡ 64
unfolding instruction_bits width_for
again-tells u = refl

-- where one jump has taken effect, another may follow
abbrev round : Program
round = record { words = moved (source.Value 0) dest.Jump ∷ record { moves = None ∷ []; long = None } ∷ [] }

round-fine : (u : Units) → told u delayed round [] 3 ≡ 0
unfolding instruction_bits width_for
round-fine u = refl

round-cycles : (u : Units) → made u delayed round [] 6 ≡ 5
unfolding instruction_bits width_for
round-cycles u = refl
