-- A small machine whose only long operation is left to a module, clock by clock.
use Rattle.std.specs.Prelude.{◌≡◌, ℕ, zero, ◌==◌, if◌then◌else◌, [], ◌∷◌, Bool, true, false, Some, None, codes, map, refl}
use Rattle.tta_arch.specs.declared.ends.Dest.{Dest}
use Rattle.tta_arch.specs.declared.ends.Source.{Source}
use Rattle.tta_arch.specs.declared.ends.Source.TheVariants as source
use Rattle.tta_arch.specs.declared.ends.Dest.TheVariants as dest
use Rattle.tta_arch.specs.declared.parts.Op.TheVariants.{Out}
use Rattle.tta_arch.specs.Fields.{width_for}
use Rattle.tta_arch.proofs.Samples.{one_bus}
use Rattle.tta_circuit.specs.Meaning.{powered}
use Rattle.tta_image.specs.Bits.{instruction_bits}
use Rattle.tta_code.specs.declared.code.Instruction.{Instruction}
use Rattle.tta_boxed.specs.Cited.{Units, Machine, Set, Circuit, Store, IsReset, Shows, IsFrom, Boxes, Hardware, put_after, same_signal}
use Rattle.tta_code.specs.declared.code.Code.{Code as Program}
use Rattle.tta_hardware.specs.Signals.{Signal as Named, IsReady, same_store}
use Rattle.tta_boxed.specs.Boxed.{box_inputs, box_registers, boxed}
use Rattle.tta_boxed.specs.Theorem.{whole}

-- a machine of one bus with a unit that multiplies in three cycles, and one that outputs words
abbrev long : Machine
long = record one_bus {
  sockets = record { name = codes "I"; input = true; buses = 1 } ∷ record { name = codes "O"; input = false; buses = 1 } ∷ [];
  units = record {
    name = codes "MUL";
    operand = Some 0;
    trigger = 0;
    result = Some 1;
    ops = record { op = Set (record { 0 = 2 }); arity = 2; latency = 3 } ∷ [];
  } ∷ record { name = codes "OUT"; operand = None; trigger = 0; result = None; ops = record { op = Out; arity = 1; latency = 0 } ∷ [] } ∷ [];
}

abbrev all : ℕ → Bool
all id = true

-- a module shows one word, and two registers say whose the result is
long-inputs : box_inputs long all ≡ (Boxes (Shows 0 0), 32) ∷ []
long-inputs = refl

long-registers : map (λ r. r.name) (box_registers long all) ≡ Boxes (IsFrom 0 0 1) ∷ Boxes (IsFrom 0 0 2) ∷ []
long-registers = refl

-- ---- a product that is output

abbrev moved : Source → Dest → Instruction
moved src dst = record { moves = Some (record { guard = None; src = src; dst = dst }) ∷ []; long = None }

abbrev waits : Instruction
waits = record { moves = None ∷ []; long = None }

-- the product of 7 and 6 shows in the fifth cycle
abbrev product : Program
product = record {
  words = moved (source.Value 7) (dest.Operand 0) ∷ moved (source.Value 6) (dest.Trigger 0 0) ∷ waits ∷ waits
      ∷ moved (source.Shown 0) (dest.Trigger 1 0) ∷ [];
}

-- A clock that begins anew, then all words of the output are taken. The module shows 42 before the clock at which the port takes it, two
-- clocks after that of the start, and 9 before all others.
abbrev fed : ℕ → Named → ℕ
fed zero IsReset = 1
fed t IsReady = 1
fed t (Boxes (Shows unit op)) = if t == 4 then 42 else 9
fed t n = 0

-- whatever the registers have when the power comes
abbrev begins : Circuit Named Store → Hardware
begins c = powered same_signal same_store c (λ n. 1)

-- the circuit that makes the operation puts out its word, and the other one what the module shows
product-made : (u : Units) → put_after u (whole false long product []) (begins (whole false long product [])) fed 6 ≡ u.value 2 7 6 ∷ []
unfolding instruction_bits width_for
product-made u = refl

product-shown : (u : Units)
    → put_after u (boxed long all (whole false long product [])) (begins (whole false long product [])) fed 6 ≡ 42 ∷ []
unfolding instruction_bits width_for
product-shown u = refl

-- ---- a sum whose result is due with the product's

-- the unit also adds in two cycles, and that is left to no module
abbrev shared : Machine
shared = record long {
  units = record {
    name = codes "MUL";
    operand = Some 0;
    trigger = 0;
    result = Some 1;
    ops = record { op = Set (record { 0 = 2 }); arity = 2; latency = 3 } ∷ record { op = Set (record { 0 = 0 }); arity = 2; latency = 2 } ∷ [];
  } ∷ record { name = codes "OUT"; operand = None; trigger = 0; result = None; ops = record { op = Out; arity = 1; latency = 0 } ∷ [] } ∷ [];
}

abbrev products : ℕ → Bool
products id = id == 2

-- the sum of 7 and 5 is begun a cycle after the product, and both show in the fifth cycle
abbrev overtaken : Program
overtaken = record {
  words = moved (source.Value 7) (dest.Operand 0) ∷ moved (source.Value 6) (dest.Trigger 0 0) ∷ moved (source.Value 5) (dest.Trigger 0 1)
      ∷ waits ∷ moved (source.Shown 0) (dest.Trigger 1 0) ∷ [];
}

-- the later one is shown, whatever the module shows
sum-shown : (u : Units)
    → put_after u (boxed shared products (whole false shared overtaken [])) (begins (whole false shared overtaken [])) fed 6
    ≡ u.value 0 7 5 ∷ []
unfolding instruction_bits width_for
sum-shown u = refl
