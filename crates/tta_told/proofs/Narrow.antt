-- The constants in the circuit of a machine are narrow, and so are the signals that have parts.
use Rattle.std.proofs.Common.{ℕ, zero, suc, ◌+◌, ◌*◌, ◌≤◌, ◌^◌, Bool, true, false, ◌&&◌, length, arith}
use Rattle.std.specs.Prelude.{nat_lt, nat_le}
use Rattle.std.specs.List.{range_with_len, sum_by}
use Rattle.tta_arch.specs.Fields.{bus_width}
use Rattle.std.proofs.lemmas.List.Sums.{sum_by-cons}
use Rattle.tta_image.proofs.NarrowFields.{narrow as narrow_fields, narrow_template}
use Rattle.tta_circuit.specs.Circuit.{Const, Signal, Slice, Join, Select, Not, Both, Either, Equal, Below, Plus, Minus, Times, BitAnd, BitOr, BitXor, Left, Right, Read, Apply}
use Rattle.tta_hardware.specs.Cited.{Machine, IsMachine, word_width}
use Rattle.tta_hardware.specs.Signals.{Expression}
use Rattle.tta_hardware.specs.Sized.{signal_width}

-- whether constants of an expression have at most 64 bits, numbers of operations too, and parts are parts of no longer signals
abbrev pub narrow : Machine → Expression → Bool
narrow m (Const w n) = nat_le w 64
narrow m (Signal n) = true
narrow m (Slice low w (Signal n)) = nat_lt (signal_width m n) (2 ^ 64)
narrow m (Slice low w e) = false
narrow m (Join w high low) = narrow m high && narrow m low
narrow m (Select test on off) = narrow m test && (narrow m on && narrow m off)
narrow m (Not e) = narrow m e
narrow m (Both a b) = narrow m a && narrow m b
narrow m (Either a b) = narrow m a && narrow m b
narrow m (Equal a b) = narrow m a && narrow m b
narrow m (Below a b) = narrow m a && narrow m b
narrow m (Plus w a b) = narrow m a && narrow m b
narrow m (Minus w a b) = narrow m a && narrow m b
narrow m (Times w a b) = narrow m a && narrow m b
narrow m (BitAnd a b) = narrow m a && narrow m b
narrow m (BitOr a b) = narrow m a && narrow m b
narrow m (BitXor a b) = narrow m a && narrow m b
narrow m (Left w a by) = narrow m a && narrow m by
narrow m (Right a by) = narrow m a && narrow m by
narrow m (Read s address) = narrow m address
narrow m (Apply op a b) = nat_lt op (2 ^ 64) && (narrow m a && narrow m b)

-- ---- how wide an instruction is

-- the buses from one on
buses_most : (m : Machine) → IsMachine m → (bus count : ℕ) → bus + count ≤ length m.buses → sum_by (bus_width m) (range_with_len bus count) ≤ 55 * count
buses_most m rules bus zero fit = omega arith
buses_most m rules bus (suc count) fit =
    let f = narrow_fields m bus rules (omega (arith, fit)) in
    let g = f.guard in let p = f.payload in let d = f.dest in
    let rest = buses_most m rules (bus + 1) count (omega (arith, fit)) in
    let e = sum_by-cons (bus_width m) bus (range_with_len (bus + 1) count) in
    omega (arith, g, p, d, rest, e)

pub word_most : (m : Machine) → IsMachine m → word_width m ≤ 884
word_most m rules =
    let t = narrow_template m rules in
    let b = buses_most m rules 0 (length m.buses) (omega arith) in
    let few = rules.limits.buses in
    omega (arith, t, b, few)
