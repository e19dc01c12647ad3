-- What operations of units find, and control moves that are under way.
use Rattle.std.proofs.Common.{◌≡◌, ℕ, zero, suc, ◌+◌, ◌-◌, ◌<◌, List, map, ap, sym, arith}
use Rattle.std.specs.Prelude.{filter, nat_lt, ◌==◌, ◌&&◌}
use Rattle.std.specs.List.{enumerate_from, range_with_len}
use Rattle.tta_arch.specs.Effects.{has_result}
use Rattle.tta_arch.specs.declared.parts.UnitOp.{UnitOp}
use Rattle.tta_circuit.specs.Circuit.{Both, Either}
use Rattle.tta_hardware.specs.Signals.{Underway}
use Rattle.tta_hardware.specs.Wires.{is_coming, longest}
use Rattle.tta_trap.specs.Watches.{clashing}
use Rattle.tta_trap_rtl.specs.Cited.{Machine, Signal, any_of, Starts, ops_of, text_of}
use Rattle.tta_trap_rtl.specs.Texts.{two_start}

-- whether an operation of two words starts, by the operations of the unit
pub two_text : (m : Machine) (unit : ℕ) (ops : List UnitOp) → ops_of m unit ≡ enumerate_from 0 ops
    → text_of m (any_of (map (λ (o : ℕ × UnitOp). Signal (Starts unit o.0)) (filter (λ (o : ℕ × UnitOp). o.1.arity == 2) (enumerate_from 0 ops))))
    ≡ text_of m (two_start m unit)
two_text m unit ops all =
    ap (λ (os : List (ℕ × UnitOp)). text_of m (any_of (map (λ (o : ℕ × UnitOp). Signal (Starts unit o.0))
    (filter (λ (o : ℕ × UnitOp). o.1.arity == 2) os)))) (sym all)

-- whether an operation clashes, by the operations of the unit
pub clash_text : (m : Machine) (unit : ℕ) (ops : List UnitOp) → ops_of m unit ≡ enumerate_from 0 ops
    → text_of m (any_of (map (λ (o : ℕ × UnitOp). Both (Signal (Starts unit o.0)) (is_coming m unit o.1.latency))
    (filter (λ (o : ℕ × UnitOp). has_result o.1.op && nat_lt o.1.latency (longest m unit)) (enumerate_from 0 ops))))
    ≡ text_of m (clashing m unit)
clash_text m unit ops all =
    ap (λ (os : List (ℕ × UnitOp)). text_of m (any_of (map (λ (o : ℕ × UnitOp). Both (Signal (Starts unit o.0)) (is_coming m unit o.1.latency))
    (filter (λ (o : ℕ × UnitOp). has_result o.1.op && nat_lt o.1.latency (longest m unit)) os)))) (sym all)

-- whether a control move takes effect in so many cycles from one on: the first of them, and the others
pub underway_more : (m : Machine) (a n : ℕ) → 0 < n
    → text_of m (any_of (map (λ d. Signal (Underway d)) (range_with_len a n)))
    ≡ text_of m (Either (Signal (Underway a)) (any_of (map (λ d. Signal (Underway d)) (range_with_len (a + 1) (n - 1)))))
underway_more m a zero some = absurd (omega arith)
underway_more m a (suc n) some =
    let e : suc n - 1 ≡ n = omega arith in
    ap (λ (k : ℕ). text_of m (Either (Signal (Underway a)) (any_of (map (λ d. Signal (Underway d)) (range_with_len (a + 1) k))))) (sym e)
