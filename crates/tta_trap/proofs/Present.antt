-- Which signals a circuit has that tells the first fault, and what its own wires and registers read.
use Rattle.std.proofs.Common.{◌≡◌, ℕ, ◌<◌, Bool, true, false, ◌&&◌, length, refl, arith}
use Rattle.std.specs.Prelude.{if◌then◌else◌, nat_lt}
use Rattle.std.proofs.lemmas.Bool.{and_from, lt-ltb, false≢true}
use Rattle.tta_circuit.specs.Order.{reads_below}
use Rattle.tta_circuit.specs.Closed.{reads_only}
use Rattle.tta_circuit.proofs.Closed.{reads_one}
use Rattle.tta_trap.specs.Cited.{Machine, Signal, HasWord, IsPast, LacksRegister, LacksPort, LacksOperand, Clashes, FaultNow, Watches, Expression, has_place}
use Rattle.tta_hardware.specs.Signals.{Signal as Named}
use Rattle.tta_hardware.proofs.There.{is_there}
use Rattle.tta_trap.specs.Sized.{trap_rank}
use Rattle.tta_trap.proofs.Meets.{meets}

-- whether a signal is there
abbrev pub trap_there : Machine → Named → Bool
trap_there m (Watches (HasWord p)) = has_place m p
trap_there m (Watches IsPast) = true
trap_there m (Watches (LacksRegister bus)) = nat_lt bus (length m.buses)
trap_there m (Watches (LacksPort bus)) = nat_lt bus (length m.buses)
trap_there m (Watches (LacksOperand unit)) = nat_lt unit (length m.units)
trap_there m (Watches (Clashes unit)) = nat_lt unit (length m.units)
trap_there m (Watches FaultNow) = true
trap_there m n = is_there m n

-- what is there without a watch is there with it
pub still_there : (m : Machine) (n : Named) → is_there m n ≡ true → trap_there m n ≡ true
still_there m (Watches w) is = absurd (false≢true is)
still_there m n is = is

-- whether it is, and stands before a rank
abbrev pub may : Machine → ℕ → Named → Bool
may m k n = trap_there m n && nat_lt (trap_rank n) k

-- the rank of a test
pub passes : (b : Bool) → (if b then 0 else 1) < 1 → b ≡ true
passes true less = refl
passes false less = absurd (omega (arith, less))

pub passed : (b : Bool) → b ≡ true → (if b then 0 else 1) < 1
passed true is = omega arith
passed false is = absurd (false≢true is)

module _ (m : Machine) (k : ℕ) where
  -- whether an expression reads only what is there and stands before a rank
  abbrev pub ok : Expression → Bool
  ok e = reads_below (λ n. if may m k n then 0 else 1) 1 e

  -- a signal that is there
  pub sig : (n : Named) → trap_there m n ≡ true → nat_lt (trap_rank n) k ≡ true → ok (Signal n) ≡ true
  sig n is less = reads_one (may m k) n (and_from (trap_there m n) (nat_lt (trap_rank n) k) is less)

  -- an expression of a circuit without a watch
  pub both_ways : (e : Expression) → reads_only (is_there m) e ≡ true → reads_below trap_rank k e ≡ true → ok e ≡ true
  both_ways e is less = meets (λ n. if is_there m n then 0 else 1) trap_rank (λ n. if may m k n then 0 else 1) 1 k 1 each e is less where
    each : (n : Named) → (if is_there m n then 0 else 1) < 1 → trap_rank n < k → (if may m k n then 0 else 1) < 1
    each n is less =
        passed (may m k n) (and_from (trap_there m n) (nat_lt (trap_rank n) k) (still_there m n (passes (is_there m n) is))
        (lt-ltb (trap_rank n) k less))
