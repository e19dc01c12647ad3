-- A cycle that is no fault, and control that takes effect.
use Rattle.std.proofs.Common.{◌≡◌, ℕ, ◌==◌, Bool, true, false, List, ◌∷◌, Option, Some, None, refl, sym}
use Rattle.std.specs.Prelude.{if◌then◌else◌}
use Rattle.std.proofs.lemmas.Option.{none-some}
use Rattle.tta_hardware.specs.Cited.{Kind, Jumps, Calls, Halts, State, Pending, Running, lands, takes_effect, first_fault}
use Rattle.tta_hardware.specs.Theorem.{is_waiting}

-- ---- a cycle without a fault

-- where no fault is first, the first of them does not hold
pub no_first : (b : Bool) (n : ℕ) (fs : List (Bool × ℕ)) → first_fault ((b, n) ∷ fs) ≡ None → (b ≡ false) × (first_fault fs ≡ None)
no_first true n fs is = absurd (none-some n (sym is))
no_first false n fs is = (refl, is)

-- control that takes effect changes the address, the control move under way and the outcome alone
pub record IsSame (a b : State) : Type 0 where
  pub written : a.written ≡ b.written
  pub started : a.started ≡ b.started
  pub memory : a.memory ≡ b.memory
  pub frame : a.frame ≡ b.frame
  pub rest : a.rest ≡ b.rest
  pub output : a.output ≡ b.output
  pub cycle : a.cycle ≡ b.cycle
  pub goes_on : is_waiting b.outcome ≡ false → is_waiting a.outcome ≡ false

pub itself : (s : State) → IsSame s s
itself s = record {
  written = refl;
  started = refl;
  memory = refl;
  frame = refl;
  rest = refl;
  output = refl;
  cycle = refl;
  goes_on =
      λ is. is;
}

pub lands_same : (s : State) (p : Option Pending) → s.outcome ≡ Running → IsSame (lands s p) s
lands_same s None runs = itself s
lands_same s (Some p) runs = by (p.time == s.cycle) where
  of : (k : Kind) → IsSame (takes_effect s (record p { kind = k })) s
  of Jumps = record {
    written = refl;
    started = refl;
    memory = refl;
    frame = refl;
    rest = refl;
    output = refl;
    cycle = refl;
    goes_on =
        λ is. is;
  }
  of Calls = record {
    written = refl;
    started = refl;
    memory = refl;
    frame = refl;
    rest = refl;
    output = refl;
    cycle = refl;
    goes_on =
        λ is. is;
  }
  of Halts = record {
    written = refl;
    started = refl;
    memory = refl;
    frame = refl;
    rest = refl;
    output = refl;
    cycle = refl;
    goes_on =
        λ is. refl;
  }

  by : (b : Bool) → IsSame (if b then takes_effect s p else s) s
  by true = of p.kind
  by false = itself s
