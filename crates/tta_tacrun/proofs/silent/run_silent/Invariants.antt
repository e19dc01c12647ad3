use Rattle.std.proofs.Common.{◌≡◌, ℕ, List, ◌+◌, ◌-◌, ◌≤◌, length, is_some, true}
use Rattle.tta_tacrun.specs.Cited.{stated, iterate, Frame, next, step_at}
use Rattle.tta_tacrun.specs.Run.{going}
use Rattle.tta_tacrun.proofs.silent.run_silent.Given as goal

abbrev pub decreases-steps : goal.decreases-steps
decreases-steps g l = l.leg.left

abbrev pub invariant-steps : goal.invariant-steps
invariant-steps g l =
    let U = stated (λ v. (goal.OpUnit-dyn g v).unit_meaning v.1) l.basis.units.now in
    let p = l.basis.p.now in
    let old = l.initial in
    let k = old.leg.left - l.leg.left in
    record {
      within : l.leg.left ≤ old.leg.left;
      size : length l.vars ≡ length old.vars;
      space : length l.memory ≡ length old.memory;
      made : (callers : List Frame) (rest output : List ℕ) (n : ℕ)
          → iterate k (next U p) (going old.leg.proc old.leg.at old.vars callers old.memory rest output n)
          ≡ going old.leg.proc l.leg.at l.vars callers l.memory rest output (n + k);
      placed : is_some (step_at p old.leg.proc l.leg.at) ≡ true;
    }
