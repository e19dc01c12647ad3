use Rattle.std.proofs.Common.{◌≡◌, ◌+◌, ◌≤◌, ◌<◌, ◌^◌}
use Rattle.tta_play.specs.Cited.{stated, iterate, State, next, IsRunOf}
use Rattle.tta_play.specs.Controls.{Follows}
use Rattle.tta_play.proofs.skipping.skip.Given as goal

abbrev pub decreases-cycles : goal.decreases-cycles
decreases-cycles g l = l.left

abbrev pub invariant-cycles : goal.invariant-cycles
invariant-cycles g l =
    let U = stated (λ v. (goal.OpUnit-dyn g v).unit_meaning v.1) l.basis.units.now in
    let step = next U l.basis.m.now l.basis.code.now in
    record {
      loaded : IsRunOf l.basis.m.now l.basis.code.now l.sim;
      counted : l.sim.cycle + l.left ≤ l.initial.sim.cycle + l.cycles;
      few : l.sim.cycle + l.left < 2 ^ 62;
      at : (s : State) → Follows l.initial.sim l.initial.under_way s → s.rest ≡ l.input
          → (t : State) × Follows l.sim l.under_way t × (t.rest ≡ l.rest)
          × (iterate l.left step t ≡ iterate l.cycles step s);
    }
