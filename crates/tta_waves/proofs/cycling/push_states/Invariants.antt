use Rattle.std.proofs.Common.{◌≡◌, ◌+◌, ◌<◌, ◌^◌, ◌++◌}
use Rattle.tta_waves.specs.Cited.{stated, State, next, Stands, IsRunOf, HasWritten}
use Rattle.tta_waves.specs.Dump.{states_text}
use Rattle.tta_waves.specs.Levels.{levels_in}
use Rattle.tta_waves.specs.Signals.{signals_of}
use Rattle.tta_waves.proofs.cycling.push_states.Given as goal

abbrev pub decreases-states : goal.decreases-states
decreases-states g l = l.left

abbrev pub invariant-states : goal.invariant-states
invariant-states g l =
    let m = l.basis.m.now in
    let code = l.basis.code.now in
    let step = next (stated (λ v. (goal.OpUnit-dyn g v).unit_meaning v.1) l.basis.units.now) m code in
    let levels = levels_in m code.words in
    record {
      loaded : IsRunOf m code l.sim;
      signals : l.dump.signals.items ≡ signals_of m;
      few : l.sim.cycle + l.left < 2 ^ 62;
      put : (s : State) → Stands l.initial.sim s → HasWritten l.initial.dump.row s.written → s.rest ≡ l.input → (t : State) × Stands l.sim t
          × HasWritten l.dump.row t.written × (t.rest ≡ l.rest)
          × (l.dump.out.items ++ states_text step levels l.left l.dump.before.items t
          ≡ l.initial.dump.out.items ++ states_text step levels l.bound l.initial.dump.before.items s);
    }
