use Rattle.std.proofs.Common.{◌≡◌, ◌+◌, ◌<◌, ◌^◌, ◌++◌}
use Rattle.tta_play.specs.Cited.{stated, State, next, IsRunOf}
use Rattle.tta_play.specs.Controls.{Follows}
use Rattle.tta_play.specs.States.{whole_text, states_text}
use Rattle.tta_play.proofs.cycling.push_states.Given as goal

abbrev pub decreases-cycles : goal.decreases-cycles
decreases-cycles g l = l.most.cycles

abbrev pub invariant-cycles : goal.invariant-cycles
invariant-cycles g l =
    let U = stated (λ v. (goal.OpUnit-dyn g v).unit_meaning v.1) l.basis.units.now in
    let step = next U l.basis.m.now l.basis.code.now in
    let told = whole_text U l.basis.m.now l.basis.code.now.words in
    record {
      loaded : IsRunOf l.basis.m.now l.basis.code.now l.sim;
      few : l.sim.cycle + l.most.cycles < 2 ^ 62;
      memory : l.beside.spaces.memory.items ≡ l.sim.memory;
      frame : l.beside.spaces.frame.items ≡ l.sim.frame;
      put : (s : State) → Follows l.initial.sim l.initial.beside.under_way s → s.rest ≡ l.input
          → (t : State) × Follows l.sim l.beside.under_way t × (t.rest ≡ l.rest)
          × (l.out.items ++ states_text step told l.most.room l.most.cycles t
          ≡ l.initial.out.items ++ states_text step told l.initial.most.room l.initial.most.cycles s);
    }
