use Rattle.std.proofs.Common.{◌≡◌, ◌+◌, ◌-◌, ◌*◌, ◌<◌, ◌≤◌, ◌^◌, length}
use Rattle.tta_profile.specs.Cited.{iterate, stated, State, next, Stands, IsRunOf, HasWritten}
use Rattle.tta_profile.specs.Counts.{AreCounts}
use Rattle.tta_profile.specs.Outside.{AreOutside}
use Rattle.tta_profile.proofs.counting.count_cycles.Given as goal

abbrev pub decreases-cycles : goal.decreases-cycles
decreases-cycles g l = l.left

abbrev pub invariant-cycles : goal.invariant-cycles
invariant-cycles g l =
    let words = l.basis.code.now.words in
    let step = next (stated (λ v. (goal.OpUnit-dyn g v).unit_meaning v.1) l.basis.units.now) l.basis.m.now l.basis.code.now in
    let made = l.bound - l.left in
    record {
      loaded : IsRunOf l.basis.m.now l.basis.code.now l.sim;
      few : l.sim.cycle + l.left < 2 ^ 62;
      bounded : l.bound < 2 ^ 62;
      within : l.left ≤ l.bound;
      size : length l.counts.executed ≡ length words;
      room : length l.counts.passed ≡ 16 * length words;
      stands : (s : State) → Stands l.initial.sim s → s.rest ≡ l.input → Stands l.sim (iterate made step s);
      rest : (s : State) → Stands l.initial.sim s → s.rest ≡ l.input → (iterate made step s).rest ≡ l.rest;
      room_data : length l.counts.outside_data ≡ length words;
      room_frame : length l.counts.outside_frame ≡ length words;
      counts : (s : State) → Stands l.initial.sim s → s.rest ≡ l.input → AreCounts step words s made l.counts;
      outside : (s : State) → Stands l.initial.sim s → s.rest ≡ l.input → HasWritten l.initial.followed.row s.written
          → HasWritten l.followed.row (iterate made step s).written × AreOutside step l.basis.m.now words s made l.counts;
    }
