use Rattle.std.proofs.Common.{◌≡◌, ◌++◌, drop}
use Rattle.std.specs.Prelude.{map}
use Rattle.tta_waves.specs.Cited.{State, Stands, HasWritten, carried}
use Rattle.tta_waves.specs.Levels.{level_in}
use Rattle.tta_waves.proofs.levels.push_levels.Given as goal

abbrev pub invariant-loop-signal : goal.invariant-loop-signal
invariant-loop-signal l =
    (s : State) → Stands l.at.sim.now s → HasWritten l.at.row.now s.written → l.at.carried.now ≡ map (carried s) l.at.slots.now
    → l.levels.items ++ map (level_in l.m s l.at.slots.now) (drop l.signal-index l.signals) ≡ l.initial.levels.items ++ map (level_in l.m s l.at.slots.now) l.signals
