use Rattle.std.proofs.Common.{true, false, sym}
use Rattle.tta_waves.specs.Levels.{starts}
use Rattle.tta_places.proofs.Lists.{any_on}
use Rattle.tta_waves.proofs.moment.is_started.Goals as goal

pub returns-then-starts : goal.returns-then-starts
returns-then-starts c = λ s had.
    any_on (starts s c.args.unit c.args.op) c.args.slots.now c.loop-slot.slot-index _ true c.loop-slot-test.true (sym (c.if-starts.ensures s had)) (c.loop-slot.invariant s had)

pub loop-slot-preserved : goal.loop-slot-preserved
loop-slot-preserved c = λ s had.
    any_on (starts s c.args.unit c.args.op) c.args.slots.now c.loop-slot.slot-index _ false c.loop-slot-test.true (sym (c.if-starts.ensures s had)) (c.loop-slot.invariant s had)
