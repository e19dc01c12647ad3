use Rattle.std.proofs.Common.{◌≡◌, ◌++◌, drop}
use Rattle.std.specs.List.{flat_map}
use Rattle.tta_draw.specs.Results.{started, started_in}
use Rattle.tta_draw.proofs.results.push_all_started.Given as goal

abbrev pub invariant-loop-slot : goal.invariant-loop-slot
invariant-loop-slot l =
    l.spans.items ++ flat_map (started l.m l.unit l.row) (drop l.slot-index l.i.moves) ≡ l.initial.spans.items ++ started_in l.m l.unit l.row l.i
