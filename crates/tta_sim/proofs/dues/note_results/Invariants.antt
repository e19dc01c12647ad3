use Rattle.std.proofs.Common.{◌≡◌, take}
use Rattle.std.specs.List.{filter_map}
use Rattle.tta_sim.specs.Cited.{stated}
use Rattle.tta_sim.specs.Dues.{shown_from}
use Rattle.tta_sim.proofs.dues.note_results.Given as goal

abbrev pub invariant-loop-start : goal.invariant-loop-start
invariant-loop-start g l =
    let U = stated (λ v. (goal.OpUnit-dyn g v).unit_meaning v.1) l.units in
    l.dues ≡ filter_map (shown_from U l.next l.store) (take l.start-index l.starts)
