use Rattle.std.proofs.Common.{◌≡◌, drop, take}
use Rattle.std.specs.List.{filter_map, list_any}
use Rattle.tta_sim.specs.Cited.{stated}
use Rattle.tta_sim.specs.Results.{shown_by}
use Rattle.tta_sim.specs.Lines.{cannot_start, operand_in, start_brought}
use Rattle.tta_sim.specs.Dues.{shown_from}
use Rattle.tta_sim.proofs.dues.note_dues.Given as goal

abbrev pub invariant-loop-s : goal.invariant-loop-s
invariant-loop-s g l =
    let U = stated (λ v. (goal.OpUnit-dyn g v).unit_meaning v.1) l.units in
    let operand = operand_in l.store.places l.writes in
    let cannot = cannot_start l.store.places l.results operand in
    let brought = start_brought l.store.places (shown_by l.results) operand in
    record {
      left : list_any cannot l.moves ≡ list_any cannot (drop l.s-index l.moves);
      dues : l.dues ≡ filter_map (shown_from U 0 l.store) (filter_map brought (take l.s-index l.moves));
    }
