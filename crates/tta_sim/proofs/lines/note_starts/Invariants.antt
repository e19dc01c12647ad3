use Rattle.std.proofs.Common.{◌≡◌, take}
use Rattle.std.specs.List.{filter_map, list_any}
use Rattle.tta_sim.specs.Results.{shown_by}
use Rattle.tta_sim.specs.Lines.{cannot_start, operand_in, start_brought}
use Rattle.tta_sim.proofs.lines.note_starts.Given as goal

abbrev pub invariant-loop-s : goal.invariant-loop-s
invariant-loop-s l =
    let operand = operand_in l.places l.writes in
    let cannot = cannot_start l.places l.results operand in
    record {
      stopped : l.stopped ≡ list_any cannot (take l.s-index l.moves);
      starts : l.starts ≡ filter_map (start_brought l.places (shown_by l.results) operand) (take l.s-index l.moves);
    }
