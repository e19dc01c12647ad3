use Rattle.std.proofs.Common.{◌≡◌, drop, take}
use Rattle.std.specs.List.{filter_map, list_any}
use Rattle.tta_sim.specs.Results.{shown_by}
use Rattle.tta_sim.specs.Lines.{is_unread, write_brought}
use Rattle.tta_sim.proofs.lines.note_writes.Given as goal

abbrev pub invariant-loop-w : goal.invariant-loop-w
invariant-loop-w l =
    let unread = is_unread l.places (shown_by l.results) in
    record {
      read : list_any (λ w. unread w.reading) l.moves ≡ list_any (λ w. unread w.reading) (drop l.w-index l.moves);
      writes : l.writes ≡ filter_map (write_brought l.places (shown_by l.results)) (take l.w-index l.moves);
    }
