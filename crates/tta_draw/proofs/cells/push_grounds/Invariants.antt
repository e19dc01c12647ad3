use Rattle.std.proofs.Common.{◌≡◌, ◌++◌, [], if◌then◌else◌}
use Rattle.std.specs.Prelude.{codes}
use Rattle.std.specs.List.{flat_map}
use Rattle.tta_draw.specs.Cited.{numbers}
use Rattle.tta_draw.specs.Svg.{box_text}
use Rattle.tta_draw.specs.CodePlaces.{slot_frame}
use Rattle.tta_draw.specs.DelaySlots.{is_delay_slot}
use Rattle.tta_draw.proofs.cells.push_grounds.Given as goal

abbrev pub invariant-loop-row : goal.invariant-loop-row
invariant-loop-row l =
    l.out.items ≡ l.initial.out.items ++ flat_map (λ row. if is_delay_slot l.m l.words row then box_text (codes "slot") (slot_frame l.m l.sizes row) else []) (numbers l.row)
