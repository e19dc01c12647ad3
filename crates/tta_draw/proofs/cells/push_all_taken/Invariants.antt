use Rattle.std.proofs.Common.{◌≡◌, ◌++◌, [], if◌then◌else◌}
use Rattle.std.specs.Prelude.{codes}
use Rattle.std.specs.List.{flat_map}
use Rattle.tta_draw.specs.Cited.{has_bit, numbers}
use Rattle.tta_draw.specs.Svg.{box_text}
use Rattle.tta_draw.specs.CodePlaces.{cell_frame}
use Rattle.tta_draw.proofs.cells.push_all_taken.Given as goal

abbrev pub invariant-loop-bus : goal.invariant-loop-bus
invariant-loop-bus l = l.out.items ≡ l.initial.out.items ++ flat_map (λ bus. if has_bit l.buses bus then box_text (codes "taken") (cell_frame l.sizes l.row bus) else []) (numbers l.bus)
