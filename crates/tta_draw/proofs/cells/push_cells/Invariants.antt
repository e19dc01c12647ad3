use Rattle.std.proofs.Common.{◌≡◌, ◌++◌, drop}
use Rattle.std.specs.List.{flat_map, enumerate_from}
use Rattle.tta_draw.specs.Cited.{stated}
use Rattle.tta_draw.specs.CodePicture.{slot_text, cells_text}
use Rattle.tta_draw.specs.CodePlaces.{cell_frame}
use Rattle.tta_draw.proofs.cells.push_cells.Given as goal

abbrev pub invariant-loop-bus : goal.invariant-loop-bus
invariant-loop-bus g l =
    let U = stated (λ v. (goal.OpUnit-dyn g v).unit_meaning v.1) l.units in
    l.out.items ++ flat_map (λ o. slot_text U l.m (cell_frame l.at.sizes l.at.row o.0) o.1) (enumerate_from l.bus (drop l.bus l.slots)) ≡ l.initial.out.items ++ cells_text U l.m l.at.sizes l.at.row l.slots
