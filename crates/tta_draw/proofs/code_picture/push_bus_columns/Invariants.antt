use Rattle.std.proofs.Common.{◌≡◌, ◌++◌, drop}
use Rattle.std.specs.List.{flat_map, enumerate_from}
use Rattle.tta_draw.specs.CodePicture.{bus_column_text, bus_columns_text}
use Rattle.tta_draw.proofs.code_picture.push_bus_columns.Given as goal

abbrev pub invariant-loop-bus : goal.invariant-loop-bus
invariant-loop-bus l =
    l.out.items ++ flat_map (λ b. bus_column_text l.sizes b.0 b.1) (enumerate_from l.bus (drop l.bus l.buses)) ≡ l.initial.out.items ++ bus_columns_text l.sizes l.buses
