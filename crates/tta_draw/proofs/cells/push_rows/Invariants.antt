use Rattle.std.proofs.Common.{◌≡◌, ◌++◌, drop}
use Rattle.std.specs.List.{flat_map, enumerate_from}
use Rattle.tta_draw.specs.Cited.{stated}
use Rattle.tta_draw.specs.CodePicture.{row_text, rows_text}
use Rattle.tta_draw.proofs.cells.push_rows.Given as goal

abbrev pub invariant-loop-row : goal.invariant-loop-row
invariant-loop-row g l =
    let U = stated (λ v. (goal.OpUnit-dyn g v).unit_meaning v.1) l.units in
    l.out.items ++ flat_map (λ i. row_text U l.m l.sizes i.0 i.1) (enumerate_from l.row (drop l.row l.words)) ≡ l.initial.out.items ++ rows_text U l.m l.sizes l.words
