use Rattle.std.proofs.Common.{◌≡◌, ◌+◌, ◌*◌, ◌≤◌, ◌++◌, drop}
use Rattle.tta_draw.specs.CodePicture.{columns_text}
use Rattle.tta_draw.proofs.columns.push_columns.Given as goal

abbrev pub invariant-loop-u : goal.invariant-loop-u
invariant-loop-u l = record {
  text : l.out.items ++ columns_text l.m l.words l.at.unit l.at.left (drop l.u-index l.units)
      ≡ l.initial.out.items ++ columns_text l.m l.words 0 l.left l.units;
  number : l.at.unit ≡ l.u-index;
  few : l.at.left ≤ l.left + 7016 * l.u-index;
}
