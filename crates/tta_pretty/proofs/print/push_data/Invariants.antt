use Rattle.std.proofs.Common.{◌≡◌, ◌++◌, take}
use Rattle.std.specs.List.{flat_map}
use Rattle.tta_pretty.specs.Printed.{line_text, data_lines}
use Rattle.tta_pretty.proofs.print.push_data.Given as goal

abbrev pub invariant-loop-d : goal.invariant-loop-d
invariant-loop-d l = l.out.items ≡ l.fn.out.items ++ flat_map line_text (data_lines (take l.d-index l.init))
