use Rattle.std.proofs.Common.{◌≡◌, ◌++◌}
use Rattle.tta_pretty.specs.Printed.{words, var_names}
use Rattle.tta_pretty.specs.Printing.{spaced_after}
use Rattle.tta_pretty.proofs.words.push_params.Given as goal

abbrev pub invariant-loop-k : goal.invariant-loop-k
invariant-loop-k l = l.out.items ≡ l.fn.out.items ++ spaced_after (words (var_names 0 l.k))
