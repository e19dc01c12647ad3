use Rattle.std.proofs.Common.{◌≡◌, ◌++◌, take}
use Rattle.tta_pretty.specs.Printed.{src_words}
use Rattle.tta_pretty.specs.Printing.{spaced_after}
use Rattle.tta_pretty.proofs.words.push_srcs.Given as goal

abbrev pub invariant-loop-s : goal.invariant-loop-s
invariant-loop-s l = l.out.items ≡ l.fn.out.items ++ spaced_after (src_words (take l.s-index l.ss))
