use Rattle.std.proofs.Common.{◌≡◌, ◌++◌, take}
use Rattle.std.specs.List.{flat_map}
use Rattle.tta_pretty.specs.Cited.{stated}
use Rattle.tta_pretty.specs.Printed.{line_text, proc_lines}
use Rattle.tta_pretty.proofs.print.push_procs.Given as goal

abbrev pub invariant-loop-k : goal.invariant-loop-k
invariant-loop-k g l =
    let U = stated (λ v. (goal.OpUnit-dyn g v).unit_meaning v.1) l.units in
    l.out.items ≡ l.fn.out.items ++ flat_map line_text (proc_lines U l.main 0 (take l.k l.procs))
