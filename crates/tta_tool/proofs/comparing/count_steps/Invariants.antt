use Rattle.std.proofs.Common.{◌≡◌, ◌+◌, length, drop}
use Rattle.std.specs.List.{sum_by}
use Rattle.tta_tool.specs.Cited.{Proc, step_count}
use Rattle.tta_tool.proofs.comparing.count_steps.Given as goal

abbrev pub invariant-procs : goal.invariant-procs
invariant-procs l = record {
  sum : l.count + sum_by (λ (q : Proc). length q.steps) (drop l.proc-index l.program.procs) ≡ step_count l.program;
}
