use Rattle.std.proofs.Common.{◌≡◌, ◌++◌, drop}
use Rattle.std.specs.List.{flat_map, enumerate_from}
use Rattle.tta_draw.specs.Results.{started_in, results_of}
use Rattle.tta_draw.proofs.results.push_results.Given as goal

abbrev pub invariant-loop-row : goal.invariant-loop-row
invariant-loop-row l =
    l.spans.items ++ flat_map (λ i. started_in l.m l.unit i.0 i.1) (enumerate_from l.row (drop l.row l.words)) ≡ l.initial.spans.items ++ results_of l.m l.words l.unit
