use Rattle.std.proofs.Common.{◌≡◌, ◌++◌, drop}
use Rattle.std.specs.List.{flat_map, enumerate_from}
use Rattle.tta_inspect.specs.Remarks.{block_remark, block_remarks}
use Rattle.tta_inspect.proofs.remarking.push_remarks.Given as goal

abbrev pub invariant-loop-k : goal.invariant-loop-k
invariant-loop-k l =
    l.remarks.items ++ flat_map (λ b. block_remark l.on.program.now l.on.parts.now l.on.starts.now b.0 b.1) (enumerate_from l.k (drop l.k l.on.placed.now))
    ≡ l.initial.remarks.items ++ block_remarks l.on.program.now l.on.parts.now l.on.starts.now l.on.placed.now
