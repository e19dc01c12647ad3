use Rattle.std.specs.Prelude.{nat_lt}
use Rattle.tta_alloc.specs.Cited.{Sets}
use Rattle.tta_alloc.proofs.body.add_below.Given as goal

abbrev pub invariant-loop-x : goal.invariant-loop-x
invariant-loop-x l = Sets (λ k. nat_lt k l.x) l.initial.row l.row
