use Rattle.std.proofs.Common.{◌≡◌, drop}
use Rattle.tta_build.specs.Cited.{stated, is_served, first_failing}
use Rattle.tta_build.proofs.needs.first_unserved.Given as goal

abbrev pub invariant-loop-k : goal.invariant-loop-k
invariant-loop-k g l =
    let f = is_served (stated (λ v. (goal.OpUnit-dyn g v).unit_meaning v.1) l.units) l.m l.c in
    first_failing f 0 l.steps ≡ first_failing f l.k (drop l.k l.steps)
