use Rattle.std.proofs.Common.{◌≡◌, drop}
use Rattle.tta_build.specs.Cited.{stated, first_some, unoffered_in}
use Rattle.tta_build.proofs.needs.unoffered_among.Given as goal

abbrev pub invariant-loop-q : goal.invariant-loop-q
invariant-loop-q g l =
    let f = unoffered_in (stated (λ v. (goal.OpUnit-dyn g v).unit_meaning v.1) l.units) l.m l.c in
    first_some f l.procs ≡ first_some f (drop l.q-index l.procs)
