use Rattle.tta_build.specs.Cited.{stated}
use Rattle.tta_ifconv.proofs.Unique.{stands_over}
use Rattle.tta_build.proofs.ConvertedBuilt.{built_so, cause_so}
use Rattle.tta_build.proofs.converted.build_with.Goals as goal

pub build-requires-2-clause-program : goal.build-requires-2-clause-program
build-requires-2-clause-program g c = stands_over _ c.args.p.now _ c.in_ok-q.ensures.converted c.requires.program

pub returns-in-Ok-clause-built : goal.returns-in-Ok-clause-built
returns-in-Ok-clause-built g c =
    let U = stated (λ v. (goal.OpUnit-dyn g v).unit_meaning v.1) c.args.units.now in
    rw c.if-not-converts.false (built_so U c.args.m.now c.args.p.now _ c.rules.ensures c.in_ok-q.ensures.converted _ c.in-Ok.ensures.built)

pub returns-clause-cause : goal.returns-clause-cause
returns-clause-cause g c =
    let U = stated (λ v. (goal.OpUnit-dyn g v).unit_meaning v.1) c.args.units.now in
    rw c.if-not-converts.false (cause_so U c.args.m.now c.args.p.now _ c.rules.ensures c.in_ok-q.ensures.converted _ c.in-Err.ensures.cause)
