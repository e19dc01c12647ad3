use Rattle.tta_build.specs.Cited.{stated}
use Rattle.tta_build.proofs.Compiling.{compiled_in_blocks}
use Rattle.tta_build.proofs.covered_code.compile_covered.Goals as goal

pub returns-in_ok-choice-in-Ok-clause-value : goal.returns-in_ok-choice-in-Ok-clause-value
returns-in_ok-choice-in-Ok-clause-value g c =
    let U = stated (λ v. (goal.OpUnit-dyn g v).unit_meaning v.1) c.args.units.now in
    let both = c.in_ok-choice-in-Ok.ensures in
    compiled_in_blocks U c.args.on.now.machine.now c.in-Ok.choice c.args.p.now c.requires.other c.in-Ok.ensures.chosen c.in_ok-choice-in-Ok.choice c.in_ok-choice-in-Ok.made
    c.assembled-made.result both.first both.other c.assembled-made.ensures.value
