use Rattle.tta_build.specs.Cited.{stated}
use Rattle.tta_build.proofs.Compiling.{of_direct, code_of_direct}
use Rattle.tta_build.proofs.program.compile.Goals as goal

pub returns-then-is_direct-clause-value : goal.returns-then-is_direct-clause-value
returns-then-is_direct-clause-value g c =
    let U = stated (λ v. (goal.OpUnit-dyn g v).unit_meaning v.1) c.args.units.now in
    of_direct U c.args.m.now c.args.p.now c.compile_direct.result c.compile_direct.ensures.value

pub returns-then-is_direct-clause-code : goal.returns-then-is_direct-clause-code
returns-then-is_direct-clause-code g c =
    let U = stated (λ v. (goal.OpUnit-dyn g v).unit_meaning v.1) c.args.units.now in
    code_of_direct U c.args.m.now c.args.p.now c.compile_direct.result c.compile_direct.ensures.code
