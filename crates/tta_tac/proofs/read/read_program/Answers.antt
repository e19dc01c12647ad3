use Rattle.tta_tac.specs.Cited.{stated}
use Rattle.tta_tac.proofs.Described.{read_said}
use Rattle.tta_tac.proofs.Over.{read_over}
use Rattle.tta_tac.proofs.read.read_program.Goals as goal

pub returns-clause-over : goal.returns-clause-over
returns-clause-over g c =
    let U = stated (λ v. (goal.OpUnit-dyn g v).unit_meaning v.1) c.args.units.now in
    read_over U c.args.text.now c.program_of.result c.program_of.ensures.read

pub returns-clause-grammar : goal.returns-clause-grammar
returns-clause-grammar g c =
    let U = stated (λ v. (goal.OpUnit-dyn g v).unit_meaning v.1) c.args.units.now in
    read_said U c.args.text.now c.program_of.result c.program_of.ensures.read
