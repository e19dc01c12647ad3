use Rattle.std.proofs.Common.{ℕ, List, IfOk, subst}
use Rattle.tta_program.specs.Sequential.{start}
use Rattle.tta_tacrun.specs.Run.{Stands}
use Rattle.tta_tool.proofs.program_run.load_program.Goals as goal

pub returns-clause-start : goal.returns-clause-start
returns-clause-start c =
    subst (λ words. IfOk c.load.result (λ r. (input : List ℕ) → Stands r (start c.args.program.now words input))) c.lay_lines.ensures c.load.ensures.start
