use Rattle.std.proofs.Common.{ℕ, List, IfOk, ap, ◌∙◌, length, subst}
use Rattle.tta_code_run.specs.Cited.{over, laid_by, data_in}
use Rattle.tta_code.specs.Cycle.{start}
use Rattle.tta_sim.specs.Held.{Stands}
use Rattle.tta_code_run.proofs.code_run.load_code.Goals as goal
use Rattle.tta_list.proofs.Sets.{over-length}

pub load-requires-clause-size : goal.load-requires-clause-size
load-requires-clause-size c =
    ap length c.lay.ensures ∙ over-length (laid_by c.as_slice.result.now) c.args.memory.items ∙ c.requires.size

pub returns-clause-start : goal.returns-clause-start
returns-clause-start c =
    let memory = c.args.memory.items in
    let laid = c.lay.ensures ∙ ap (λ init. over (laid_by init) memory) c.as_slice.ensures ∙ ap (λ w. over (data_in w) memory) c.whole.view_is in
    subst (λ words. IfOk c.load.result (λ r. (input : List ℕ) → Stands r (start c.args.machine.now words input))) laid c.load.ensures.start
