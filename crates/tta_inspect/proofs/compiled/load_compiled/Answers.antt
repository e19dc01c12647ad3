use Rattle.std.proofs.Common.{ℕ, List, IfOk, ap, ◌∙◌, length, subst}
use Rattle.tta_inspect.specs.Cited.{stated, data_of, start, Stands}
use Rattle.tta_block_profile.proofs.Legal.{stages_legal}
use Rattle.tta_inspect.proofs.compiled.load_compiled.Goals as goal
use Rattle.tta_list.proofs.Sets.{over-length}

pub load-requires-clause-size : goal.load-requires-clause-size
load-requires-clause-size g c =
    ap length c.lay_lines.ensures ∙ over-length (data_of c.args.on.now.p.now) c.args.memory.items ∙ c.requires.size

pub load-requires-clause-legal : goal.load-requires-clause-legal
load-requires-clause-legal g c =
    let on = c.args.on.now in
    let U = stated (λ v. (goal.OpUnit-dyn g v).unit_meaning v.1) on.units.now in
    stages_legal U on.m.now on.p.now on.stages.now c.requires.stages

pub returns-clause-start : goal.returns-clause-start
returns-clause-start g c =
    subst (λ words. IfOk c.load.result (λ r. (input : List ℕ) → Stands r (start c.args.on.now.m.now words input))) c.lay_lines.ensures c.load.ensures.start
