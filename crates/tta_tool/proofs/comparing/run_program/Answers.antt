use Rattle.std.proofs.Common.{[], refl, ap}
use Rattle.tta_tool.specs.Cited.{stated, over, data_of}
use Rattle.tta_program.specs.Sequential.{start}
use Rattle.tta_tool.proofs.Laying.{few_steps}
use Rattle.tta_tool.proofs.Samplings.{has_run}
use Rattle.tta_tool.proofs.comparing.run_program.Goals as goal

pub keep_run-requires-clause-few : goal.keep_run-requires-clause-few
keep_run-requires-clause-few g c =
    few_steps _ c.args.program.now (over (data_of c.args.program.now) c.in_ok-memory.memory.items) c.args.bound (c.in_ok-seq.ensures.start []) c.requires

pub returns : goal.returns
returns g c =
    let U = stated (λ v. (goal.OpUnit-dyn g v).unit_meaning v.1) c.args.units.now in
    let p = c.args.program.now in
    let words = over (data_of p) c.in_ok-memory.memory.items in
    has_run U p c.args.space c.args.bound words (ap (over (data_of p)) c.in_ok-memory.ensures.zeros) _ _ _ _
    (c.in_ok-seq.ensures.start []) c.in_ok-kept.ensures.within (c.in_ok-kept.ensures.keeps (start p words []) (c.in_ok-seq.ensures.start []) refl refl)
