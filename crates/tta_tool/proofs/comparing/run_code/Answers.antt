use Rattle.std.proofs.Common.{[], refl, ap, ◌∙◌, subst}
use Rattle.tta_tool.specs.Cited.{stated, over, Whole, data_in, Keeps}
use Rattle.tta_code.specs.Cycle.{start}
use Rattle.tta_sim.specs.Held.{Stands}
use Rattle.tta_code_run.specs.Cycles.{meaning_of}
use Rattle.tta_tool.specs.Sample.{zeros}
use Rattle.tta_tool.proofs.Laying.{few_cycles}
use Rattle.tta_tool.proofs.Samplings.{has_cycled}
use Rattle.tta_tool.proofs.comparing.run_code.Goals as goal

pub keep_run-requires-clause-few : goal.keep_run-requires-clause-few
keep_run-requires-clause-few g c =
    few_cycles _ c.args.machine.now (over (data_in c.args.whole.now) c.in_ok-memory.memory.items) c.args.bound (c.in_ok-sim.ensures.start []) c.requires.bound

pub returns : goal.returns
returns g c =
    let U = stated (λ v. (goal.OpUnit-dyn g v).unit_meaning v.1) c.args.units.now in
    let m = c.args.machine.now in
    let words = over (data_in c.args.whole.now) c.in_ok-memory.memory.items in
    let none = c.in_ok-memory.ensures.zeros ∙ ap zeros c.data_words.ensures in
    has_cycled U m c.args.whole.now c.args.bound c.in_ok-memory.memory.items none _ _ _
    (subst (λ code. Keeps (meaning_of U m code) (Stands c.keep_run.new.run.sim) c.args.bound (start m words []) c.in_ok-kept.kept.output.items c.in_ok-kept.kept.waits) (ap (λ (w : Whole). w.code) c.whole.view_is)
    (c.in_ok-kept.ensures.keeps (start m words []) (c.in_ok-sim.ensures.start []) refl refl))
