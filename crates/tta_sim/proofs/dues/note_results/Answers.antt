use Rattle.std.proofs.Common.{◌++◌, ap, ◌∙◌, arith}
use Rattle.std.specs.Prelude.{option_to_list}
use Rattle.tta_sim.specs.Cited.{stated}
use Rattle.tta_sim.specs.Dues.{shown_from}
use Rattle.tta_sim.proofs.Lists.{filter_map-more, length-so_far}
use Rattle.tta_sim.proofs.dues.note_results.Goals as goal

pub note_result-requires : goal.note_result-requires
note_result-requires g c =
    let U = stated (λ v. (goal.OpUnit-dyn g v).unit_meaning v.1) c.args.units.now in
    let few = length-so_far (shown_from U c.args.next c.args.store.now) c.args.starts.now c.loop-start.start-index c.loop-start.dues c.loop-start-test.true c.loop-start.invariant in
    omega (arith, few, c.requires, c.loop-start-test.true)

pub loop-start-preserved : goal.loop-start-preserved
loop-start-preserved g c =
    let U = stated (λ v. (goal.OpUnit-dyn g v).unit_meaning v.1) c.args.units.now in
    filter_map-more (shown_from U c.args.next c.args.store.now) c.args.starts.now c.loop-start.start-index _ c.loop-start.dues _ c.loop-start-test.true c.loop-start.invariant
    (c.note_result.ensures ∙ ap (λ t. c.loop-start.dues ++ option_to_list (shown_from U c.args.next c.args.store.now t)) c.start-item.is)
