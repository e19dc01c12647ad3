use Rattle.std.proofs.Common.{◌≤◌, length, map, refl, subst, arith}
use Rattle.tta_sim.specs.Results.{results_at}
use Rattle.tta_sim.specs.Dues.{started_at}
use Rattle.tta_sim.proofs.Beginning.{AreBegun, none_begun, can_next, begun_next, all_begun, others_begun, take_past}
use Rattle.tta_sim.proofs.Growing.{begun_grows}
use Rattle.tta_sim.proofs.begin.begin_all.Goals as goal

pub loop-due-init : goal.loop-due-init
loop-due-init c = λ now.
    none_begun now (results_at c.args.part c.args.region.now) c.advance_units.new.self c.requires.there c.advance_units.ensures.held c.advance_units.ensures.beside

pub begin-requires : goal.begin-requires
begin-requires c =
    can_next 0 (results_at c.args.part c.args.region.now) c.requires.there c.args.dues.now c.requires.can
    c.loop-due.due-index _ _ c.loop-due-test.true refl c.loop-due.region (c.loop-due.invariant 0)

pub loop-due-preserved : goal.loop-due-preserved
loop-due-preserved c = λ now.
    begun_next now (results_at c.args.part c.args.region.now) c.requires.there c.args.dues.now c.requires.can
    c.loop-due.due-index _ _ c.loop-due-test.true refl c.loop-due.region (c.loop-due.invariant now) c.begin.new.region c.begin.ensures

pub returns-clause-begun : goal.returns-clause-begun
returns-clause-begun c = λ now.
    let r = results_at c.args.part c.args.region.now in
    let all : length c.args.dues.now ≤ c.loop-due.due-index = omega (arith, c.loop-due-test.false) in
    all_begun now r c.args.dues.now c.loop-due.region c.requires.can
    (subst (λ ds. AreBegun now r (map (started_at now) ds) c.loop-due.region) (take_past c.args.dues.now c.loop-due.due-index all) (c.loop-due.invariant now))

pub returns-clause-others : goal.returns-clause-others
returns-clause-others c = others_begun 0 c.args.part c.args.region.now _ c.loop-due.region (c.loop-due.invariant 0)

pub returns-clause-ports : goal.returns-clause-ports
returns-clause-ports c = begun_grows 0 (results_at c.args.part c.args.region.now) _ c.loop-due.region (c.loop-due.invariant 0)
