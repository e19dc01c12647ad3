use Rattle.std.proofs.Common.{ℕ, ◌∙◌, ap}
use Rattle.std.specs.Prelude.{◌&&◌, not}
use Rattle.tta_flow.specs.Search.{is_found}
use Rattle.tta_flow.specs.Settle.{passes}
use Rattle.tta_flow.specs.Steps.{assigns_at}
use Rattle.tta_flow.proofs.PutLemmas.{alike_fits, puts_none, puts_same, each_put, all_put, listed_within}
use Rattle.tta_flow.proofs.settle.Settling.carry_to.Goals as goal

pub loop-place-init : goal.loop-place-init
loop-place-init c = puts_none c.args.var c.args.self.now

pub put_kept-requires-clause-there : goal.put_kept-requires-clause-there
put_kept-requires-clause-there c =
    listed_within c.args.steps.now c.at-places.result.now c.args.at c.loop-place.place-index 0 c.loop-place-test.true
    (λ k. c.at-places.ensures k ∙ c.requires.before.all c.args.at k c.requires.there)

pub put_kept-requires-clause-count : goal.put_kept-requires-clause-count
put_kept-requires-clause-count c = c.loop-place.invariant.alike.count ∙ c.requires.count

pub put_kept-requires-clause-fits : goal.put_kept-requires-clause-fits
put_kept-requires-clause-fits c =
    alike_fits c.args.var c.args.self.now.rows.items c.loop-place.self.rows.items c.loop-place.invariant.alike c.requires.fits

pub loop-place-preserved : goal.loop-place-preserved
loop-place-preserved c =
    each_put (λ (k : ℕ). not (assigns_at c.args.steps.now k c.args.var)) c.args.var c.at-places.result.now c.loop-place.place-index 0 _ _ _
    c.loop-place-test.true c.loop-place.invariant c.in_ok-put_kept.ensures

pub returns : goal.returns
returns c =
    puts_same (λ (k : ℕ). is_found c.at-places.result.now k && not (assigns_at c.args.steps.now k c.args.var)) (passes c.args.steps.now c.args.at c.args.var)
    c.args.var c.args.self.now c.loop-place.self
    (λ k. ap (λ r. r && not (assigns_at c.args.steps.now k c.args.var)) (c.at-places.ensures k ∙ c.requires.before.all c.args.at k c.requires.there))
    (all_put (λ (k : ℕ). not (assigns_at c.args.steps.now k c.args.var)) c.args.var c.at-places.result.now c.loop-place.place-index _ _
    c.loop-place-test.false c.loop-place.invariant)
