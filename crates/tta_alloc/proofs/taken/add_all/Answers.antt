use Rattle.std.proofs.Common.{ℕ}
use Rattle.std.specs.Prelude.{◌==◌}
use Rattle.tta_flow.proofs.GrowthLemmas.{each_none, each_more, each_all}
use Rattle.tta_alloc.proofs.taken.add_all.Goals as goal

pub loop-place-init : goal.loop-place-init
loop-place-init c = each_none (λ (p k : ℕ). p == k) c.args.places.now _

pub loop-place-preserved : goal.loop-place-preserved
loop-place-preserved c =
    each_more (λ (p k : ℕ). p == k) c.args.places.now c.loop-place.place-index 0 _ _ _ c.loop-place-test.true c.loop-place.invariant c.set_within.ensures

pub returns : goal.returns
returns c = each_all (λ (p k : ℕ). p == k) c.args.places.now c.loop-place.place-index _ _ c.loop-place-test.false c.loop-place.invariant
