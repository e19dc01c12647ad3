use Rattle.std.proofs.Common.{◌<◌, ◌≤◌, ◌+◌, length, arith}
use Rattle.tta_alloc.proofs.WalkLemmas.{walk_more, walk_all, counts_within, next_up, below_or}
use Rattle.tta_alloc.proofs.walks.firsts.Goals as goal

pub loop-place-preserved : goal.loop-place-preserved
loop-place-preserved c =
    let place = c.loop-place.place in
    let there : place ≤ length c.args.body.now.q.now.steps = (let t = c.loop-place-test.true in let e = c.len-place-end.ensures in omega arith) in
    walk_more c.args.body.now c.requires (λ k. k < place) (λ k. k < place + 1) (λ p k. p ≤ k) place c.loop-place.places c.meet.new.self c.loop-place.row
    c.fill.new.row there (next_up place) (below_or place) c.loop-place.invariant c.fill.ensures c.meet.ensures

pub returns : goal.returns
returns c =
    walk_all c.args.body.now (λ k. k < c.loop-place.place) (λ p k. p ≤ k) c.loop-place.places c.loop-place.row
    (λ x k counts. let s = counts_within c.args.body.now c.requires x k counts in let t = c.loop-place-test.false in let e = c.len-place-end.ensures in omega arith)
    c.loop-place.invariant
