use Rattle.std.proofs.Common.{◌<◌, ◌≤◌, ◌+◌, ◌-◌, arith}
use Rattle.tta_alloc.proofs.WalkLemmas.{walk_none, walk_more, walk_all, counts_within, next_down, down_or}
use Rattle.tta_alloc.proofs.walks.lasts.Goals as goal

pub loop-place-init : goal.loop-place-init
loop-place-init c = record {
  within = let e = c.len-place.ensures in omega arith;
  walk = walk_none c.args.body.now (λ k. c.len-place.result + 1 ≤ k) (λ p k. k ≤ p) c.in_ok-places.places c.in_ok-row.row c.in_ok-places.ensures.size
      c.in_ok-places.ensures.sound c.in_ok-row.ensures.room c.in_ok-places.ensures.none
      (λ x k past counts. let s = counts_within c.args.body.now c.requires x k counts in let e = c.len-place.ensures in absurd (omega arith));
}

pub loop-place-preserved : goal.loop-place-preserved
loop-place-preserved c =
    let place = c.loop-place.place in
    let some : 0 < place = (let t = c.loop-place-test.true in omega arith) in
    let w = c.loop-place.invariant.within in
    record {
      within = omega arith;
      walk = walk_more c.args.body.now c.requires (λ k. place ≤ k) (λ k. place - 1 ≤ k) (λ p k. k ≤ p) (place - 1) c.loop-place.places c.meet.new.self
          c.loop-place.row c.fill.new.row (omega arith) (λ k. next_down place k some) (λ k. down_or place k some) c.loop-place.invariant.walk
          c.fill.ensures c.meet.ensures;
    }

pub returns : goal.returns
returns c =
    walk_all c.args.body.now (λ k. c.loop-place.place ≤ k) (λ p k. k ≤ p) c.loop-place.places c.loop-place.row
    (λ x k counts. let t = c.loop-place-test.false in omega arith) c.loop-place.invariant.walk
