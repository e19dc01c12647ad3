use Rattle.std.proofs.Common.{◌<◌, length, sym, ◌∙◌, arith}
use Rattle.tta_draw.proofs.Knowing.{learned-here, learned-next}
use Rattle.tta_draw.proofs.targets.learn.Goals as goal

pub returns-then-is_of : goal.returns-then-is_of
returns-then-is_of c =
    let size = c.loop-place.invariant.size in
    let test = c.loop-place-test.true in
    let count = c.len-place-end.ensures in
    let within : c.loop-place.place < length c.loop-place.known.items = omega arith in
    learned-here c.args.news c.loop-place.known.items _ c.loop-place.place _ within
    c.index.ensures (sym c.is_of.ensures ∙ c.if-is_of.true) c.loop-place.invariant.rest

pub loop-place-preserved : goal.loop-place-preserved
loop-place-preserved c =
    let size = c.loop-place.invariant.size in
    let test = c.loop-place-test.true in
    let count = c.len-place-end.ensures in
    let within : c.loop-place.place < length c.loop-place.known.items = omega arith in
    record {
      size = size;
      rest = learned-next c.args.news c.loop-place.known.items _ c.loop-place.place _ within
          c.index.ensures (sym c.is_of.ensures ∙ c.if-is_of.false) c.loop-place.invariant.rest;
    }
