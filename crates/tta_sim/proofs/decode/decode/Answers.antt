use Rattle.std.proofs.Common.{◌+◌, ◌++◌, [], ◌∷◌, ap, ◌∙◌, arith}
use Rattle.tta_sim.specs.Decoded.{line_of}
use Rattle.tta_sim.proofs.Decoding.{lines-more}
use Rattle.tta_sim.proofs.decode.decode.Goals as goal

pub loop-i-preserved : goal.loop-i-preserved
loop-i-preserved c =
    let m = c.args.m.now in
    let before = c.loop-i.lines in
    let i = c.i-item.result in
    let added = c.in_ok-add_line.ensures
    ∙ ap (λ n. before ++ line_of m n i ∷ []) c.loop-i.invariant.back
    ∙ ap (λ x. before ++ line_of m (1 + m.control.delay + c.loop-i.i-index) x ∷ []) c.i-item.is in
    record {
      back = omega (arith, c.loop-i.invariant.back);
      lines = lines-more m (1 + m.control.delay) c.as_slice-i-items.result.now c.loop-i.i-index i before _ c.loop-i-test.true c.loop-i.invariant.lines added;
    }
