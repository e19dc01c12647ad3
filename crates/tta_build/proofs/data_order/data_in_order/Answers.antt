use Rattle.std.proofs.Common.{ap, ◌∙◌, map}
use Rattle.tta_build.specs.Data.{datum_in}
use Rattle.tta_build.proofs.Sorted.{sorted_lay, sorted_rise, sorted_fit}
use Rattle.tta_build.proofs.data_order.data_in_order.Goals as goal

pub returns-clause-laid : goal.returns-clause-laid
returns-clause-laid c = rw c.of.ensures (sorted_lay c.args.p.now c.lines_of.ensures.rules _ _ (c.in_ok-data.ensures ∙ ap (map datum_in) c.lines_of.ensures.lines) c.in_ok-sort.ensures.permutation)

pub returns-clause-rises : goal.returns-clause-rises
returns-clause-rises c = rw c.of.ensures (sorted_rise c.args.p.now c.lines_of.ensures.rules _ _ (c.in_ok-data.ensures ∙ ap (map datum_in) c.lines_of.ensures.lines) c.in_ok-sort.ensures.permutation c.in_ok-sort.ensures.ascend)

pub returns-clause-fits : goal.returns-clause-fits
returns-clause-fits c = rw c.of.ensures (sorted_fit c.args.p.now c.lines_of.ensures.rules _ _ (c.in_ok-data.ensures ∙ ap (map datum_in) c.lines_of.ensures.lines) c.in_ok-sort.ensures.permutation)
