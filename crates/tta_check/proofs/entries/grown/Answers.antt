use Rattle.std.proofs.Common.{◌≤◌, length, ap, sym, subst, ◌∙◌}
use Rattle.tta_check.specs.Measures.{greatest_measure}
use Rattle.tta_check.proofs.Placing.{join_count}
use Rattle.tta_check.proofs.entries.grown.Goals as goal

pub measure-requires : goal.measure-requires
measure-requires c =
    subst (λ n. n ≤ 256) (sym (ap length c.in_ok-both.ensures.ports ∙ join_count c.args.state.now.ports.items c.args.other.now.ports.items)) c.requires.few

pub returns-then-measure : goal.returns-then-measure
returns-then-measure c = (c.in_ok-both.both, c.in_ok-both.ensures, subst (λ n. n ≤ greatest_measure (length c.in_ok-both.both.cells.items)) c.measure.ensures.value c.measure.ensures.most, sym c.measure.ensures.value ∙ c.if-measure.true ∙ c.measure-2.ensures.value)
