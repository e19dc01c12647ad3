use Rattle.std.proofs.Common.{◌∙◌, refl, sym, subst, arith}
use Rattle.std.proofs.lemmas.List.{at_drop_all}
use Rattle.tta_depend.specs.Rows.{with_read, change, AreRows}
use Rattle.tta_depend.proofs.Change.{rows_changed}
use Rattle.tta_depend.proofs.rows.enter_reads.Goals as goal

pub returns-clause-value : goal.returns-clause-value
returns-clause-value c =
    sym (at_drop_all (λ ts. change (with_read c.args.round c.args.cycle) ts c.loop-t.rows.items) c.args.touches.now c.loop-t.t-index (omega (arith, c.loop-t-test.false))) ∙ c.loop-t.invariant.rows

pub returns-clause-rows : goal.returns-clause-rows
returns-clause-rows c = λ are.
    subst (AreRows c.args.round) (sym (returns-clause-value c)) (rows_changed c.args.round (with_read c.args.round c.args.cycle) (λ t r. refl) c.args.touches.now c.args.rows.now.items are)
