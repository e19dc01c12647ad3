use Rattle.std.proofs.Common.{ap, ◌∙◌}
use Rattle.tta_depend.specs.Rows.{unused, row_at, current}
use Rattle.tta_depend.proofs.Change.{replicate_at, next_empty, next_rows}
use Rattle.tta_depend.proofs.rows.next_round.Goals as goal

pub returns-then-round-eq4294967295-clause-empty : goal.returns-then-round-eq4294967295-clause-empty
returns-then-round-eq4294967295-clause-empty c = λ k. ap (λ l. row_at 0 l k) (c.fill.ensures.items (λ y e. e)) ∙ ap (current 0) (replicate_at _ k unused)

pub returns-clause-empty : goal.returns-clause-empty
returns-clause-empty c = next_empty c.args.round c.args.rows.now.items (record { size = c.requires.size; past = c.requires.past })

pub returns-clause-rows : goal.returns-clause-rows
returns-clause-rows c = next_rows c.args.round c.args.rows.now.items (record { size = c.requires.size; past = c.requires.past })
