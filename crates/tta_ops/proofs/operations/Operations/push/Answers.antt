use Rattle.std.proofs.Common.{◌++◌, ◌∷◌, [], ap, ◌∙◌}
use Rattle.tta_ops.proofs.Names.{rows_more, places_more}
use Rattle.tta_ops.proofs.operations.Operations.push.Goals as goal

pub invariant_of-self-inside-in_default : goal.invariant_of-self-inside-in_default
invariant_of-self-inside-in_default c =
    let absent = rw (← c.self.view_is) at c.requires in
    rw (c.in_default.ensures.entries, c.in_ok-push.ensures.items)
    (ap (λ ps. ps ++ c.args.place ∷ []) c.self.inside.noted ∙ places_more c.self.inside.by_name c.args.name c.args.place absent, record {})

pub returns-clause-ok : goal.returns-clause-ok
returns-clause-ok c =
    let absent = rw (← c.self.view_is) at c.requires in
    rw (c.in_default.ensures.entries, ← c.self.view_is) (rows_more c.self.inside.by_name c.args.name c.args.place absent)
