use Rattle.std.proofs.Common.{ℕ, List, ap, ◌∙◌}
use Rattle.std.specs.Prelude.{slice_set}
use Rattle.tta_reorder.proofs.Stamps.{table_put, table_put_stamps}
use Rattle.tta_reorder.proofs.rows.Table.put_at.Goals as goal

pub invariant_of-self : goal.invariant_of-self
invariant_of-self c = table_put_stamps c.self.inside.list c.self.inside.entries.items c.args.channel c.args.n c.self.invariant

pub returns-then-channel-len : goal.returns-then-channel-len
returns-then-channel-len c =
    table_put c.self.inside.list c.self.inside.entries.items c.args.channel c.args.n ∙ ap (λ (l : List ℕ). slice_set l c.args.channel c.args.n) c.self.view_is
