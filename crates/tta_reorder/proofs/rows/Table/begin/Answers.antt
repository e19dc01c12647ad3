use Rattle.std.proofs.Common.{map}
use Rattle.tta_reorder.specs.declared.rows.Entry.{Entry}
use Rattle.tta_reorder.proofs.Stamps.{stamps_next, table_begin, table_cleared, stamps_cleared}
use Rattle.tta_reorder.proofs.rows.Table.begin.Goals as goal

pub invariant_of-self-else-self : goal.invariant_of-self-else-self
invariant_of-self-else-self c = stamps_next c.self.inside.list (map (λ (e : Entry). e.list) c.self.inside.entries.items) c.self.invariant

pub returns-else-self : goal.returns-else-self
returns-else-self c = table_begin c.self.inside.list c.self.inside.entries.items c.self.invariant

pub invariant_of-self : goal.invariant_of-self
invariant_of-self c = stamps_cleared c.self.inside.list _ c.self.inside.entries.items c.fill.new.self.items c.self.inside.entries.ok.0 (c.fill.ensures.items (λ y e. e)) c.self.invariant

pub returns-then-self : goal.returns-then-self
returns-then-self c = table_cleared c.self.inside.list _ c.self.inside.entries.items c.fill.new.self.items c.self.inside.entries.ok.0 (c.fill.ensures.items (λ y e. e)) c.self.invariant
