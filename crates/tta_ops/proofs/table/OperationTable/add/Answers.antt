use Rattle.tta_ops.proofs.Distinct.{kept_after}
use Rattle.tta_ops.proofs.table.OperationTable.add.Goals as goal

pub invariant_of-self : goal.invariant_of-self
invariant_of-self c =
    let old = c.args.self.now in
    let kept = kept_after c.push.result old.operations c.push.new.self
    (record { name = c.args.name.bytes.items; place = c.args.place })
    (record { few = old.few; distinct = old.distinct; reserved = old.reserved; one_or_two = old.one_or_two })
    c.requires.fresh c.requires.free c.requires.some c.requires.two c.requires.room c.push.ensures.ok c.push.ensures.err in
    record { few = kept.few; distinct = kept.distinct; reserved = kept.reserved; one_or_two = kept.one_or_two }
