use Rattle.std.proofs.Common.{◌<◌, length, sym, subst, arith}
use Rattle.tta_check.specs.Tables.{Leaves}
use Rattle.tta_check.proofs.Placing.{place_below}
use Rattle.tta_check.proofs.entries.EntryTable.put.Goals as goal

pub put_at-requires-clause-there : goal.put_at-requires-clause-there
put_at-requires-clause-there c =
    subst (λ n. n < length c.args.self.now.entries.items) (sym c.place_of-place.ensures)
    (place_below c.args.delay c.args.len c.args.successor c.args.self.now c.requires (let e = c.if-len-successor.false in omega arith))

pub returns-then-len-successor : goal.returns-then-len-successor
returns-then-len-successor c = Leaves c.if-len-successor.true
