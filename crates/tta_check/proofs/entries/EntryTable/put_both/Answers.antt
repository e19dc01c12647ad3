use Rattle.std.proofs.Common.{subst}
use Rattle.tta_check.specs.Tables.{PutSome, First, Then}
use Rattle.tta_check.proofs.Putting.{fits_mid}
use Rattle.tta_check.proofs.entries.EntryTable.put_both.Goals as goal

pub returns-in-Some : goal.returns-in-Some
returns-in-Some c =
    First c.put_some.new.self c.in-Some.verdict
    (subst (PutSome c.args.delay c.args.len c.args.acts c.args.self.now c.put_some.new.self) c.in-Some.is c.in_ok-verdict.ensures)

pub put_some-requires-in-None : goal.put_some-requires-in-None
put_some-requires-in-None c =
    fits_mid c.args.delay c.args.len c.args.acts c.args.stays c.args.self.now c.put_some.new.self c.requires
    (subst (PutSome c.args.delay c.args.len c.args.acts c.args.self.now c.put_some.new.self) c.in-None.is c.in_ok-verdict.ensures)

pub returns-in_ok-verdict-in-None : goal.returns-in_ok-verdict-in-None
returns-in_ok-verdict-in-None c =
    Then c.put_some.new.self c.in_ok-verdict-in-None.verdict
    (subst (PutSome c.args.delay c.args.len c.args.acts c.args.self.now c.put_some.new.self) c.in-None.is c.in_ok-verdict.ensures) c.in_ok-verdict-in-None.ensures
