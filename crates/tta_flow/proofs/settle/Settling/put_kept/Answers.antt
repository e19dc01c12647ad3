use Rattle.tta_flow.proofs.PutLemmas.{kept_put, put_true, put_false}
use Rattle.tta_flow.proofs.settle.Settling.put_kept.Goals as goal

pub returns-in_ok-put : goal.returns-in_ok-put
returns-in_ok-put c =
    kept_put c.args.steps.now c.args.place c.args.var c.index-steps-place.result c.keeps.result c.args.self.now c.put.new.self c.requires.there
    c.index-steps-place.is c.keeps.ensures (put_true c.args.place c.args.var c.keeps.result c.args.self.now c.put.new.self c.if-keeps.true c.in_ok-put.ensures)

pub returns-else-keeps : goal.returns-else-keeps
returns-else-keeps c =
    kept_put c.args.steps.now c.args.place c.args.var c.index-steps-place.result c.keeps.result c.args.self.now c.args.self.now c.requires.there
    c.index-steps-place.is c.keeps.ensures (put_false c.args.place c.args.var c.keeps.result c.args.self.now c.if-keeps.false)
