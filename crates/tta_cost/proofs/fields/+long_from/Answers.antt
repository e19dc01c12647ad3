use Rattle.tta_cost.proofs.Shares.{long_of}
use Rattle.tta_cost.proofs.fields.+long_from.Goals as goal

pub returns-in-len1-up : goal.returns-in-len1-up
returns-in-len1-up t c =
    long_of c.args.on.now.applied.now c.args.on.now.m.now c.args.template c.args.templates.now c.in-len1-up.len_at_least c.requires.wide _ _ _ _
    c.choice.ensures c.has_template.ensures c.free-in-len1-up.ensures c.long_from-more.ensures
