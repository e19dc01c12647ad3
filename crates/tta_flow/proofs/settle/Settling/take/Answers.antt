use Rattle.std.proofs.Common.{length, ◌<◌, ◌∙◌, arith}
use Rattle.tta_flow.proofs.PutLemmas.{alike_wide, has_there}
use Rattle.tta_flow.proofs.SettleLemmas.{taken_none, taken_more}
use Rattle.tta_flow.proofs.settle.Settling.take.Goals as goal

pub loop-var-init : goal.loop-var-init
loop-var-init c = taken_none c.args.steps.now c.args.at c.args.room.now c.args.self.now c.requires.calm

pub take_var-requires-clause-calm : goal.take_var-requires-clause-calm
take_var-requires-clause-calm c = c.loop-var.invariant.spreads.calm

pub take_var-requires-clause-wide : goal.take_var-requires-clause-wide
take_var-requires-clause-wide c =
    alike_wide (length c.args.room.now.words.items) c.args.self.now.rows.items c.loop-var.self.rows.items c.loop-var.invariant.spreads.alike c.requires.wide

pub loop-var-preserved : goal.loop-var-preserved
loop-var-preserved c =
    let below : c.args.at < length c.take_var.new.self.rows.items =
    (let e = c.in_ok-take_var.ensures.spreads.calm.count in let t = c.requires.there in omega arith) in
    taken_more c.args.steps.now c.args.at c.args.room.now c.loop-var.var c.covered_to-var.result c.args.self.now c.loop-var.self c.take_var.new.self
    c.loop-var.invariant c.in_ok-take_var.ensures.spreads c.in_ok-take_var.ensures.here
    (λ k low high e. has_there c.take_var.new.self.rows.items c.args.at k c.index.result.now below c.index.ensures
    ∙ c.covered_to-var.ensures.all k low high e)

pub returns-clause-spreads : goal.returns-clause-spreads
returns-clause-spreads c = c.loop-var.invariant.spreads
