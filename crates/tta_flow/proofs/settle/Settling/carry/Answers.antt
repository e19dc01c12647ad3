use Rattle.std.proofs.Common.{◌≡◌, length, refl, arith, rules}
use Rattle.tta_flow.proofs.CarryLemmas.{live_within, carrying_start, waits_live, carrying_more, carrying_all}
use Rattle.tta_flow.proofs.settle.Settling.carry.Goals as goal

pub put-requires-clause-there : goal.put-requires-clause-there
put-requires-clause-there c = let e = c.requires.calm.count in let t = c.requires.there in omega arith

pub loop-at-init : goal.loop-at-init
loop-at-init c =
    carrying_start c.args.steps.now c.args.var c.args.from c.args.self.now c.put.new.self c.requires.calm c.requires.live c.in_ok-put.ensures

pub carry_to-requires-clause-there : goal.carry_to-requires-clause-there
carry_to-requires-clause-there c =
    live_within c.args.steps.now c.args.var c.in-Some.at
    (waits_live c.args.steps.now c.args.var c.args.from c.in-Some.at c.args.self.now.rows.items c.loop-at.self
    (record { rows = c.loop-at.self.rows; stack = c.pop.new.self }) c.loop-at.invariant refl c.in-Some.ensures.items)

pub loop-at-preserved : goal.loop-at-preserved
loop-at-preserved c =
    carrying_more c.args.steps.now c.args.var c.args.from c.in-Some.at c.args.self.now.rows.items c.loop-at.self
    (record { rows = c.loop-at.self.rows; stack = c.pop.new.self }) c.loop-at.invariant refl c.in-Some.ensures.items c.carry_to.new.self
    c.in_ok-carry_to.ensures

pub returns-clause-spreads : goal.returns-clause-spreads
returns-clause-spreads c =
    let last : length c.loop-at.self.stack.items ≡ 0 = search rules in
    let empty : length c.pop.new.self.items ≡ 0 = search rules in
    carrying_all c.args.steps.now c.args.var c.args.from c.args.self.now c.loop-at.self c.pop.new.self c.requires.calm last empty
    c.loop-at.invariant
