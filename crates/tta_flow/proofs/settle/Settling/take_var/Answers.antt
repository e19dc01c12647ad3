use Rattle.std.proofs.Common.{◌∙◌, sym, length}
use Rattle.tta_flow.specs.Bits.{has}
use Rattle.tta_flow.proofs.GrowthLemmas.{has_within}
use Rattle.tta_flow.proofs.PutLemmas.{wide_fits}
use Rattle.tta_flow.proofs.SettleLemmas.{spreads_none, spreads_one}
use Rattle.tta_flow.proofs.settle.Settling.take_var.Goals as goal

pub carry-requires-clause-fits : goal.carry-requires-clause-fits
carry-requires-clause-fits c =
    wide_fits c.args.var (length c.args.room.now.words.items) c.args.self.now.rows.items c.requires.wide
    (has_within c.args.room.now c.args.var (sym c.get.ensures ∙ c.if-get.true))

pub returns-else-get-clause-spreads : goal.returns-else-get-clause-spreads
returns-else-get-clause-spreads c = spreads_none c.args.steps.now (has c.args.room.now) c.args.self.now c.requires.calm

pub returns-in_ok-carry-clause-spreads : goal.returns-in_ok-carry-clause-spreads
returns-in_ok-carry-clause-spreads c =
    spreads_one c.args.steps.now (has c.args.room.now) c.args.var c.args.self.now c.carry.new.self (sym c.get.ensures ∙ c.if-get.true)
    c.in_ok-carry.ensures.spreads
