use Rattle.std.proofs.Common.{◌<◌, ◌∙◌, length, rules}
use Rattle.tta_flow.proofs.BitLemmas.{any_default}
use Rattle.tta_flow.proofs.GrowthLemmas.{absorbs_none, absorbs_more, absorbs_all}
use Rattle.tta_flow.proofs.bits.BitRow.absorb.Goals as goal

pub loop-at-init : goal.loop-at-init
loop-at-init c = absorbs_none c.args.other.now c.args.self.now

pub loop-at-preserved : goal.loop-at-preserved
loop-at-preserved c =
    let below : c.loop-at.at < length c.args.other.now.words.items = search rules in
    absorbs_more c.args.other.now c.loop-at.at c.index.result.now c.loop-at.grown c.absorb_word-more.result c.either-grown.result
    c.args.self.now c.loop-at.self c.absorb_word-more.new.self
    (c.index.ensures ∙ any_default c.args.other.now.words.items c.loop-at.at c.index.result.now 0 below)
    c.either-grown.ensures c.loop-at.invariant c.absorb_word-more.ensures.bits c.absorb_word-more.ensures.grows

pub returns-clause-bits : goal.returns-clause-bits
returns-clause-bits c = absorbs_all c.args.other.now c.loop-at.at c.loop-at.grown _ _ (search rules) c.loop-at.invariant

pub returns-clause-grows : goal.returns-clause-grows
returns-clause-grows c = c.loop-at.invariant.grows
