use Rattle.std.proofs.Common.{◌≤◌, ◌<◌, length, arith, rules}
use Rattle.tta_flow.proofs.GrowthLemmas.{absorbs_none, absorbs_more, absorbs_sets}
use Rattle.tta_flow.proofs.bits.BitRow.add.Goals as goal

pub loop-at-init : goal.loop-at-init
loop-at-init c = absorbs_none c.args.other.now c.args.self.now

pub absorb_word-more-requires : goal.absorb_word-more-requires
absorb_word-more-requires c =
    let room = c.loop-at.invariant.grows.room in
    let below : c.loop-at.at < length c.args.self.now.words.items = search rules in
    omega arith

pub loop-at-preserved : goal.loop-at-preserved
loop-at-preserved c =
    absorbs_more c.args.other.now c.loop-at.at c.word.result c.loop-at.grown c.absorb_word-more.result c.either-grown.result
    c.args.self.now c.loop-at.self c.absorb_word-more.new.self c.word.ensures
    c.either-grown.ensures c.loop-at.invariant c.absorb_word-more.ensures.bits c.absorb_word-more.ensures.grows

pub returns : goal.returns
returns c =
    let past : length c.args.self.now.words.items ≤ c.loop-at.at = search rules in
    absorbs_sets c.args.other.now c.loop-at.at c.loop-at.grown c.args.self.now c.loop-at.self past c.loop-at.invariant
