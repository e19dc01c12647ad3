use Rattle.std.proofs.Common.{◌<◌, ◌≤◌, ◌∙◌, refl, length, arith, rules}
use Rattle.std.proofs.lemmas.List.{length-set}
use Rattle.tta_flow.proofs.GrowthLemmas.{zero_more, zero_all}
use Rattle.tta_flow.proofs.bits.BitRow.clear.Goals as goal

pub loop-at-init : goal.loop-at-init
loop-at-init c = record { room = refl; bits = λ k small. absurd (omega arith) }

pub loop-at-preserved : goal.loop-at-preserved
loop-at-preserved c = record {
  room = length-set c.loop-at.self.words.items c.loop-at.at 0 ∙ c.loop-at.invariant.room;
  bits = λ k small. zero_more c.loop-at.self.words.items c.loop-at.at k (below c) c.loop-at.invariant.bits small;
} where
  below : (c : goal.After-self-1) → c.loop-at.at < length c.loop-at.self.words.items
  below c = let e = c.loop-at.invariant.room in let l : c.loop-at.at < length c.args.self.now.words.items = search rules in omega arith

pub returns-clause-bits : goal.returns-clause-bits
returns-clause-bits c = λ k. zero_all c.loop-at.self c.loop-at.at (past c) c.loop-at.invariant.bits k where
  past : (c : goal.After-loop-at) → length c.loop-at.self.words.items ≤ c.loop-at.at
  past c = let e = c.loop-at.invariant.room in let l : length c.args.self.now.words.items ≤ c.loop-at.at = search rules in omega arith
