use Rattle.std.proofs.Common.{ℕ, ◌≡◌, ◌+◌, ◌-◌, subst, arith}
use Rattle.std.specs.Prelude.{◌||◌}
use Rattle.tta_flow.proofs.RoundLemmas.{RoundsTo, round_start, round_more, round_skip, round_all}
use Rattle.tta_flow.proofs.rows.Work.look_upward.Goals as goal

pub loop-at-init : goal.loop-at-init
loop-at-init c = record { within = omega arith; rounds = round_start _ _ _ _ (omega arith) c.requires.work }

pub visit-more-requires-clause-there : goal.visit-more-requires-clause-there
visit-more-requires-clause-there c = let w = c.loop-at.invariant.within in let t = c.loop-at-test.true in omega arith

pub visit-more-requires-clause-work : goal.visit-more-requires-clause-work
visit-more-requires-clause-work c = c.loop-at.invariant.rounds.work

pub loop-at-preserved : goal.loop-at-preserved
loop-at-preserved c =
    let same : c.loop-at.at ≡ (c.loop-at.at - 1) + 1 = (let t = c.loop-at-test.true in omega arith) in
    record {
      within = let w = c.loop-at.invariant.within in let l = c.clear_from-at.ensures.low in omega arith;
      rounds = rw c.either-grown.ensures (round_skip c.args.steps.now c.args.vars (c.loop-at.at - 1) _ (c.loop-at.grown || c.visit-more.result)
          c.visit-more.new.self c.clear_from-at.ensures.none (round_more c.args.steps.now c.args.vars (c.loop-at.at - 1) c.loop-at.grown c.visit-more.result
          c.loop-at.self c.visit-more.new.self
          (subst (λ (n : ℕ). RoundsTo c.args.steps.now c.args.vars n c.loop-at.grown c.loop-at.self) same c.loop-at.invariant.rounds)
          c.visit-more.ensures));
    }

pub returns : goal.returns
returns c = round_all _ _ c.loop-at.at _ _ (let t = c.loop-at-test.false in omega arith) c.loop-at.invariant.rounds
