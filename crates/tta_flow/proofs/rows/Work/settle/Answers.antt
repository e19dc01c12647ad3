use Rattle.std.proofs.Common.{length, refl, sym, ap, ◌∙◌, arith}
use Rattle.std.proofs.lemmas.Option.{slice_get_read}
use Rattle.tta_flow.specs.Rows.{wanted}
use Rattle.tta_flow.proofs.SettleLemmas.{settling_start, settling_skip, settling_more, settling_all, wanted_is_live}
use Rattle.tta_flow.proofs.rows.Work.settle.Goals.{then-get+in_ok-take, else-get}
use Rattle.tta_flow.proofs.rows.Work.settle.Goals as goal

pub loop-at-init : goal.loop-at-init
loop-at-init c = settling_start c.args.steps.now c.args.vars c.args.self _ c.requires.work refl c.new-stack.ensures.items

pub take-requires-clause-live : goal.take-requires-clause-live
take-requires-clause-live c =
    wanted_is_live c.args.steps.now c.args.vars c.loop-at.at c.index-steps-at.result c.loop-at.settling.rows.items c.gather.new.room
    c.loop-at.invariant.sound (record {
      there = slice_get_read c.args.steps.now (length c.args.steps.now) c.loop-at.at c.index-steps-at.result refl c.loop-at-test.true c.index-steps-at.is;
      bits = λ x small. c.gather.ensures.bits x (let s = c.loop-at.invariant.size in omega arith)
          ∙ ap (λ l. wanted l c.index-steps-at.result c.loop-at.at x) c.as_slice.ensures.value;
      size = c.gather.ensures.room ∙ c.loop-at.invariant.size;
    })

pub loop-at-preserved : goal.loop-at-preserved
loop-at-preserved c = elim c.if-get.branch [
  | then-get+in_ok-take w ↦ rw (w.room-is, w.settling-is) (settling_more c.args.steps.now c.args.vars c.loop-at.at w.index-steps-at.result c.args.self.due
      c.loop-at.room w.gather.new.room c.loop-at.settling w.take.new.self (record {
        there = slice_get_read c.args.steps.now (length c.args.steps.now) c.loop-at.at w.index-steps-at.result refl c.loop-at-test.true w.index-steps-at.is;
        bits = λ x small. w.gather.ensures.bits x (let s = c.loop-at.invariant.size in omega arith)
            ∙ ap (λ l. wanted l w.index-steps-at.result c.loop-at.at x) w.as_slice.ensures.value;
        size = w.gather.ensures.room ∙ c.loop-at.invariant.size;
      }) w.in_ok-take.ensures.spreads w.in_ok-take.ensures.here c.loop-at.invariant)
  | else-get w ↦ rw (w.room-is, w.settling-is) (settling_skip c.args.steps.now c.args.vars c.loop-at.at c.args.self.due c.loop-at.room c.loop-at.settling
      (sym c.get.ensures ∙ w.if-get.false) c.loop-at.invariant)
]

pub returns : goal.returns
returns c = rw c.into_rows.ensures (settling_all c.args.steps.now c.args.vars c.loop-at.at c.args.self.due c.loop-at.room c.loop-at.settling
    c.loop-at-test.false c.loop-at.invariant)
