use Rattle.std.proofs.Common.{ap, arith, length, slice_get, ◌∙◌, refl}
use Rattle.std.proofs.lemmas.Option.{slice_get_read}
use Rattle.tta_build.specs.Cited.{Respects, IsFirstFit, HasRoom}
use Rattle.tta_build.proofs.Placements.{one_more, more_count}
use Rattle.tta_build.proofs.placing.place_each.Goals as goal

pub loop-b-preserved : goal.loop-b-preserved
loop-b-preserved c =
    let here = ap (slice_get c.args.lists.now) c.loop-b.invariant.count
    ∙ slice_get_read c.args.lists.now (length c.args.lists.now) c.loop-b.b-index c.b-item.result refl (omega arith) c.b-item.is in
    record {
      count = more_count c.loop-b.ps.items c.push.new.self.items c.in_ok-p.p c.loop-b.b-index c.in_ok-push.ensures.items c.loop-b.invariant.count;
      first = rw c.in_ok-push.ensures.items
          (one_more (λ b p. IsFirstFit c.args.on.now.machine.now b.items p) c.args.lists.now c.loop-b.ps.items c.b-item.result c.in_ok-p.p c.loop-b.invariant.first here c.in_ok-p.ensures.first);
      respects = rw c.in_ok-push.ensures.items
          (one_more (λ b p. Respects c.args.on.now.machine.now b.items p) c.args.lists.now c.loop-b.ps.items c.b-item.result c.in_ok-p.p c.loop-b.invariant.respects here c.in_ok-p.ensures.respects);
      room = rw c.in_ok-push.ensures.items
          (one_more (λ b p. HasRoom c.args.on.now.machine.now b.items p) c.args.lists.now c.loop-b.ps.items c.b-item.result c.in_ok-p.p c.loop-b.invariant.room here c.in_ok-p.ensures.room);
    }

pub returns-clause-first : goal.returns-clause-first
returns-clause-first c = record { count = c.loop-b.invariant.count ∙ (omega arith); first = c.loop-b.invariant.first }

pub returns-clause-roomy : goal.returns-clause-roomy
returns-clause-roomy c = record {
  respected = record { count = c.loop-b.invariant.count ∙ (omega arith); respects = c.loop-b.invariant.respects };
  room = c.loop-b.invariant.room;
}
