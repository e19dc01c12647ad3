use Rattle.std.proofs.Common.{◌≡◌, sym, ◌∙◌, length, arith, refl}
use Rattle.std.proofs.lemmas.List.{length-map}
use Rattle.std.proofs.lemmas.Option.{slice_get_read}
use Rattle.tta_build.specs.Derivation.{last_of, lasts_of}
use Rattle.tta_build.proofs.EachBlock.{block_more}
use Rattle.tta_build.proofs.best_candidate.place_each.Goals as goal

pub loop-b-preserved : goal.loop-b-preserved
loop-b-preserved c =
    let here = slice_get_read c.args.blocks.now (length c.args.blocks.now) c.loop-b.b-index c.b-item.result refl (omega arith) c.b-item.is in
    block_more c.args.on.now.joined.machine.now c.args.blocks.now c.loop-b.trails.items c.push.new.self.items c.loop-b.all.items c.push-in-loop-b.new.self.items c.loop-b.b-index
    c.b-item.result c.in_ok-trail.field-0 c.loop-b.invariant here c.in_ok-trail.ensures c.in_ok-push.ensures.items c.in_ok-push-2.ensures.items

pub returns : goal.returns
returns c =
    let so = c.loop-b.invariant in
    let same : length c.loop-b.all.items ≡ length (lasts_of c.loop-b.trails.items) = so.placed ∙ sym so.trails ∙ sym (length-map c.loop-b.trails.items last_of) in
    record {
      trails = record { count = so.trails ∙ (omega arith); each = so.each };
      first = record { count = same; first = so.first };
      chosen = record { count = so.placed ∙ (omega arith); each = so.chosen };
    }
