use Rattle.std.proofs.Common.{slice_index_or}
use Rattle.std.proofs.lemmas.Option.{slice_get-get_or}
use Rattle.tta_lower.specs.Liveness.{Block}
use Rattle.tta_lower.proofs.parts.push_spans.Goals as goal

pub push_span-requires : goal.push_span-requires
push_span-requires c =
    let none : Block = record { owner = 0; first = 0; last = 0 } in
    let blocks = c.args.blocks.now in
    record { span = c.requires.spans (slice_index_or blocks c.loop-b.b-index none) (c.loop-b.b-index, slice_get-get_or blocks c.loop-b.b-index none c.loop-b-test.true) }
