use Rattle.std.proofs.Common.{ℕ, ◌==◌, ap}
use Rattle.tta_image.proofs.FieldParts.{slot_parts}
use Rattle.tta_image.proofs.slots.numbers_in.Goals as goal

pub returns : goal.returns
returns c =
    let below = c.split_low-guard.ensures in
    λ bits room is. slot_parts c.args.fields.now bits c.args.whole c.split_low-above.result.0 c.split_low-high.result.0 _ c.requires.narrow.whole room is
    c.split_low-above.ensures.high c.split_low-high.ensures.high below.high (ap (λ (n : ℕ). n == 1) below.low) c.split_low-high.ensures.low c.split_low-above.ensures.low
