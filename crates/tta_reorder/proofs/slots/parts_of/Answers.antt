use Rattle.tta_reorder.proofs.Parting.{whole_parts}
use Rattle.tta_reorder.proofs.slots.parts_of.Goals as goal

pub returns-in_ok-vec-in-None : goal.returns-in_ok-vec-in-None
returns-in_ok-vec-in-None c = whole_parts c.args.m.now c.args.items.now c.in_ok-vec-in-None.field-0.items (c.in_ok-vec-in-None.ensures.items_if_clones_equal (λ y e. e))
