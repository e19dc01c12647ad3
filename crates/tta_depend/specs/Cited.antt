-- What the definitions and lemmas of this crate cite of other crates, passed on from one place. Declares nothing.
pub use Rattle.tta_arch.specs.Effects.{or_else, same_place}
pub use Rattle.tta_arch.specs.Machine.{Machine}
pub use Rattle.tta_moves.specs.Bounds.{At, Spot, Started, Touch, behind, control_cycle, from_moment, last_end, lasts, least, length_of, over_before, reads_by, same_spot, writes_by}
pub use Rattle.tta_moves.specs.Numbers.{is_place, place_number}
pub use Rattle.tta_moves.specs.Touches.{is_control}
pub use Rattle.tta_moves.specs.declared.items.Item.{Item}
pub use Rattle.tta_moves.specs.declared.items.PlacedItem.{PlacedItem}
