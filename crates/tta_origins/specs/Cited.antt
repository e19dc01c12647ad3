-- What the definitions and lemmas of this crate cite of other crates, passed on from one place. Declares nothing.
unfoldable pub use Rattle.tta_alloc.specs.Homes.{home_of}
pub use Rattle.tta_alloc.specs.declared.home.Home.{Home}
pub use Rattle.tta_alloc.specs.declared.home.Home.TheVariants.{Slot}
pub use Rattle.tta_arch.specs.Fields.{numbers}
pub use Rattle.tta_arch.specs.Machine.{Machine}
unfoldable pub use Rattle.tta_flow.specs.Live.{live_after, live_before}
pub use Rattle.tta_flow.specs.declared.flow.Block.{Block}
pub use Rattle.tta_flow.specs.declared.live.Live.{Live}
pub use Rattle.tta_link.specs.Linked.{starts_from}
pub use Rattle.tta_lower.specs.LoweringInput.{home_by, reg_of}
unfoldable pub use Rattle.tta_lower.specs.Layout.{base}
pub use Rattle.tta_lower.specs.Layout.{own, place, place_by, slots_before, var_slot, vars_of}
pub use Rattle.tta_lower.specs.Lower.{owner_of}
pub use Rattle.tta_lower.specs.declared.part.Part.{Part}
pub use Rattle.tta_lower.specs.declared.part.Part.TheVariants.{Entry, Returned, Steps}
pub use Rattle.tta_moves.specs.declared.items.Placed.{Placed}
pub use Rattle.tta_ops.specs.Set.{stated}
pub use Rattle.tta_ops.specs.Units.{Units}
pub use Rattle.tta_pages.specs.Room.{fitting}
pub use Rattle.tta_program.specs.Program.{Program}
pub use Rattle.tta_program.specs.declared.program.Proc.{Proc}
pub use Rattle.tta_stages.specs.ProgramText.{line_at}
unfoldable pub use Rattle.tta_stages.specs.RegisterText.{named_text}
pub use Rattle.tta_stages.specs.RegisterText.{range_at}
pub use Rattle.tta_stages.specs.Text.{homes_in}
pub use Rattle.tta_stages.specs.Words.{count_text, home_text, kept_text, pair_text}
pub use Rattle.tta_stages.specs.declared.lowered.Lowered.{Lowered}
pub use Rattle.tta_stages.specs.declared.stages.Stages.{Stages}
