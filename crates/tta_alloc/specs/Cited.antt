-- What the definitions and lemmas of this crate cite of other crates, passed on from one place. Declares nothing.
pub use Rattle.tta_flow.specs.Bits.{has}
pub use Rattle.tta_flow.specs.Blocks.{Holds, IsFlow}
pub use Rattle.tta_flow.specs.Growth.{Sets}
pub use Rattle.tta_flow.specs.Live.{IsLive}
unfoldable pub use Rattle.tta_flow.specs.Live.{live_before}
pub use Rattle.tta_flow.specs.Paths.{Begin, IsClosed, LiveAfter, LiveBefore, Onward, Reached, ReadHere, ReadLater}
pub use Rattle.tta_flow.specs.Search.{is_found}
pub use Rattle.tta_flow.specs.Steps.{assigns_at, follows, reads_at}
pub use Rattle.tta_flow.specs.Table.{is_listed}
pub use Rattle.tta_flow.specs.declared.bits.BitRow.{BitRow}
pub use Rattle.tta_flow.specs.declared.flow.Block.{Block}
pub use Rattle.tta_flow.specs.declared.live.Live.{Live}
pub use Rattle.tta_flow.specs.declared.table.PlaceLists.{PlaceLists}
pub use Rattle.tta_program.specs.Program.{Program}
pub use Rattle.tta_program.specs.Rules.{IsProgram}
pub use Rattle.tta_program.specs.declared.program.Proc.{Proc}
pub use Rattle.tta_program.specs.declared.step.Step.{Step}
pub use Rattle.tta_program.specs.declared.step.Step.TheVariants.{Apply, Copy, End, Goto, Halt, If, Invoke, Load, Put, Return, Store, Take, When}
