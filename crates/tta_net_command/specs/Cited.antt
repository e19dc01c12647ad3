-- What the definitions and lemmas of this crate cite of other crates, passed on from one place. Declares nothing.
pub use Rattle.tta_code.specs.Cycle.{State}
pub use Rattle.tta_code.specs.Legal.{IsLegalCode}
pub use Rattle.tta_code.specs.Whole.{Whole, data_in, laid_by}
pub use Rattle.tta_kahn.specs.Cluster.{cycles, first_states}
pub use Rattle.tta_kahn.specs.Network.{AreAtRest, NetworkCore, Network, joined}
pub use Rattle.tta_kahn.specs.declared.cores.Core.{Core}
pub use Rattle.tta_load.specs.Held.{FileFails, Held, IsHeld, IsTaken, TakesBytes}
pub use Rattle.tta_load.specs.Images.{IsImageFor, RefusesImage}
pub use Rattle.tta_load.specs.Inputs.{Fills, RefusesInput}
pub use Rattle.tta_load.specs.Machines.{HasMachine, IsDescribed, RefusesMachine}
pub use Rattle.tta_load.specs.Pairs.{HasPair, ReadsPair}
pub use Rattle.tta_load.specs.declared.machine.MachineFile.{MachineFile}
pub use Rattle.tta_load.specs.declared.pair.CodePair.{CodePair}
pub use Rattle.tta_load.specs.declared.status.Status.{Status}
pub use Rattle.tta_topology.specs.Links.{Feeds}
pub use Rattle.tta_topology.specs.Text.{links_of}
pub use Rattle.tta_list.specs.Laid.{over}
pub use Rattle.tta_net.specs.Clusters.{HeldCluster, IsClusterOf, StandsFor, fault_at, fault_by, fault_told, feeds_of, output_at, words_of}
pub use Rattle.tta_net.specs.Loaded.{CanLoad, CanLoadAll}
pub use Rattle.tta_net.specs.Rounds.{HasEnded, after_rounds}
pub use Rattle.tta_net.specs.declared.step_result.StepResult.{StepResult}
pub use Rattle.tta_ops.specs.Set.{stated}
pub use Rattle.tta_ops.specs.Units.{Units}
pub use Rattle.tta_ports.specs.Output.{IsCut, IsPut, NothingOutput, Output}
pub use Rattle.tta_ports.specs.Store.{Store}
pub use Rattle.tta_ports.specs.World.{IsUntouched, World}
pub use Rattle.tta_report.specs.Lines.{core_lines, line_text, lines_text}
pub use Rattle.tta_report.specs.declared.line.Line.{Line}
unfoldable pub use Rattle.tta_text.specs.Numbers.{digits_of}
