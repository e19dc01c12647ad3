-- What the definitions and lemmas of this crate cite of other crates, passed on from one place. Declares nothing.
pub use Rattle.tta_refines.specs.Agrees.{HaltAlike, IsGiven, code_at, program_at}
pub use Rattle.tta_arch.specs.Machine.{Machine}
unfoldable pub use Rattle.tta_disasm.specs.Canonical.{canonical}
pub use Rattle.tta_build.specs.Converted.{HasCauseWith, IsBuiltWith}
pub use Rattle.tta_build.specs.Statement.{IsBuilt}
pub use Rattle.tta_check.specs.Verdict.{IsSafe, IsUnsafe, NeverFaults}
pub use Rattle.tta_code.specs.Cycle.{Fault, cyc}
pub use Rattle.tta_code.specs.Whole.{Whole, data_in}
pub use Rattle.tta_debug.specs.Debugged.{Debugged}
pub use Rattle.tta_debug.specs.Sessions.{Follows, Session'}
pub use Rattle.tta_load.specs.Assemblies.{IsAssemblyFor, RefusesAssembly}
pub use Rattle.tta_load.specs.Ends.{IsUsage, PutEnds, Puts, Writes, WritesMade, WritingEnds}
pub use Rattle.tta_load.specs.Held.{FileFails, IsHeld, IsTaken, MadeEnds, ReadFails, WasRead, limit, no_memory}
pub use Rattle.tta_load.specs.Images.{IsImageFor, RefusesImage}
pub use Rattle.tta_load.specs.Inputs.{Fills, HasInput, HasStream, IsStream, ReadsGiven, ReadsStream, RefusesInput, StreamFails}
pub use Rattle.tta_load.specs.Machines.{HasMachine, MachineFails}
pub use Rattle.tta_load.specs.Pairs.{HasPair, PairFails}
pub use Rattle.tta_load.specs.Programs.{IsProgramFor, IsProgramIn, RefusesProgram, RefusesProgramFor}
pub use Rattle.tta_load.specs.Runs.{PairRuns, bound_of}
pub use Rattle.tta_load.specs.Sources.{RefusesSource}
pub use Rattle.tta_load.specs.declared.machine.MachineFile.{MachineFile}
pub use Rattle.tta_load.specs.declared.pair.CodePair.{CodePair}
pub use Rattle.tta_load.specs.declared.status.Status.{Status}
pub use Rattle.tta_ifconv.specs.Converted.{Converted}
pub use Rattle.tta_image.specs.Image.{Image}
pub use Rattle.tta_list.specs.Iterate.{iterate}
pub use Rattle.tta_list.specs.Laid.{over}
pub use Rattle.tta_net_command.specs.Net.{Nets}
pub use Rattle.tta_net_command.specs.Request.{is_net, rounds_of}
pub use Rattle.tta_ops.specs.Set.{stated}
pub use Rattle.tta_ops.specs.Units.{Units}
pub use Rattle.tta_ports.specs.Files.{Holds}
pub use Rattle.tta_ports.specs.Output.{IsCut, IsPut, NothingOutput, Output}
pub use Rattle.tta_ports.specs.Store.{Store}
pub use Rattle.tta_ports.specs.World.{IsUntouched, World}
pub use Rattle.tta_report.specs.Lines.{lines_text, word_lines}
pub use Rattle.tta_report.specs.declared.line.Line.{Line}
unfoldable pub use Rattle.tta_pretty.specs.Printed.{printed}
pub use Rattle.tta_program.specs.Program.{Program, data_of, step_count}
pub use Rattle.tta_program.specs.Sequential.{Frame, assigns, go_on, goes_through, goes_to, holds, operand, step_at, take_value}
pub use Rattle.tta_program.specs.declared.program.Proc.{Proc}
pub use Rattle.tta_program.specs.declared.step.Step.{Step}
pub use Rattle.tta_program.specs.declared.step.Step.TheVariants.{End, Invoke, Put, Return, When}
pub use Rattle.tta_run.specs.Loops.{Keeps}
pub use Rattle.tta_run.specs.Meaning.{Meaning, OutputGrows, WaitStays}
pub use Rattle.tta_run.specs.Reports.{WaitReports, last_text}
pub use Rattle.tta_run.specs.declared.ended.Ended.{Ended}
pub use Rattle.tta_sample.specs.Sample.{sample_text}
pub use Rattle.tta_sim.specs.Held.{is_fault}
pub use Rattle.tta_tac.specs.Text.{ProgramText}
unfoldable pub use Rattle.tta_text.specs.Numbers.{digits_of}
