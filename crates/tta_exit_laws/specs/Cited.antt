-- What the definitions and lemmas of this crate cite of other crates, passed on from one place. Declares nothing.
pub use Rattle.tta_refines.specs.Agrees.{code_at, program_at}
pub use Rattle.tta_arch.specs.Machine.{Machine}
unfoldable pub use Rattle.tta_asm.specs.Assembly.{assembled}
pub use Rattle.tta_build.specs.Completes.{IsRoomy}
pub use Rattle.tta_build.specs.Converted.{HasCauseWith, LacksRoomWith}
pub use Rattle.tta_build.specs.Statement.{HasCause, IsAccepted, IsBuilt, LacksRoom}
pub use Rattle.tta_check.specs.Verdict.{IsUnsafe}
pub use Rattle.tta_code.specs.Whole.{Whole, data_in}
pub use Rattle.tta_kahn.specs.Cluster.{cycles, first_states}
pub use Rattle.tta_kahn.specs.Network.{AreAtRest, NetworkCore, Network, joined}
pub use Rattle.tta_kahn.specs.declared.cores.Core.{Core}
pub use Rattle.tta_debug.specs.Debugged.{Debugged}
pub use Rattle.tta_inspect.specs.Circuits.{IsCircuitText, ShowsCircuit}
pub use Rattle.tta_inspect.specs.Command.{Ends, IsTold}
pub use Rattle.tta_inspect.specs.Costs.{IsCostText, ShowsCost}
pub use Rattle.tta_inspect.specs.Depths.{depths_in}
pub use Rattle.tta_inspect.specs.Joining.{IsNetText, ShowsNet}
pub use Rattle.tta_inspect.specs.Pictures.{IsPictureText, ShowsPicture}
pub use Rattle.tta_inspect.specs.Prompts.{FilesFail, OpensPrompt}
pub use Rattle.tta_inspect.specs.Request.{OfInfo}
pub use Rattle.tta_inspect.specs.Runs.{Lacks, ShowsRun, Tells}
pub use Rattle.tta_inspect.specs.Stages.{IsStagesOf, ShowsStages}
pub use Rattle.tta_inspect.specs.Subjects.{IsSubject, RefusesSubject}
pub use Rattle.tta_inspect.specs.Views.{machine_view}
pub use Rattle.tta_inspect.specs.declared.subject.Subject.{Subject}
pub use Rattle.tta_inspect.specs.declared.view.RunView.{RunView}
pub use Rattle.tta_inspect.specs.declared.view.StagesView.{StagesView}
pub use Rattle.tta_inspect.specs.declared.view.View.{View}
pub use Rattle.tta_load.specs.Assemblies.{IsAssemblyFor, RefusesAssembly}
pub use Rattle.tta_load.specs.Endings.{HasThree, OfNamed, OfPair, OfRun, PairFault, PairRunEndings, PutEndings, WriteEndings}
pub use Rattle.tta_load.specs.Ends.{IsWritten, PutEnds, Puts, TextEnds, WriteFailed, Writes, WritingEnds}
pub use Rattle.tta_load.specs.Held.{FileFails, HasText, Held, IsHeld, ReadFailed, ReadFails, limit, no_memory}
pub use Rattle.tta_load.specs.Images.{IsImageFor, RefusesImage}
pub use Rattle.tta_load.specs.Inputs.{Fills, GivenFails, HasInput, IsInput, IsStream, RefusesInput, RefusesStream}
pub use Rattle.tta_load.specs.Machines.{HasMachine, IsBadMachine, IsDescribed, RefusesMachine}
pub use Rattle.tta_load.specs.Pairs.{HasPair, PairFails}
pub use Rattle.tta_load.specs.Programs.{IsBadProgram, IsOutside, IsProgramFor, IsProgramIn, RefusesProgram, RefusesProgramFor}
pub use Rattle.tta_load.specs.Runs.{GivenRuns, HasGiven, PairRuns}
pub use Rattle.tta_load.specs.Sources.{RefusesSource}
pub use Rattle.tta_load.specs.declared.machine.MachineFile.{MachineFile}
pub use Rattle.tta_load.specs.declared.status.Status.{Status}
pub use Rattle.tta_sample_laws.specs.Statement.{CountsRounds}
unfoldable pub use Rattle.tta_image.specs.Reading.{decoded_image}
pub use Rattle.tta_image.specs.declared.refusal.ImageError.TheVariants.{Refused}
pub use Rattle.tta_input.specs.Input.{stream_of}
unfoldable pub use Rattle.tta_input.specs.Input.{input_of}
pub use Rattle.tta_stdin.specs.Come.{Come}
pub use Rattle.tta_topology.specs.Links.{Feeds}
pub use Rattle.tta_topology.specs.Text.{links_of}
pub use Rattle.tta_list.specs.Laid.{over}
unfoldable pub use Rattle.tta_machine.specs.Text.{machine_of_text}
pub use Rattle.tta_net.specs.Clusters.{fault_at}
pub use Rattle.tta_net.specs.Rounds.{HasEnded, StopsAfter, after_rounds, last_answers, went_in}
pub use Rattle.tta_net.specs.declared.step_result.StepResult.{StepResult}
pub use Rattle.tta_net_command.specs.CoreFiles.{AreLinks, CoreFails, CoreFileFails, CoresFail, HasCores, IsCoreFrom, RefusesLinks, as_core, cores_in, name_of, word_of}
pub use Rattle.tta_net_command.specs.Net.{CoresReport, HasMadeRounds, NetPuts, NetReports, Nets, first_fault, net_text, rounds_status}
pub use Rattle.tta_ops.specs.Units.{Units}
pub use Rattle.tta_ports.specs.Faults.{Rose}
pub use Rattle.tta_ports.specs.Files.{HoldsMore}
pub use Rattle.tta_ports.specs.Output.{IsCut, IsPut, NothingOutput, Output}
pub use Rattle.tta_ports.specs.Store.{Store}
pub use Rattle.tta_ports.specs.World.{IsUntouched, World}
pub use Rattle.tta_program.specs.Program.{data_of, first_outside}
pub use Rattle.tta_program.specs.Rules.{Reaches}
pub use Rattle.tta_program.specs.declared.program.DataLine.{DataLine}
pub use Rattle.tta_program.specs.declared.program.Proc.{Proc}
pub use Rattle.tta_prompt.specs.declared.error.PromptError.TheVariants.{LinesFailed, SinkFailed, TooLong}
pub use Rattle.tta_parse.specs.Names.{named_in}
pub use Rattle.tta_sample.specs.Sample.{sample_text}
pub use Rattle.tta_sim.specs.Held.{is_fault}
pub use Rattle.tta_tac.specs.Text.{ByRecursion, InPasses, IsRefusedAt, Linked, ProgramText, WithoutMain, with_main}
unfoldable pub use Rattle.tta_tac.specs.Text.{linked_text}
pub use Rattle.tta_tac.specs.declared.refusal.Refusal.{Refusal}
pub use Rattle.tta_tool.specs.Asm.{Assembles, IsAssembled}
pub use Rattle.tta_tool.specs.Build.{Builds, IsCauseOf, IsImageOf}
pub use Rattle.tta_tool.specs.Check.{ChecksCode, IsCalledSafe, IsFound}
pub use Rattle.tta_tool.specs.Debug.{AskedRuns, Debugs, HasAsked, HasBytes, said}
pub use Rattle.tta_tool.specs.Dis.{Shows}
pub use Rattle.tta_tool.specs.Exec.{Execs}
pub use Rattle.tta_tool.specs.Ifconv.{IsConvertedText, WritesConverted}
pub use Rattle.tta_tool.specs.Run.{Runs}
pub use Rattle.tta_tool.specs.Runs.{ReportEnds}
pub use Rattle.tta_tool.specs.Sample.{CodeCompared, CompareEnds, CompileEnds, SampleForEnds, Samples, program_after, step_bound, zeros}
