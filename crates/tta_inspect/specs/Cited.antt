-- What the definitions and lemmas of this crate cite of other crates, passed on from one place. Declares nothing.
pub use Rattle.tta_arch.specs.Fields.{word_width}
pub use Rattle.tta_arch.specs.Machine.{Machine}
pub use Rattle.tta_block_profile.specs.Statement.{IsBlockProfile}
pub use Rattle.tta_build.specs.Statement.{HasCause, IsBuilt}
pub use Rattle.tta_code.specs.Cycle.{State, start}
pub use Rattle.tta_code.specs.Legal.{IsLegalCode, IsLegalWhole}
pub use Rattle.tta_code.specs.Whole.{Whole, data_in}
pub use Rattle.tta_code.specs.declared.whole.Datum.{Datum}
pub use Rattle.tta_kahn.specs.declared.cores.Core.{Core}
unfoldable pub use Rattle.tta_cost.specs.CostText.{cost_text}
pub use Rattle.tta_debug.specs.Debugged.{Debugged}
pub use Rattle.tta_debug.specs.Sessions.{Session'}
unfoldable pub use Rattle.tta_draw.specs.CodePicture.{picture_of_code}
unfoldable pub use Rattle.tta_draw.specs.MachinePicture.{picture_of_machine}
pub use Rattle.tta_draw.specs.declared.remark.Remark.{Remark}
pub use Rattle.tta_load.specs.Endings.{HasThree, OfNamed, OfPair, PairFault, PairRunEndings, PutEndings, TextRows}
pub use Rattle.tta_load.specs.Ends.{IsUsage, Puts, TextEnds}
pub use Rattle.tta_load.specs.Held.{FileFails, HasText, IsTaken, IsTooLong, MadeEnds, ReadFailed, ReadFails, no_memory}
pub use Rattle.tta_load.specs.Images.{IsImageFor, RefusesImage}
pub use Rattle.tta_load.specs.Inputs.{GivenFails, ReadsGiven, RefusesInput, RefusesStream}
pub use Rattle.tta_load.specs.Machines.{HasMachine, IsBadMachine, MachineFails, RefusesMachine}
pub use Rattle.tta_load.specs.Pairs.{HasPair, PairFails, ReadsPair}
pub use Rattle.tta_load.specs.Programs.{IsProgramFor, RefusesProgramFor}
pub use Rattle.tta_load.specs.Runs.{HasGiven, PairRuns, bound_of}
pub use Rattle.tta_load.specs.declared.machine.MachineFile.{MachineFile}
pub use Rattle.tta_load.specs.declared.pair.CodePair.{CodePair}
pub use Rattle.tta_load.specs.declared.status.Status.{Status}
pub use Rattle.tta_hardware.specs.Hardware.{circuit_of, circuit_with}
pub use Rattle.tta_header.specs.Header.{TellsImage, headed_file, headed_rtl}
pub use Rattle.tta_header.specs.declared.features.Features.{Features}
unfoldable pub use Rattle.tta_image.specs.Bits.{instruction_bits}
pub use Rattle.tta_image.specs.Image.{Image, data_section}
unfoldable pub use Rattle.tta_image.specs.Reading.{decoded_image}
pub use Rattle.tta_image.specs.declared.refusal.ImageError.TheVariants.{Refused}
pub use Rattle.tta_info.specs.ImageInfo.{data_bytes, image_bytes}
unfoldable pub use Rattle.tta_info.specs.ImageInfo.{info_of_image}
unfoldable pub use Rattle.tta_info.specs.MachineInfo.{info_of_machine}
pub use Rattle.tta_input.specs.Input.{stream_of}
unfoldable pub use Rattle.tta_input.specs.Input.{input_of}
pub use Rattle.tta_stdin.specs.Come.{Come}
pub use Rattle.tta_link.specs.Blocks.{total_length}
pub use Rattle.tta_link.specs.Linked.{starts_from}
pub use Rattle.tta_list.specs.Laid.{over}
pub use Rattle.tta_lower.specs.declared.part.Part.{Part}
pub use Rattle.tta_moves.specs.declared.items.Placed.{Placed}
pub use Rattle.tta_net.specs.Loaded.{CanLoad}
pub use Rattle.tta_netlist.specs.Net.{AreSound, net_text}
pub use Rattle.tta_net_command.specs.CoreFiles.{AreLinks, CoresFail, HasCores, RefusesLinks, TakesCores, cores_in}
pub use Rattle.tta_net_command.specs.Request.{is_net}
pub use Rattle.tta_ops.specs.Set.{stated}
pub use Rattle.tta_ops.specs.Units.{Units}
unfoldable pub use Rattle.tta_pages.specs.Pages.{stages_page}
pub use Rattle.tta_origins.specs.Statement.{origins_text}
pub use Rattle.tta_play.specs.Statement.{page_of}
unfoldable pub use Rattle.tta_play.specs.Statement.{page_after}
pub use Rattle.tta_ports.specs.Output.{IsCut, IsPut, NothingOutput, Output}
pub use Rattle.tta_ports.specs.Store.{Store}
pub use Rattle.tta_ports.specs.World.{IsUntouched, World}
pub use Rattle.tta_profile.specs.Statement.{IsProfile}
pub use Rattle.tta_program.specs.Program.{data_of, first_outside}
pub use Rattle.tta_prompt.specs.Endings.{Prompts}
pub use Rattle.tta_prompt.specs.declared.error.PromptError.{PromptError}
pub use Rattle.tta_prompt.specs.declared.error.PromptError.TheVariants.{LinesFailed, NoMemory, SinkFailed, TooLong}
pub use Rattle.tta_rtl.specs.Module.{first_words}
pub use Rattle.tta_sim.specs.Held.{Stands}
unfoldable pub use Rattle.tta_stages.specs.RegisterText.{named_text}
pub use Rattle.tta_stages.specs.Stages.{AreStages}
pub use Rattle.tta_stages.specs.Text.{stages_text}
pub use Rattle.tta_stages.specs.declared.stages.Stages.{Stages}
unfoldable pub use Rattle.tta_text.specs.Numbers.{digits_of}
unfoldable pub use Rattle.tta_waves.specs.Statement.{waves_of}
