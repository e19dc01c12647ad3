-- What the definitions and lemmas of this crate cite of other crates, passed on from one place. Declares nothing.
pub use Rattle.tta_arch.specs.Effects.{Brought, Calls, Effect, Halts, Jumps, KeptImm, KeptRa, KeptReg, Kind, Start, Written, bring, control_of, first_some, has_result, has_unset, has_unset_guard, is_port, is_register, kept, lacks_operand, long_effect, put_out, result_word, start_of, store_data, store_frame, take_in, takes, target_of, write_of}
pub use Rattle.tta_arch.specs.Joins.{has_bit, has_guard, is_dest_on, is_source_on, joins}
pub use Rattle.tta_arch.specs.Legal.{Ends, Slots, all_below, all_slots, are_apart, has_reads, has_writes, is_joined, keeps_taken, reads_file, reads_imm, same_place, writes_file}
unfoldable pub use Rattle.tta_arch.specs.Legal.{can_move}
pub use Rattle.tta_arch.specs.Machine.{Machine}
pub use Rattle.tta_arch.specs.Rules.{IsMachine, are_different}
pub use Rattle.tta_arch.specs.declared.ends.Dest.{Dest}
pub use Rattle.tta_arch.specs.declared.ends.Source.{Source}
pub use Rattle.tta_arch.specs.declared.parts.Template.{Template}
pub use Rattle.tta_list.specs.Iterate.{iterate}
pub use Rattle.tta_list.specs.Laid.{Laid, over}
pub use Rattle.tta_ops.specs.Units.{Units}
