use Rattle.std.proofs.Common.{◌≡◌, ◌-◌, ◌++◌, length, drop}
use Rattle.std.specs.List.{sum_by, range_with_len}
use Rattle.tta_image.specs.Cited.{taken_width}
use Rattle.tta_image.specs.Bits.{bits_of, slots_bits}
use Rattle.tta_arch.proofs.Layouts.{set_width_at}
use Rattle.tta_image.proofs.write.push_slots.Given as goal

abbrev pub invariant-loop-bus : goal.invariant-loop-bus
invariant-loop-bus l = record {
  bits : l.sink ++ slots_bits l.m l.taken (bits_of l.left l.value) l.bus (drop l.bus l.moves)
      ≡ l.initial.sink ++ slots_bits l.m l.taken (bits_of (taken_width l.m l.taken) l.value) 0 l.moves;
  left : l.left ≡ sum_by (set_width_at l.m l.taken) (range_with_len l.bus (length l.moves - l.bus));
}
