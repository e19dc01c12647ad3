use Rattle.std.proofs.Common.{◌≡◌, ℕ, nat_lt, ◌&&◌, false, None, slice_index_or}
use Rattle.std.specs.Option.{option_map_or}
use Rattle.tta_profile.specs.Cited.{has_bit, State, Stands}
use Rattle.tta_profile.specs.Counts.{is_stopped}
use Rattle.tta_profile.proofs.stopped.stopped_of.Given as goal

abbrev pub invariant-loop-bus : goal.invariant-loop-bus
invariant-loop-bus l = (s : State) → Stands l.sim s → (k : ℕ)
    → has_bit l.stopped k ≡ (nat_lt k l.bus && option_map_or (is_stopped s) (slice_index_or l.slots k None) false)
