use Rattle.std.proofs.Common.{◌≡◌, drop, length}
use Rattle.std.specs.Prelude.{map}
use Rattle.std.specs.List.{list_any}
use Rattle.tta_profile.specs.Cited.{Written, State, HasWritten, carried}
use Rattle.tta_profile.specs.Outside.{is_outside, words_of}
use Rattle.tta_profile.proofs.outside.is_any_outside.Given as goal

abbrev pub invariant-loop-bus : goal.invariant-loop-bus
invariant-loop-bus l =
    (s : State) (after : Written) → l.words ≡ map (carried s) l.slots → HasWritten l.at.row.now after → l.at.count ≡ length (words_of l.at.space s)
    → list_any (is_outside l.at.m.now l.at.space after s) (drop l.bus l.slots) ≡ list_any (is_outside l.at.m.now l.at.space after s) l.slots
