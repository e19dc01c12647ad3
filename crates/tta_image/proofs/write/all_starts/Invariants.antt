use Rattle.std.proofs.Common.{◌≡◌, length}
use Rattle.tta_image.proofs.write.all_starts.Given as goal

abbrev pub invariant-loop-fields : goal.invariant-loop-fields
invariant-loop-fields l = length l.starts.items ≡ l.fields-index
