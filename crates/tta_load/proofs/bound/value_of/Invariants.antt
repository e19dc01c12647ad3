use Rattle.std.proofs.Common.{◌≡◌, ◌<◌, drop}
use Rattle.tta_text.specs.Numbers as spec
use Rattle.tta_text.proofs.Values.{value_from}
use Rattle.tta_load.proofs.bound.value_of.Given as goal

abbrev pub invariant-digits : goal.invariant-digits
invariant-digits l = record {
  below : l.value < l.limit;
  left : value_from 10 l.limit l.value (drop l.byte-index l.digits) ≡ spec.value_below 10 l.limit l.digits;
}
