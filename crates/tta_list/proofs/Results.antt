-- What follows where a call has not failed.
use Rattle.std.specs.Prelude.{Result, Ok, Err, OnOk}

-- what follows where a call has not failed
pub onward : {T E : Type 0} {P Q : Type 0} (r : Result T E) → (P → Q) → OnOk r P → OnOk r Q
onward (Ok v) f p = f p
onward (Err e) f p = p
