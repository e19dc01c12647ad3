-- Texts that are put piece by piece.
use Rattle.std.proofs.Common.{◌≡◌, ℕ, List, ◌++◌}
use Rattle.std.specs.Prelude.{Result, Ok, Err, OnOk, is_ok, if◌then◌else◌}

-- a piece was put, if the call has not failed
pub where_put : {T E : Type 0} (r : Result T E) (old new a : List ℕ) → new ≡ (if is_ok r then old ++ a else old) → OnOk r (new ≡ old ++ a)
where_put (Ok v) old new a is = is
where_put (Err e) old new a is = tt
