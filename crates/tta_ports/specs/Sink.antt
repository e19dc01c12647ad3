-- What a put does to the bytes that a sink has taken.
use Rattle.std.specs.Prelude.{◌≡◌, ℕ, List, take, Option, Result, Ok, Err}
use Rattle.std.specs.Io.KnownBytes.{append_known}

-- all the bytes are taken, or a prefix of them where it failed
abbrev pub PutsBytes : {T E : Type 0}
    → List ℕ → Option (List ℕ) → Option (List ℕ) → Result T E → Type 0
PutsBytes bytes old new (Ok _) = new ≡ append_known old bytes
PutsBytes bytes old new (Err _) = (count : ℕ) × (new ≡ append_known old (take count bytes))
