-- Output, as contracts see it.
use Rattle.std.specs.Prelude.{◌≡◌, ℕ, List, take, Option}
use Rattle.std.specs.Io.KnownBytes.{append_known}
use Rattle.tta_ports.specs.Faults.{Rose}

-- all the bytes that an output has taken, where it shows them, and how often a put has failed, up to the last value of a
-- 64-bit counter
pub record Output : Type 0 where
  pub taken : Option (List ℕ)
  pub faults : ℕ

-- nothing was put, and no put has failed
pub record NothingOutput (old new : Output) : Type 0 where
  pub taken : new.taken ≡ old.taken
  pub faults : new.faults ≡ old.faults

-- all of a text was put
pub record IsPut (text : List ℕ) (old new : Output) : Type 0 where
  pub taken : new.taken ≡ append_known old.taken text
  pub faults : new.faults ≡ old.faults

-- a put has failed: a prefix of a text was put
pub record IsCut (text : List ℕ) (old new : Output) : Type 0 where
  pub count : ℕ
  pub taken : new.taken ≡ append_known old.taken (take count text)
  pub rose : Rose old.faults new.faults
