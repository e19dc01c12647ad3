-- Machines whose code can be read back from its canonical text.
use Rattle.std.proofs.Common.{◌≡◌, ℕ, List, [], ◌∷◌, refl}
use Rattle.std.specs.Prelude.{codes}
use Rattle.tta_asm.specs.Cited.{Units}
use Rattle.tta_arch.proofs.Samples.{one_bus, three_buses}
use Rattle.tta_asm.proofs.Readable.{IsReadable}

-- a machine of no operations of the set is so over every set
one_bus-readable : (u : Units) → IsReadable u one_bus
one_bus-readable u = record { files = refl; imms = refl; units = refl; templates = refl; ops = refl }

-- the names of the standard operations, in their order
abbrev standard_names : List (List ℕ)
standard_names =
    codes "add" ∷ codes "sub" ∷ codes "mul" ∷ codes "mulhu" ∷ codes "neg" ∷ codes "and" ∷ codes "or" ∷ codes "xor" ∷ codes "not"
    ∷ codes "shl" ∷ codes "shr" ∷ codes "shru" ∷ codes "eq" ∷ codes "ne" ∷ codes "lt" ∷ codes "gt" ∷ codes "ltu" ∷ codes "gtu" ∷ []

-- the machine of three buses is so over a set of the standard operations
three_buses-readable : (u : Units) → u.names ≡ standard_names → IsReadable u three_buses
three_buses-readable u names =
    record { files = refl; imms = refl; units = refl; templates = refl; ops = rw names refl }
