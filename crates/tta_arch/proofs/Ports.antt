-- A bus that joins a port joins one of a part that is there.
use Rattle.std.proofs.Common.{◌≡◌, ◌<◌, ℕ, true, false, length, Option, Some, None, refl}
use Rattle.std.specs.Prelude.{slice_get, option_and_then}
use Rattle.std.proofs.lemmas.Bool.{false≢true}
use Rattle.std.proofs.lemmas.Option.{slice_get_within}
use Rattle.tta_arch.specs.declared.ends.Source.TheVariants as source
use Rattle.tta_arch.specs.declared.parts.File.{File}
use Rattle.tta_arch.specs.Machine.{Machine}
use Rattle.tta_arch.specs.Joins.{is_source_on, has_socket, within, is_dest_on}
use Rattle.tta_arch.specs.declared.parts.ImmUnit.{ImmUnit}
use Rattle.tta_arch.specs.declared.ends.Dest.TheVariants as dest

-- a joined source in a register has a file
pub source_file : (m : Machine) (bus file index : ℕ) → is_source_on m bus (source.Reg file index) ≡ true → file < length m.files
source_file m bus file index on = by (slice_get m.files file) refl on where
  by : (o : Option File) → slice_get m.files file ≡ o → has_socket m false (option_and_then (λ f. within index f.size f.out) o) bus ≡ true → file < length m.files
  by None at h = absurd (false≢true h)
  by (Some f) at h = slice_get_within m.files file f at

-- a joined source in an immediate register has a unit
pub source_imm : (m : Machine) (bus unit index : ℕ) → is_source_on m bus (source.Imm unit index) ≡ true → unit < length m.imms
source_imm m bus unit index on = by (slice_get m.imms unit) refl on where
  by : (o : Option ImmUnit) → slice_get m.imms unit ≡ o → has_socket m false (option_and_then (λ i. within index i.size i.out) o) bus ≡ true → unit < length m.imms
  by None at h = absurd (false≢true h)
  by (Some i) at h = slice_get_within m.imms unit i at

-- a joined destination in a register has a file
pub dest_file : (m : Machine) (bus file index : ℕ) → is_dest_on m bus (dest.Reg file index) ≡ true → file < length m.files
dest_file m bus file index on = by (slice_get m.files file) refl on where
  by : (o : Option File) → slice_get m.files file ≡ o → has_socket m true (option_and_then (λ f. within index f.size f.into) o) bus ≡ true → file < length m.files
  by None at h = absurd (false≢true h)
  by (Some f) at h = slice_get_within m.files file f at
