-- The ends and guards of legal moves are found again by what is printed of them.
use Rattle.std.proofs.Common.{◌≡◌, ℕ, zero, suc, ◌^◌, ◌<◌, true, false, List, [], ◌∷◌, ◌++◌, length, map, refl, arith}
use Rattle.std.specs.Prelude.{nat_lt, Option, Some, None, slice_get, is_some, Ok, codes}
use Rattle.std.specs.Option.{option_map_or}
use Rattle.std.specs.List.{list_all, AllByRecursion}
use Rattle.std.specs.Str.{bytes_eq}
use Rattle.std.proofs.lemmas.Bool.{false≢true, and_parts, ltb-true}
use Rattle.tta_list.proofs.Lists.{list_all_one}
use Rattle.tta_asm.specs.Cited.{is_name, Units, Bus, ImmUnit, Op, Ldw, Stw, Ldf, Stf, Out, Take, Set, GuardRef, Source, Dest, Machine, within, is_source_on, is_dest_on, has_guard, holds_word, IsMachine, IsMachineName, are_different, is_bus, is_file, is_imm, is_guard}
use Rattle.tta_arch.specs.declared.parts.File.{File as RegisterFile}
use Rattle.tta_arch.specs.declared.parts.Unit.{Unit as OpUnit}
use Rattle.tta_arch.specs.declared.ends.Source.TheVariants as source
use Rattle.tta_arch.specs.declared.ends.Dest.TheVariants as dest
use Rattle.tta_arch.proofs.Sizes.{small_file, small_imm}
use Rattle.tta_asm.specs.Parts.{op_name}
use Rattle.tta_asm.specs.Resolving.{source_of, dest_of, guard_of}
use Rattle.tta_asm.proofs.CalledOps.{is_called, has_called_ops}
use Rattle.tta_asm.proofs.Readable.{IsReadable, all_left, all_right}
use Rattle.tta_asm.proofs.ShownNames.{file_named, imm_named, unit_named, op_named}
use Rattle.tta_asm.proofs.ShownParts.{held_word_small, there, below, port_there, element_there, guard_there, GuardPlace, guard_place}
use Rattle.tta_asm.proofs.ShownScanned.{GuardFits, SourceFits, DestFits}
use Rattle.tta_asm.proofs.ShownForms.{guard_said, source_said, dest_said}

-- ---- sources

-- what is known of a register of a file
record FilePlace (m : Machine) (k i : ℕ) : Type 0 where
  pub file : RegisterFile
  pub at : slice_get m.files k ≡ Some file
  pub within : nat_lt i file.size ≡ true
  pub small : i < 2 ^ 32
  pub named : is_name file.name ≡ true

-- a register within its file is so
file_place : (u : Units) (m : Machine) (k i : ℕ) (file : RegisterFile) → IsMachine m → IsReadable u m
    → slice_get m.files k ≡ Some file → nat_lt i file.size ≡ true → FilePlace m k i
file_place u m k i file rules stands at inside =
    let size = small_file m.sockets file (list_all_one (is_file m.sockets) m.files k file rules.files at) in
    let less = ltb-true i file.size inside in
    record {
      file = file;
      at = at;
      within = inside;
      small = omega arith;
      named = list_all_one (λ f. is_name f.name) m.files k file stands.files at;
    }

-- what is known of a register of an immediate unit
record ImmPlace (m : Machine) (k i : ℕ) : Type 0 where
  pub imm : ImmUnit
  pub at : slice_get m.imms k ≡ Some imm
  pub within : nat_lt i imm.size ≡ true
  pub small : i < 2 ^ 32
  pub named : is_name imm.name ≡ true

-- a register within its immediate unit is so
imm_place : (u : Units) (m : Machine) (k i : ℕ) (imm : ImmUnit) → IsMachine m → IsReadable u m
    → slice_get m.imms k ≡ Some imm → nat_lt i imm.size ≡ true → ImmPlace m k i
imm_place u m k i imm rules stands at inside =
    let size = small_imm m.sockets imm (list_all_one (is_imm m.sockets) m.imms k imm rules.imms at) in
    let less = ltb-true i imm.size inside in
    record {
      imm = imm;
      at = at;
      within = inside;
      small = omega arith;
      named = list_all_one (λ i. is_name i.name) m.imms k imm stands.imms at;
    }

-- a source that a text can give, and that is found again
pub record SourceBack (m : Machine) (src : Source) : Type 0 where
  pub fits : SourceFits m src
  pub back : source_of m [] (source_said m src) ≡ Ok src

-- a register of a file is found again as a source
file_source : (m : Machine) (k i : ℕ) → IsMachine m → FilePlace m k i → SourceBack m (source.Reg k i)
file_source m k i rules p =
    let at = p.at in
    record {
      fits = (rw at p.named, p.small);
      back = rw (at, file_named m k p.file rules at, at, p.within) refl;
    }

-- a register of an immediate unit is found again
imm_source : (m : Machine) (k i : ℕ) → IsMachine m → ImmPlace m k i → SourceBack m (source.Imm k i)
imm_source m k i rules p =
    let at = p.at in
    record {
      fits = (rw at p.named, p.small);
      back = rw (at, imm_named m k p.imm rules at, at, p.within) refl;
    }

-- the result port of a unit is found again
unit_source : (u : Units) (m : Machine) (k : ℕ) (q : OpUnit) → IsMachine m → IsReadable u m → slice_get m.units k ≡ Some q
    → is_some q.result ≡ true → SourceBack m (source.Shown k)
unit_source u m k q rules stands at port =
    record {
      fits = rw at (list_all_one (λ q. is_name q.name) m.units k q stands.units at);
      back = rw (at, unit_named m k q rules at, at, port) refl;
    }

-- a word that the short field of a bus holds
held_small : (m : Machine) (bus word : ℕ) → IsMachine m → is_source_on m bus (source.Value word) ≡ true → word < 2 ^ 32
held_small m bus word rules h = by (slice_get m.buses bus) refl h where
  by : (o : Option Bus) → slice_get m.buses bus ≡ o → option_map_or (λ b. holds_word b word) o false ≡ true → word < 2 ^ 32
  by None at k = absurd (false≢true k)
  by (Some b) at k = held_word_small b word (list_all_one is_bus m.buses bus b rules.buses at) k

-- a source that stands on a bus is found again
pub source_back : (u : Units) (m : Machine) (bus : ℕ) (src : Source) → IsMachine m → IsReadable u m
    → is_source_on m bus src ≡ true → SourceBack m src
source_back u m bus (source.Reg k i) rules stands h =
    let t = there m false bus (slice_get m.files k) (λ f. within i f.size f.out) h in
    let inside = below m false bus i t.0.size t.0.out t.2 in
    file_source m k i rules (file_place u m k i t.0 rules stands t.1 inside)
source_back u m bus (source.Imm k i) rules stands h =
    let t = there m false bus (slice_get m.imms k) (λ f. within i f.size f.out) h in
    let inside = below m false bus i t.0.size t.0.out t.2 in
    imm_source m k i rules (imm_place u m k i t.0 rules stands t.1 inside)
source_back u m bus (source.Shown k) rules stands h =
    let t = there m false bus (slice_get m.units k) (λ q. q.result) h in
    unit_source u m k t.0 rules stands t.1 (port_there m false bus t.0.result t.2)
source_back u m bus source.Ra rules stands h =
    let port = port_there m false bus m.control.ra h in record { fits = tt; back = rw port refl }
source_back u m bus (source.Value word) rules stands h =
    record { fits = held_small m bus word rules h; back = refl }

-- ---- destinations

-- a destination that a text can give, and that is found again
pub record DestBack (u : Units) (m : Machine) (dst : Dest) : Type 0 where
  pub fits : DestFits u m dst
  pub back : dest_of u m (dest_said u m dst) ≡ Some dst

-- a register of a file is found again as a destination
file_dest : (u : Units) (m : Machine) (k i : ℕ) → IsMachine m → FilePlace m k i → DestBack u m (dest.Reg k i)
file_dest u m k i rules p =
    let at = p.at in
    record {
      fits = (rw at p.named, p.small);
      back = rw (at, file_named m k p.file rules at, at, p.within) refl;
    }

-- the operand port of a unit is found again
unit_dest : (u : Units) (m : Machine) (k : ℕ) (q : OpUnit) → IsMachine m → IsReadable u m → slice_get m.units k ≡ Some q
    → is_some q.operand ≡ true → DestBack u m (dest.Operand k)
unit_dest u m k q rules stands at port =
    record {
      fits = rw at (list_all_one (λ q. is_name q.name) m.units k q stands.units at);
      back = rw (at, unit_named m k q rules at, at, port) refl;
    }

-- the name of each unit is one that a machine may declare
unit_name_in : (qs : List OpUnit) (k : ℕ) (q : OpUnit) → AllByRecursion IsMachineName (map (λ q. q.name) qs)
    → slice_get qs k ≡ Some q → IsMachineName q.name
unit_name_in [] k q all e = cc
unit_name_in (x ∷ xs) zero q all e = let same : x ≡ q = cc in rw same at all.0
unit_name_in (x ∷ xs) (suc k) q all e = unit_name_in xs k q all.1 e

-- no unit has the name of control
not_control : (m : Machine) (k : ℕ) (q : OpUnit) → IsMachine m → slice_get m.units k ≡ Some q
    → bytes_eq q.name (codes "gcu") ≡ false
not_control m k q rules at =
    let before = map (λ b. b.name) m.buses ++ map (λ s. s.name) m.sockets ++ map (λ f. f.name) m.files ++ map (λ i. i.name) m.imms in
    let units = map (λ u. u.name) m.units in
    let all = all_right IsMachineName before units (all_left IsMachineName (before ++ units) (map (λ t. t.name) m.templates) rules.names) in
    (unit_name_in m.units k q all at).free

-- an operation that is called is called by a name
called_named : (u : Units) (op : Op) → is_called u op ≡ true → is_name (op_name u op) ≡ true
called_named u Ldw h = refl
called_named u Stw h = refl
called_named u Ldf h = refl
called_named u Stf h = refl
called_named u Out h = refl
called_named u Take h = refl
called_named u (Set id) h = (and_parts (nat_lt id.0 (length u.names)) (is_name (op_name u (Set id))) h).1

-- an operation of a unit is found again
op_dest : (u : Units) (m : Machine) (k i : ℕ) (q : OpUnit) → IsMachine m → IsReadable u m → slice_get m.units k ≡ Some q
    → nat_lt i (length q.ops) ≡ true → DestBack u m (dest.Trigger k i)
op_dest u m k i q rules stands at inside =
    let o = element_there q.ops i inside in
    let op_at = o.1 in
    let ops = list_all_one (has_called_ops u) m.units k q stands.ops at in
    let parts = and_parts (list_all (λ o. is_called u o.op) q.ops) (are_different bytes_eq (map (λ o. op_name u o.op) q.ops)) ops in
    let called = list_all_one (λ o. is_called u o.op) q.ops i o.0 parts.0 op_at in
    let named = op_named u q i o.0 parts.1 op_at in
    record {
      fits = (
        rw at (list_all_one (λ q. is_name q.name) m.units k q stands.units at),
        rw (at, op_at) (called_named u o.0.op called),
      );
      back = rw (at, op_at, not_control m k q rules at, unit_named m k q rules at, at, named) refl;
    }

-- a destination that stands on a bus is found again
pub dest_back : (u : Units) (m : Machine) (bus : ℕ) (dst : Dest) → IsMachine m → IsReadable u m
    → is_dest_on m bus dst ≡ true → DestBack u m dst
dest_back u m bus (dest.Reg k i) rules stands h =
    let t = there m true bus (slice_get m.files k) (λ f. within i f.size f.into) h in
    let inside = below m true bus i t.0.size t.0.into t.2 in
    file_dest u m k i rules (file_place u m k i t.0 rules stands t.1 inside)
dest_back u m bus (dest.Operand k) rules stands h =
    let t = there m true bus (slice_get m.units k) (λ q. q.operand) h in
    unit_dest u m k t.0 rules stands t.1 (port_there m true bus t.0.operand t.2)
dest_back u m bus (dest.Trigger k i) rules stands h =
    let t = there m true bus (slice_get m.units k) (λ q. within i (length q.ops) q.trigger) h in
    op_dest u m k i t.0 rules stands t.1 (below m true bus i (length t.0.ops) t.0.trigger t.2)
dest_back u m bus dest.Jump rules stands h = record { fits = tt; back = refl }
dest_back u m bus dest.Call rules stands h = record { fits = tt; back = refl }
dest_back u m bus dest.Halt rules stands h = record { fits = tt; back = refl }

-- ---- guards

-- a guard that a text can give, and that is found again
pub record GuardBack (m : Machine) (guard : Option GuardRef) : Type 0 where
  pub fits : GuardFits m guard
  pub back : guard_of m (guard_said m guard) ≡ Some guard

-- a register of a file of width 1 is found again as a guard
place_back : (u : Units) (m : Machine) (on : GuardRef) → IsMachine m → IsReadable u m → GuardPlace m on → GuardBack m (Some on)
place_back u m on rules stands p =
    let at = p.at in
    let f = file_place u m on.file on.index p.file rules stands at p.within in
    record {
      fits = (rw at (list_all_one (λ f. is_name f.name) m.files on.file p.file stands.files at), f.small);
      back = rw (at, file_named m on.file p.file rules at, at, p.bit, p.within) refl;
    }

-- a guard that is written for a bus is found again
pub guard_back : (u : Units) (m : Machine) (bus : ℕ) (guard : Option GuardRef) → IsMachine m → IsReadable u m
    → has_guard m bus guard ≡ true → GuardBack m guard
guard_back u m bus None rules stands h = record { fits = tt; back = refl }
guard_back u m bus (Some on) rules stands h =
    let g = guard_there m.guards bus on h (is_guard (length m.buses) m.files) rules.guards in
    place_back u m on rules stands (guard_place m g.0 on g.1 g.2)
