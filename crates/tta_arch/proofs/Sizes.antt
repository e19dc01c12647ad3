-- How large the parts of a machine can be.
use Rattle.std.proofs.Common.{◌≡◌, ◌≤◌, ◌==◌, true, false, ◌&&◌, ◌||◌, nat_le, List, length, ℕ, Option, Some, None, refl, [], ◌∷◌}
use Rattle.std.specs.List.{list_all, All}
use Rattle.std.proofs.lemmas.Bool.{and_parts, leb-true}
use Rattle.tta_arch.specs.declared.parts.File.{File}
use Rattle.tta_arch.specs.declared.parts.ImmUnit.{ImmUnit}
use Rattle.tta_arch.specs.declared.parts.Unit.{Unit as OpUnit}
use Rattle.tta_arch.specs.declared.parts.Socket.{Socket}
use Rattle.tta_arch.specs.Rules.{is_file, is_imm, is_unit, is_unit_op, is_socket, is_port_socket, is_from_to, are_different, same_op, IsMachine, fits_kind}
use Rattle.std.specs.Prelude.{slice_get, option_and_then}
use Rattle.tta_list.proofs.Lists.{list_all_one}
use Rattle.tta_arch.specs.declared.parts.UnitOp.{UnitOp}
use Rattle.tta_arch.specs.Machine.{Machine}
use Rattle.tta_arch.specs.Effects.{op_at}
use Rattle.std.proofs.lemmas.List.Elements.{All-nil, All-cons}

-- a file has at most 64 registers
pub small_file : (sockets : List Socket) (f : File) → is_file sockets f ≡ true → f.size ≤ 64
small_file sockets f h =
    let a = and_parts ((f.width == 1 || f.width == 32) && is_from_to 1 64 f.size && is_from_to 1 16 f.read && is_from_to 1 16 f.write && is_socket sockets false f.out) (is_socket sockets true f.into) h in
    let b = and_parts ((f.width == 1 || f.width == 32) && is_from_to 1 64 f.size && is_from_to 1 16 f.read && is_from_to 1 16 f.write) (is_socket sockets false f.out) a.0 in
    let c = and_parts ((f.width == 1 || f.width == 32) && is_from_to 1 64 f.size && is_from_to 1 16 f.read) (is_from_to 1 16 f.write) b.0 in
    let d = and_parts ((f.width == 1 || f.width == 32) && is_from_to 1 64 f.size) (is_from_to 1 16 f.read) c.0 in
    let e = and_parts (f.width == 1 || f.width == 32) (is_from_to 1 64 f.size) d.0 in
    let range = and_parts (nat_le 1 f.size) (nat_le f.size 64) e.1 in
    leb-true f.size 64 range.1

-- an immediate unit has at most 16 registers
pub small_imm : (sockets : List Socket) (u : ImmUnit) → is_imm sockets u ≡ true → u.size ≤ 16
small_imm sockets u h =
    let a = and_parts (is_from_to 1 16 u.size) (is_socket sockets false u.out) h in
    let range = and_parts (nat_le 1 u.size) (nat_le u.size 16) a.0 in
    leb-true u.size 16 range.1

-- a unit has at most 32 operations
pub small_unit : (sockets : List Socket) (u : OpUnit) → is_unit sockets u ≡ true → length u.ops ≤ 32
small_unit sockets u h =
    let a = and_parts (is_socket sockets true u.trigger && is_port_socket sockets true u.operand && is_port_socket sockets false u.result && nat_le (length u.ops) 32 && list_all (is_unit_op u) u.ops) (are_different (λ o p. same_op o.op p.op) u.ops) h in
    let b = and_parts (is_socket sockets true u.trigger && is_port_socket sockets true u.operand && is_port_socket sockets false u.result && nat_le (length u.ops) 32) (list_all (is_unit_op u) u.ops) a.0 in
    let c = and_parts (is_socket sockets true u.trigger && is_port_socket sockets true u.operand && is_port_socket sockets false u.result) (nat_le (length u.ops) 32) b.0 in
    leb-true (length u.ops) 32 c.1

pub unit_fits : (m : Machine) → IsMachine m → (unit op : ℕ) (o : UnitOp) → op_at m unit op ≡ Some o → fits_kind o ≡ true
unit_fits m rules unit op o at = on (slice_get m.units unit) refl at where
  on : (v : Option OpUnit) → slice_get m.units unit ≡ v → option_and_then (λ u. slice_get u.ops op) v ≡ Some o → fits_kind o ≡ true
  on None is h = absurd cc
  on (Some u) is h =
      let unit_is : is_unit m.sockets u ≡ true = list_all_one (is_unit m.sockets) m.units unit u rules.units is in
      let ops = and_parts _ _ (and_parts _ _ unit_is).0 in
      let one : is_unit_op u o ≡ true = list_all_one (is_unit_op u) u.ops op o ops.1 h in
      (and_parts _ _ (and_parts _ _ one).0).0

-- each file has at most 64
pub sizes_of : (sockets : List Socket) (files : List File) → list_all (is_file sockets) files ≡ true → All (λ f. f.size ≤ 64) files
sizes_of sockets [] all = All-nil (λ (f : File). f.size ≤ 64)
sizes_of sockets (f ∷ fs) all =
    let parts = and_parts (is_file sockets f) (list_all (is_file sockets) fs) all in
    All-cons (λ (f : File). f.size ≤ 64) f fs (small_file sockets f parts.0) (sizes_of sockets fs parts.1)

pub sizes : (m : Machine) → IsMachine m → All (λ f. f.size ≤ 64) m.files
sizes m rules = sizes_of m.sockets m.files rules.files
