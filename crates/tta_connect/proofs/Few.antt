-- How many units a machine has, and how many operations a unit.
use Rattle.std.proofs.Common.{◌≡◌, ◌≤◌, ℕ, List, [], ◌∷◌, Bool, true, false, ◌&&◌, nat_le, refl, ap, ◌∙◌, length}
use Rattle.std.specs.List.{list_all}
use Rattle.std.proofs.lemmas.Bool.{and_parts}
use Rattle.tta_connect.specs.Cited.{Socket, Machine, IsMachine, is_unit, is_socket, is_port_socket, is_unit_op, are_different, same_op}
use Rattle.tta_arch.specs.declared.parts.Unit.{Unit as OpUnit}

-- a machine's units are few, and so are the operations of each
pub few_units : (m : Machine) → IsMachine m → length m.units ≤ 32
few_units m good = good.limits.units

-- the test of how many operations a unit has, among its other tests
few_tested : (n : ℕ) (a b c e f : Bool) → (a && b && c && nat_le n 32 && e && f) ≡ true → nat_le n 32 ≡ true
few_tested n a b c e f is =
    let one = and_parts (a && b && c && nat_le n 32 && e) f is in
    let two = and_parts (a && b && c && nat_le n 32) e one.0 in
    (and_parts (a && b && c) (nat_le n 32) two.0).1

-- each unit of a list has at most 32 operations, by its tests
each_few : (sockets : List Socket) (vs : List OpUnit) → list_all (is_unit sockets) vs ≡ true → list_all (λ v. nat_le (length v.ops) 32) vs ≡ true
each_few sockets [] all = refl
each_few sockets (x ∷ xs) all =
    let parts = and_parts (is_unit sockets x) (list_all (is_unit sockets) xs) all in
    let first : nat_le (length x.ops) 32 ≡ true =
    few_tested (length x.ops) (is_socket sockets true x.trigger) (is_port_socket sockets true x.operand)
    (is_port_socket sockets false x.result) (list_all (is_unit_op x) x.ops)
    (are_different (λ o p. same_op o.op p.op) x.ops) parts.0 in
    rw (first, each_few sockets xs parts.1) refl

-- each unit of a machine has at most 32 operations
pub few_ops : (m : Machine) → IsMachine m → list_all (λ v. nat_le (length v.ops) 32) m.units ≡ true
few_ops m good = each_few m.sockets m.units good.units

-- the same of a list that is the machine's
pub few_at : (m : Machine) (units : List OpUnit) → IsMachine m → units ≡ m.units → list_all (λ v. nat_le (length v.ops) 32) units ≡ true
few_at m units good is = ap (λ us. list_all (λ v. nat_le (length v.ops) 32) us) is ∙ few_ops m good
