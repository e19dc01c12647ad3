-- The sizes of a machine's parts.
use Rattle.std.proofs.Common.{◌≡◌, ◌≤◌, true, List, [], ◌∷◌, length}
use Rattle.std.specs.List.{list_all, All}
use Rattle.std.proofs.lemmas.Bool.{and_parts}
use Rattle.std.proofs.lemmas.List.Elements.{All-nil, All-cons}
use Rattle.tta_waves.specs.Cited.{Socket, Machine, is_unit, IsMachine}
use Rattle.tta_arch.specs.declared.parts.Unit.{Unit as OpUnit}
use Rattle.tta_arch.proofs.Sizes.{small_unit}

-- each of some units has at most 32 operations
few_ops_of : (sockets : List Socket) (units : List OpUnit) → list_all (is_unit sockets) units ≡ true → All (λ q. length q.ops ≤ 32) units
few_ops_of sockets [] all = All-nil (λ (q : OpUnit). length q.ops ≤ 32)
few_ops_of sockets (q ∷ qs) all =
    let parts = and_parts (is_unit sockets q) (list_all (is_unit sockets) qs) all in
    All-cons (λ (q : OpUnit). length q.ops ≤ 32) q qs (small_unit sockets q parts.0) (few_ops_of sockets qs parts.1)

pub few_ops : (m : Machine) → IsMachine m → All (λ q. length q.ops ≤ 32) m.units
few_ops m rules = few_ops_of m.sockets m.units rules.units
