-- How large the immediate units of a machine are.
use Rattle.std.proofs.Common.{◌≡◌, ◌≤◌, true, List, [], ◌∷◌}
use Rattle.std.specs.List.{list_all, All}
use Rattle.std.proofs.lemmas.Bool.{and_parts}
use Rattle.std.proofs.lemmas.List.Elements.{All-nil, All-cons}
use Rattle.tta_play.specs.Cited.{ImmUnit, Socket, Machine, is_imm, IsMachine}
use Rattle.tta_arch.proofs.Sizes.{small_imm}

-- each immediate unit has at most 16 registers
imm_sizes_of : (sockets : List Socket) (imms : List ImmUnit) → list_all (is_imm sockets) imms ≡ true → All (λ i. i.size ≤ 16) imms
imm_sizes_of sockets [] all = All-nil (λ (i : ImmUnit). i.size ≤ 16)
imm_sizes_of sockets (i ∷ is) all =
    let parts = and_parts (is_imm sockets i) (list_all (is_imm sockets) is) all in
    All-cons (λ (i : ImmUnit). i.size ≤ 16) i is (small_imm sockets i parts.0) (imm_sizes_of sockets is parts.1)

pub imm_sizes : (m : Machine) → IsMachine m → All (λ i. i.size ≤ 16) m.imms
imm_sizes m rules = imm_sizes_of m.sockets m.imms rules.imms
