-- The code of a program has few cycles.
use Rattle.std.proofs.Common.{◌≤◌, ◌<◌, ◌^◌, List, sym, subst, arith}
use Rattle.std.proofs.Math.Pow.{pow_mono}
use Rattle.tta_stages.specs.Cited.{Units, Machine, IsMachine, Program, Code, IsLegalCode, Placed, total_length, IsLinked}
use Rattle.tta_arch.proofs.Facts.{address_most}
use Rattle.tta_link.proofs.Whole.{linked_length}
use Rattle.tta_build.proofs.Compiling.{compiled_linked}
use Rattle.tta_stages.specs.declared.stages.Stages.{Stages}
use Rattle.tta_stages.specs.Stages.{AreStages}

-- legal code that is linked from placements has as many words as they have cycles
linked_few : (m : Machine) (code : Code) (ps : List Placed) → IsMachine m → IsLinked m code ps → IsLegalCode m code → total_length ps < 2 ^ 32
linked_few m code ps rules linked legal =
    let same = linked_length m code ps linked in
    let most : 2 ^ m.control.address ≤ 2 ^ 16 = pow_mono (address_most m rules) in
    let room = legal.room in
    omega (arith, same, most, room)

pub few_cycles : (u : Units) (m : Machine) (p : Program) (s : Stages) → IsMachine m → AreStages u m p s → total_length s.planned.placed.items < 2 ^ 32
few_cycles u m p s rules is =
    let linked : IsLinked m s.code s.planned.placed.items =
    subst (λ (x : Stages). IsLinked m x.code x.planned.placed.items) (sym is.told.is) (compiled_linked u m p is.value is.is) in
    linked_few m s.code s.planned.placed.items rules linked is.code.legal
