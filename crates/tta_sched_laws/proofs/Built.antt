-- Code that is linked from the placed lists of a program agrees with the program.
use Rattle.std.proofs.Common.{ℕ, ◌<◌, ◌≤◌, ◌^◌, true, false, List, ◌∙◌, arith, lit<}
use Rattle.std.specs.Prelude.{◌&&◌, nat_le}
use Rattle.std.specs.List.{AllByRecursion}
use Rattle.std.proofs.lemmas.Bool.{and_parts}
use Rattle.std.proofs.lemmas.Bool.Decides.{nat_tests}
use Rattle.std.proofs.Math.Pow.{pow_mono}
use Rattle.tta_sched_laws.specs.Cited.{Units, Machine, IsMachine, is_from_to, is_socket, is_port_socket, over, Program, data_of, Whole, IsGiven, Agrees, BlockList, Placed, starts_from}
use Rattle.tta_refines.proofs.Words.{laid_words}
use Rattle.tta_sched_laws.specs.Laws.{IsBuilt}
use Rattle.tta_sched_laws.proofs.Rowed.{linked_row, linked_addresses}
use Rattle.tta_sched_laws.proofs.Agree.{code_agrees}
use Rattle.tta_list.proofs.Sets.{over-length as size_over}

-- ---- what is laid over a memory

given_over : (m : Machine) (p : Program) → AllByRecursion (λ (d : ℕ × ℕ). d.1 < 2 ^ 32) (data_of p) → (memory input : List ℕ) → IsGiven m memory input → IsGiven m (over (data_of p) memory) input
given_over m p w memory input g = record { size = size_over (data_of p) memory ∙ g.size; words = laid_words (data_of p) memory w g.words; inputs = g.inputs }

-- ---- addresses

room_is : (m : Machine) → IsMachine m → 2 ^ m.control.address < 2 ^ 32
room_is m rules =
    let c = m.control in
    let a = and_parts (nat_le c.delay 4 && is_from_to 1 16 c.address && is_socket m.sockets true c.trigger) (is_port_socket m.sockets false c.ra) rules.control in
    let b = and_parts (nat_le c.delay 4 && is_from_to 1 16 c.address) (is_socket m.sockets true c.trigger) a.0 in
    let d = and_parts (nat_le c.delay 4) (is_from_to 1 16 c.address) b.0 in
    let e = and_parts (nat_le 1 c.address) (nat_le c.address 16) d.1 in
    let le : c.address ≤ 16 = let q = e.1 in grind (arith, nat_tests) in
    let top : 2 ^ c.address ≤ 2 ^ 16 = pow_mono le in
    let big : 2 ^ 16 < 2 ^ 32 = lit< tt in
    omega (arith, top, big)

-- ---- code

pub built_agrees : (u : Units) (m : Machine) → IsMachine m → (p : Program) (whole : Whole) (lists : List BlockList) (ps : List Placed) → IsBuilt u m p whole lists ps → Agrees u m p whole
built_agrees u m rules p whole lists ps built =
    let room = room_is m rules in
    let few = built.legal.room in
    code_agrees u m rules p whole built.legal.words (starts_from 0 ps) lists
    (linked_addresses m whole.code lists ps built.placed built.linked (omega arith))
    (linked_row m whole.code lists ps built.placed built.linked) built.means built.laid (given_over m p built.words)
