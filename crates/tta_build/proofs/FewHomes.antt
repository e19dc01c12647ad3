-- A machine has few home registers.
use Rattle.std.proofs.Common.{◌≡◌, ◌<◌, ◌≤◌, ◌+◌, ◌*◌, ℕ, Bool, true, false, List, [], ◌∷◌, Option, Some, None, length, refl, ap, arith, length-append}
use Rattle.std.specs.Prelude.{◌-◌, ◌^◌, if◌then◌else◌, slice_get}
use Rattle.std.specs.Option.{option_map_or}
use Rattle.std.specs.List.{list_all}
use Rattle.std.proofs.lemmas.Bool.{and_parts}
use Rattle.tta_list.proofs.Lists.{list_all_one}
use Rattle.tta_build.specs.Cited.{File, Socket, Machine, IsMachine, is_file, Choice, IsChoice, registers_from, is_home_file, homes_from}
use Rattle.tta_arch.proofs.Sizes.{small_file}
use Rattle.tta_select.proofs.HomeLists.{registers_size as registers}

-- at most 64 in each file
in_file : (test : Bool) (file : ℕ) (f : File) → f.size ≤ 64 → length (if test then registers_from file 0 f.size else []) ≤ 64
in_file true file f small = let e = registers file 0 f.size in omega (arith, e, small)
in_file false file f small = omega arith

in_files : (m : Machine) (hub file : ℕ) (sockets : List Socket) (fs : List File) → list_all (is_file sockets) fs ≡ true
    → length (homes_from m hub file fs) ≤ 64 * length fs
in_files m hub file sockets [] all = omega arith
in_files m hub file sockets (f ∷ fs) all =
    let parts = and_parts (is_file sockets f) (list_all (is_file sockets) fs) all in
    let here = in_file (is_home_file m hub file f) file f (small_file sockets f parts.0) in
    let more = in_files m hub (file + 1) sockets fs parts.1 in
    let size = length-append (if is_home_file m hub file f then registers_from file 0 f.size else []) (homes_from m hub (file + 1) fs) in
    omega (arith, here, more, size)

-- and the hub has fewer than 64
in_hub : (m : Machine) (hub : ℕ) → IsMachine m → (o : Option File) → slice_get m.files hub ≡ o
    → length (option_map_or (λ (f : File). registers_from hub 3 (f.size - 3)) o []) ≤ 64
in_hub m hub rules None e = omega arith
in_hub m hub rules (Some f) e =
    let small = small_file m.sockets f (list_all_one (is_file m.sockets) m.files hub f rules.files e) in
    let size = registers hub 3 (f.size - 3) in
    omega (arith, small, size)

pub few_homes : (m : Machine) (c : Choice) → IsMachine m → IsChoice m c → length c.homes < 2 ^ 32
few_homes m c rules choice =
    let hub = in_hub m c.hub rules (slice_get m.files c.hub) refl in
    let files = in_files m c.hub 0 m.sockets m.files rules.files in
    let few = rules.limits.files in
    let size = length-append (option_map_or (λ (f : File). registers_from c.hub 3 (f.size - 3)) (slice_get m.files c.hub) []) (homes_from m c.hub 0 m.files) in
    let all = ap length choice.homes in
    omega (arith, hub, files, few, size, all)
