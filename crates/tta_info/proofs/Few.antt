-- How many data there can be.
use Rattle.std.proofs.Common.{◌≡◌, ◌≤◌, ◌<◌, ◌^◌, ℕ, ◌+◌, nat_le, nat_lt, true, ◌&&◌, List, [], ◌∷◌, length, arith}
use Rattle.std.proofs.lemmas.Bool.{ltb-true, leb-true, and_parts}
use Rattle.tta_arch.specs.Machine.{Machine}
use Rattle.tta_code.specs.declared.whole.Datum.{Datum}
use Rattle.tta_code.specs.Whole.{rises, rises_from, fits}

-- data whose addresses ascend from a number on are no more than the addresses that there are
few_from : (words least : ℕ) (ds : List Datum) → least ≤ words → rises_from least ds ≡ true → fits words ds ≡ true → least + length ds ≤ words
few_from words least [] low rise fit = omega arith
few_from words least (d ∷ ds) low rise fit =
    let rises = and_parts (nat_le least d.address) (rises_from (d.address + 1) ds) rise in
    let all = and_parts (nat_lt d.address words && nat_lt d.value (2 ^ 32)) (fits words ds) fit in
    let within = and_parts (nat_lt d.address words) (nat_lt d.value (2 ^ 32)) all.0 in
    let above : least ≤ d.address = leb-true least d.address rises.0 in
    let below : d.address < words = ltb-true d.address words within.0 in
    let rest : d.address + 1 + length ds ≤ words = few_from words (d.address + 1) ds (omega arith) rises.1 all.1 in
    omega arith

-- a machine has no more data than a number of 32 bits tells
pub few_data : (m : Machine) (init : List Datum) → m.data_words < 2 ^ 32 → rises init ≡ true → fits m.data_words init ≡ true → length init < 2 ^ 32
few_data m init space rise fit = let few = few_from m.data_words 0 init (omega arith) rise fit in omega arith
