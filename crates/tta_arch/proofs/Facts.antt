-- What the rules of machines say, fact by fact.
use Rattle.std.proofs.Common.{◌≡◌, ◌≤◌, ℕ, true, arith}
use Rattle.std.specs.Prelude.{nat_le}
use Rattle.std.proofs.lemmas.Bool.Decides.{nat_tests}
use Rattle.std.proofs.lemmas.Bool.{and_parts}
use Rattle.tta_arch.specs.Machine.{Machine}
use Rattle.tta_arch.specs.Rules.{IsMachine, is_from_to}

pub from_to-least : (least greatest n : ℕ) → is_from_to least greatest n ≡ true → least ≤ n
from_to-least least greatest n e = let p = and_parts (nat_le least n) (nat_le n greatest) e in grind (arith, nat_tests, p.0)

pub from_to-greatest : (least greatest n : ℕ) → is_from_to least greatest n ≡ true → n ≤ greatest
from_to-greatest least greatest n e = let p = and_parts (nat_le least n) (nat_le n greatest) e in grind (arith, nat_tests, p.1)

-- an address has at most 16 bits
pub address_most : (m : Machine) → IsMachine m → m.control.address ≤ 16
address_most m rules =
    let p1 = and_parts _ _ rules.control in
    let p2 = and_parts _ _ p1.0 in
    let p3 = and_parts _ (is_from_to 1 16 m.control.address) p2.0 in
    from_to-greatest 1 16 m.control.address p3.1
