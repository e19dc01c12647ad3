-- Legal code has few instructions.
use Rattle.std.proofs.Common.{◌≤◌, length, arith}
use Rattle.std.specs.Prelude.{◌^◌}
use Rattle.std.proofs.Math.Nat.{pow-le-pow_right}
use Rattle.tta_code.specs.Cited.{Machine, IsMachine}
use Rattle.tta_code.specs.declared.code.Code.{Code}
use Rattle.tta_code.specs.Legal.{IsLegalCode}
use Rattle.tta_arch.proofs.Facts.{address_most as address_few}

pub room_few : (m : Machine) (code : Code) → IsMachine m → IsLegalCode m code → length code.words ≤ 65536
room_few m code rules legal = let e : 2 ^ m.control.address ≤ 2 ^ 16 = pow-le-pow_right {n = 2} (omega arith) {i = m.control.address} {j = 16} (address_few m rules) in let f = legal.room in omega arith
