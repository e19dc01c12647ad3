-- The units of whole-number arithmetic, modulo 2 ^ 32.
use Rattle.std.specs.Prelude.{ℕ, ◌+◌, ◌-◌, ◌*◌, ◌/◌, ◌%◌, ◌^◌, codes, nat_eq, if◌then◌else◌}
use Rattle.tta_ops.specs.Operation.{Operation, operation, no_operation}

-- sums and products
abbrev pub arith : ℕ → Operation
arith i =
    if nat_eq i 0 then operation (codes "add") 2 (λ a b. (a + b) % 2 ^ 32)
    else if nat_eq i 1 then operation (codes "sub") 2 (λ a b. (a + (2 ^ 32 - b)) % 2 ^ 32)
    else if nat_eq i 2 then operation (codes "mul") 2 (λ a b. (a * b) % 2 ^ 32)
    else if nat_eq i 3 then operation (codes "mulhu") 2 (λ a b. (a * b) / 2 ^ 32)
    else if nat_eq i 4 then operation (codes "neg") 1 (λ a b. (2 ^ 32 - b) % 2 ^ 32)
    else no_operation

-- quotients and remainders of unsigned numbers, also where the divisor is 0
abbrev pub divide : ℕ → Operation
divide i =
    if nat_eq i 0 then operation (codes "divu") 2 (λ a b. if nat_eq b 0 then 2 ^ 32 - 1 else a / b)
    else if nat_eq i 1 then operation (codes "remu") 2 (λ a b. if nat_eq b 0 then a else a % b)
    else no_operation
