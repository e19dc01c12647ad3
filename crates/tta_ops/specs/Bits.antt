-- The units that work on the bits of words.
use Rattle.std.specs.Prelude.{ℕ, ◌+◌, ◌-◌, ◌*◌, ◌/◌, ◌%◌, ◌^◌, codes, nat_eq, nat_lt, if◌then◌else◌, bit_and, bit_or, bit_xor}
use Rattle.tta_ops.specs.Operation.{Operation, operation, no_operation}

-- bit by bit
abbrev pub logic : ℕ → Operation
logic i =
    if nat_eq i 0 then operation (codes "and") 2 bit_and
    else if nat_eq i 1 then operation (codes "or") 2 bit_or
    else if nat_eq i 2 then operation (codes "xor") 2 bit_xor
    else if nat_eq i 3 then operation (codes "not") 1 (λ a b. 2 ^ 32 - 1 - b)
    else no_operation

-- a word shifted right by n bits, with its top bit copied into the n upper ones
abbrev pub shifted_with_sign : ℕ → ℕ → ℕ
shifted_with_sign a n = a / 2 ^ n + (if nat_lt a (2 ^ 31) then 0 else 2 ^ 32 - 2 ^ (32 - n))

-- shifts of a by b modulo 32 bits
abbrev pub shift : ℕ → Operation
shift i =
    if nat_eq i 0 then operation (codes "shl") 2 (λ a b. (a * 2 ^ (b % 32)) % 2 ^ 32)
    else if nat_eq i 1 then operation (codes "shr") 2 (λ a b. shifted_with_sign a (b % 32))
    else if nat_eq i 2 then operation (codes "shru") 2 (λ a b. a / 2 ^ (b % 32))
    else no_operation
