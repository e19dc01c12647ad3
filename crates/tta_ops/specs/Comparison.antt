-- The unit that compares words.
use Rattle.std.specs.Prelude.{ℕ, ◌+◌, ◌-◌, ◌^◌, codes, nat_eq, nat_lt, if◌then◌else◌, Bool}
use Rattle.tta_ops.specs.Operation.{Operation, operation, no_operation}

-- 1 where a comparison holds, and else 0
abbrev pub truth : Bool → ℕ
truth holds = if holds then 1 else 0

-- the signed number that a word stands for, plus 2 ^ 31
abbrev pub lifted : ℕ → ℕ
lifted a = if nat_lt a (2 ^ 31) then a + 2 ^ 31 else a - 2 ^ 31

-- comparisons, of which lt and gt take words as signed numbers
abbrev pub compare : ℕ → Operation
compare i =
    if nat_eq i 0 then operation (codes "eq") 2 (λ a b. truth (nat_eq a b))
    else if nat_eq i 1 then operation (codes "ne") 2 (λ a b. if nat_eq a b then 0 else 1)
    else if nat_eq i 2 then operation (codes "lt") 2 (λ a b. truth (nat_lt (lifted a) (lifted b)))
    else if nat_eq i 3 then operation (codes "gt") 2 (λ a b. truth (nat_lt (lifted b) (lifted a)))
    else if nat_eq i 4 then operation (codes "ltu") 2 (λ a b. truth (nat_lt a b))
    else if nat_eq i 5 then operation (codes "gtu") 2 (λ a b. truth (nat_lt b a))
    else no_operation
