-- Worked samples.
use Rattle.std.proofs.Common.{◌≡◌, ◌++◌, [], codes, decimal, refl}
use Rattle.tta_sample.specs.Sample.{next_number, body, var}

-- the first numbers after 0
first_number : next_number 0 ≡ 0x3c6ef35f
first_number = refl

second_number : next_number 0x3c6ef35f ≡ 0x47502932
second_number = refl

third_number : next_number 0x47502932 ≡ 0xd1ccf6e9
third_number = refl

-- a body of three lines: `v6 = and v4 v6`, `v0 = 50` and `out v4`
three_lines : body 0 0 3
    ≡ (var 6 ++ codes " = " ++ codes "and" ++ codes " " ++ var 4 ++ codes " " ++ var 6 ++ codes "\n")
    ++ ((var 0 ++ codes " = " ++ decimal 50 ++ codes "\n") ++ ((codes "out " ++ var 4 ++ codes "\n") ++ []))
three_lines = refl
