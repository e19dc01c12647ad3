-- What is asked of a net.
use Rattle.std.specs.Prelude.{ℕ, ◌+◌, ◌*◌, ◌%◌, ◌^◌, ◌==◌, ◌&&◌, nat_le, nat_lt, Bool, List, Option}
use Rattle.tta_net_command.specs.Cited.{digits_of}

-- how many rounds a net makes at most: one to seven decimal digits with a value of at most 1,048,576
abbrev pub rounds_of : List ℕ → Option ℕ
rounds_of word = digits_of 10 7 (2 ^ 20 + 1) word

-- how many cores a net has at most
abbrev pub most_cores : ℕ
most_cores = 8

-- how many files each core has: those of its machine, its image and its data words
abbrev pub files_each : ℕ
files_each = 3

-- whether so many names are those of the files of one to eight cores
abbrev pub is_net : ℕ → Bool
is_net names = nat_lt 0 names && nat_le names (most_cores * files_each) && names % files_each == 0
