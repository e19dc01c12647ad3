-- What files hold: the bytes of each name.
use Rattle.std.specs.Prelude.{ℕ, List, Option}
use Rattle.std.specs.Ordering.{nat_cmp}
use Rattle.std.specs.Cmp.Lexicographic.{slice_cmp}
use Rattle.std.specs.FinMap.{FinMap, code, empty, get, insert}
use Rattle.std.specs.Coded.{Coded, coded_list, coded_ℕ}

-- the names that there are, each with its bytes
abbrev pub Store : Type 0
Store = FinMap (slice_cmp nat_cmp) (List ℕ)

-- the bytes of a name, and none where there is no such name
abbrev pub file_at : Store → List ℕ → Option (List ℕ)
file_at files name = get files name

-- the name holds these bytes, and each other name what it held
abbrev pub with_file : Store → List ℕ → List ℕ → Store
with_file files name bytes = insert files name bytes

-- there is no file
abbrev pub no_files : Store
no_files = empty

-- files are stored as the list of their names and bytes
abbrev pub store_code : Coded Store
store_code = code (coded_list coded_ℕ) (coded_list coded_ℕ)
