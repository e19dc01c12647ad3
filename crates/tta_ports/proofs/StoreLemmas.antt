-- What stands under each name once one name holds other bytes.
use Rattle.std.proofs.Common.{◌≡◌, ◌≢◌, ℕ, cond, List, Some, ◌∙◌, ap}
use Rattle.std.proofs.lemmas.Map.Text.{is_eq-slice_cmp}
use Rattle.std.proofs.lemmas.Bool.{false_from_ne_true}
use Rattle.std.proofs.lemmas.Slice.Eq.{bytes_eq-Decides}
use Rattle.std.specs.Cmp.Lexicographic.{nat_list_cmp_total, nat_list_eq_equiv}
use Rattle.std.specs.FinMap.{get, get-insert}
use Rattle.std.specs.Str.{bytes_eq}
use Rattle.tta_ports.specs.Store.{Store, file_at, with_file}

-- what stands under any name
pub at-with_file : (files : Store) (name bytes other : List ℕ)
    → file_at (with_file files name bytes) other
    ≡ cond (bytes_eq other name) (Some bytes) (file_at files other)
at-with_file files name bytes other =
    get-insert nat_list_cmp_total files name bytes other
    ∙ ap (λ b. cond b (Some bytes) (get files other)) (is_eq-slice_cmp other name)

-- the name holds the bytes
pub file_at-with_file : (files : Store) (name bytes : List ℕ)
    → file_at (with_file files name bytes) name ≡ Some bytes
file_at-with_file files name bytes =
    at-with_file files name bytes name
    ∙ ap (λ b. cond b (Some bytes) (file_at files name)) (nat_list_eq_equiv.refl name)

-- each other name holds what it held
pub file_at-with_file-other : (files : Store) (name bytes other : List ℕ) → other ≢ name
    → file_at (with_file files name bytes) other ≡ file_at files other
file_at-with_file-other files name bytes other apart =
    at-with_file files name bytes other
    ∙ ap (λ b. cond b (Some bytes) (file_at files other))
    (false_from_ne_true (bytes_eq other name) (λ e. apart ((bytes_eq-Decides other name).0 e)))
