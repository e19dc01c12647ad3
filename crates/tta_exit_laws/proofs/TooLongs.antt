-- A file of more bytes than are read holds nothing that a command reads: so no other cause comes with that of a long file.
use Rattle.std.proofs.Common.{ℕ, ◌≤◌, ◌<◌, List, length, Some, subst, arith}
use Rattle.std.specs.Prelude.{IsSomeAnd}
use Rattle.tta_exit_laws.specs.Cited.{Store, HoldsMore, limit, HasText}

pub too_long_alone : (store : Store) (name : List ℕ) (Is : List ℕ → Type 0) (count : ℕ) → limit < count → HoldsMore (Some store) name count
    → HasText (Some store) name Is → ⊥
too_long_alone store name Is count more long has =
    let within : count ≤ length has.text = subst (λ held. IsSomeAnd held (λ bytes. count ≤ length bytes)) has.holds long in
    let short = has.short in
    absurd (omega arith)
