-- What a set of operation units states: the names, arities and values of its operations.
use Rattle.std.specs.Prelude.{ℕ, ◌+◌, ◌<◌, ◌^◌, ◌≡◌, List, [], ◌∷◌, if◌then◌else◌, length, Option, Some, None, get_or, slice_get}
use Rattle.std.specs.Str.{bytes_eq}
use Rattle.tta_ops.specs.Reserved.{AreFree}

-- no name stands twice
abbrev pub AreDistinct : List (List ℕ) → Type 0
AreDistinct names = (i j : ℕ) → i < j → j < length names → get_or names i [] ≡ get_or names j [] → ⊥

-- each is 1 or 2
abbrev pub AreArities : List ℕ → Type 0
AreArities arities = (i : ℕ) → i < length arities → (0 < get_or arities i 0) × (get_or arities i 0 < 3)

-- What some units state. An operation's value is a word, and one of arity 1 ignores its first operand; no name stands twice,
-- and none is a word that texts keep for themselves.
pub record Units : Type 0 where
  pub names : List (List ℕ)
  pub arities : List ℕ
  pub value : ℕ → ℕ → ℕ → ℕ
  pub word : (op a b : ℕ) → value op a b < 2 ^ 32
  pub ignores : (op a b : ℕ) → slice_get arities op ≡ Some 1 → value op a b ≡ value op 0 b
  pub distinct : AreDistinct names
  pub reserved : AreFree names
  pub one_or_two : AreArities arities
  pub paired : length arities ≡ length names
  pub few : length names < 65537

-- the first index, counted from k, at which a name stands
abbrev pub first_at : List ℕ → ℕ → List (List ℕ) → Option ℕ
first_at name k [] = None
first_at name k (n ∷ ns) = if bytes_eq n name then Some k else first_at name (k + 1) ns

-- the operation of a name, where the units offer one
abbrev pub named : Units → List ℕ → Option ℕ
named u name = first_at name 0 u.names
