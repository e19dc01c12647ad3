-- Circuits of operations of two words.
use Rattle.std.specs.Prelude.{◌≡◌, ℕ, ◌+◌, ◌<◌, ◌^◌, ◌==◌, Bool, true, false, ◌&&◌, List, [], ◌∷◌}
use Rattle.tta_op_circuits.specs.Cited.{Units, Expr, Wire, value, is_ordered, width_of, is_sized, is_plain, Solves}
use Rattle.tta_op_circuits.specs.Alone.{applies_nothing}

-- the names in a circuit of an operation: its two words, and wires of its own
pub data Port : Type 0 where
  First : Port
  Second : Port
  Inner : ℕ → Port

-- a circuit of an operation has wires, with their widths, and an expression of its word; it has no memory
pub record Worked : Type 0 where
  pub widths : ℕ → ℕ
  pub wires : List (Wire Port ⊥)
  pub word : Expr Port ⊥

-- a circuit without wires of its own
abbrev pub plain : Expr Port ⊥ → Worked
plain word = record { widths = λ k. 0; wires = []; word = word }

-- whether two names are one
abbrev pub same_port : Port → Port → Bool
same_port First First = true
same_port Second Second = true
same_port (Inner j) (Inner k) = j == k
same_port x y = false

-- ---- order

-- where a name stands in the order of names
abbrev pub rank : Port → ℕ
rank First = 0
rank Second = 0
rank (Inner k) = k + 1

-- how many bits a name has
abbrev pub bits_of : (widths : ℕ → ℕ) → Port → ℕ
bits_of widths First = 32
bits_of widths Second = 32
bits_of widths (Inner k) = widths k

-- no memory has words
abbrev pub no_words : ⊥ → ℕ
no_words m = 0

-- whether a name is that of a wire of a number
abbrev pub is_inner : ℕ → Port → Bool
is_inner k (Inner n) = n == k
is_inner k x = false

-- whether wires are numbered from k on
abbrev pub are_numbered : ℕ → List (Wire Port ⊥) → Bool
are_numbered k [] = true
are_numbered k (w ∷ ws) = is_inner k w.name && are_numbered (k + 1) ws

module _ (widths : ℕ → ℕ) where
  -- Whether a text can say an expression of so many bits as it stands, and without a function: it applies no operation, its parts are
  -- parts of names, and they have the widths that their places ask for.
  abbrev pub is_written : (width : ℕ) → Expr Port ⊥ → Bool
  is_written width e =
      (applies_nothing e && is_plain (bits_of widths) no_words e)
      && (is_sized (bits_of widths) no_words e && width_of (bits_of widths) no_words e == width)

  -- whether it can say wires, which have the widths of their names
  abbrev pub are_written : List (Wire Port ⊥) → Bool
  are_written [] = true
  are_written (w ∷ ws) = (bits_of widths w.name == w.width && is_written w.width w.word) && are_written ws

-- Whether a circuit is in order: its wires are numbered and read only those before them, and a text can say it and its word of 32 bits.
unfoldable pub is_in_order : Worked → Bool
is_in_order w =
    (are_numbered 0 w.wires && is_ordered rank 0 w.wires) && (are_written w.widths w.wires && is_written w.widths 32 w.word)

-- A circuit makes an operation: wherever its wires have the words of their expressions, its word is that of the operation.
pub record Makes (w : Worked) (op : ℕ → ℕ → ℕ) : Type 0 where
  pub in_order : is_in_order w ≡ true
  pub word : (u : Units) (ms : ⊥ → List ℕ) (env : Port → ℕ) → env First < 2 ^ 32 → env Second < 2 ^ 32 → Solves u ms env w.wires
      → value u ms env w.word ≡ op (env First) (env Second)
