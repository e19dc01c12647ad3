-- The text of expressions, in a part of Verilog-2001. All that stands there is unsigned, and both sides of an operation have one width.
use Rattle.std.specs.Prelude.{ℕ, Bool, true, false, List, ◌++◌, codes, decimal}
use Rattle.tta_circuit.specs.Circuit.{Expr, Const, Signal, Slice, Join, Select, Not, Both, Either, Equal, Below, Plus, Minus, Times, BitAnd, BitOr, BitXor, Left, Right, Read, Apply}

-- what signals, memories and operations are called, and which memories keep their first words for ever
pub record Names (N M : Type 0) : Type 0 where
  pub signal : N → List ℕ
  pub memory : M → List ℕ
  pub is_constant : M → Bool
  pub op : ℕ → List ℕ

-- a constant of so many bits
unfoldable pub constant : (width word : ℕ) → List ℕ
constant width word = decimal width ++ (codes "'d" ++ decimal word)

-- a part of what has a name, from a bit on
unfoldable pub part : (name : List ℕ) → (low width : ℕ) → List ℕ
part name low width = name ++ (codes "[" ++ (decimal low ++ (codes "+:" ++ (decimal width ++ codes "]"))))

-- an operation that stands between its two words
unfoldable pub between : (sign a b : List ℕ) → List ℕ
between sign a b = codes "(" ++ (a ++ (codes ")" ++ (sign ++ (codes "(" ++ (b ++ codes ")")))))

-- a test that does not hold
unfoldable pub negated : (a : List ℕ) → List ℕ
negated a = codes "!(" ++ (a ++ codes ")")

-- a choice of two words; the second goes on to the end
unfoldable pub choice : (test on off : List ℕ) → List ℕ
choice test on off = codes "(" ++ (test ++ (codes ")?(" ++ (on ++ (codes "):" ++ off))))

-- two words joined to one
unfoldable pub joined : (high low : List ℕ) → List ℕ
joined high low = codes "{" ++ (high ++ (codes "," ++ (low ++ codes "}")))

-- the word of a memory at an address; a memory that keeps its first words is a function of the address
unfoldable pub reading : (is_constant : Bool) → (name address : List ℕ) → List ℕ
reading true name address = name ++ (codes "(" ++ (address ++ codes ")"))
reading false name address = name ++ (codes "[" ++ (address ++ codes "]"))

-- a word made of two others by a function
unfoldable pub call : (name a b : List ℕ) → List ℕ
call name a b = name ++ (codes "(" ++ (a ++ (codes "," ++ (b ++ codes ")"))))

module _ {N M : Type 0} (names : Names N M) where
  -- An expression. Each of its parts stands in parentheses of its own but for the last of a choice, so that only a choice ends with an
  -- expression; and a part is taken of a name alone.
  abbrev pub expression : Expr N M → List ℕ
  expression (Const width word) = constant width word
  expression (Signal n) = names.signal n
  expression (Slice low width e) = part (expression e) low width
  expression (Join width high low) = joined (expression high) (expression low)
  expression (Select test on off) = choice (expression test) (expression on) (expression off)
  expression (Not e) = negated (expression e)
  expression (Both a b) = between (codes "&&") (expression a) (expression b)
  expression (Either a b) = between (codes "||") (expression a) (expression b)
  expression (Equal a b) = between (codes "==") (expression a) (expression b)
  expression (Below a b) = between (codes "<") (expression a) (expression b)
  expression (Plus width a b) = between (codes "+") (expression a) (expression b)
  expression (Minus width a b) = between (codes "-") (expression a) (expression b)
  expression (Times width a b) = between (codes "*") (expression a) (expression b)
  expression (BitAnd a b) = between (codes "&") (expression a) (expression b)
  expression (BitOr a b) = between (codes "|") (expression a) (expression b)
  expression (BitXor a b) = between (codes "^") (expression a) (expression b)
  expression (Left width a by) = between (codes "<<") (expression a) (expression by)
  expression (Right a by) = between (codes ">>") (expression a) (expression by)
  expression (Read m address) = reading (names.is_constant m) (names.memory m) (expression address)
  expression (Apply op a b) = call (names.op op) (expression a) (expression b)
