-- The names and numbers that a text spells, and names that it tells apart.
use Rattle.std.specs.Prelude.{◌≡◌, ℕ, ◌^◌, Bool, true, false, nat_lt, List, [], ◌∷◌, ◌++◌, length, Option, None, Some}
use Rattle.std.specs.List.{list_all}
pub use Rattle.tta_text.specs.Bytes.{is_word_byte}
use Rattle.tta_circuit.specs.Circuit.{Expr, Const, Signal, Slice, Join, Select, Not, Both, Either, Equal, Below, Plus, Minus, Times, BitAnd, BitOr, BitXor, Left, Right, Read, Apply, Wire, Register, WritePort, Memory}
use Rattle.tta_verilog.specs.Expressions.{Names}

-- what a text spells by letters and digits: a name of a signal, of a memory or of an operation, or a number
pub data Token (N M : Type 0) : Type 0 where
  SignalName : N → Token N M
  MemoryName : M → Token N M
  OperationName : (op : ℕ) → Token N M
  Number : (n : ℕ) → Token N M

module _ {N M : Type 0} where
  -- the tokens of an expression
  abbrev pub tokens_in : Expr N M → List (Token N M)
  tokens_in (Const width word) = Number width ∷ Number word ∷ []
  tokens_in (Signal n) = SignalName n ∷ []
  tokens_in (Slice low width e) = Number low ∷ Number width ∷ tokens_in e
  tokens_in (Join width high low) = tokens_in high ++ tokens_in low
  tokens_in (Select test on off) = tokens_in test ++ (tokens_in on ++ tokens_in off)
  tokens_in (Not e) = tokens_in e
  tokens_in (Both a b) = tokens_in a ++ tokens_in b
  tokens_in (Either a b) = tokens_in a ++ tokens_in b
  tokens_in (Equal a b) = tokens_in a ++ tokens_in b
  tokens_in (Below a b) = tokens_in a ++ tokens_in b
  tokens_in (Plus width a b) = tokens_in a ++ tokens_in b
  tokens_in (Minus width a b) = tokens_in a ++ tokens_in b
  tokens_in (Times width a b) = tokens_in a ++ tokens_in b
  tokens_in (BitAnd a b) = tokens_in a ++ tokens_in b
  tokens_in (BitOr a b) = tokens_in a ++ tokens_in b
  tokens_in (BitXor a b) = tokens_in a ++ tokens_in b
  tokens_in (Left width a by) = tokens_in a ++ tokens_in by
  tokens_in (Right a by) = tokens_in a ++ tokens_in by
  tokens_in (Read m address) = MemoryName m ∷ tokens_in address
  tokens_in (Apply op a b) = OperationName op ∷ (tokens_in a ++ tokens_in b)

  -- those of a wire
  abbrev pub wire_tokens : Wire N M → List (Token N M)
  wire_tokens w = SignalName w.name ∷ Number w.width ∷ tokens_in w.word

  -- those of a register
  abbrev pub register_tokens : Register N M → List (Token N M)
  register_tokens r = SignalName r.name ∷ Number r.width ∷ (tokens_in r.enable ++ tokens_in r.next)

  -- those of a write port, where there is one
  abbrev pub port_tokens : Option (WritePort N M) → List (Token N M)
  port_tokens None = []
  port_tokens (Some p) = tokens_in p.enable ++ (tokens_in p.address ++ tokens_in p.word)

  -- those of a memory but for its words
  abbrev pub memory_tokens : Memory N M → List (Token N M)
  memory_tokens x = MemoryName x.name ∷ Number x.width ∷ Number (length x.words) ∷ port_tokens x.port

-- whether bytes are a name: letters, digits and underscores
abbrev pub is_name : List ℕ → Bool
is_name [] = false
is_name (b ∷ bs) = list_all is_word_byte (b ∷ bs)

-- which signals, memories and operations have names of their own
pub record Scope (N M : Type 0) : Type 0 where
  pub signal : N → Bool
  pub memory : M → Bool
  pub op : ℕ → Bool

-- whether a text can spell a token: a number has at most 64 bits
abbrev pub has_token : {N M : Type 0} → Scope N M → Token N M → Bool
has_token scope (SignalName n) = scope.signal n
has_token scope (MemoryName m) = scope.memory m
has_token scope (OperationName op) = scope.op op
has_token scope (Number n) = nat_lt n (2 ^ 64)

-- Names of which a text tells what they name: no two signals have one name, and neither have two memories or two operations. A signal may
-- have the name of a memory, since what follows a name tells which of them it is. That a name is no keyword is asked for by Verilog alone.
pub record AreNames {N M : Type 0} (names : Names N M) (scope : Scope N M) : Type 0 where
  pub signals : (n : N) → scope.signal n ≡ true → is_name (names.signal n) ≡ true
  pub memories : (m : M) → scope.memory m ≡ true → is_name (names.memory m) ≡ true
  pub operations : (op : ℕ) → scope.op op ≡ true → is_name (names.op op) ≡ true
  pub one_signal : (n k : N) → scope.signal n ≡ true → scope.signal k ≡ true → names.signal n ≡ names.signal k → n ≡ k
  pub one_memory : (m k : M) → scope.memory m ≡ true → scope.memory k ≡ true → names.memory m ≡ names.memory k → m ≡ k
  pub one_operation : (op k : ℕ) → scope.op op ≡ true → scope.op k ≡ true → names.op op ≡ names.op k → op ≡ k
