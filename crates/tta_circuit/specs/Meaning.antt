-- What a circuit means: the words to which its signals settle between two clocks, and what a clock makes of registers and memories.
use Rattle.std.specs.Prelude.{ℕ, zero, suc, ◌+◌, ◌-◌, ◌*◌, ◌/◌, ◌%◌, ◌^◌, ◌==◌, Bool, true, false, not, ◌&&◌, ◌||◌, nat_lt, if◌then◌else◌, List, [], ◌∷◌, Option, None, Some, slice_index, slice_set, bit_and, bit_or, bit_xor}
use Rattle.std.specs.Option.{option_map_or}
use Rattle.std.specs.List.{find}
use Rattle.tta_ops.specs.Units.{Units}
use Rattle.tta_circuit.specs.Circuit.{Expr, Const, Signal, Slice, Join, Select, Not, Both, Either, Equal, Below, Plus, Minus, Times, BitAnd, BitOr, BitXor, Left, Right, Read, Apply, Wire, Register, Memory, Circuit}

-- the word of a test
abbrev pub bit : Bool → ℕ
bit true = 1
bit false = 0

-- whether a word is a test that holds
abbrev pub is_set : ℕ → Bool
is_set n = not (n == 0)

-- what registers and memories hold between two clocks
pub record Held (N M : Type 0) : Type 0 where
  pub words : N → ℕ
  pub memories : M → List ℕ

-- words of signals with one more
abbrev pub with_word : {N : Type 0} → (same : N → N → Bool) → (N → ℕ) → N → ℕ → N → ℕ
with_word same env n word k = if same n k then word else env k

-- whether a signal is one of the inputs
abbrev pub is_input : {N : Type 0} → (same : N → N → Bool) → List (N × ℕ) → N → Bool
is_input same [] n = false
is_input same (i ∷ is) n = same i.0 n || is_input same is n

module _ {N M : Type 0} where
  -- The word of an expression, where these are the words of memories and of signals. What stands past the end of a memory is 0.
  -- The handed-in units say what their operations make of two words.
  abbrev pub value : Units → (M → List ℕ) → (N → ℕ) → Expr N M → ℕ
  value u ms env (Const width word) = word
  value u ms env (Signal n) = env n
  value u ms env (Slice low width e) = value u ms env e / 2 ^ low % 2 ^ width
  value u ms env (Join width high low) = value u ms env high * 2 ^ width + value u ms env low
  value u ms env (Select test on off) = if is_set (value u ms env test) then value u ms env on else value u ms env off
  value u ms env (Not e) = bit (not (is_set (value u ms env e)))
  value u ms env (Both a b) = bit (is_set (value u ms env a) && is_set (value u ms env b))
  value u ms env (Either a b) = bit (is_set (value u ms env a) || is_set (value u ms env b))
  value u ms env (Equal a b) = bit (value u ms env a == value u ms env b)
  value u ms env (Below a b) = bit (nat_lt (value u ms env a) (value u ms env b))
  value u ms env (Plus width a b) = (value u ms env a + value u ms env b) % 2 ^ width
  value u ms env (Minus width a b) = (2 ^ width + value u ms env a - value u ms env b) % 2 ^ width
  value u ms env (Times width a b) = value u ms env a * value u ms env b % 2 ^ width
  value u ms env (BitAnd a b) = bit_and (value u ms env a) (value u ms env b)
  value u ms env (BitOr a b) = bit_or (value u ms env a) (value u ms env b)
  value u ms env (BitXor a b) = bit_xor (value u ms env a) (value u ms env b)
  value u ms env (Left width a by) = value u ms env a * 2 ^ value u ms env by % 2 ^ width
  value u ms env (Right a by) = value u ms env a / 2 ^ value u ms env by
  value u ms env (Read m address) = slice_index (ms m) (value u ms env address)
  value u ms env (Apply op a b) = u.value op (value u ms env a) (value u ms env b)

  module _ (same : N → N → Bool) where
    -- the words of all signals once these wires have theirs, one after another
    abbrev pub settle : Units → (M → List ℕ) → (N → ℕ) → List (Wire N M) → N → ℕ
    settle u ms env [] = env
    settle u ms env (w ∷ ws) = settle u ms (with_word same env w.name (value u ms env w.word)) ws

    -- the words of inputs and registers
    abbrev pub given : Circuit N M → Held N M → (inputs : N → ℕ) → N → ℕ
    given c h inputs n = if is_input same c.inputs n then inputs n else h.words n

    -- the words of all signals of a circuit between two clocks
    abbrev pub settled : Units → Circuit N M → Held N M → (inputs : N → ℕ) → N → ℕ
    settled u c h inputs = settle u h.memories (given c h inputs) c.wires

    -- the word of a register after a clock
    abbrev pub registered : Units → (M → List ℕ) → (env : N → ℕ) → Option (Register N M) → (old : ℕ) → ℕ
    registered u ms env None old = old
    registered u ms env (Some r) old = if is_set (value u ms env r.enable) then value u ms env r.next else old

    -- the words of a memory after a clock; nothing is written past its end
    abbrev pub stored : Units → (M → List ℕ) → (env : N → ℕ) → Option (Memory N M) → (old : List ℕ) → List ℕ
    stored u ms env None old = old
    stored u ms env (Some m) old =
        option_map_or (λ p. if is_set (value u ms env p.enable) then slice_set old (value u ms env p.address) (value u ms env p.word)
        else old) m.port old

    -- a clock: all registers and memories take their words at once, and of the words that signals had settled to before
    abbrev pub clocked : (same_memory : M → M → Bool) → Units → Circuit N M → (env : N → ℕ) → Held N M → Held N M
    clocked same_memory u c env h = record {
      words = λ n. registered u h.memories env (find (λ r. same r.name n) c.registers) (h.words n);
      memories = λ m. stored u h.memories env (find (λ x. same_memory x.name m) c.memories) (h.memories m);
    }

    -- What a circuit holds when the power comes: its memories have their words, and its registers any.
    abbrev pub powered : (same_memory : M → M → Bool) → Circuit N M → (words : N → ℕ) → Held N M
    powered same_memory c words = record {
      words = words;
      memories = λ m. option_map_or (λ x. x.words) (find (λ x. same_memory x.name m) c.memories) [];
    }

    -- what it holds after so many clocks, where this is what it held before them, and these are its inputs before each
    abbrev pub held_from : (same_memory : M → M → Bool) → Units → Circuit N M → Held N M → (inputs : ℕ → N → ℕ) → ℕ → Held N M
    held_from same_memory u c h inputs zero = h
    held_from same_memory u c h inputs (suc t) =
        let before = held_from same_memory u c h inputs t in clocked same_memory u c (settled u c before (inputs t)) before
