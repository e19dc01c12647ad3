-- A reader of expressions: what is read of a text, and what is left of it. Widths that a text does not tell are read as 0.
use Rattle.std.proofs.Common.{ℕ, zero, suc, ◌==◌, List, [], ◌∷◌, Option, Some, None}
use Rattle.std.specs.Prelude.{if◌then◌else◌, codes}
use Rattle.tta_circuit.specs.Circuit.{Expr, Const, Signal, Slice, Join, Select, Not, Both, Either, Equal, Below, Plus, Minus, Times, BitAnd, BitOr, BitXor, Left, Right, Read, Apply}
use Rattle.tta_verilog.specs.Expressions.{Names}
use Rattle.tta_verilog.specs.Spelling.{Token, SignalName, MemoryName, OperationName, Number, is_word_byte}
use Rattle.tta_verilog.proofs.Words.{run, found}

abbrev pub after : {A B : Type 0} → Option A → (A → Option B) → Option B
after None f = None
after (Some x) f = f x

abbrev pub otherwise : {A : Type 0} → Option A → Option A → Option A
otherwise None o = o
otherwise (Some x) o = Some x

-- what follows some marks
abbrev pub past : (marks text : List ℕ) → Option (List ℕ)
past [] t = Some t
past (m ∷ ms) [] = None
past (m ∷ ms) (b ∷ t) = if m == b then past ms t else None

module _ {N M : Type 0} (names : Names N M) (all : List (Token N M)) where
  abbrev pub Found : Type 0
  Found = Option (Expr N M × List ℕ)

  abbrev pub got : Expr N M → List ℕ → Found
  got e t = Some (e, t)

  -- ---- tokens by their bytes

  -- the signal of a name, and so on; without one of that kind the dictionary has none
  abbrev pub signal_told : Option (Token N M) → Option N
  signal_told (Some (SignalName n)) = Some n
  signal_told t = None

  abbrev pub memory_told : Option (Token N M) → Option M
  memory_told (Some (MemoryName m)) = Some m
  memory_told t = None

  abbrev pub operation_told : Option (Token N M) → Option ℕ
  operation_told (Some (OperationName op)) = Some op
  operation_told t = None

  abbrev pub number_told : Option (Token N M) → Option ℕ
  number_told (Some (Number n)) = Some n
  number_told t = None

  abbrev pub signal_of : (word : List ℕ) → Option N
  signal_of word = signal_told (found names all 0 word)

  abbrev pub memory_of : (word : List ℕ) → Option M
  memory_of word = memory_told (found names all 1 word)

  abbrev pub operation_of : (word : List ℕ) → Option ℕ
  operation_of word = operation_told (found names all 2 word)

  abbrev pub number_of : (word : List ℕ) → Option ℕ
  number_of word = number_told (found names all 3 word)

  -- ---- what stands between two words

  abbrev pub Made : Type 0
  Made = Expr N M → Expr N M → Expr N M

  abbrev pub signs : List (List ℕ × Made)
  signs =
      (codes ")&&(", Both) ∷ (codes ")||(", Either) ∷ (codes ")==(", Equal) ∷ (codes ")<(", Below)
      ∷ (codes ")+(", Plus 0) ∷ (codes ")-(", Minus 0)
      ∷ (codes ")*(", Times 0) ∷ (codes ")&(", BitAnd) ∷ (codes ")|(", BitOr) ∷ (codes ")^(", BitXor)
      ∷ (codes ")<<(", Left 0) ∷ (codes ")>>(", Right) ∷ []

  -- what the first of these signs that begins a text makes, and what follows it
  abbrev pub sign_in : List (List ℕ × Made) → List ℕ → Option (Made × List ℕ)
  sign_in [] t = None
  sign_in (s ∷ ss) t = otherwise (after (past s.0 t) (λ r. Some (s.1, r))) (sign_in ss t)

  -- ---- expressions by what they begin with

  abbrev pub closed : Expr N M → List ℕ → Found
  closed e t = after (past (codes ")") t) (got e)

  abbrev pub a_signal : (word text : List ℕ) → Found
  a_signal word t = after (signal_of word) (λ n. got (Signal n) t)

  -- a constant, after its width and the mark
  abbrev pub a_constant : (word text : List ℕ) → Found
  a_constant word t =
      after (number_of word) (λ width. after (past (codes "d") t)
      (λ r. after (number_of (run r).0) (λ n. got (Const width n) (run r).1)))

  -- a part of a signal, after the bracket
  abbrev pub a_part : (word text : List ℕ) → Found
  a_part word t =
      after (number_of (run t).0) (λ low. after (past (codes "+:") (run t).1) (λ r. after (number_of (run r).0)
      (λ width. after (past (codes "]") (run r).1) (λ s. after (signal_of word) (λ n. got (Slice low width (Signal n)) s)))))

  -- a word of a memory, after its address
  abbrev pub a_word : (marks word : List ℕ) → Expr N M → List ℕ → Found
  a_word marks word e t = after (past marks t) (λ r. after (memory_of word) (λ m. got (Read m e) r))

  module _ (again : List ℕ → Found) where
    -- the second word of a call, after the comma
    abbrev pub a_call : (word : List ℕ) → Expr N M → List ℕ → Found
    a_call word a t =
        after (past (codes ",") t) (λ r. after (again r) (λ q. after (operation_of word) (λ op. closed (Apply op a q.0) q.1)))

    -- after a name and a mark
    abbrev pub named : (word text : List ℕ) → Found
    named word [] = a_signal word []
    named word (b ∷ t) =
        if b == 39 then a_constant word t
        else if b == 91 then otherwise (after (again t) (λ p. a_word (codes "]") word p.0 p.1)) (a_part word t)
        else if b == 40 then after (again t) (λ p. otherwise (a_word (codes ")") word p.0 p.1) (a_call word p.0 p.1))
        else a_signal word (b ∷ t)

    -- the end of a choice, after its first word
    abbrev pub a_choice : (test on : Expr N M) → List ℕ → Found
    a_choice test on t = after (past (codes "):") t) (λ r. after (again r) (λ p. got (Select test on p.0) p.1))

    -- after the first word in parentheses
    abbrev pub second : Expr N M → List ℕ → Found
    second a t =
        otherwise (after (past (codes ")?(") t) (λ r. after (again r) (λ p. a_choice a p.0 p.1)))
        (after (sign_in signs t) (λ s. after (again s.1) (λ p. closed (s.0 a p.0) p.1)))

    -- the second word of two that are joined
    abbrev pub a_join : Expr N M → List ℕ → Found
    a_join high t =
        after (past (codes ",") t) (λ r. after (again r) (λ p. after (past (codes "}") p.1)
        (got (Join 0 high p.0))))

    -- after a mark
    abbrev pub marked : (mark : ℕ) → List ℕ → Found
    marked mark t =
        if mark == 40 then after (again t) (λ p. second p.0 p.1)
        else if mark == 123 then after (again t) (λ p. a_join p.0 p.1)
        else if mark == 33 then after (past (codes "(") t) (λ r. after (again r) (λ p. closed (Not p.0) p.1))
        else None

    abbrev pub start : List ℕ → Found
    start [] = None
    start (b ∷ t) = if is_word_byte b then named (run (b ∷ t)).0 (run (b ∷ t)).1 else marked b t

  -- an expression, in so many steps
  unfoldable pub read : ℕ → List ℕ → Found
  read zero t = None
  read (suc k) t = start (read k) t
