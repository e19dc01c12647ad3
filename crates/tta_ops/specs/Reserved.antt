-- The words that machine and program texts keep for themselves.
use Rattle.std.specs.Prelude.{◌≡◌, ℕ, Bool, true, not, List, [], ◌∷◌, ◌++◌, codes}
use Rattle.std.specs.List.{list_all, list_any}
use Rattle.std.specs.Str.{bytes_eq}

-- the words that machine texts keep for operations of memory and of control
abbrev pub machine_words : List (List ℕ)
machine_words =
    codes "ldw" ∷ codes "stw" ∷ codes "ldf" ∷ codes "stf" ∷ codes "jump" ∷ []

-- the words that lay out a program text
abbrev pub block_words : List (List ℕ)
block_words =
    codes "proc" ∷ codes "end" ∷ codes "if" ∷ codes "goto" ∷ codes "when" ∷ codes "data" ∷ []

-- the words of a program's steps
abbrev pub step_words : List (List ℕ)
step_words =
    codes "load" ∷ codes "store" ∷ codes "in" ∷ codes "out" ∷ codes "call" ∷ codes "return" ∷ codes "halt" ∷ []

-- the words that machine and program texts keep for themselves
abbrev pub reserved_words : List (List ℕ)
reserved_words = machine_words ++ block_words ++ step_words

-- whether a name is one of these words
unfoldable pub is_reserved : List ℕ → Bool
is_reserved name = list_any (bytes_eq name) reserved_words

-- none of these names is one of them
abbrev pub AreFree : List (List ℕ) → Type 0
AreFree names = list_all (λ name. not (is_reserved name)) names ≡ true
