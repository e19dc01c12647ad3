-- What an input file is, said of its bytes alone. Nothing here is made of the reader's definition.
use Rattle.std.specs.Prelude.{◌≡◌, ℕ, ◌-◌, ◌≤◌, true, ◌⊎◌, List, [], ◌∷◌, ◌++◌, length, replicate}
use Rattle.std.specs.List.{list_all}
use Rattle.std.specs.Char.{is_ascii_hexdigit}
use Rattle.std.specs.Str.Parse.{digits_value}

-- eight hexadecimal digits of either case write a word
pub record IsWritten (digits : List ℕ) (word : ℕ) : Type 0 where
  pub eight : length digits ≡ 8
  pub hexadecimal : list_all is_ascii_hexdigit digits ≡ true
  pub value : digits_value 16 digits ≡ word

-- what ends a line: a newline, with or without a carriage return before it; the last line may end
-- with neither
abbrev pub IsLineEnd : List ℕ → (behind : List ℕ) → Type 0
IsLineEnd ending behind = (ending ≡ 10 ∷ []) ⊎ (ending ≡ 13 ∷ 10 ∷ []) ⊎ ((ending ≡ []) × (behind ≡ []))

-- the digits of a word, the end of their line, and what is after it are these bytes
pub record IsLine (word : ℕ) (bytes behind : List ℕ) : Type 0 where
  pub digits : List ℕ
  pub ending : List ℕ
  pub written : IsWritten digits word
  pub ends : IsLineEnd ending behind
  pub whole : bytes ≡ digits ++ (ending ++ behind)

-- these words, each on a line of its own, are the bytes
abbrev pub AreLines : (words bytes : List ℕ) → Type 0
AreLines [] bytes = bytes ≡ []
AreLines (word ∷ words) bytes = (behind : List ℕ) × IsLine word bytes behind × AreLines words behind

-- the bytes are an input file that fills the memory of a space of so many words: its words stand
-- from address 0, and zeros after them
pub record IsInput (space : ℕ) (bytes memory : List ℕ) : Type 0 where
  pub words : List ℕ
  pub lines : AreLines words bytes
  pub room : length words ≤ space
  pub filled : memory ≡ words ++ replicate (space - length words) 0
