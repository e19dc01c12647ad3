-- What a reader of a text sees of it.
use Rattle.std.specs.Prelude.{ℕ, ◌+◌, ◌^◌, ◌≤◌, List, length}
use Rattle.tta_text.specs.declared.lexeme.Token.{Token}

-- a text, and the tokens of it that are still to come
pub record Reading : Type 0 where
  pub text : List ℕ
  pub tokens : List Token

-- A place in a text that is short enough, and a line that can be there.
pub record IsWithin (text : List ℕ) (at line : ℕ) : Type 0 where
  pub place : at ≤ length text
  pub short : length text ≤ 2 ^ 24
  pub lines : line ≤ at + 1
