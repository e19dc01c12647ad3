-- How wide texts are.
use Rattle.std.specs.Prelude.{ℕ, ◌+◌, ◌*◌, min}

-- How wide a text of so many letters is, with room at both sides: a letter of 11 pixels is less than 7 wide. No text has 1,000 letters,
-- since a name has at most 64.
abbrev pub text_width : (letters : ℕ) → ℕ
text_width letters = 7 * min letters 1000 + 8
